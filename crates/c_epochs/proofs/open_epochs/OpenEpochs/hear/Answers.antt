use Rattle.std.proofs.Common.{rules, ◌∙◌, ℤ, inl, refl, sym, subst, w32}
use Rattle.std.proofs.lemmas.Int.{to_z-of_z}
use Rattle.c_epochs.specs.Steps.{TellsStand}
use Rattle.attempt.specs.DeviceCalls.{device_answer}
use Rattle.epoch_host.specs.Ending.{AreSilent}
use Rattle.c_epochs.proofs.Standing.{is_busy, stands_so, tells_so}
use Rattle.c_epochs.proofs.open_epochs.OpenEpochs.hear.Goals as goal

pub heard-requires : goal.heard-requires
heard-requires c = is_busy c.args.self.now.host.task (sym c.idle.ensures ∙ c.if-idle.false)

pub hear-requires-clause-busy : goal.hear-requires-clause-busy
hear-requires-clause-busy c = is_busy c.args.self.now.host.task (sym c.idle.ensures ∙ c.if-idle.false)

pub returns : goal.returns
returns c =
    let old = c.args.self.now.host in
    inl (record {
      answer = device_answer c.in-Some.heard;
      is = sym c.in-Some.ensures.told;
      heard = record {
        busy = is_busy old.task (sym c.idle.ensures ∙ c.if-idle.false);
        due = (refl, refl);
        leads = c.hear.ensures.makes;
        stands = stands_so c.hear.new.self (AreSilent old) old.task c.hear.result c.hear.ensures.keeps c.hear.ensures.told c.hear.ensures.given_up c.hear.ensures.ends c.hear.ensures.there c.hear.ensures.fresh;
      };
      stands = subst (λ (n : ℤ). TellsStand c.hear.new.self n) (sym (to_z-of_z w32 c.number_of.result (search rules))) (tells_so c.hear.new.self c.hear.result c.number_of.result c.hear.ensures.told c.hear.ensures.given_up c.number_of.ensures.ok c.number_of.ensures.err);
      same = record { config = refl; cluster = refl; firsts = refl; host = c.hear.ensures.same; looks = c.hear.ensures.looks };
    })
