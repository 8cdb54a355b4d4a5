use Rattle.std.proofs.Common.{rules, ℤ, refl, sym, subst, w32}
use Rattle.std.proofs.lemmas.Int.{to_z-of_z}
use Rattle.c_epochs.specs.Steps.{TellsStand}
use Rattle.epoch_host.specs.Ending.{AreSilent}
use Rattle.c_epochs.proofs.Standing.{stands_so, tells_so}
use Rattle.c_epochs.proofs.open_epochs.OpenEpochs.attach.Goals as goal

pub returns : goal.returns
returns c =
    let old = c.args.self.now.host in
    record {
      due = c.requires;
      heard = record {
        busy = c.requires.0;
        due = (refl, refl);
        leads = c.hear.ensures.makes;
        stands = stands_so c.hear.new.self (AreSilent old) old.task c.hear.result c.hear.ensures.keeps c.hear.ensures.told c.hear.ensures.given_up c.hear.ensures.ends c.hear.ensures.there c.hear.ensures.fresh;
      };
      told = subst (λ (n : ℤ). TellsStand c.hear.new.self n) (sym (to_z-of_z w32 c.number_of.result (search rules))) (tells_so c.hear.new.self c.hear.result c.number_of.result c.hear.ensures.told c.hear.ensures.given_up c.number_of.ensures.ok c.number_of.ensures.err);
      same = record { config = refl; cluster = refl; firsts = refl; host = c.hear.ensures.same; looks = c.hear.ensures.looks };
    }
