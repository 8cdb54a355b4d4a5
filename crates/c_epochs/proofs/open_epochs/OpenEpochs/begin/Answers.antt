use Rattle.std.proofs.Common.{rules, ℤ, Some, refl, sym, subst, w32}
use Rattle.std.proofs.lemmas.Int.{to_z-of_z}
use Rattle.c_epochs.specs.Steps.{TellsStand}
use Rattle.c_epochs.proofs.Standing.{stands_so, tells_so}
use Rattle.c_epochs.proofs.open_epochs.OpenEpochs.begin.Goals as goal

pub returns-clause-begins : goal.returns-clause-begins
returns-clause-begins c = record {
  leads = c.begin.ensures.leads;
  rests = c.begin.ensures.rests;
  stands = stands_so c.begin.new.self ⊥ (Some c.args.task) c.begin.result c.begin.ensures.keeps c.begin.ensures.told c.begin.ensures.given_up c.begin.ensures.ends c.begin.ensures.there c.begin.ensures.silent;
}

pub returns-clause-told : goal.returns-clause-told
returns-clause-told c =
    subst (λ (n : ℤ). TellsStand c.begin.new.self n) (sym (to_z-of_z w32 c.number_of.result (search rules)))
    (tells_so c.begin.new.self c.begin.result c.number_of.result c.begin.ensures.told c.begin.ensures.given_up c.number_of.ensures.ok c.number_of.ensures.err)

pub returns-clause-same : goal.returns-clause-same
returns-clause-same c = record { config = refl; cluster = refl; firsts = refl; host = c.begin.ensures.same; looks = c.begin.ensures.looks }
