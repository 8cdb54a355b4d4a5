use Rattle.std.proofs.Common.{◌≡◌, ◌++◌, ◌∷◌, [], true, List, ℕ, IfSome, Option, ap, sym, ◌∙◌, subst}
use Rattle.lock_command.specs.Command.{spelling}
use Rattle.folder_migration.specs.Recovery.{IsOldCommand, StandFor}
use Rattle.folder_migration.proofs.Recovering.{stand_more}
use Rattle.folder_migration.proofs.old_log.judge.Goals as goal

pub returns-in-Some-clause-judged : goal.returns-in-Some-clause-judged
returns-in-Some-clause-judged c =
    let value = c.args.value.now in
    let learner = c.args.learner.now in
    let learned : c.take.new.self.learned ≡ learner.learned ++ value ∷ [] =
    subst (λ (o : Option (List ℕ)). IfSome o (λ v. c.take.new.self.learned ≡ learner.learned ++ v ∷ [])) c.requires.waits c.take.ensures.learned in
    let is_old : IsOldCommand value = record { command = c.in-Some.command; is_old = c.in-Some.ensures.found; spelled = c.in-Some.ensures.spelled } in record {
      is_command = true;
      judges = is_old;
      leads = λ s m leads. c.take.ensures.leads s 0 m leads;
      learned = learned;
      stand = λ before.
          subst (λ (l : List (List ℕ)). StandFor l c.push_reserved.new.self.items) (sym learned)
          (subst (StandFor (learner.learned ++ value ∷ [])) (sym c.push_reserved.ensures.items)
          (stand_more learner.learned c.args.log.now.items value c.encode.result before (record { is = is_old; same = c.encode.ensures.spelling ∙ ap spelling c.upgrade.ensures })));
    }
