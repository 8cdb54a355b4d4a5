use Rattle.std.proofs.Common.{◌++◌, ◌∷◌, [], sym, subst}
use Rattle.disk.specs.Disk.{Done}
use Rattle.standings.specs.Past.{made}
use Rattle.coming.specs.declared.notes.Notes.{Notes}
use Rattle.coming.specs.declared.notes.Stage.{Stage}
use Rattle.coming.specs.Coming.{IsKept, IsStage, call_due}
use Rattle.coming.proofs.Going.{clears, settles}
use Rattle.coming.proofs.notes.Notes.succeed.Goals as goal

pub clear_next-requires : goal.clear_next-requires
clear_next-requires c = (let p = c.args.self.now in let in_area = subst (λ (q : Stage). IsStage q p.slots p.is_cleared) c.in-Clearing.is c.requires.sound.stage in in_area.2)

pub returns-in-Clearing-clause-keeps : goal.returns-in-Clearing-clause-keeps
returns-in-Clearing-clause-keeps c past kept =
    let p = c.args.self.now in
    subst (λ (m : Notes). IsKept m (past ++ made (call_due p) Done ∷ [])) (sym c.clear_next.ensures) (clears p c.requires.sound c.requires.going past kept c.in-Clearing.row c.in-Clearing.is)

pub returns-in-Settling-clause-keeps : goal.returns-in-Settling-clause-keeps
returns-in-Settling-clause-keeps c past kept =
    let p = c.args.self.now in
    subst (λ (m : Notes). IsKept m (past ++ made (call_due p) Done ∷ [])) (sym c.begin.ensures.step) (settles p c.requires.sound c.requires.going past kept c.in-Settling.is c.begin.new.self.round)
