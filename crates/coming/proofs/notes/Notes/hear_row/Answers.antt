use Rattle.std.proofs.Common.{◌∙◌, ◌++◌, ◌∷◌, [], ℕ, replicate, ap, sym, subst}
use Rattle.disk.specs.Disk.{Told}
use Rattle.standings.specs.Past.{made}
use Rattle.coming.specs.declared.notes.Notes.{Notes}
use Rattle.coming.specs.declared.notes.Stage.{Stage}
use Rattle.coming.specs.Coming.{IsKept, IsStage, call_due}
use Rattle.coming.proofs.Going.{is_to_write, shows}
use Rattle.coming.proofs.notes.Notes.hear_row.Goals as goal

pub clear_next-requires : goal.clear_next-requires
clear_next-requires c = (let p = c.args.self.now in let in_area = subst (λ (q : Stage). IsStage q p.slots p.is_cleared) c.in-Looking.is c.requires.sound.stage in in_area.2)

pub returns-then-are_zeros-clause-keeps : goal.returns-then-are_zeros-clause-keeps
returns-then-are_zeros-clause-keeps c past kept =
    let p = c.args.self.now in
    let zeros = sym c.block_in.ensures.bytes ∙ c.are_zeros.ensures.0 c.if-are_zeros.true ∙ ap (λ (k : ℕ). replicate k 0) c.block_in.ensures.long in
    subst (λ (m : Notes). IsKept m (past ++ made (call_due p) (Told c.args.bytes.now) ∷ [])) (sym c.clear_next.ensures)
    (shows p c.requires.sound c.requires.going past kept c.in-Looking.row c.in-Looking.is c.args.bytes.now zeros)

pub returns-else-are_zeros-clause-keeps : goal.returns-else-are_zeros-clause-keeps
returns-else-are_zeros-clause-keeps c past kept = is_to_write c.args.self.now c.requires.sound c.requires.going past kept c.in-Looking.row c.in-Looking.is c.args.bytes.now
