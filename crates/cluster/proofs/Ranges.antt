-- What a call left on its disk is read off the disk behind it.
use Rattle.std.specs.Prelude.{slice_range}
use Rattle.std.proofs.Common.{◌≡◌, ◌+◌, ◌-◌, ◌≤◌, ℕ, zero, suc, List, [], ◌∷◌, ◌++◌, length, take, drop, refl, sym, ap, ◌∙◌, arith}
use Rattle.disk.specs.declared.fault.DiskFault.TheVariants.{Reset, Failed, Gone}
use Rattle.disk.specs.Disk.{DiskState, Call, Attach, Read, Write, Sync, Answer, Booted, Told, Done, Fault, FailureLeaves, Step, put_at, written}
use Rattle.disk.specs.Steps.{WritesOn}
use Rattle.world.specs.Entry.{called_by}
use Rattle.cluster.specs.Commit.{left_by}

front : {A : Type 0} (items rest : List A) → take (length items) (items ++ rest) ≡ items
front [] rest = refl
front (x ∷ items) rest = ap (λ l. x ∷ l) (front items rest)

middle : {A : Type 0} (old items rest : List A) (at : ℕ) → at ≤ length old → take (length items) (drop at (take at old ++ items ++ rest)) ≡ items
middle old items rest zero fits = front items rest
middle [] items rest (suc at) fits = absurd (omega (arith, fits))
middle (x ∷ old) items rest (suc at) fits = middle old items rest at (omega (arith, fits))

-- the range behind a write is what was written
read_back : (old : List ℕ) (at n : ℕ) (items : List ℕ) → at + n ≤ length old → length items ≡ n → slice_range (put_at old at items) at (at + n) ≡ items
read_back old at n items fits is =
    let width : at + n - at ≡ length items = omega (arith, is) in
    ap (λ (k : ℕ). take k (drop at (put_at old at items))) width ∙ middle old items (drop (at + length items) old) at (omega (arith, fits))

failed : (old new : DiskState) (call : Call) → WritesOn old call → FailureLeaves call old new → new ≡ called_by old call (Fault Failed) (left_by call new)
failed old new Attach fits is = is
failed old new (Read boot at len) fits is = is
failed old new (Write boot at from) fits torn =
    let same : left_by (Write boot at from) new ≡ torn.left =
    ap (λ (d : DiskState). slice_range d.bytes at (at + length from)) torn.leaves ∙ read_back old.bytes at (length from) torn.left fits torn.as_many in
    torn.leaves ∙ ap (written old at) (sym same)
failed old new (Sync boot) fits is = is

pub leaves : (old new : DiskState) (call : Call) (answer : Answer) → WritesOn old call → Step old call answer new → new ≡ called_by old call answer (left_by call new)
leaves old new call (Booted boot) fits step = step.2.1
leaves old new call (Told bytes) fits step = step.2.1
leaves old new call Done fits step = step.2.1
leaves old new call (Fault Reset) fits step = step.2
leaves old new call (Fault Failed) fits step = failed old new call fits step.2
leaves old new call (Fault Gone) fits step = step.1
