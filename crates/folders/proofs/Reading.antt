-- The reads of a check, one after another, and where one of them failed.
use Rattle.std.proofs.Common.{◌≡◌, ◌+◌, ◌-◌, ◌<◌, ℕ, suc, List, ◌∷◌, map, refl, sym, ap, subst, arith, inl, inr}
use Rattle.std.specs.List.{range_with_len}
use Rattle.disk.specs.Disk.{Call, Attach, Answer, Booted, Fault}
use Rattle.disk.specs.declared.fault.DiskFault.{DiskFault}
use Rattle.folders.specs.declared.check.CheckFault.{CheckFault}
use Rattle.folders.specs.declared.check.CheckFault.TheVariants.{Device as OfDevice, Output}
use Rattle.folders.specs.Damage.{IfDevice}
use Rattle.folders.specs.Reading.{area_read, row_read, row_reads, Tells, TellsAll, FailsAmong, FailsToShow}

-- the reads of the rows from this slot on
abbrev pub reads_from : (boot slot slots : ℕ) → List Call
reads_from boot slot slots = map (row_read boot) (range_with_len slot (slots - slot))

next_read : (boot slot slots : ℕ) → slot < slots → reads_from boot slot slots ≡ row_read boot slot ∷ reads_from boot (slot + 1) slots
next_read boot slot slots below =
    let count : slots - slot ≡ suc (slots - (slot + 1)) = omega arith in
    ap (λ (n : ℕ). map (row_read boot) (range_with_len slot n)) count

-- The rows below this slot were told, from old on: what fails among the rest fails among all of them, and where the rest is told all of them are.
pub record LeadsOn {D : Type 0} (gives : D → Call → Answer → D → Type 0) (boot slot slots : ℕ) (old now : D) : Type 0 where
  pub fails : (fault : DiskFault) (new : D) → FailsAmong gives (reads_from boot slot slots) now fault new → FailsAmong gives (row_reads boot slots) old fault new
  pub tells : (new : D) → TellsAll gives (reads_from boot slot slots) now new → TellsAll gives (row_reads boot slots) old new

module _ {D : Type 0} (gives : D → Call → Answer → D → Type 0) (boot slots : ℕ) (old : D) where
  pub none_told : LeadsOn gives boot 0 slots old old
  none_told =
      let count : slots - 0 ≡ slots = omega arith in
      record {
        fails = λ fault new fails. subst (λ (n : ℕ). FailsAmong gives (map (row_read boot) (range_with_len 0 n)) old fault new) count fails;
        tells = λ new tells. subst (λ (n : ℕ). TellsAll gives (map (row_read boot) (range_with_len 0 n)) old new) count tells;
      }

  -- the next one fails
  pub fails_here : (fault : CheckFault) (slot : ℕ) (now new : D) → slot < slots → LeadsOn gives boot slot slots old now → IfDevice fault (λ cause. gives now (row_read boot slot) (Fault cause) new) →
      IfDevice fault (λ cause. FailsAmong gives (row_reads boot slots) old cause new)
  fails_here (Output error) slot now new below on fails = tt
  fails_here (OfDevice cause) slot now new below on fails =
      on.fails cause new (subst (λ (calls : List Call). FailsAmong gives calls now cause new) (sym (next_read boot slot slots below)) (inl fails))

  -- or it is told
  pub told_here : (slot : ℕ) (now next : D) → slot < slots → LeadsOn gives boot slot slots old now → Tells gives (row_read boot slot) now next → LeadsOn gives boot (slot + 1) slots old next
  told_here slot now next below on tells = record {
    fails = λ fault new fails.
        on.fails fault new (subst (λ (calls : List Call). FailsAmong gives calls now fault new) (sym (next_read boot slot slots below)) (inr (next, tells, fails)));
    tells = λ new all.
        on.tells new (subst (λ (calls : List Call). TellsAll gives calls now new) (sym (next_read boot slot slots below)) (next, tells, all));
  }

  -- the last one was told
  pub all_told : (now : D) → LeadsOn gives boot slots slots old now → TellsAll gives (row_reads boot slots) old now
  all_told now on =
      let none : 0 ≡ slots - slots = omega arith in
      on.tells now (subst (λ (n : ℕ). TellsAll gives (map (row_read boot) (range_with_len slots n)) now now) none refl)

  -- among the rows, after the heartbeat area was told
  pub fails_in_rows : (fault : CheckFault) (attached told new : D) → gives old Attach (Booted boot) attached → Tells gives (area_read boot) attached told → IfDevice fault (λ cause. FailsAmong gives (row_reads boot slots) told cause new) →
      IfDevice fault (λ cause. FailsToShow gives slots old cause new)
  fails_in_rows (Output error) attached told new boots tells fails = tt
  fails_in_rows (OfDevice cause) attached told new boots tells fails = inr (boot, attached, boots, inr (told, tells, fails))
