-- The reads of a check, one after another, and where one of them failed.
use Rattle.std.proofs.Common.{◌≡◌, ◌+◌, ◌-◌, ◌<◌, ◌++◌, ℕ, suc, List, [], ◌∷◌, refl, sym, ap, subst, arith, inl, inr}
use Rattle.disk.specs.Disk.{Call, Attach, Answer, Booted}
use Rattle.disk.specs.declared.fault.DiskFault.{DiskFault}
use Rattle.folders.specs.Damage.{IfDevice}
use Rattle.folders.specs.Reading.{FailsAmong, TellsAll}
use Rattle.folders.specs.declared.check.CheckFault.{CheckFault}
use Rattle.folders.specs.declared.check.CheckFault.TheVariants.{Device as OfDevice, Output}
use Rattle.log_folders.specs.EndlessReading.{FailsToShow, image_reads, part_read, slot_reads}
use Rattle.log_folders.specs.declared.area.Part.TheVariants.{Slot}

-- what is said of a step's fault is said of the device's
pub of_device : (P : DiskFault → Type 0) (fault : CheckFault) (cause : DiskFault) → fault ≡ OfDevice cause → IfDevice fault P → P cause
of_device P fault cause is why = subst (λ (f : CheckFault). IfDevice f P) is why

module _ {D : Type 0} (gives : D → Call → Answer → D → Type 0) where
  -- THE ONES, AND THEN THE OTHERS

  pub all_told : (calls more : List Call) (a b e : D) → TellsAll gives calls a b → TellsAll gives more b e → TellsAll gives (calls ++ more) a e
  all_told [] more a b e first second = subst (λ (d : D). TellsAll gives more d e) first second
  all_told (call ∷ calls) more a b e first second = (first.0, first.1, all_told calls more first.0 b e first.2 second)

  pub fails_first : (calls more : List Call) (a b : D) (fault : DiskFault) → FailsAmong gives calls a fault b → FailsAmong gives (calls ++ more) a fault b
  fails_first [] more a b fault fails = absurd fails
  fails_first (call ∷ calls) more a b fault fails = elim fails [ inl here ↦ inl here | inr later ↦ inr (later.0, later.1, fails_first calls more later.0 b fault later.2) ]

  pub fails_later : (calls more : List Call) (a b e : D) (fault : DiskFault) → TellsAll gives calls a b → FailsAmong gives more b fault e → FailsAmong gives (calls ++ more) a fault e
  fails_later [] more a b e fault told fails = subst (λ (d : D). FailsAmong gives more d fault e) told fails
  fails_later (call ∷ calls) more a b e fault told fails = inr (told.0, told.1, fails_later calls more told.0 b e fault told.2 fails)

  -- the same of a step's fault, if it is the device's
  pub stops_first : (calls more : List Call) (a b : D) (fault : CheckFault) → IfDevice fault (λ cause. FailsAmong gives calls a cause b) → IfDevice fault (λ cause. FailsAmong gives (calls ++ more) a cause b)
  stops_first calls more a b (Output error) fails = tt
  stops_first calls more a b (OfDevice cause) fails = fails_first calls more a b cause fails

  pub stops_later : (calls more : List Call) (a b e : D) (fault : CheckFault) → TellsAll gives calls a b → IfDevice fault (λ cause. FailsAmong gives more b cause e) → IfDevice fault (λ cause. FailsAmong gives (calls ++ more) a cause e)
  stops_later calls more a b e (Output error) told fails = tt
  stops_later calls more a b e (OfDevice cause) told fails = fails_later calls more a b e cause told fails

  -- SLOT BY SLOT

  -- The slots below this one were told, from old on. What fails among the rest fails among all, and where the rest is told all are.
  pub record LeadsOn (boot slots area slot : ℕ) (old now : D) : Type 0 where
    pub fails : (fault : DiskFault) (new : D) → FailsAmong gives (slot_reads boot slots area slot (slots - slot)) now fault new → FailsAmong gives (slot_reads boot slots area 0 slots) old fault new
    pub tells : (new : D) → TellsAll gives (slot_reads boot slots area slot (slots - slot)) now new → TellsAll gives (slot_reads boot slots area 0 slots) old new

  module _ (boot slots area : ℕ) (old : D) where
    next_read : (slot : ℕ) → slot < slots → slot_reads boot slots area slot (slots - slot) ≡ part_read boot slots area (Slot slot) ∷ slot_reads boot slots area (slot + 1) (slots - (slot + 1))
    next_read slot below =
        let count : slots - slot ≡ suc (slots - (slot + 1)) = omega arith in
        ap (λ (n : ℕ). slot_reads boot slots area slot n) count

    pub none_told : LeadsOn boot slots area 0 old old
    none_told =
        let count : slots - 0 ≡ slots = omega arith in
        record {
          fails = λ fault new fails. subst (λ (n : ℕ). FailsAmong gives (slot_reads boot slots area 0 n) old fault new) count fails;
          tells = λ new tells. subst (λ (n : ℕ). TellsAll gives (slot_reads boot slots area 0 n) old new) count tells;
        }

    -- the next one is told
    pub told_here : (slot : ℕ) (now next : D) → slot < slots → LeadsOn boot slots area slot old now → TellsAll gives (part_read boot slots area (Slot slot) ∷ []) now next → LeadsOn boot slots area (slot + 1) old next
    told_here slot now next below on told =
        let one = part_read boot slots area (Slot slot) ∷ [] in
        let rest = slot_reads boot slots area (slot + 1) (slots - (slot + 1)) in
        record {
          fails = λ fault new fails.
              on.fails fault new (subst (λ (calls : List Call). FailsAmong gives calls now fault new) (sym (next_read slot below)) (fails_later one rest now next new fault told fails));
          tells = λ new tells.
              on.tells new (subst (λ (calls : List Call). TellsAll gives calls now new) (sym (next_read slot below)) (all_told one rest now next new told tells));
        }

    -- or it fails
    pub fails_here : (fault : CheckFault) (slot : ℕ) (now new : D) → slot < slots → LeadsOn boot slots area slot old now
        → IfDevice fault (λ cause. FailsAmong gives (part_read boot slots area (Slot slot) ∷ []) now cause new) → IfDevice fault (λ cause. FailsAmong gives (slot_reads boot slots area 0 slots) old cause new)
    fails_here (Output error) slot now new below on fails = tt
    fails_here (OfDevice cause) slot now new below on fails =
        on.fails cause new
        (subst (λ (calls : List Call). FailsAmong gives calls now cause new) (sym (next_read slot below))
        (fails_first (part_read boot slots area (Slot slot) ∷ []) (slot_reads boot slots area (slot + 1) (slots - (slot + 1))) now new cause fails))

    -- the last one was told
    pub slots_told : (now : D) → LeadsOn boot slots area slots old now → TellsAll gives (slot_reads boot slots area 0 slots) old now
    slots_told now on =
        let none : 0 ≡ slots - slots = omega arith in
        on.tells now (subst (λ (n : ℕ). TellsAll gives (slot_reads boot slots area slots n) now now) none refl)

  -- THE IMAGE

  -- a read failed after the attach
  pub stops_attached : (slots boot : ℕ) (old attached new : D) (fault : CheckFault) → gives old Attach (Booted boot) attached → IfDevice fault (λ cause. FailsAmong gives (image_reads boot slots) attached cause new) → IfDevice fault (λ cause. FailsToShow gives slots old cause new)
  stops_attached slots boot old attached new (Output error) boots fails = tt
  stops_attached slots boot old attached new (OfDevice cause) boots fails = inr (boot, attached, boots, fails)
