-- What happens among the first positions of a disk happens to the disk that is cut to them.
use Rattle.std.proofs.Common.{◌≡◌, ◌+◌, ◌-◌, ◌≤◌, ℕ, zero, suc, Bool, true, false, List, [], ◌∷◌, ◌++◌, length, take, drop, replicate, refl, sym, ap, ◌∙◌, subst, arith, length-append}
use Rattle.std.proofs.lemmas.List.{length-replicate, length-take, length-take-le, take-take, take-replicate, drop-take}
use Rattle.std.proofs.Math.Seq.{take-append-add}
use Rattle.disk.specs.declared.fault.DiskFault.TheVariants.{Reset, Failed, Gone}
use Rattle.disk.specs.Disk.{DiskState, Call, Attach, Read, Write, Sync, Answer, Booted, Told, Done, Fault, FailureLeaves, Succeeds, Step, Crashes, put_at, written, synced}
use Rattle.disk.specs.Filling.{filled, nth_given}
use Rattle.disk.specs.Simulated.{crashed, fresh_disk}
use Rattle.disk.proofs.StepLemmas.{step_keeps}
use Rattle.disk.proofs.CrashLemmas.{length-put}
use Rattle.disk.proofs.FillingLemmas.{filled_keeps, filled_length}
use Rattle.disk.specs.Cut.{cut, HasFirst, IsInFirst}

module _ {A : Type 0} where
  -- a range is put into the first positions
  take_put : (n : ℕ) (old items : List A) (at : ℕ) → at + length items ≤ n → n ≤ length old → take n (put_at old at items) ≡ put_at (take n old) at items
  take_put n old items at within fits =
      let p = take at old ++ items in
      let m = at + length items in
      let long : length p ≡ m = omega (arith, length-append (take at old) items, length-take-le at old (omega (arith, within, fits))) in
      let a : n ≡ length p + (n - m) = omega (arith, long, within) in
      let b : m + (n - m) ≡ n = omega (arith, within) in
      ap (λ (j : ℕ). take j (p ++ drop m old)) a
      ∙ take-append-add p (drop m old) (n - m)
      ∙ ap (λ (l : List A). p ++ l) (sym (drop-take m (n - m) old) ∙ ap (λ (j : ℕ). drop m (take j old)) b)
      ∙ ap (λ (l : List A). (l ++ items) ++ drop m (take n old)) (sym (take-take at n old (omega (arith, within))))

  take_from : (n at m : ℕ) (old : List A) → at + m ≤ n → take m (drop at (take n old)) ≡ take m (drop at old)
  take_from n at m old within =
      let b : n ≡ at + (n - at) = omega (arith, within) in
      ap (λ (j : ℕ). take m (drop at (take j old))) b
      ∙ ap (take m) (drop-take at (n - at) old)
      ∙ take-take m (n - at) (drop at old) (omega (arith, within))

  take_flat : (n : ℕ) (old : List A) (b : Bool) → take n (replicate (length old) b) ≡ replicate (length (take n old)) b
  take_flat zero old b = refl
  take_flat (suc n) [] b = refl
  take_flat (suc n) (y ∷ old) b = ap (λ (l : List Bool). b ∷ l) (take_flat n old b)

take_filled : (given : List ℕ) (n i : ℕ) (flags : List Bool) (bytes : List ℕ) → n ≤ length flags → take n (filled given i flags bytes) ≡ filled given i (take n flags) (take n bytes)
take_filled given zero i flags bytes fits = refl
take_filled given (suc n) i [] bytes fits = absurd (omega (arith, fits))
take_filled given (suc n) i (flag ∷ flags) [] fits = refl
take_filled given (suc n) i (true ∷ flags) (b ∷ bytes) fits = ap (λ (l : List ℕ). nth_given given i ∷ l) (take_filled given n (i + 1) flags bytes (omega (arith, fits)))
take_filled given (suc n) i (false ∷ flags) (b ∷ bytes) fits = ap (λ (l : List ℕ). b ∷ l) (take_filled given n i flags bytes (omega (arith, fits)))

state : List ℕ → List Bool → DiskState → DiskState
state bytes unsynced disk = record { bytes = bytes; unsynced = unsynced; boot = disk.boot; gone = disk.gone }

cut_written : (n : ℕ) (disk : DiskState) (at : ℕ) (from : List ℕ) → HasFirst n disk → at + length from ≤ n → cut n (written disk at from) ≡ written (cut n disk) at from
cut_written n disk at from has within =
    let flags = replicate (length from) true in
    let as_many : length flags ≡ length from = length-replicate (length from) true in
    λ i. record {
      bytes = take_put n disk.bytes from at within has.0 i;
      unsynced = take_put n disk.unsynced flags at (omega (arith, as_many, within)) has.1 i;
      boot = disk.boot;
      gone = disk.gone;
    }

cut_synced : (n : ℕ) (disk : DiskState) → cut n (synced disk) ≡ synced (cut n disk)
cut_synced n disk i = record { bytes = take n disk.bytes; unsynced = take_flat n disk.bytes false i; boot = disk.boot; gone = disk.gone }

cut_succeeds : (n : ℕ) (old new : DiskState) (call : Call) (answer : Answer) → HasFirst n old → IsInFirst n call → Succeeds call old answer new → Succeeds call (cut n old) answer (cut n new)
cut_succeeds n old new Attach answer has within step = (step.0, ap (cut n) step.1)
cut_succeeds n old new (Read boot at len) answer has within step =
    let width : at + (at + len - at) ≤ n = omega (arith, within) in
    (step.0 ∙ ap Told (sym (take_from n at (at + len - at) old.bytes width)), ap (cut n) step.1)
cut_succeeds n old new (Write boot at from) answer has within step = (step.0, ap (cut n) step.1 ∙ cut_written n old at from has within)
cut_succeeds n old new (Sync boot) answer has within step = (step.0, ap (cut n) step.1 ∙ cut_synced n old)

cut_fails : (n : ℕ) (old new : DiskState) (call : Call) → HasFirst n old → IsInFirst n call → FailureLeaves call old new → FailureLeaves call (cut n old) (cut n new)
cut_fails n old new Attach has within left = ap (cut n) left
cut_fails n old new (Read boot at len) has within left = ap (cut n) left
cut_fails n old new (Write boot at from) has within torn =
    record {
      left = torn.left;
      as_many = torn.as_many;
      leaves = ap (cut n) torn.leaves ∙ cut_written n old at torn.left has (omega (arith, torn.as_many, within));
    }
cut_fails n old new (Sync boot) has within left = ap (cut n) left

pub cut_steps : (n : ℕ) (old new : DiskState) (call : Call) (answer : Answer) → HasFirst n old → IsInFirst n call → Step old call answer new → Step (cut n old) call answer (cut n new)
cut_steps n old new call (Booted boot) has within step = (step.0, step.1, cut_succeeds n old new call (Booted boot) has within step.2)
cut_steps n old new call (Told bytes) has within step = (step.0, step.1, cut_succeeds n old new call (Told bytes) has within step.2)
cut_steps n old new call Done has within step = (step.0, step.1, cut_succeeds n old new call Done has within step.2)
cut_steps n old new call (Fault Reset) has within step = (step.0, step.1, ap (cut n) step.2)
cut_steps n old new call (Fault Failed) has within step = (step.0, step.1, cut_fails n old new call has within step.2)
cut_steps n old new call (Fault Gone) has within step = (step.0, ap (cut n) step.1)

has_written : (n : ℕ) (disk : DiskState) (at : ℕ) (from : List ℕ) → HasFirst n disk → at + length from ≤ n → HasFirst n (written disk at from)
has_written n disk at from has within =
    let flags = replicate (length from) true in
    let as_many : length flags ≡ length from = length-replicate (length from) true in
    let bytes = length-put disk.bytes at from (omega (arith, within, has.0)) 0 in
    let unsynced = length-put disk.unsynced at flags (omega (arith, as_many, within, has.1)) false in
    (omega (arith, bytes, has.0), omega (arith, unsynced, has.1))

fits_write : (n : ℕ) (call : Call) (boot at : ℕ) (from : List ℕ) → IsInFirst n call → call ≡ Write boot at from → at + length from ≤ n
fits_write n call boot at from within is = subst (IsInFirst n) is within

pub first_stay : (n : ℕ) (old new : DiskState) (call : Call) (answer : Answer) → HasFirst n old → IsInFirst n call → Step old call answer new → HasFirst n new
first_stay n old new call answer has within step =
    let flat : length (replicate (length old.bytes) false) ≡ length old.bytes = length-replicate (length old.bytes) false in
    step_keeps (HasFirst n) old new call answer
    (record {
      writes = λ boot at from left is as_many. has_written n old at left has (omega (arith, as_many, fits_write n call boot at from within is));
      syncs = (has.0, omega (arith, flat, has.0));
      stays = has;
    })
    step

pub cut_crashes : (n : ℕ) (disk : DiskState) (given : List ℕ) → HasFirst n disk → cut n (crashed disk given) ≡ crashed (cut n disk) given
cut_crashes n disk given has i =
    record { bytes = take_filled given n 0 disk.unsynced disk.bytes has.1 i; unsynced = take_flat n disk.bytes false i; boot = disk.boot + 1; gone = disk.gone }

pub crashes_cut : (n : ℕ) (disk : DiskState) (given : List ℕ) → HasFirst n disk → Crashes (cut n disk) (crashed (cut n disk) given)
crashes_cut n disk given has =
    let bytes : length (take n disk.bytes) ≡ n = length-take-le n disk.bytes has.0 in
    let flags : length (take n disk.unsynced) ≡ n = length-take-le n disk.unsynced has.1 in
    record {
      bytes = filled_keeps given 0 (take n disk.unsynced) (take n disk.bytes) (omega (arith, bytes, flags));
      unsynced = refl;
      boot = refl;
      gone = refl;
    }

pub first_stay_crashed : (n : ℕ) (disk : DiskState) (given : List ℕ) → HasFirst n disk → HasFirst n (crashed disk given)
first_stay_crashed n disk given has =
    let flat : length (replicate (length disk.bytes) false) ≡ length disk.bytes = length-replicate (length disk.bytes) false in
    (omega (arith, filled_length given 0 disk.unsynced disk.bytes, has.0), omega (arith, flat, has.0))

pub cut_fresh : (n size : ℕ) → n ≤ size → cut n (fresh_disk size) ≡ fresh_disk n
unfolding fresh_disk
cut_fresh n size fits i = record { bytes = take-replicate n size 0 fits i; unsynced = take-replicate n size false fits i; boot = 1; gone = false }

pub first_of_fresh : (n : ℕ) (disk : DiskState) → cut n disk ≡ fresh_disk n → HasFirst n disk
unfolding fresh_disk
first_of_fresh n disk is =
    let bytes : length (take n disk.bytes) ≡ n = ap (λ (d : DiskState). length d.bytes) is ∙ length-replicate n 0 in
    let flags : length (take n disk.unsynced) ≡ n = ap (λ (d : DiskState). length d.unsynced) is ∙ length-replicate n false in
    (omega (arith, bytes, length-take n disk.bytes), omega (arith, flags, length-take n disk.unsynced))
