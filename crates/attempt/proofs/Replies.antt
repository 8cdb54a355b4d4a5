-- What an answer to the call that is due tells.
use Rattle.std.specs.Prelude.{slice_get, option_map}
use Rattle.std.proofs.Common.{true≢false, ℕ, ◌≡◌, true, false, Option, Some, None, List, length, refl, sym, subst, ap, ◌∙◌}
use Rattle.disk.specs.Disk as device
use Rattle.torn_block.specs.declared.write_steps.WriteCall.{WriteCall}
use Rattle.torn_block.specs.declared.write_steps.WriteCall.TheVariants.{CloseGate, SyncClosed, PutBody, SyncBody, OpenGate, SyncOpened}
use Rattle.torn_block.specs.Stage.{Write128, call_of}
use Rattle.paxos_block.specs.Row.{DecodedBlock}
use Rattle.attempt.specs.Calls.{Phase, Kind, seventeen}
use Rattle.attempt.specs.Answers.{Heard, Booted, Done, Told, Fault, Answered, Answers, is_bad, told}
use Rattle.attempt.specs.Setup.{Setup}
use Rattle.attempt.specs.NextCall.{call_by, with_disk, next_in, next_call}
use Rattle.attempt.specs.Status.{Status, Due, Ended, status}
use Rattle.attempt.specs.History.{Fits, IsAnswerTo}

-- AN ANSWER

-- an answer to the call that is due: its status, and which of the seventeen calls it is
pub record IsAnswer (s : Setup) (f : Answers) (d : ℕ) (x : Heard) : Type 0 where
  pub phase : Phase
  pub kind : Kind
  pub due : status s f ≡ Due phase d
  pub kind_is : slice_get seventeen (length (f d)) ≡ Some kind
  pub fits : Fits (call_by s d f kind) x

module _ (s : Setup) (f : Answers) (x : Answered) where
  -- by the call of the disk
  answer_on : (p : Phase) (d : ℕ) → status s f ≡ Due p d → (o : Option Kind) → slice_get seventeen (length (f d)) ≡ o → IsAnswerTo (with_disk d (option_map (call_by s d f) o)) x → IsAnswer s f x.disk x.heard
  answer_on p d due None is answers = absurd answers
  answer_on p d due (Some kind) is answers =
      subst (λ (e : ℕ). IsAnswer s f e x.heard) (sym answers.0) (record { phase = p; kind = kind; due = due; kind_is = is; fits = answers.1 })

  -- by the status
  answer_in : (st : Status) → status s f ≡ st → IsAnswerTo (next_in s f st) x → IsAnswer s f x.disk x.heard
  answer_in (Due p d) due answers = answer_on p d due (slice_get seventeen (length (f d))) refl answers
  answer_in (Ended end) due answers = absurd answers

  -- each answer to the call due is one
  pub answer_is : IsAnswerTo (next_call s f) x → IsAnswer s f x.disk x.heard
  answer_is answers = answer_in (status s f) refl answers

-- the call that is due where one is due on a disk
pub next_is : (s : Setup) (f : Answers) (p : Phase) (d : ℕ) (kind : Kind) → status s f ≡ Due p d → slice_get seventeen (length (f d)) ≡ Some kind → next_call s f ≡ Some (d, call_by s d f kind)
next_is s f p d kind due is = ap (next_in s f) due ∙ ap (λ (o : Option Kind). with_disk d (option_map (call_by s d f) o)) is

-- a good answer to a read tells a sound row
pub reading_tells : (boot at len : ℕ) (x : Heard) → Fits (device.Read boot at len) x → is_bad x ≡ false → (row : List DecodedBlock) × (x ≡ Told (Some row))
reading_tells boot at len (Booted number) fits good = absurd fits
reading_tells boot at len Done fits good = absurd fits
reading_tells boot at len (Told (Some row)) fits good = (row, refl)
reading_tells boot at len (Told None) fits good = absurd (true≢false good)
reading_tells boot at len (Fault fault) fits good = absurd (true≢false good)

-- a good answer to an attaching tells a boot number
pub attaching_tells : (x : Heard) → Fits device.Attach x → is_bad x ≡ false → (boot : ℕ) × (x ≡ Booted boot)
attaching_tells (Booted number) fits good = (number, refl)
attaching_tells Done fits good = absurd fits
attaching_tells (Told (Some row)) fits good = absurd fits
attaching_tells (Told None) fits good = absurd (true≢false good)
attaching_tells (Fault fault) fits good = absurd (true≢false good)

-- an answer to a call of a write is no boot number
no_boot : (call : WriteCall) (w : Write128) (boot number : ℕ) → ¬ Fits {A = List DecodedBlock} (call_of call w boot) (Booted number)
no_boot CloseGate w boot number fits = fits
no_boot SyncClosed w boot number fits = fits
no_boot PutBody w boot number fits = fits
no_boot SyncBody w boot number fits = fits
no_boot OpenGate w boot number fits = fits
no_boot SyncOpened w boot number fits = fits

-- nor a row
no_row : (call : WriteCall) (w : Write128) (boot : ℕ) (row : Option (List DecodedBlock)) → ¬ Fits (call_of call w boot) (Told row)
no_row CloseGate w boot row fits = fits
no_row SyncClosed w boot row fits = fits
no_row PutBody w boot row fits = fits
no_row SyncBody w boot row fits = fits
no_row OpenGate w boot row fits = fits
no_row SyncOpened w boot row fits = fits

-- so a good one is that it is done
pub putting_tells : (call : WriteCall) (w : Write128) (boot : ℕ) (x : Heard) → Fits (call_of call w boot) x → is_bad x ≡ false → x ≡ Done
putting_tells call w boot (Booted number) fits good = absurd (no_boot call w boot number fits)
putting_tells call w boot Done fits good = refl
putting_tells call w boot (Told row) fits good = absurd (no_row call w boot row fits)
putting_tells call w boot (Fault fault) fits good = absurd (true≢false good)

-- a bad answer tells no row
pub bad_tells : (x : Heard) → is_bad x ≡ true → told x ≡ None
bad_tells (Booted number) bad = refl
bad_tells Done bad = refl
bad_tells (Told (Some row)) bad = absurd (true≢false (sym bad))
bad_tells (Told None) bad = refl
bad_tells (Fault fault) bad = refl
