-- What an attempt writes in a phase, when it may be made in the machine, and which answers tell no row.
use Rattle.std.proofs.Common.{true≢false, ℕ, suc, ◌≡◌, ◌≢◌, true, Option, Some, None, List, length, is_some, refl, sym, ap, ◌∙◌, arith}
use Rattle.torn_block.specs.declared.write_steps.WriteCall.TheVariants.{CloseGate, SyncClosed, PutBody, SyncBody, OpenGate, SyncOpened}
use Rattle.paxos_block.specs.Row.{DecodedBlock}
use Rattle.attempt.specs.Calls.{Phase, Opening, One, Two, Kind, Attaching, Syncing, Reading, Putting}
use Rattle.attempt.specs.Answers.{Heard, Booted, Done, Told, Fault, Answers, told}
use Rattle.attempt.specs.Setup.{Setup}
use Rattle.attempt.specs.NextCall.{call_by}
use Rattle.attempt.specs.History.{Fits}
use Rattle.attempt.proofs.Visitors.{IsPart, part_if}
use Rattle.agreement.specs.Event.{write_of, Allowed}
use Rattle.agreement.specs.Event.Event.{Begins, Confirms}
use Rattle.agreement.proofs.Invariant.{Holds, IsWrite}
use Rattle.agreement.proofs.Writing.{to_write, writes_at_rest}
use Rattle.attempt_safety.specs.Machine.{Machine, mind_in, writing_in, write_in}
use Rattle.attempt_safety.specs.Follows.{StandsIn}
use Rattle.attempt_safety.proofs.Stages.{HasWrite, IsFirstCall, IsSixthCall}

-- the write of a phase is what the host writes
write_is : (s : Setup) (p : Phase) (f : Answers) → HasWrite p → write_of (mind_in s p f) ≡ Some (write_in s p f)
write_is s Opening f writes = absurd writes
write_is s One f writes = refl
write_is s Two f writes = refl

-- what an option has that has something
pub some_of : {A : Type 0} (o : Option A) → is_some o ≡ true → (y : A) × (o ≡ Some y)
some_of None is = absurd (true≢false (sym is))
some_of (Some y) is = (y, refl)

-- only a read tells a row
silent_row : (s : Setup) (f : Answers) (d : ℕ) (kind : Kind) (row : List DecodedBlock) → kind ≢ Reading → ¬ Fits (call_by s d f kind) (Told (Some row))
silent_row s f d Attaching row other fits = fits
silent_row s f d Syncing row other fits = fits
silent_row s f d Reading row other fits = other refl
silent_row s f d (Putting p CloseGate) row other fits = fits
silent_row s f d (Putting p SyncClosed) row other fits = fits
silent_row s f d (Putting p PutBody) row other fits = fits
silent_row s f d (Putting p SyncBody) row other fits = fits
silent_row s f d (Putting p OpenGate) row other fits = fits
silent_row s f d (Putting p SyncOpened) row other fits = fits

-- so the answer to any other call tells none
pub silent : (s : Setup) (f : Answers) (d : ℕ) (kind : Kind) (x : Heard) → kind ≢ Reading → Fits (call_by s d f kind) x → told x ≡ None
silent s f d kind (Booted boot) other fits = refl
silent s f d kind Done other fits = refl
silent s f d kind (Told None) other fits = refl
silent s f d kind (Told (Some row)) other fits = absurd (silent_row s f d kind row other fits)
silent s f d kind (Fault fault) other fits = refl

-- THE WRITE OF A PHASE

module _ (s : Setup) (p : Phase) (f : Answers) (d : ℕ) (m : Machine) (holds : Holds s.disks m) (stands : StandsIn s p f m) (part : IsPart p (f d)) (writes : HasWrite p) where
  -- what the host writes in the phase
  writes_it : write_of (m.mind s.host) ≡ Some (write_in s p f)
  writes_it = ap write_of stands.mind ∙ write_is s p f writes

  -- where its first call is due, it may begin
  pub may_begin : IsFirstCall p (length (f d)) → Allowed s.disks m (Begins s.host d (write_in s p f))
  may_begin first =
      let due : suc (m.cell s.host d).stage ≡ writing_in p = ap suc (stands.stages d (part_if p (f d) part)) ∙ first.0 in
      (writes_it, due, writes_at_rest s.disks m holds s.host d (write_in s p f) writes_it due)

  -- where its sixth is, and a value is in writing, it may be confirmed
  pub may_confirm : IsSixthCall p (length (f d)) → is_some (m.cell s.host d).writing ≡ true → Allowed s.disks m (Confirms s.host d (write_in s p f))
  may_confirm sixth still =
      let c = m.cell s.host d in
      let w = write_in s p f in
      let now : c.stage ≡ writing_in p = stands.stages d (part_if p (f d) part) ∙ sixth.0 in
      let old = some_of c.writing still in
      let write : IsWrite w c = to_write m.accepted d w c (m.mind s.host) writes_it (holds.stages s.host d) (omega arith) in
      let same : old.0 ≡ w.block = (write.alone old.0 old.1).1 in
      (writes_it, now, old.1 ∙ ap Some same)
