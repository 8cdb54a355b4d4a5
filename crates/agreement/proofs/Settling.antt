-- What comes from outside: a value in writing is confirmed or vanishes, a disk crashes or is given up, a host stops or starts.
use Rattle.std.proofs.Common.{ℕ, ◌≡◌, inl, inr, None, refl, arith}
use Rattle.agreement.specs.State.{Block, Cell, away, Mind, none_opened, State}
use Rattle.agreement.specs.State.Mind.{Idle, Opening, One, Two}
use Rattle.agreement.specs.Event.{write_one, write_two, at_stage, at_rest, all_away, with_host, IsReading, Allowed, after}
use Rattle.agreement.specs.Event.Event.{Settles, Crashes, Stops, Starts, Drops}
use Rattle.agreement.proofs.Invariant.{Accepted, Holds, IsRegister, IsInStage, IsMind}
use Rattle.agreement.proofs.Puts.{all_put}
use Rattle.agreement.proofs.Frames.{restaged, keeps_host, keeps_cell}
use Rattle.agreement.proofs.Reading.{next_read, rests}
use Rattle.agreement.proofs.Writing.{write_settled}

module _ {Value : Type 0} (accepted : Accepted) (d : ℕ) where
  -- where nothing is in writing a read gives the confirmed block
  confirmed_read : (c : Cell Value) (x : Block Value) → IsReading c x → c.writing ≡ None → x ≡ c.confirmed
  confirmed_read c x (inl same) rest = same
  confirmed_read c x (inr coming) rest = absurd (cc)

  -- What a host counts on stays when the block settles, whichever way.
  stage_settled : (m : Mind Value) (c : Cell Value) (x : Block Value) → IsReading c x → IsInStage accepted d m c → IsInStage accepted d m (at_rest x c.stage)
  stage_settled Idle c x reads old = tt
  stage_settled (Opening o) c x reads old = λ k.
      let u = old k in
      let same = confirmed_read c x reads u.settled in
      record { stage = u.stage; mbal = rw same u.mbal; bal = rw same u.bal; settled = refl }
  stage_settled (One a) c x reads old = λ k. let u = old k in record { stage = u.stage; write = write_settled (write_one a) c u.write x reads; found = u.found }
  stage_settled (Two t) c x reads old = λ k. let u = old k in record { write = write_settled (write_two t) c u.write x reads; told = u.told }

  -- Of a disk that is given up a host counts on nothing.
  stage_away : (m : Mind Value) (c : Cell Value) → IsInStage accepted d m (at_stage c away)
  stage_away Idle c = tt
  stage_away (Opening o) c = λ k. absurd (omega arith)
  stage_away (One a) c = λ k. absurd (omega arith)
  stage_away (Two t) c = λ k. absurd (omega arith)

module _ {Value : Type 0} (disks : ℕ) (s : State Value) (i : Holds disks s) where
  -- the register stays one when it settles
  register_settled : (h d : ℕ) (x : Block Value) → IsReading (s.cell h d) x → IsRegister s.proposed s.accepted h d (at_rest x (s.cell h d).stage)
  register_settled h d x reads =
      let c = s.cell h d in
      let r = i.registers h d in
      rests c r x c.stage (next_read c r x reads)

  -- one block settles
  pub keeps_settles : (h d : ℕ) (x : Block Value) → Allowed disks s (Settles h d x) → Holds disks (after s (Settles h d x))
  keeps_settles h d x reads =
      keeps_cell disks s i h d (at_rest x (s.cell h d).stage) (register_settled h d x reads) (stage_settled s.accepted d (s.mind h) (s.cell h d) x reads (i.stages h d))

  -- the blocks of all hosts on a disk settle
  pub keeps_crashes : (d : ℕ) (left : ℕ → Block Value) → Allowed disks s (Crashes d left) → Holds disks (after s (Crashes d left))
  keeps_crashes d left reads = record {
    registers = λ h. all_put (λ e x. IsRegister s.proposed s.accepted h e x) (s.cell h) d (at_rest (left h) (s.cell h d).stage)
        (register_settled h d (left h) (reads h)) (λ e ne. i.registers h e);
    stages = λ h. all_put (λ e x. IsInStage s.accepted e (s.mind h) x) (s.cell h) d (at_rest (left h) (s.cell h d).stage)
        (stage_settled s.accepted d (s.mind h) (s.cell h d) (left h) (reads h) (i.stages h d)) (λ e ne. i.stages h e);
    minds = i.minds;
    proposals = i.proposals;
  }

  -- a disk is given up
  pub keeps_drops : (h d : ℕ) → Holds disks (after s (Drops h d))
  keeps_drops h d =
      keeps_cell disks s i h d (at_stage (s.cell h d) away) (restaged (s.cell h d) away (i.registers h d)) (stage_away s.accepted d (s.mind h) (s.cell h d))

  -- a host leaves all disks
  leaves : (h : ℕ) (m : Mind Value) → IsMind s.proposed h m → Holds disks (with_host s h m (all_away (s.cell h)))
  leaves h m mind =
      keeps_host disks s i h m (all_away (s.cell h)) mind (λ d. restaged (s.cell h d) away (i.registers h d)) (λ d. stage_away s.accepted d m (s.cell h d))

  pub keeps_stops : (h : ℕ) → Holds disks (after s (Stops h))
  keeps_stops h = leaves h Idle tt

  pub keeps_starts : (h : ℕ) → Holds disks (after s (Starts h))
  keeps_starts h = leaves h (Opening none_opened) (record { own = record { backed = inl (refl, refl); owned = inl refl }; low = omega arith })
