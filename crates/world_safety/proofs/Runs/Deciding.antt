-- Whether an entry chooses a value can be told, and so the log can be made.
use Rattle.std.specs.Prelude.{nat_lt, slice_get}
use Rattle.std.proofs.Common.{ℕ, ◌≡◌, ◌⊎◌, inl, inr, Bool, true, false, true≢false, Option, Some, None, List, [], ◌∷◌, ◌++◌, length, refl, sym, subst, ap, ◌∙◌}
use Rattle.paxos_block.specs.declared.ballot.TheConstants.{LAST_BALLOT}
use Rattle.disk.specs.Disk.{Call, Answer}
use Rattle.attempt.specs.Answers.{Answered, Answers, on, heard_as}
use Rattle.attempt.specs.Calls.{Opening, One}
use Rattle.attempt.specs.Chosen.{accepts, Chooses}
use Rattle.attempt.specs.Proposal.{ballot, proposal, decided, others_mbal}
use Rattle.attempt.specs.Setup.{Setup}
use Rattle.attempt.specs.Standing.{HasBallot, HasProposal}
use Rattle.attempt.specs.Visits.{visited, are_enough}
use Rattle.paxos_block.specs.Shape.{Shape}
use Rattle.host.specs.Host.{Attempt, Doing, Attempts, Memory, Host, Stopped, Running, setup_of}
use Rattle.world.specs.Entry.{Filled, Start, Stop, Begin, Called, Torn, Crashed, Lost, Migrated}
use Rattle.world.specs.Chosen.{at, IsChosenAt}
use Rattle.world.proofs.Histories.{hears_with}

-- either so, or not
abbrev pub Told : Type 0 → Type 0
Told P = P ⊎ (P → ⊥)

-- an attempt chooses a value, or none
abbrev pub ChoosesSome : Setup → Answers → Type 0
ChoosesSome s f = (value : List ℕ) × Chooses s f value

module _ (s : Setup) (f : Answers) where
  by_majority : (value : List ℕ) → HasProposal s f value → (b : Bool) → are_enough s (accepts s f) ≡ b → Told (ChoosesSome s f)
  by_majority value has true most = inl (value, record { proposes = has; majority = most })
  by_majority value has false few = inr (λ k. true≢false (sym k.1.majority ∙ few))

  by_proposal : HasBallot s f → visited s One f ≡ None → nat_lt (ballot s f) (others_mbal s One f) ≡ false → (o : Option (List ℕ)) → proposal s f ≡ o → Told (ChoosesSome s f)
  by_proposal taken over calm None none = inr (λ k. absurd (let is = k.1.proposes.is in cc))
  by_proposal taken over calm (Some value) is = by_majority value (record { taken = taken; over = over; not_outrun = calm; is = is }) (are_enough s (accepts s f)) refl

  by_outrun : HasBallot s f → visited s One f ≡ None → (b : Bool) → nat_lt (ballot s f) (others_mbal s One f) ≡ b → Told (ChoosesSome s f)
  by_outrun taken over true above = inr (λ k. true≢false (sym above ∙ k.1.proposes.not_outrun))
  by_outrun taken over false calm = by_proposal taken over calm (proposal s f) refl

  by_phase_one : HasBallot s f → (o : Option ℕ) → visited s One f ≡ o → Told (ChoosesSome s f)
  by_phase_one taken (Some d) waits = inr (λ k. absurd (let over = k.1.proposes.over in cc))
  by_phase_one taken None over = by_outrun taken over (nat_lt (ballot s f) (others_mbal s One f)) refl

  by_ballot : visited s Opening f ≡ None → decided s f ≡ None → (b : Bool) → nat_lt LAST_BALLOT (ballot s f) ≡ b → Told (ChoosesSome s f)
  by_ballot over none true spent = inr (λ k. true≢false (sym spent ∙ k.1.proposes.taken.fits))
  by_ballot over none false fits = by_phase_one (record { over = over; undecided = none; fits = fits }) (visited s One f) refl

  by_marks : visited s Opening f ≡ None → (o : Option (List ℕ)) → decided s f ≡ o → Told (ChoosesSome s f)
  by_marks over None none = by_ballot over none (nat_lt LAST_BALLOT (ballot s f)) refl
  by_marks over (Some value) told = inr (λ k. absurd (let none = k.1.proposes.taken.undecided in cc))

  by_opening : (o : Option ℕ) → visited s Opening f ≡ o → Told (ChoosesSome s f)
  by_opening (Some d) waits = inr (λ k. absurd (let over = k.1.proposes.taken.over in cc))
  by_opening None over = by_marks over (decided s f) refl

  pub chooses_or_not : Told (ChoosesSome s f)
  chooses_or_not = by_opening (visited s Opening f) refl

-- AN ENTRY

module _ (c : Shape) (log : List Filled) (i : ℕ) where
  -- it chooses a value for a slot
  abbrev pub ChoosesAt : Type 0
  ChoosesAt = (slot : ℕ) × (value : List ℕ) × IsChosenAt c log i slot value

  not_called : (e : Filled) → slice_get log i ≡ Some e → ((h k : ℕ) (call : Call) (answer : Answer) (left : List ℕ) → e ≡ Called h k call answer left → ⊥) → Told ChoosesAt
  not_called e is other = inr (λ k. other k.2.hears.host k.2.hears.disk k.2.hears.call k.2.hears.answer k.2.hears.left (let both : Some e ≡ Some _ = sym is ∙ k.2.hears.entry in let same : e ≡ _ = cc in same))

  module _ (h k : ℕ) (call : Call) (answer : Answer) (left : List ℕ) (is : slice_get log i ≡ Some (Called h k call answer left)) where
    host_is : (hears : ChoosesAt) → h ≡ hears.2.hears.host
    host_is q = let both : Some (Called h k call answer left) ≡ Some (Called q.2.hears.host q.2.hears.disk q.2.hears.call q.2.hears.answer q.2.hears.left) = sym is ∙ q.2.hears.entry in cc

    disk_is : (hears : ChoosesAt) → k ≡ hears.2.hears.disk
    disk_is q = let both : Some (Called h k call answer left) ≡ Some (Called q.2.hears.host q.2.hears.disk q.2.hears.call q.2.hears.answer q.2.hears.left) = sym is ∙ q.2.hears.entry in cc

    answer_is : (hears : ChoosesAt) → answer ≡ hears.2.hears.answer
    answer_is q = let both : Some (Called h k call answer left) ≡ Some (Called q.2.hears.host q.2.hears.disk q.2.hears.call q.2.hears.answer q.2.hears.left) = sym is ∙ q.2.hears.entry in cc

    running_as : (q : ChoosesAt) → (at c log i).host h ≡ Running q.2.hears.memory
    running_as q = subst (λ (g : ℕ). (at c log i).host g ≡ Running q.2.hears.memory) (sym (host_is q)) q.2.hears.running

    -- a value that the entry chooses its host's attempt chooses
    chooses_as : (m : Memory) → (at c log i).host h ≡ Running m → (t : Attempt) → m.doing ≡ Some (Attempts t) → (q : ChoosesAt) → Chooses (setup_of c h m t.operation) (on (t.heard ++ record { disk = k; heard = heard_as answer } ∷ [])) q.1
    chooses_as m running t does q =
        let hears = q.2.hears in
        let both : Running hears.memory ≡ Running m = sym (running_as q) ∙ running in
        let same : hears.memory ≡ m = cc in
        let ones : Some (Attempts hears.doing) ≡ Some (Attempts t) = sym hears.does ∙ ap (λ (x : Memory). x.doing) same ∙ does in
        let one : hears.doing ≡ t = cc in
        let setup : q.2.setup ≡ setup_of c h m t.operation =
        hears.is_setup ∙ ap (λ (g : ℕ). setup_of c g hears.memory hears.doing.operation) (sym (host_is q)) ∙ ap (λ (x : Memory). setup_of c h x hears.doing.operation) same ∙ ap (λ (x : Attempt). setup_of c h m x.operation) one in
        let heard : q.2.heard ≡ t.heard ++ record { disk = k; heard = heard_as answer } ∷ [] =
        hears.is_heard ∙ ap (λ (x : Attempt). x.heard ++ record { disk = hears.disk; heard = heard_as hears.answer } ∷ []) one
        ∙ ap (λ (d : ℕ). t.heard ++ record { disk = d; heard = heard_as hears.answer } ∷ []) (sym (disk_is q)) ∙ ap (λ (a : Answer). t.heard ++ record { disk = k; heard = heard_as a } ∷ []) (sym (answer_is q)) in
        subst (λ (s : Setup). Chooses s (on (t.heard ++ record { disk = k; heard = heard_as answer } ∷ [])) q.1) setup (subst (λ (xs : List Answered). Chooses q.2.setup (on xs) q.1) heard q.2.chooses)

    by_attempt : (m : Memory) → (at c log i).host h ≡ Running m → (t : Attempt) → m.doing ≡ Some (Attempts t) → Told (ChoosesSome (setup_of c h m t.operation) (on (t.heard ++ record { disk = k; heard = heard_as answer } ∷ []))) → Told ChoosesAt
    by_attempt m running t does (inl chooses) = inl (
      length m.learned,
      chooses.0,
      record {
        setup = setup_of c h m t.operation;
        heard = t.heard ++ record { disk = k; heard = heard_as answer } ∷ [];
        hears = hears_with c log i h k call answer left is m running t does;
        on_slot = refl;
        chooses = chooses.1;
      },
    )
    by_attempt m running t does (inr none) = inr (λ q. none (q.1, chooses_as m running t does q))

    by_doing : (m : Memory) → (at c log i).host h ≡ Running m → (o : Option Doing) → m.doing ≡ o → Told ChoosesAt
    by_doing m running (Some (Attempts t)) does = by_attempt m running t does (chooses_or_not (setup_of c h m t.operation) (on (t.heard ++ record { disk = k; heard = heard_as answer } ∷ [])))
    by_doing m running other does = inr (λ q. absurd (
        let both : Running m ≡ Running q.2.hears.memory = sym running ∙ running_as q in
        let same : m ≡ q.2.hears.memory = cc in
        let found : m.doing ≡ Some (Attempts q.2.hears.doing) = ap (λ (x : Memory). x.doing) same ∙ q.2.hears.does in
        cc))

    by_host : (host : Host) → (at c log i).host h ≡ host → Told ChoosesAt
    by_host Stopped is_so = inr (λ q. absurd (let both : Stopped ≡ Running q.2.hears.memory = sym is_so ∙ running_as q in cc))
    by_host (Running m) running = by_doing m running m.doing refl

  entry_tells : (e : Filled) → slice_get log i ≡ Some e → Told ChoosesAt
  entry_tells (Called h k call answer left) is = by_host h k call answer left is ((at c log i).host h) refl
  entry_tells (Start h) is = not_called (Start h) is (λ g k call answer left same. absurd (cc))
  entry_tells (Stop h) is = not_called (Stop h) is (λ g k call answer left same. absurd (cc))
  entry_tells (Begin h task) is = not_called (Begin h task) is (λ g k call answer left same. absurd (cc))
  entry_tells (Torn h k call left) is = not_called (Torn h k call left) is (λ g k call answer left same. absurd (cc))
  entry_tells (Crashed k left) is = not_called (Crashed k left) is (λ g k call answer left same. absurd (cc))
  entry_tells (Lost k) is = not_called (Lost k) is (λ g k call answer left same. absurd (cc))
  entry_tells (Migrated disks commands) is = not_called (Migrated disks commands) is (λ g k call answer left same. absurd (cc))

  -- so whether an entry chooses can be told
  pub chooses_at : Told ChoosesAt
  chooses_at = go (slice_get log i) refl
    where
      go : (o : Option Filled) → slice_get log i ≡ o → Told ChoosesAt
      go (Some e) is = entry_tells e is
      go None is = inr (λ q. absurd (let both : None ≡ Some _ = sym is ∙ q.2.hears.entry in cc))
