-- What is claimed of a place of a run, or of two places, and of a history.
use Rattle.std.specs.Prelude.{ℕ, suc, ◌<◌, ◌≤◌, ◌≡◌, Some, None, List, slice_get}
use Rattle.agreement.specs.State.{Proposal, State}
use Rattle.agreement.specs.Event.{Event, Write, write_of}
use Rattle.agreement.specs.Chosen.{IsProposed, IsInput, IsChosenBy, IsChosen, HasChosen, IsProposing, IsCommitted}
use Rattle.agreement.specs.Log.{Slots}

-- ONE SLOT

-- what is chosen by a ballot is the value of each proposal of a greater ballot
abbrev pub BindsGreater : {Value : Type 0} → ℕ → State Value → Type 0
BindsGreater {Value} disks s =
    (b c : ℕ) (v : Value) (p : Proposal Value) → IsChosenBy disks s b v → b < c → s.proposed c ≡ Some p → p.value ≡ v

-- what is chosen at s, and what is chosen at t, is one value
abbrev pub OneChosen : {Value : Type 0} → ℕ → State Value → State Value → Type 0
OneChosen {Value} disks s t = (v u : Value) → IsChosen disks s v → IsChosen disks t u → u ≡ v

-- what is chosen at s is chosen at t, by the same ballot
abbrev pub StaysChosen : {Value : Type 0} → ℕ → State Value → State Value → Type 0
StaysChosen {Value} disks s t = (b : ℕ) (v : Value) → IsChosenBy disks s b v → IsChosenBy disks t b v

-- what is proposed at s is proposed at t, by the same ballot
abbrev pub StaysProposed : {Value : Type 0} → State Value → State Value → Type 0
StaysProposed {Value} s t = (b : ℕ) (p : Proposal Value) → s.proposed b ≡ Some p → t.proposed b ≡ Some p

-- one host, and one value
pub record IsSame {Value : Type 0} (h g : ℕ) (v u : Value) : Type 0 where
  pub host : g ≡ h
  pub value : u ≡ v

-- who proposes by a ballot at s, and who proposes by it at t, is one host with one value
abbrev pub OneProposal : {Value : Type 0} → State Value → State Value → Type 0
OneProposal {Value} s t = (h g b : ℕ) (v u : Value) → IsProposing s h b v → IsProposing t g b u → IsSame h g v u

-- whatever is proposed, one of the events put it in
abbrev pub OnlyInputs : {Value : Type 0} → List (Event Value) → State Value → Type 0
OnlyInputs {Value} events s = (b : ℕ) (v : Value) → IsProposed s.proposed b v → IsInput events v

-- what a host has committed is chosen, by its ballot
abbrev pub CommitsChosen : {Value : Type 0} → ℕ → State Value → Type 0
CommitsChosen {Value} disks s = (h b : ℕ) (v : Value) → IsCommitted disks s h b v → IsChosenBy disks s b v

-- what any host has committed at s, each host proposes at t, by that ballot or a greater one
abbrev pub Binds : {Value : Type 0} → ℕ → State Value → State Value → Type 0
Binds {Value} disks s t =
    (h g b c : ℕ) (v u : Value) → IsCommitted disks s h b v → b ≤ c → IsProposing t g c u → u ≡ v

-- nothing is chosen
abbrev pub NoneChosen : {Value : Type 0} → ℕ → State Value → Type 0
NoneChosen disks s = ¬ HasChosen disks s

-- where the write of a host's phase is due on a disk, nothing is in writing
abbrev pub WritesAtRest : {Value : Type 0} → State Value → Type 0
WritesAtRest {Value} s =
    (h d : ℕ) (w : Write Value) → write_of (s.mind h) ≡ Some w → suc (s.cell h d).stage ≡ w.stage → (s.cell h d).writing ≡ None

-- MANY SLOTS

-- where a slot has a proposal, each earlier slot has a chosen value
abbrev pub IsInOrder : {Value : Type 0} → ℕ → Slots Value → Type 0
IsInOrder {Value} disks c =
    (k b : ℕ) (p : Proposal Value) → (c.slot k).proposed b ≡ Some p → (j : ℕ) → j < k → HasChosen disks (c.slot j)

-- what a host has learned for a slot is chosen there
abbrev pub LearnsChosen : {Value : Type 0} → ℕ → Slots Value → Type 0
LearnsChosen {Value} disks c = (h k : ℕ) (v : Value) → slice_get (c.learned h) k ≡ Some v → IsChosen disks (c.slot k) v

-- what is chosen for a slot at c, and what is chosen for it at e, is one value
abbrev pub OneChosenEach : {Value : Type 0} → ℕ → Slots Value → Slots Value → Type 0
OneChosenEach disks c e = (k : ℕ) → OneChosen disks (c.slot k) (e.slot k)

-- what any host has learned for a slot at c, and any host at e, is one value
abbrev pub OneLog : {Value : Type 0} → Slots Value → Slots Value → Type 0
OneLog {Value} c e =
    (h g k : ℕ) (v u : Value) → slice_get (c.learned h) k ≡ Some v → slice_get (e.learned g) k ≡ Some u → u ≡ v

-- the values are the log: each is chosen in its slot, and no other value in any slot
pub record IsLog {Value : Type 0} (disks : ℕ) (c : Slots Value) (values : List Value) : Type 0 where
  pub chosen : (k : ℕ) (v : Value) → slice_get values k ≡ Some v → IsChosen disks (c.slot k) v
  pub all : (k : ℕ) (v : Value) → IsChosen disks (c.slot k) v → slice_get values k ≡ Some v

-- there is a log
abbrev pub HasLog : {Value : Type 0} → ℕ → Slots Value → Type 0
HasLog {Value} disks c = (values : List Value) × IsLog disks c values

-- the values stand at the beginning of the others
abbrev pub BeginsWith : {Value : Type 0} → List Value → List Value → Type 0
BeginsWith {Value} values longer = (k : ℕ) (v : Value) → slice_get values k ≡ Some v → slice_get longer k ≡ Some v

-- the log at c is the beginning of the log at e
abbrev pub LogGrows : {Value : Type 0} → ℕ → Slots Value → Slots Value → Type 0
LogGrows {Value} disks c e = (values longer : List Value) → IsLog disks c values → IsLog disks e longer → BeginsWith values longer

-- what any host has learned is the beginning of the log
abbrev pub LearnsLog : {Value : Type 0} → ℕ → Slots Value → Type 0
LearnsLog {Value} disks c = (h : ℕ) (values : List Value) → IsLog disks c values → BeginsWith (c.learned h) values

-- what is chosen is of slots below n
abbrev pub ChosenBelow : {Value : Type 0} → ℕ → Slots Value → ℕ → Type 0
ChosenBelow {Value} disks c n = (k : ℕ) (v : Value) → IsChosen disks (c.slot k) v → k < n

-- what any host has learned is of slots below n
abbrev pub LearnedBelow : {Value : Type 0} → Slots Value → ℕ → Type 0
LearnedBelow {Value} c n = (h k : ℕ) (v : Value) → slice_get (c.learned h) k ≡ Some v → k < n
