-- What is put in, proposed, committed and chosen in a slot.
use Rattle.std.specs.Prelude.{ℕ, ◌≡◌, ◌⊎◌, Option, Some, None, List, [], ◌∷◌}
use Rattle.agreement.specs.Majority.{IsMajority}
use Rattle.agreement.specs.State.{read_two, Asking, Proposal, State}
use Rattle.agreement.specs.State.Mind.{Two}
use Rattle.agreement.specs.Event.{Event, is_at, IsPrepared}
use Rattle.agreement.specs.Event.Event.{Proposes}

-- v is the value of the ballot's proposal
pub record IsProposed {Value : Type 0} (proposed : ℕ → Option (Proposal Value)) (ballot : ℕ) (v : Value) : Type 0 where
  pub proposal : Proposal Value
  pub is : proposed ballot ≡ Some proposal
  pub value : proposal.value ≡ v

-- v is chosen by the ballot: proposed in it, and the ballot is accepted on a majority of the disks
pub record IsChosenBy {Value : Type 0} (disks : ℕ) (s : State Value) (ballot : ℕ) (v : Value) : Type 0 where
  pub proposed : IsProposed s.proposed ballot v
  pub majority : IsMajority disks (s.accepted ballot)

-- v is chosen, by some ballot
abbrev pub IsChosen : {Value : Type 0} → ℕ → State Value → Value → Type 0
IsChosen disks s v = (ballot : ℕ) × IsChosenBy disks s ballot v

-- some value is chosen
abbrev pub HasChosen : {Value : Type 0} → ℕ → State Value → Type 0
HasChosen {Value} disks s = (v : Value) × IsChosen disks s v

-- h is in phase 2 of this ballot, and proposes v
abbrev pub IsProposing : {Value : Type 0} → State Value → ℕ → ℕ → Value → Type 0
IsProposing s h ballot v = s.mind h ≡ Two (record { ballot = ballot; value = v })

-- h has committed v: its phase 2 is complete on a majority of the disks
pub record IsCommitted {Value : Type 0} (disks : ℕ) (s : State Value) (h ballot : ℕ) (v : Value) : Type 0 where
  pub proposing : IsProposing s h ballot v
  pub majority : IsMajority disks (is_at read_two (s.cell h))

-- h has prepared its ballot, and found no vote
pub record IsEmpty {Value : Type 0} (disks : ℕ) (s : State Value) (h : ℕ) : Type 0 where
  pub asking : Asking Value
  pub prepared : IsPrepared disks s h asking
  pub no_input : asking.best.inp ≡ None

-- WHERE VALUES COME FROM

-- the event puts in v: a host that has found no vote proposes it
abbrev pub PutsIn : {Value : Type 0} → Event Value → Value → Type 0
PutsIn (Proposes h a value) v = (a.best.inp ≡ None) × (value ≡ v)
PutsIn other v = ⊥

-- one of the events puts in v
abbrev pub IsInput : {Value : Type 0} → List (Event Value) → Value → Type 0
IsInput [] v = ⊥
IsInput (e ∷ es) v = PutsIn e v ⊎ IsInput es v
