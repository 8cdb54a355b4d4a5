-- What was proposed stays so, and what was accepted; and what holds of blocks and votes stays with it.
use Rattle.std.proofs.Common.{ℕ, ◌≡◌, inl, inr, true, Some, arith}
use Rattle.agreement.specs.State.{Vote, Block, Proposal, State}
use Rattle.agreement.specs.Chosen.{IsProposed, IsChosenBy, IsChosen, HasChosen}
use Rattle.agreement.proofs.Invariant.{Proposals, IsBacked, IsVoteOf, IsBlockOf, IsNext}
use Rattle.agreement.proofs.Majorities.{count_le}

module _ {Value : Type 0} {proposed now : Proposals Value} (stays : (b : ℕ) (p : Proposal Value) → proposed b ≡ Some p → now b ≡ Some p) where
  -- a value that is proposed, a vote, a block, and what may be read
  pub proposed_stays : {b : ℕ} {v : Value} → IsProposed proposed b v → IsProposed now b v
  proposed_stays {b} k = record { proposal = k.proposal; is = stays b k.proposal k.is; value = k.value }

  pub backed_stays : {vote : Vote Value} → IsBacked proposed vote → IsBacked now vote
  backed_stays (inl none) = inl none
  backed_stays (inr (v, is, k)) = inr (v, is, proposed_stays k)

  pub vote_stays : {h : ℕ} {vote : Vote Value} → IsVoteOf proposed h vote → IsVoteOf now h vote
  vote_stays k = record { backed = backed_stays k.backed; owned = k.owned }

  pub block_stays : {h : ℕ} {x : Block Value} → IsBlockOf proposed h x → IsBlockOf now h x
  block_stays k = record { low = k.low; vote = vote_stays k.vote }

  pub next_stays : {h : ℕ} {confirmed x : Block Value} → IsNext proposed h confirmed x → IsNext now h confirmed x
  next_stays k = record { block = block_stays k.block; mbal = k.mbal; bal = k.bal }

pub record Grows {Value : Type 0} (old new : State Value) : Type 0 where
  pub proposed : (b : ℕ) (p : Proposal Value) → old.proposed b ≡ Some p → new.proposed b ≡ Some p
  pub accepted : (b d : ℕ) → old.accepted b d ≡ true → new.accepted b d ≡ true

pub grown_none : {Value : Type 0} (s : State Value) → Grows s s
grown_none s = record { proposed = λ b p made. made; accepted = λ b d acc. acc }

-- at two steps as at one
pub grown : {Value : Type 0} (r s t : State Value) → Grows r s → Grows s t → Grows r t
grown r s t one two = record { proposed = λ b p made. two.proposed b p (one.proposed b p made); accepted = λ b d acc. two.accepted b d (one.accepted b d acc) }

module _ {Value : Type 0} (disks : ℕ) (old new : State Value) (g : Grows old new) where
  -- so what is chosen stays so
  pub chosen_stays : (b : ℕ) (v : Value) → IsChosenBy disks old b v → IsChosenBy disks new b v
  chosen_stays b v k = record {
    proposed = proposed_stays g.proposed k.proposed;
    majority = let more = count_le disks (old.accepted b) (new.accepted b) (g.accepted b) in let most = k.majority in omega arith;
  }

  pub value_stays : (v : Value) → IsChosen disks old v → IsChosen disks new v
  value_stays v (b, k) = (b, chosen_stays b v k)

  pub has_chosen_stays : HasChosen disks old → HasChosen disks new
  has_chosen_stays (v, k) = (v, value_stays v k)
