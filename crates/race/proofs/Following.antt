-- What follows of every race, and the bytes of a bid.
use Rattle.std.specs.Prelude.{IsTrue, replicate}
use Rattle.std.proofs.Common.{◌≡◌, ◌<◌, ◌≤◌, ℕ, Bool, List, ◌∷◌, length, take, slice_get, slice_index_or, Some, inl, inr, refl, sym, ap, subst, ◌∙◌, arith}
use Rattle.std.proofs.Math.Seq.{take-length}
use Rattle.std.proofs.lemmas.Bool.{cases_lt}
use Rattle.std.proofs.lemmas.List.{take-take}
use Rattle.lock_command.specs.declared.command.Command.{Command}
use Rattle.lock_command.specs.Command.{number, spelling}
use Rattle.lock_command.specs.declared.reply.Reply.{Reply}
use Rattle.host.specs.Host.{learned_of}
use Rattle.world.specs.Entry.{Filled}
use Rattle.world.specs.World.{world}
use Rattle.world.specs.Headline.{IsPrefix}
use Rattle.race.specs.Agreement.{Agree}
use Rattle.race.specs.Answers.{IsPlaced, IsAnswer}
use Rattle.race.specs.Bids.{bid_of}
use Rattle.race.specs.Race.{track, IsRace}
use Rattle.race.specs.declared.answer.Answer.{Answer}
use Rattle.race.specs.declared.answer.Answer.TheVariants.{Acknowledged}

-- BYTES

pub first_bid : spelling (bid_of 0) ≡ (1 ∷ 0 ∷ 0 ∷ 5 ∷ 0 ∷ 2 ∷ 0 ∷ 1 ∷ 0 ∷ 0 ∷ 0 ∷ 0 ∷ 0 ∷ 0 ∷ 0 ∷ 1 ∷ 0 ∷ 100 ∷ 98 ∷ replicate 29 0)
unfolding number
first_bid = refl

pub third_bid : spelling (bid_of 2) ≡ (1 ∷ 2 ∷ 2 ∷ 5 ∷ 0 ∷ 2 ∷ 0 ∷ 3 ∷ 0 ∷ 0 ∷ 0 ∷ 0 ∷ 0 ∷ 0 ∷ 0 ∷ 1 ∷ 0 ∷ 100 ∷ 98 ∷ replicate 29 0)
unfolding number
third_bid = refl

-- THE HOSTS AGREE

-- a shorter beginning of a list begins a longer one
begins_in : (a b l : List Command) → IsPrefix a l → IsPrefix b l → length a ≤ length b → IsPrefix a b
begins_in a b l first second less = first ∙ sym (take-take (length a) (length b) l less) ∙ ap (take (length a)) (sym second)

-- of two beginnings of a list one begins the other
agree_in : (a b l : List Command) → IsPrefix a l → IsPrefix b l → Agree a b
agree_in a b l first second = elim (cases_lt (length b) (length a)) [
  | inl shorter ↦ inr (begins_in b a l second first (omega arith))
  | inr longer ↦ inl (begins_in a b l first second longer)
]

module _ (hosts : ℕ) (answers : List Answer) (agree : Bool) (race : IsRace hosts answers agree) where
  prefix : (h : ℕ) → IsPrefix (learned_of ((world track race.log).host h)) race.commands
  prefix h = subst (λ (l : List Filled). IsPrefix (learned_of ((world track l).host h)) race.commands) (take-length race.log) (race.safe.prefix (length race.log) h)

  pub agrees : IsTrue agree
  agrees = race.agree_is.1 (λ i j one other. agree_in (learned_of ((world track race.log).host i)) (learned_of ((world track race.log).host j)) race.commands (prefix i) (prefix j))

  -- A SLOT OF ITS OWN

  stands : (h slot : ℕ) (reply : Reply) (d : Answer) → h < hosts → slice_index_or answers h d ≡ Acknowledged slot reply → slice_get race.commands slot ≡ Some (bid_of h)
  stands h slot reply d few is = let placed : IsPlaced track race.log race.commands h slot reply = subst (IsAnswer track race.log race.commands h) is (race.each h d few) in placed.stands

  pub apart : (h g slot : ℕ) (d : Answer) (reply other : Reply) → h < hosts → g < hosts → slice_index_or answers h d ≡ Acknowledged slot reply → slice_index_or answers g d ≡ Acknowledged slot other → h ≡ g
  apart h g slot d reply other one two first second =
      let both : Some (bid_of h) ≡ Some (bid_of g) = sym (stands h slot reply d one first) ∙ stands g slot other d two second in
      let same : bid_of h ≡ bid_of g = cc both in
      ap (λ (b : Command). b.host) same
