-- The rows that an attempt has read, with one answer more: what follows from them stays, or takes the new row in.
use Rattle.std.proofs.Common.{ℕ, zero, suc, ◌+◌, ◌<◌, ◌≤◌, ◌≡◌, ◌≢◌, max, inl, inr, Option, Some, None, List, [], ◌∷◌, ◌++◌, length, is_some, refl, sym, ap, ap₂, ◌∙◌, arith}
use Rattle.std.proofs.lemmas.Bool.{cases_eq}
use Rattle.paxos_block.specs.Saying.{Said}
use Rattle.paxos_block.specs.Row.{DecodedBlock}
use Rattle.paxos_block.specs.Votes.{says_in, greatest, highest_mbal, highest_mbal_of_others, later_of, latest_in, marked_in, ballot_above}
use Rattle.paxos_block.proofs.VoteLemmas.{greatest_same}
use Rattle.attempt.specs.Calls.{Phase, Opening, One, goal}
use Rattle.attempt.specs.Answers.{Heard, Told, Answers, told, row_in, more}
use Rattle.attempt.specs.Setup.{Setup}
use Rattle.attempt.specs.Proposal.{top_in, highest, ballot, own_in, own_below, own, best_in, best_below, best, or_else, proposal, decided_in, decided_below, decided, others_top, others_mbal}
use Rattle.attempt.specs.Status.{is_opened}
use Rattle.attempt.proofs.Lists.{length_more, row_kept, row_last, row_none, row_same}
use Rattle.attempt.proofs.More.{more_here, more_there, by_disk}

-- THE SAME ROWS

-- two lists of answers have the same rows of a phase
abbrev pub AreSameRows : Phase → Answers → Answers → Type 0
AreSameRows p f g = (e : ℕ) → row_in p (f e) ≡ row_in p (g e)

module _ (s : Setup) (f g : Answers) where
  -- the opening's rows give the ballot
  pub highest_same : AreSameRows Opening f g → highest s f ≡ highest s g
  highest_same same = ap (max s.floor) (greatest_same s.disks (λ d. top_in s.version (row_in Opening (f d))) (λ d. top_in s.version (row_in Opening (g d))) (λ e l. ap (top_in s.version) (same e)))

  -- and so the ballot itself
  pub ballot_same : AreSameRows Opening f g → ballot s f ≡ ballot s g
  ballot_same same = ap (ballot_above s.version s.host) (highest_same same)

  -- and the own latest vote
  pub own_same : AreSameRows Opening f g → (n : ℕ) → own_below s f n ≡ own_below s g n
  own_same same zero = refl
  own_same same (suc n) = ap₂ (own_in s.host) (own_same same n) (same n)

  -- and what is decided
  pub decided_same_below : AreSameRows Opening f g → (n : ℕ) → decided_below s f n ≡ decided_below s g n
  decided_same_below same zero = refl
  decided_same_below same (suc n) = ap₂ (λ (before : Option (List ℕ)) (row : Option (List DecodedBlock)). or_else before (decided_in s.version row)) (decided_same_below same n) (same n)

  pub decided_same : AreSameRows Opening f g → decided s f ≡ decided s g
  decided_same same = decided_same_below same s.disks

  -- those of phase 1 the proposal
  pub best_same : AreSameRows Opening f g → AreSameRows One f g → (n : ℕ) → best_below s f n ≡ best_below s g n
  best_same opening one zero = own_same opening s.disks
  best_same opening one (suc n) = ap₂ (best_in s.version s.host) (best_same opening one n) (one n)

  -- and the proposal itself
  pub proposal_same : AreSameRows Opening f g → AreSameRows One f g → proposal s f ≡ proposal s g
  proposal_same opening one = ap (λ (vote : Said). or_else vote.inp s.input) (best_same opening one s.disks)

  -- those of a phase the other hosts' mbal in it
  pub others_same : (p : Phase) → AreSameRows p f g → others_mbal s p f ≡ others_mbal s p g
  others_same p same = greatest_same s.disks (λ d. others_top s.version s.host (row_in p (f d))) (λ d. others_top s.version s.host (row_in p (g d))) (λ e l. ap (others_top s.version s.host) (same e))

  -- and the disks that were opened
  pub opened_same : AreSameRows Opening f g → (d : ℕ) → is_opened f d ≡ is_opened g d
  opened_same same d = ap is_some (same d)

-- ONE ANSWER MORE

module _ (f : Answers) (d : ℕ) (x : Heard) where
  -- an answer that tells no row leaves all rows
  pub rows_stay : told x ≡ None → (p : Phase) → AreSameRows p (more f d x) f
  rows_stay none p = by_disk f d x (λ e a. row_in p a ≡ row_in p (f e)) (row_same p (f d) x none) (λ e off. refl)

  -- any answer leaves those of a phase that is over on the disk
  pub rows_kept : (p : Phase) → goal p ≤ length (f d) → AreSameRows p (more f d x) f
  rows_kept p over = by_disk f d x (λ e a. row_in p a ≡ row_in p (f e)) (row_kept p (f d) x over) (λ e off. refl)

  -- and those of a phase that is not over with it
  pub rows_early : (p : Phase) → length (f d) + 1 < goal p → AreSameRows p (more f d x) f
  rows_early p early = by_disk f d x (λ e a. row_in p a ≡ row_in p (f e)) (row_none p (f d ++ x ∷ []) (omega (arith, length_more (f d) x)) ∙ sym (row_none p (f d) (omega arith))) (λ e off. refl)

-- A FOLD OVER DISKS

-- At disk d a row comes in where there was none, and behind d there are none.
module _ {A : Type 0} (step : A → Option (List DecodedBlock) → A) (none : (a : A) → step a None ≡ a)
    (rows new_rows : ℕ → Option (List DecodedBlock)) (d disks : ℕ) (row : Option (List DecodedBlock))
    (is : new_rows d ≡ row) (there : (e : ℕ) → e ≢ d → new_rows e ≡ rows e) (behind : (e : ℕ) → d ≤ e → e < disks → rows e ≡ None)
    (fold new_fold : ℕ → A) (at_zero : new_fold 0 ≡ fold 0) (at_suc : (n : ℕ) → fold (suc n) ≡ step (fold n) (rows n)) (new_suc : (n : ℕ) → new_fold (suc n) ≡ step (new_fold n) (new_rows n)) where
  fold_before : (n : ℕ) → n ≤ d → new_fold n ≡ fold n
  fold_before zero l = at_zero
  fold_before (suc n) l =
      new_suc n ∙ ap₂ step (fold_before n (omega arith)) (there n (λ e. omega arith)) ∙ sym (at_suc n)

  -- the fold takes it in last
  pub fold_takes : (n : ℕ) → d < n → n ≤ disks → new_fold n ≡ step (fold n) row
  fold_takes zero l u = absurd (omega arith)
  fold_takes (suc n) l u =
      let empty : rows n ≡ None = behind n (omega arith) (omega arith) in
      let old : fold (suc n) ≡ fold n = at_suc n ∙ ap (step (fold n)) empty ∙ none (fold n) in
      elim (cases_eq n d) [
        | inl e ↦ new_suc n ∙ ap₂ step (fold_before n (omega arith)) (ap new_rows e ∙ is) ∙ ap (λ a. step a row) (sym old)
        | inr off ↦ new_suc n ∙ ap (step (new_fold n)) (there n off ∙ empty) ∙ none (new_fold n) ∙ fold_takes n (omega arith) (omega arith) ∙ ap (λ a. step a row) (sym old)
      ]

-- A ROW MORE

-- the disk's next answer is the last of a phase, and no disk behind it has a row of the phase
pub record IsLast (s : Setup) (p : Phase) (d : ℕ) (f : Answers) : Type 0 where
  pub below : d < s.disks
  pub last : length (f d) + 1 ≡ goal p
  pub behind : (e : ℕ) → d < e → e < s.disks → row_in p (f e) ≡ None

-- nothing more is nothing new
or_none : (before : Option (List ℕ)) → or_else before None ≡ before
or_none None = refl
or_none (Some value) = refl

-- a phase without rows adds no votes
pub best_none : (s : Setup) (f : Answers) (n : ℕ) → ((e : ℕ) → e < n → row_in One (f e) ≡ None) → best_below s f n ≡ own s f
best_none s f zero none = refl
best_none s f (suc n) none =
    ap (best_in s.version s.host (best_below s f n)) (none n (omega arith)) ∙ best_none s f n (λ e l. none e (omega arith))

module _ (s : Setup) (f : Answers) (d : ℕ) (row : List DecodedBlock) where
  -- the answers with this row
  abbrev new : Answers
  new = more f d (Told (Some row))

  -- it is the disk's row of the phase
  row_here : (p : Phase) → IsLast s p d f → row_in p (new d) ≡ Some row
  row_here p is = ap (row_in p) (more_here f d (Told (Some row))) ∙ row_last p (f d) (Told (Some row)) is.last

  -- the others keep theirs
  row_there : (p : Phase) (e : ℕ) → e ≢ d → row_in p (new e) ≡ row_in p (f e)
  row_there p e off = ap (row_in p) (more_there f d (Told (Some row)) e off)

  -- from the disk on there was none
  from_here : (p : Phase) → IsLast s p d f → (e : ℕ) → d ≤ e → e < s.disks → row_in p (f e) ≡ None
  from_here p is e l u = elim (cases_eq e d) [
    | inl same ↦ ap (λ (k : ℕ). row_in p (f k)) same ∙ row_none p (f d) (omega (arith, is.last))
    | inr off ↦ is.behind e (omega arith) u
  ]

  -- what is greatest of all rows takes this one in
  greatest_takes : (p : Phase) (of_row : Option (List DecodedBlock) → ℕ) → of_row None ≡ 0 → IsLast s p d f
      → greatest s.disks (λ e. of_row (row_in p (new e))) ≡ max (greatest s.disks (λ e. of_row (row_in p (f e)))) (of_row (Some row))
  greatest_takes p of_row zeroed is =
      fold_takes (λ (a : ℕ) o. max a (of_row o)) (λ a. omega (arith, zeroed)) (λ e. row_in p (f e)) (λ e. row_in p (new e)) d s.disks (Some row)
      (row_here p is) (row_there p) (from_here p is)
      (λ n. greatest n (λ e. of_row (row_in p (f e)))) (λ n. greatest n (λ e. of_row (row_in p (new e)))) refl (λ n. refl) (λ n. refl)
      s.disks is.below (omega arith)

  -- a row of the opening: the greatest mbal is the old one or one of the row's
  pub highest_takes : IsLast s Opening d f → highest s new ≡ max (highest s f) (highest_mbal s.version row)
  highest_takes is = let top = greatest_takes Opening (top_in s.version) refl is in omega (arith, top)

  -- a row of phase 1 or 2: so is that of other hosts
  pub others_takes : (p : Phase) → IsLast s p d f → others_mbal s p new ≡ max (others_mbal s p f) (highest_mbal_of_others s.version s.host row)
  others_takes p is = greatest_takes p (others_top s.version s.host) refl is

  -- a row of the opening: the own latest vote is the old one or the row's
  pub own_takes : IsLast s Opening d f → own s new ≡ later_of (own s f) (says_in row s.host)
  own_takes is =
      fold_takes (own_in s.host) (λ a. refl) (λ e. row_in Opening (f e)) (λ e. row_in Opening (new e)) d s.disks (Some row)
      (row_here Opening is) (row_there Opening) (from_here Opening is)
      (own_below s f) (own_below s new) refl (λ n. refl) (λ n. refl)
      s.disks is.below (omega arith)

  -- a row of the opening: what is decided was before, or the row shows it
  pub decided_takes : IsLast s Opening d f → decided s new ≡ or_else (decided s f) (marked_in s.version row)
  decided_takes is =
      fold_takes (λ (before : Option (List ℕ)) (o : Option (List DecodedBlock)). or_else before (decided_in s.version o)) or_none (λ e. row_in Opening (f e)) (λ e. row_in Opening (new e)) d s.disks (Some row)
      (row_here Opening is) (row_there Opening) (from_here Opening is)
      (decided_below s f) (decided_below s new) refl (λ n. refl) (λ n. refl)
      s.disks is.below (omega arith)

  -- before phase 1 the latest vote is the own one, and takes the row in likewise
  pub best_opens : IsLast s Opening d f → ((e : ℕ) → e < s.disks → row_in One (f e) ≡ None) → best s new ≡ later_of (best s f) (says_in row s.host)
  best_opens is none =
      let early : AreSameRows One new f = rows_early f d (Told (Some row)) One (omega (arith, is.last)) in
      best_none s new s.disks (λ e l. early e ∙ none e l)
      ∙ own_takes is
      ∙ ap (λ (vote : Said). later_of vote (says_in row s.host)) (sym (best_none s f s.disks none))

  -- a row of phase 1: the latest vote is the old one or the latest of the row
  pub best_takes : IsLast s One d f → best s new ≡ latest_in s.version s.host row (best s f)
  best_takes is =
      fold_takes (best_in s.version s.host) (λ a. refl) (λ e. row_in One (f e)) (λ e. row_in One (new e)) d s.disks (Some row)
      (row_here One is) (row_there One) (from_here One is)
      (best_below s f) (best_below s new) (own_same s new f (rows_kept f d (Told (Some row)) Opening (omega (arith, is.last))) s.disks) (λ n. refl) (λ n. refl)
      s.disks is.below (omega arith)
