-- Guards, computed: each function here gives a proof of what its result says, or none. So a run of known events is computed.
use Rattle.std.specs.Prelude.{is_some, nat_lt, nat_le, option_map}
use Rattle.std.proofs.Common.{ℕ, zero, suc, ◌*◌, ◌<◌, ◌≤◌, ◌≡◌, ◌≢◌, ◌==◌, ◌⊎◌, inl, inr, Bool, true, false, not, Option, Some, None, List, [], ◌∷◌, ◌++◌, length, refl, sym, subst, ap, ◌∙◌, arith}
use Rattle.std.proofs.lemmas.Bool.{ltb-true, leb-true, eqb-true, eqb-false, not-true, cases_eq}
use Rattle.agreement.specs.Majority.{count, IsMajority}
use Rattle.agreement.specs.State.{HOSTS, owner_of, seen, wrote_one, read_one, wrote_two, Vote, Block, vote_in, Cell, Opened, Mind, Proposal, State, start}
use Rattle.agreement.specs.State.Mind.{Opening, One, Two}
use Rattle.agreement.specs.Event.{Write, write_of, is_at, IsReading, IsRow, IsOthers, IsLastVote, CanSee, MayPropose, Event, Allowed, IsRun, after}
use Rattle.agreement.specs.Event.Event.{Settles, Crashes, Stops, Starts, Drops, Sees, Takes, Begins, Confirms, ReadsOne, Proposes, ReadsTwo}
use Rattle.agreement.specs.Chosen.{IsChosenBy}
use Rattle.agreement.specs.Log.{Slots, IsNextSlot, Move, MayMove, moved, none_learned, IsHistory, slots_after}
use Rattle.agreement.specs.Log.Move.{At, Crash, Learn, Restart}
use Rattle.agreement.specs.Run.{AllMay}
use Rattle.agreement.proofs.Steps.{may_both}

-- A PROOF, OR NONE

-- what a test shows, where it passes
abbrev shown : {P : Type 0} (b : Bool) → (b ≡ true → P) → Option P
shown true by = Some (by refl)
shown false by = None

-- two facts, three, and four
abbrev both : {P Q : Type 0} → Option P → Option Q → Option (P × Q)
both (Some p) (Some q) = Some (p, q)
both p q = None

abbrev three : {P Q R : Type 0} → Option P → Option Q → Option R → Option (P × Q × R)
three p q r = option_map (λ e. (e.0, e.1.0, e.1.1)) (both p (both q r))

abbrev four : {P Q R S : Type 0} → Option P → Option Q → Option R → Option S → Option (P × Q × R × S)
four p q r s = option_map (λ e. (e.0, e.1.0, e.1.1.0, e.1.1.1)) (both p (both q (both r s)))

-- one of two facts
abbrev either : {P Q : Type 0} → Option P → Option Q → Option (P ⊎ Q)
either (Some p) q = Some (inl p)
either None q = option_map inr q

-- TWO THINGS COMPARED

-- two numbers are the same, one is not above the other, or is below it
abbrev same_number : (x y : ℕ) → Option (x ≡ y)
same_number x y = shown (x == y) (eqb-true x y)

abbrev not_above : (x y : ℕ) → Option (x ≤ y)
not_above x y = shown (nat_le x y) (leb-true x y)

abbrev below : (x y : ℕ) → Option (x < y)
below x y = shown (nat_lt x y) (ltb-true x y)

-- and what a host says and knows is the same, part by part
abbrev same_option : {A : Type 0} → ((x y : A) → Option (x ≡ y)) → (x y : Option A) → Option (x ≡ y)
same_option same None None = Some refl
same_option same (Some x) (Some y) = option_map (ap Some) (same x y)
same_option same x y = None

abbrev same_vote : (x y : Vote ℕ) → Option (x ≡ y)
same_vote x y = option_map (λ e. λ i. record { bal = e.0 i; inp = e.1 i }) (both (same_number x.bal y.bal) (same_option same_number x.inp y.inp))

abbrev same_block : (x y : Block ℕ) → Option (x ≡ y)
same_block x y = option_map (λ e. λ i. record { mbal = e.0 i; bal = (e.1 i).bal; inp = (e.1 i).inp }) (both (same_number x.mbal y.mbal) (same_vote (vote_in x) (vote_in y)))

abbrev same_write : (x y : Write ℕ) → Option (x ≡ y)
same_write x y = option_map (λ e. λ i. record { stage = e.0 i; block = e.1 i }) (both (same_number x.stage y.stage) (same_block x.block y.block))

abbrev same_mind : (x y : Mind ℕ) → Option (x ≡ y)
same_mind (Opening x) (Opening y) = option_map (λ e. λ i. Opening (record { top = e.0 i; own = e.1 i })) (both (same_number x.top y.top) (same_vote x.own y.own))
same_mind (One x) (One y) =
    option_map (λ e. λ i. One (record { ballot = e.0 i; own = e.1 i; best = e.2 i }))
    (three (same_number x.ballot y.ballot) (same_vote x.own y.own) (same_vote x.best y.best))
same_mind (Two x) (Two y) = option_map (λ e. λ i. Two (record { ballot = e.0 i; value = e.1 i })) (both (same_number x.ballot y.ballot) (same_number x.value y.value))
same_mind x y = None

-- THE OTHER HOSTS

-- what is so of each other host below n, and of host n where it is another, is so of each below n + 1
pub one_more : (P : ℕ → Type 0) (n h : ℕ) → ((g : ℕ) → g < n → g ≢ h → P g) × ((n ≡ h) ⊎ P n) → (g : ℕ) → g < suc n → g ≢ h → P g
one_more P n h (before, here) g within other = elim (cases_eq g n) [
  | inl same ↦ elim here [ inl own ↦ absurd (other (same ∙ own)) | inr p ↦ subst P (sym same) p ]
  | inr differs ↦ before g (omega arith) other
]

-- something of each other host below n
abbrev each_other : {P : ℕ → Type 0} (n h : ℕ) → ((g : ℕ) → Option (P g)) → Option ((g : ℕ) → g < n → g ≢ h → P g)
each_other zero h look = Some (λ g within. absurd (omega arith))
each_other {P} (suc n) h look = option_map (one_more P n h) (both (each_other n h look) (either (same_number n h) (look n)))

-- what is so of another host below n, or of host n where it is another, is so of one below n + 1
pub one_of_more : (P : ℕ → Type 0) (n h : ℕ) → ((g : ℕ) × (g < n) × ((g ≢ h) × P g)) ⊎ ((n ≢ h) × P n) → (g : ℕ) × (g < suc n) × ((g ≢ h) × P g)
one_of_more P n h (inl (g, within, p)) = (g, omega arith, p)
one_of_more P n h (inr p) = (n, omega arith, p)

-- something of one of them
abbrev some_other : {P : ℕ → Type 0} (n h : ℕ) → ((g : ℕ) → Option (P g)) → Option ((g : ℕ) × (g < n) × ((g ≢ h) × P g))
some_other zero h look = None
some_other {P} (suc n) h look =
    option_map (one_of_more P n h) (either (some_other n h look) (both (shown (not (n == h)) (λ e. eqb-false n h (not-true (n == h) e))) (look n)))

-- WHAT AN EVENT NEEDS

-- a read gives this block
abbrev reading : (c : Cell ℕ) (x : Block ℕ) → Option (IsReading c x)
reading c x = either (same_block x c.confirmed) (same_option same_block c.writing (Some x))

-- the row is read
abbrev row_read : (s : State ℕ) (h d ballot : ℕ) (row : ℕ → Block ℕ) → Option (IsRow s h d ballot row)
row_read s h d ballot row =
    option_map (λ e. record { reads = e.0; below = e.1 })
    (both (each_other HOSTS h (λ g. reading (s.cell g d) (row g))) (each_other HOSTS h (λ g. not_above (row g).mbal ballot)))

-- the new vote is the last, where no block that is read has a later one, and one of them may have it
abbrev last_vote : {IsRead : Block ℕ → Type 0} (old new : Vote ℕ) → Option ((x : Block ℕ) → IsRead x → x.bal ≤ new.bal) → Option ((x : Block ℕ) × IsRead x × (new ≡ vote_in x)) → Option (IsLastVote IsRead old new)
last_vote old new reached found =
    option_map (λ e. record { kept = e.0; reached = e.1; picked = e.2 }) (three (not_above old.bal new.bal) reached (either (same_vote new old) found))

-- a host sees its own block
abbrev own_seen : (c : Cell ℕ) (old new : Opened ℕ) → Option (CanSee c old new)
own_seen c old new =
    option_map (λ e. record { settled = e.0; top_kept = e.1; top_reached = e.2; own = e.3 })
    (four (same_option same_block c.writing None) (not_above old.top new.top) (not_above c.confirmed.mbal new.top)
    (last_vote old.own new.own (option_map (λ low x is. rw is low) (not_above c.confirmed.bal new.own.bal))
    (option_map (λ same. (c.confirmed, refl, same)) (same_vote new.own (vote_in c.confirmed)))))

-- a host finds this vote in the row
abbrev vote_found : (h : ℕ) (row : ℕ → Block ℕ) (old new : Vote ℕ) → Option (IsLastVote (IsOthers h row) old new)
vote_found h row old new =
    last_vote old new (option_map (λ low x (g, within, other, is). rw is (low g within other)) (each_other HOSTS h (λ g. not_above (row g).bal new.bal)))
    (option_map (λ (g, within, (other, same)). (row g, (g, within, other, refl), same)) (some_other HOSTS h (λ g. same_vote new (vote_in (row g)))))

-- a majority of the disks passes
abbrev majority : (disks : ℕ) (passes : ℕ → Bool) → Option (IsMajority disks passes)
majority disks passes = below disks (2 * count disks passes)

-- the value may be proposed
abbrev proposable : (found : Option ℕ) (value : ℕ) → Option (MayPropose found value)
proposable None value = Some tt
proposable (Some found) value = same_number value found

-- the event is allowed; a crash, which leaves something of every host, is not looked at
abbrev allowed : (disks : ℕ) (s : State ℕ) (e : Event ℕ) → Option (Allowed disks s e)
allowed disks s (Settles h d x) = reading (s.cell h d) x
allowed disks s (Crashes d left) = None
allowed disks s (Stops h) = Some tt
allowed disks s (Starts h) = Some tt
allowed disks s (Drops h d) = Some tt
allowed disks s (Sees h d old new) = both (same_mind (s.mind h) (Opening old)) (own_seen (s.cell h d) old new)
allowed disks s (Takes h o ballot) =
    four (same_mind (s.mind h) (Opening o)) (same_number (owner_of ballot) h) (below o.top ballot) (majority disks (is_at seen (s.cell h)))
allowed disks s (Begins h d w) =
    three (same_option same_write (write_of (s.mind h)) (Some w)) (same_number (suc (s.cell h d).stage) w.stage) (same_option same_block (s.cell h d).writing None)
allowed disks s (Confirms h d w) =
    three (same_option same_write (write_of (s.mind h)) (Some w)) (same_number (s.cell h d).stage w.stage) (same_option same_block (s.cell h d).writing (Some w.block))
allowed disks s (ReadsOne h d row a best) =
    four (same_mind (s.mind h) (One a)) (same_number (s.cell h d).stage wrote_one) (row_read s h d a.ballot row) (vote_found h row a.best best)
allowed disks s (Proposes h a value) =
    both (option_map (λ e. record { asking = e.0; majority = e.1 }) (both (same_mind (s.mind h) (One a)) (majority disks (is_at read_one (s.cell h)))))
    (proposable a.best.inp value)
allowed disks s (ReadsTwo h d row t) = three (same_mind (s.mind h) (Two t)) (same_number (s.cell h d).stage wrote_two) (row_read s h d t.ballot row)

-- WHAT A MOVE NEEDS

-- a proposal is in the next slot
abbrev next_slot : (c : Slots ℕ) (k : ℕ) (e : Event ℕ) → Option (IsNextSlot c k e)
next_slot c k (Proposes h a value) = same_number k (length (c.learned h))
next_slot c k other = Some tt

-- a ballot has a proposal of this value
abbrev proposed : (o : Option (Proposal ℕ)) (v : ℕ) → Option ((p : Proposal ℕ) × (o ≡ Some p) × (p.value ≡ v))
proposed None v = None
proposed (Some p) v = option_map (λ same. (p, refl, same)) (same_number p.value v)

-- the value is chosen by the ballot
abbrev chosen_by : (disks : ℕ) (s : State ℕ) (ballot v : ℕ) → Option (IsChosenBy disks s ballot v)
chosen_by disks s ballot v =
    option_map (λ e. record { proposed = record { proposal = e.0.0; is = e.0.1; value = e.0.2 }; majority = e.1 })
    (both (proposed (s.proposed ballot) v) (majority disks (s.accepted ballot)))

-- the move may be made; a crash of every slot is not looked at
abbrev may_move : (disks : ℕ) (c : Slots ℕ) (m : Move ℕ) → Option (MayMove disks c m)
may_move disks c (At k e) = both (allowed disks (c.slot k) e) (next_slot c k e)
may_move disks c (Crash d left) = None
may_move disks c (Learn h k ballot v) = both (same_number k (length (c.learned h))) (chosen_by disks (c.slot k) ballot v)
may_move disks c (Restart h) = Some tt

-- ONE AFTER ANOTHER

-- each may happen where it stands
abbrev all_may : {State Step : Type 0} (after : State → Step → State) {May : State → Step → Type 0} → ((s : State) (e : Step) → Option (May s e)) → (s : State) (es : List Step) → Option (AllMay after May s es)
all_may after look s [] = Some tt
all_may after look s (e ∷ es) = both (look s e) (all_may after look (after s e) es)

-- what computes to a proof is proved
looked_at : {P : Type 0} (o : Option P) → is_some o ≡ true → P
looked_at (Some p) e = p
looked_at None e = absurd (cc)

-- So events that are looked at are a run, and moves that are looked at go on with a history.
pub run_looked_at : (disks : ℕ) (es : List (Event ℕ)) → is_some (all_may after (allowed disks) start es) ≡ true → IsRun disks es
run_looked_at disks es = looked_at (all_may after (allowed disks) start es)

pub moves_looked_at : (disks : ℕ) (early late : List (Move ℕ)) → IsHistory disks early → is_some (all_may moved (may_move disks) (slots_after early) late) ≡ true → IsHistory disks (early ++ late)
moves_looked_at disks early late is_history looked =
    may_both moved (MayMove disks) none_learned early late is_history (looked_at (all_may moved (may_move disks) (slots_after early) late) looked)
