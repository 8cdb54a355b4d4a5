-- How a round goes on with an answer: what is kept follows from the answers with one more.
use Rattle.std.proofs.Common.{ℕ, suc, ◌+◌, ◌*◌, ◌<◌, ◌≡◌, Bool, true, false, cond, not, Option, Some, None, List, [], ◌∷◌, ◌++◌, length, refl, sym, subst, ap, ◌∙◌, arith, inl, inr}
use Rattle.std.specs.Prelude.{◌&&◌, ◌||◌, ◌==◌, nat_lt, nat_le, if◌then◌else◌}
use Rattle.std.proofs.lemmas.Bool.{cases_eq, lt-ltb, le-ltb, leb-true, leb-false, eqb-true}
use Rattle.attempt.specs.Heard.{Heard, Answers, more, is_bad}
use Rattle.attempt.specs.Numbers.{count}
use Rattle.attempt.proofs.Firsts.{below_none, below_some, count_same, count_from, count_next}
use Rattle.attempt.proofs.More.{more_here, more_there}
use Rattle.attempt.proofs.Lists.{bad_more}
use Rattle.rounds.specs.Status.{Duty, Due, Ended, status, visited, are_enough, is_stuck, is_left, is_held, waits, read_in, calls_on, due_or}
use Rattle.rounds.specs.Kept.{IsPassed, IsVisiting, IsOver, IsAt, Follows, Stands, goes_on}
use Rattle.rounds.specs.declared.end.End.TheVariants as end
use Rattle.rounds.specs.declared.round.Round.{Round}
use Rattle.rounds.specs.declared.round.Stage.TheVariants as stage

-- the first three calls come on each disk
pub early : (t : Bool) (k : ℕ) → k < 3 → nat_lt k (if t then 9 else 3) ≡ true
early true k less = lt-ltb k 9 (omega arith)
early false k less = lt-ltb k 3 less

module _ {A : Type 0} (w : Duty A) where
  -- A DISK THAT IS DROPPED

  -- a disk with a bad answer is not left
  pub bad_not_left : (a : List (Heard A)) (x : Heard A) → is_bad x ≡ true → is_left w (a ++ x ∷ []) ≡ false
  bad_not_left a x bad = ap (λ (b : Bool). b && not (is_stuck w (a ++ x ∷ []))) (bad_more a x bad)

  -- one that is not left waits for nothing, and does not count
  pub not_left_waits : (a : List (Heard A)) → is_left w a ≡ false → waits w a ≡ false
  not_left_waits a left = ap (λ (b : Bool). b && nat_lt (length a) (calls_on w a)) left

  pub not_left_held : (a : List (Heard A)) → is_left w a ≡ false → is_held w a ≡ false
  not_left_held a left = ap (λ (b : Bool). b && (w.is_so (read_in a) || nat_le 9 (length a))) left

  -- ONE ANSWER MORE

  module _ (f : Answers A) (n : Round) (is : IsVisiting w f n) (x : Heard A) where
    abbrev g : Answers A
    g = more f n.disk x

    before : (e : ℕ) → e < n.disk → g e ≡ f e
    before e less = more_there f n.disk x e (λ same. absurd (omega arith))

    pub ahead_still : (e : ℕ) → n.disk < e → g e ≡ []
    ahead_still e later = more_there f n.disk x e (λ same. absurd (omega arith)) ∙ is.ahead e later

    left_before : count n.disk (λ e. is_left w (g e)) ≡ count n.disk (λ e. is_left w (f e))
    left_before = count_same n.disk (λ e. is_left w (g e)) (λ e. is_left w (f e)) (λ e less. ap (is_left w) (before e less))

    held_before : count n.disk (λ e. is_held w (g e)) ≡ count n.disk (λ e. is_held w (f e))
    held_before = count_same n.disk (λ e. is_held w (g e)) (λ e. is_held w (f e)) (λ e less. ap (is_held w) (before e less))

    past_before : (e : ℕ) → e < n.disk → waits w (g e) ≡ false
    past_before e less = ap (waits w) (before e less) ∙ is.passed.past e less

    -- the call was not the last on its disk
    pub stays : (new : Round) → new.disk ≡ n.disk → new.lost ≡ n.lost → new.held ≡ n.held → IsAt w new.stage new (f n.disk ++ x ∷ []) → IsVisiting w g new
    stays new disk lost held at =
        record {
          passed = subst (λ (d : ℕ). IsPassed w g d new.lost new.held) (sym disk) (record {
            past = past_before;
            dropped = (let c = left_before in let was = is.passed.dropped in omega arith);
            holds = held_before ∙ is.passed.holds ∙ sym held;
          });
          ahead = λ e later. ahead_still e (omega arith);
          enough = (let was = is.enough in omega arith);
          here = subst (λ (d : ℕ). IsAt w new.stage new (g d)) (sym disk) (subst (IsAt w new.stage new) (sym (more_here f n.disk x)) at);
        }

    -- it was
    pub passed : (left held : Bool) → waits w (f n.disk ++ x ∷ []) ≡ false → is_left w (f n.disk ++ x ∷ []) ≡ left → is_held w (f n.disk ++ x ∷ []) ≡ held → IsPassed w g (n.disk + 1) (n.lost + cond left 0 1) (n.held + cond held 1 0)
    passed left held done is_l is_h =
        let here = more_here f n.disk x in
        record {
          past = λ e less. elim (cases_eq e n.disk) [
            | inl same ↦ ap (λ (d : ℕ). waits w (g d)) same ∙ ap (waits w) here ∙ done
            | inr off ↦ past_before e (omega arith)
          ];
          dropped = counted left (count_next n.disk (λ e. is_left w (g e)) left (ap (is_left w) here ∙ is_l));
          holds = count_next n.disk (λ e. is_held w (g e)) held (ap (is_held w) here ∙ is_h) ∙ ap (λ (k : ℕ). k + cond held 1 0) (held_before ∙ is.passed.holds);
        }
      where
        counted : (t : Bool) → count (n.disk + 1) (λ e. is_left w (g e)) ≡ count n.disk (λ e. is_left w (g e)) + cond t 1 0 → count (n.disk + 1) (λ e. is_left w (g e)) + (n.lost + cond t 0 1) ≡ n.disk + 1
        counted true next = (let c = left_before in let was = is.passed.dropped in omega arith)
        counted false next = (let c = left_before in let was = is.passed.dropped in omega arith)

  -- A DISK IS DONE WITH

  module _ (f : Answers A) (n : Round) (going : n.end ≡ None) (many : n.disks ≡ w.disks) (below : n.disk < n.disks) (ahead : (e : ℕ) → n.disk < e → f e ≡ []) (lost held : ℕ) (is : IsPassed w f (n.disk + 1) lost held) where
    total : count w.disks (λ e. is_left w (f e)) + lost ≡ w.disks
    total =
        let c = count_from w.disks (n.disk + 1) (λ e. is_left w (f e)) (omega arith) (λ e later. ap (is_left w) (ahead e (omega arith)) ∙ refl) in
        let was = is.dropped in
        omega arith

    enough : 2 * lost < w.disks → are_enough w f ≡ true
    enough few = lt-ltb w.disks (2 * count w.disks (λ e. is_left w (f e))) (let c = total in omega arith)

    by_last : (b : Bool) → (n.disk + 1 == n.disks) ≡ b → 2 * lost < w.disks → Follows w f (if b then record n { end = Some (end.Over held) } else record n { disk = n.disk + 1; lost = lost; held = held; stage = stage.Attaching })
    by_last true e few =
        let last = eqb-true (n.disk + 1) n.disks e in
        record {
          as_many = many;
          stands = record {
            enough = enough few;
            done = below_none w.disks (λ e. waits w (f e)) (λ e less. is.past e (omega arith));
            count = ap (λ (k : ℕ). count k (λ e. is_held w (f e))) (sym (last ∙ many)) ∙ is.holds;
          };
        }
    by_last false e few =
        let new : Round = record n { disk = n.disk + 1; lost = lost; held = held; stage = stage.Attaching } in
        let visiting : IsVisiting w f new = record { passed = is; ahead = λ e later. ahead e (omega arith); enough = few; here = ahead (n.disk + 1) (omega arith) } in
        record { as_many = many; stands = subst (Stands w f new) (sym going) visiting }

    by_lost : (b : Bool) → nat_le n.disks (2 * lost) ≡ b
        → Follows w f (if b then record n { end = Some end.NoMajority } else if n.disk + 1 == n.disks then record n { end = Some (end.Over held) } else record n { disk = n.disk + 1; lost = lost; held = held; stage = stage.Attaching })
    by_lost true e =
        let many_lost = leb-true n.disks (2 * lost) e in
        record { as_many = many; stands = le-ltb w.disks (2 * count w.disks (λ e. is_left w (f e))) (let c = total in omega arith) }
    by_lost false e = by_last (n.disk + 1 == n.disks) refl (let few = leb-false n.disks (2 * lost) e in omega arith)

    pub goes : Follows w f (goes_on n lost held)
    goes = by_lost (nat_le n.disks (2 * lost)) refl

  -- HOW IT STANDS

  -- a call is due on the disk that is visited
  pub due_here : {E : Type 0} (over too_few : E) (f : Answers A) (n : Round) → IsVisiting w f n → n.disk < w.disks → waits w (f n.disk) ≡ true → is_left w (f n.disk) ≡ true → status w over too_few f ≡ Due n.disk
  due_here over too_few f n is below waiting left =
      let here : visited w f ≡ Some n.disk = below_some w.disks (λ e. waits w (f e)) n.disk (record { below = below; passes = waiting; none = is.passed.past }) in
      let unit : ℕ = 1 in
      let one : cond (is_left w (f n.disk)) 1 0 ≡ unit = ap (λ (t : Bool). cond t 1 0) left in
      let c = count_from w.disks (suc n.disk) (λ e. is_left w (f e)) (omega arith) (λ e later. ap (is_left w) (is.ahead e (omega arith)) ∙ refl) in
      let was = is.passed.dropped in
      let few = is.enough in
      let enough : are_enough w f ≡ true = lt-ltb w.disks (2 * count w.disks (λ e. is_left w (f e))) (omega (arith, c, one, was, few)) in
      ap (λ (t : Bool). if t then due_or (visited w f) (Ended over) else Ended too_few) enough ∙ ap (λ (o : Option ℕ). due_or o (Ended over)) here

  -- or it is over
  pub over_here : {E : Type 0} (over too_few : E) (f : Answers A) (held : ℕ) → IsOver w f held → status w over too_few f ≡ Ended over
  over_here over too_few f held is =
      ap (λ (t : Bool). if t then due_or (visited w f) (Ended over) else Ended too_few) is.enough ∙ ap (λ (o : Option ℕ). due_or o (Ended over)) is.done

  -- with too few disks
  pub too_few_here : {E : Type 0} (over too_few : E) (f : Answers A) → are_enough w f ≡ false → status w over too_few f ≡ Ended too_few
  too_few_here over too_few f is = ap (λ (t : Bool). if t then due_or (visited w f) (Ended over) else Ended too_few) is
