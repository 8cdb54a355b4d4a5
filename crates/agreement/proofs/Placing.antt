-- Host 0 alone has a value chosen in one slot, on all disks.
use Rattle.std.specs.Prelude.{nat_lt}
use Rattle.std.proofs.Common.{ℕ, zero, suc, ◌<◌, ◌≤◌, ◌≡◌, inl, inr, Bool, true, false, cond, Option, Some, None, List, [], ◌∷◌, ◌++◌, refl, sym, subst, ap, ◌∙◌, arith}
use Rattle.std.proofs.lemmas.Bool.{cases_eq, cases_lt, eq-eqb, lt-ltb, le-ltb, cond-true, cond-false}
use Rattle.agreement.specs.Majority.{count, IsMajority}
use Rattle.agreement.specs.State.{put, Block, blank, no_vote, Cell, away, seen, wrote_one, read_one, wrote_two, read_two, Mind, none_opened, Proposal, State, start}
use Rattle.agreement.specs.State.Mind.{Idle, Opening, One, Two}
use Rattle.agreement.specs.Event.{Event, Write, write_one, write_two, write_of, is_at, IsRow, Allowed, AllAllowed, after, run, at_rest, at_stage, being_written, with_host, with_cell, proposal_of}
use Rattle.agreement.specs.Event.Event.{Starts, Sees, Takes, Begins, Confirms, ReadsOne, Proposes, ReadsTwo}
use Rattle.agreement.specs.Placed.{over, all_blank, asked, told, looks, asks_on, tells_on, placing}
use Rattle.agreement.proofs.Puts.{put_same, put_other}
use Rattle.agreement.proofs.Steps.{state_by-append, may_both}

-- PUTS

module _ {A : Type 0} where
  -- x below k, and as before from there on
  unfoldable pub until : ℕ → A → (ℕ → A) → ℕ → A
  until k x f d = cond (nat_lt d k) x (f d)

  pub until_below : (k : ℕ) (x : A) (f : ℕ → A) (d : ℕ) → d < k → until k x f d ≡ x
  unfolding until
  until_below k x f d below = cond-true (nat_lt d k) x (f d) (lt-ltb d k below)

  pub until_from : (k : ℕ) (x : A) (f : ℕ → A) (d : ℕ) → k ≤ d → until k x f d ≡ f d
  unfolding until
  until_from k x f d from = cond-false (nat_lt d k) x (f d) (le-ltb d k from)

  put_twice_at : (f : ℕ → A) (k : ℕ) (x y : A) (i : ℕ) → put (put f k x) k y i ≡ put f k y i
  put_twice_at f k x y i = elim (cases_eq i k) [
    | inl same ↦ subst (λ (j : ℕ). put (put f k x) k y j ≡ put f k y j) (sym same) (put_same (put f k x) k y ∙ sym (put_same f k y))
    | inr other ↦ put_other (put f k x) k y i other ∙ put_other f k x i other ∙ sym (put_other f k y i other)
  ]

  pub put_twice : (f : ℕ → A) (k : ℕ) (x y : A) → put (put f k x) k y ≡ put f k y
  put_twice f k x y = λ i. λ j. (put_twice_at f k x y j) i

  put_until_at : (k : ℕ) (x : A) (f : ℕ → A) (d : ℕ) → put (until k x f) k x d ≡ until (suc k) x f d
  put_until_at k x f d = elim (cases_eq d k) [
    | inl same ↦ subst (λ (j : ℕ). put (until k x f) k x j ≡ until (suc k) x f j) (sym same) (put_same (until k x f) k x ∙ sym (until_below (suc k) x f k (omega arith)))
    | inr other ↦ elim (cases_lt d k) [
      | inl below ↦ put_other (until k x f) k x d other ∙ until_below k x f d below ∙ sym (until_below (suc k) x f d (omega arith))
      | inr from ↦ put_other (until k x f) k x d other ∙ until_from k x f d from ∙ sym (until_from (suc k) x f d (omega arith))
    ]
  ]

  pub put_until : (k : ℕ) (x : A) (f : ℕ → A) → put (until k x f) k x ≡ until (suc k) x f
  put_until k x f = λ i. λ d. (put_until_at k x f d) i

  pub until_none : (x : A) (f : ℕ → A) → until 0 x f ≡ f
  until_none x f = λ i. λ d. (until_from 0 x f d (omega arith)) i

-- all of them are a majority
all_counted : (n k : ℕ) (passes : ℕ → Bool) → ((d : ℕ) → d < n → passes d ≡ true) → k ≤ n → count k passes ≡ k
all_counted n zero passes all within = refl
all_counted n (suc k) passes all within =
    let before = all_counted n k passes all (omega (arith, within)) in
    let here = cond-true {A = ℕ} (passes k) 1 0 (all k (omega (arith, within))) in
    omega (arith, before, here)

pub all_majority : (disks : ℕ) (passes : ℕ → Bool) → 1 ≤ disks → ((d : ℕ) → d < disks → passes d ≡ true) → IsMajority disks passes
all_majority disks passes some all = let n = all_counted disks disks passes all (omega arith) in omega (arith, n, some)

-- nothing is accepted
unfoldable pub none_accepted : ℕ → ℕ → Bool
none_accepted b d = false

-- REACHING

module _ {Value : Type 0} (disks : ℕ) where
  -- by these events, each of them allowed, one state comes to another
  pub record Reaches (s : State Value) (events : List (Event Value)) (t : State Value) : Type 0 where
    pub allowed : AllAllowed disks s events
    pub comes : run s events ≡ t

  pub reaches_none : (s : State Value) → Reaches s [] s
  reaches_none s = record { allowed = tt; comes = refl }

  pub reaches_one : (s : State Value) (e : Event Value) (t : State Value) → Allowed disks s e → after s e ≡ t → Reaches s (e ∷ []) t
  reaches_one s e t may is = record { allowed = (may, tt); comes = is }

  pub reaches_both : (s t u : State Value) (early late : List (Event Value)) → Reaches s early t → Reaches t late u → Reaches s (early ++ late) u
  reaches_both s t u early late a b =
      record {
        allowed = may_both after (Allowed disks) s early late a.allowed (subst (λ (x : State Value). AllAllowed disks x late) (sym a.comes) b.allowed);
        comes = state_by-append after s early late ∙ ap (λ (x : State Value). run x late) a.comes ∙ b.comes;
      }

  -- disk by disk
  pub reaches_over : (f : ℕ → List (Event Value)) (states : ℕ → State Value) (n : ℕ) → ((k : ℕ) → k < n → Reaches (states k) (f k) (states (suc k))) → Reaches (states 0) (over f n) (states n)
  reaches_over f states zero each = reaches_none (states 0)
  reaches_over f states (suc n) each =
      reaches_both (states 0) (states n) (states (suc n)) (over f n) (f n) (reaches_over f states n (λ k below. each k (omega arith))) (each n (omega arith))

  -- HOST 0 ALONE

  pub resting : Block Value → ℕ → Cell Value
  resting x stage = record { confirmed = x; writing = None; stage = stage }

  -- these are host 0's cells and mind, and no other host has done anything
  unfoldable pub alone : (ℕ → Cell Value) → Mind Value → (ℕ → Option (Proposal Value)) → (ℕ → ℕ → Bool) → State Value
  alone cells mind proposed accepted =
      record { cell = put (λ h d. record { confirmed = blank; writing = None; stage = away }) 0 cells; mind = put (λ h. Idle) 0 mind; proposed = proposed; accepted = accepted }

  module _ (cells : ℕ → Cell Value) (mind : Mind Value) (proposed : ℕ → Option (Proposal Value)) (accepted : ℕ → ℕ → Bool) where
    pub host_changes : (m : Mind Value) (others : ℕ → Cell Value) → with_host (alone cells mind proposed accepted) 0 m others ≡ alone others m proposed accepted
    unfolding alone
    host_changes m others = λ i. record {
      cell = (put_twice (λ h d. record { confirmed = blank; writing = None; stage = away }) 0 cells others) i;
      mind = (put_twice (λ h. Idle) 0 mind m) i;
      proposed = proposed;
      accepted = accepted;
    }

    pub cell_changes : (d : ℕ) (c : Cell Value) → with_cell (alone cells mind proposed accepted) 0 d c ≡ alone (put cells d c) mind proposed accepted
    unfolding alone
    cell_changes d c = λ i. record {
      cell = (put_twice (λ h d. record { confirmed = blank; writing = None; stage = away }) 0 cells (put cells d c)) i;
      mind = put (λ h. Idle) 0 mind;
      proposed = proposed;
      accepted = accepted;
    }

    -- the write of a phase on a disk
    pub begins : (d : ℕ) (w : Write Value) (x : Cell Value) → cells d ≡ x → write_of mind ≡ Some w → suc x.stage ≡ w.stage → x.writing ≡ None
        → Reaches (alone cells mind proposed accepted) (Begins 0 d w ∷ []) (alone (put cells d (being_written x w)) mind proposed accepted)
    unfolding alone
    begins d w x is writes stage rests =
        reaches_one (alone cells mind proposed accepted) (Begins 0 d w) (alone (put cells d (being_written x w)) mind proposed accepted)
        (writes, ap (λ (c : Cell Value). suc c.stage) is ∙ stage, ap (λ (c : Cell Value). c.writing) is ∙ rests)
        (cell_changes d (being_written (cells d) w) ∙ ap (λ (c : Cell Value). alone (put cells d (being_written c w)) mind proposed accepted) is)

    pub confirms : (d : ℕ) (w : Write Value) (x : Cell Value) → cells d ≡ x → write_of mind ≡ Some w → x.stage ≡ w.stage → x.writing ≡ Some w.block
        → Reaches (alone cells mind proposed accepted) (Confirms 0 d w ∷ []) (alone (put cells d (at_rest w.block (suc w.stage))) mind proposed accepted)
    unfolding alone
    confirms d w x is writes stage in_it =
        reaches_one (alone cells mind proposed accepted) (Confirms 0 d w) (alone (put cells d (at_rest w.block (suc w.stage))) mind proposed accepted)
        (writes, ap (λ (c : Cell Value). c.stage) is ∙ stage, ap (λ (c : Cell Value). c.writing) is ∙ in_it)
        (cell_changes d (at_rest w.block (suc w.stage)))

    -- what it reads of the others is blank
    pub others_blank : (d ballot : ℕ) → IsRow (alone cells mind proposed accepted) 0 d ballot all_blank
    unfolding alone
    others_blank d ballot = record {
      reads = λ g below other. inl (sym (ap (λ (f : ℕ → Cell Value). (f d).confirmed) (put_other (λ h d. record { confirmed = blank; writing = None; stage = away }) 0 cells g other)));
      below = λ g below other. omega arith;
    }

  -- the rows of phase 1 and of phase 2 are read
  pub reads_one : (cells : ℕ → Cell Value) (proposed : ℕ → Option (Proposal Value)) (accepted : ℕ → ℕ → Bool) (d : ℕ) (x : Cell Value) → cells d ≡ x → x.stage ≡ wrote_one
      → Reaches (alone cells (One asked) proposed accepted) (ReadsOne 0 d all_blank asked no_vote ∷ []) (alone (put cells d (at_stage x read_one)) (One asked) proposed accepted)
  unfolding alone
  reads_one cells proposed accepted d x is stage =
      reaches_one (alone cells (One asked) proposed accepted) (ReadsOne 0 d all_blank asked no_vote) (alone (put cells d (at_stage x read_one)) (One asked) proposed accepted) (
        refl,
        ap (λ (c : Cell Value). c.stage) is ∙ stage,
        others_blank cells (One asked) proposed accepted d 1,
        record { kept = omega arith; reached = λ y (g, below, other, same). omega (arith, ap (λ (b : Block Value). b.bal) same); picked = inl refl },
      )
      (host_changes cells (One asked) proposed accepted (One asked) (put cells d (at_stage (cells d) read_one))
      ∙ ap (λ (c : Cell Value). alone (put cells d (at_stage c read_one)) (One asked) proposed accepted) is)

  pub reads_two : (cells : ℕ → Cell Value) (proposed : ℕ → Option (Proposal Value)) (accepted : ℕ → ℕ → Bool) (v : Value) (d : ℕ) (x : Cell Value) → cells d ≡ x → x.stage ≡ wrote_two
      → Reaches (alone cells (Two (told v)) proposed accepted) (ReadsTwo 0 d all_blank (told v) ∷ [])
      (alone (put cells d (at_stage x read_two)) (Two (told v)) proposed (put accepted 1 (put (accepted 1) d true)))
  unfolding alone
  reads_two cells proposed accepted v d x is stage =
      reaches_one (alone cells (Two (told v)) proposed accepted) (ReadsTwo 0 d all_blank (told v)) (alone (put cells d (at_stage x read_two)) (Two (told v)) proposed (put accepted 1 (put (accepted 1) d true)))
      (refl, ap (λ (c : Cell Value). c.stage) is ∙ stage, others_blank cells (Two (told v)) proposed accepted d 1)
      (cell_changes cells (Two (told v)) proposed (put accepted 1 (put (accepted 1) d true)) d (at_stage (cells d) read_two)
      ∙ ap (λ (c : Cell Value). alone (put cells d (at_stage c read_two)) (Two (told v)) proposed (put accepted 1 (put (accepted 1) d true))) is)

  -- ONE DISK

  -- the cells of host 0 on a disk, by how far it has come
  unfoldable pub come_to : Block Value → ℕ → Cell Value
  come_to x stage = record { confirmed = x; writing = None; stage = stage }

  unfoldable pub entered : Block Value
  entered = record { mbal = 1; bal = 0; inp = None }

  unfoldable pub voting : Value → Block Value
  voting v = record { mbal = 1; bal = 1; inp = Some v }

  -- nobody has proposed
  unfoldable pub none_proposed : ℕ → Option (Proposal Value)
  none_proposed b = None

  abbrev pub untouched : ℕ → Cell Value
  untouched d = come_to blank away

  -- THE OPENING

  abbrev looking : ℕ → State Value
  looking k = alone (until k (come_to blank seen) untouched) (Opening none_opened) none_proposed none_accepted

  looks_once : (k : ℕ) → Reaches (looking k) (looks k) (looking (suc k))
  unfolding alone come_to
  looks_once k =
      let cells = until k (come_to blank seen) untouched in
      let is : cells k ≡ come_to blank away = until_from k (come_to blank seen) untouched k (omega arith) in
      reaches_one (looking k) (Sees 0 k none_opened none_opened) (looking (suc k)) (
        refl,
        record {
          settled = ap (λ (c : Cell Value). c.writing) is;
          top_kept = omega arith;
          top_reached = omega (arith, ap (λ (c : Cell Value). c.confirmed.mbal) is);
          own = record { kept = omega arith; reached = λ y same. omega (arith, ap (λ (b : Block Value). b.bal) same, ap (λ (c : Cell Value). c.confirmed.bal) is); picked = inl refl };
        },
      )
      (host_changes cells (Opening none_opened) none_proposed none_accepted (Opening none_opened) (put cells k (at_stage (cells k) seen))
      ∙ ap (λ (c : Cell Value). alone (put cells k (at_stage c seen)) (Opening none_opened) none_proposed none_accepted) is
      ∙ ap (λ (f : ℕ → Cell Value). alone f (Opening none_opened) none_proposed none_accepted) (put_until k (come_to blank seen) untouched))

  unfoldable pub all_seen : ℕ → Cell Value
  all_seen = until disks (come_to blank seen) untouched

  -- PHASE 1

  abbrev asking : ℕ → State Value
  asking k = alone (until k (come_to entered read_one) all_seen) (One asked) none_proposed none_accepted

  asks_once : (k : ℕ) → k < disks → Reaches (asking k) (asks_on k) (asking (suc k))
  unfolding come_to entered all_seen
  asks_once k below =
      let c0 = until k (come_to entered read_one) all_seen in
      let x1 = being_written (come_to blank seen) (write_one asked) in
      let c1 = put c0 k x1 in
      let x2 : Cell Value = at_rest (write_one asked).block wrote_one in
      let c2 = put c1 k x2 in
      let c3 = put c2 k (at_stage x2 read_one) in
      let stands = until_from k (come_to entered read_one) all_seen k (omega arith) ∙ until_below disks (come_to blank seen) untouched k below in
      let a = begins c0 (One asked) none_proposed none_accepted k (write_one asked) (come_to blank seen) stands refl refl refl in
      let b = confirms c1 (One asked) none_proposed none_accepted k (write_one asked) x1 (put_same c0 k x1) refl refl refl in
      let c = reads_one c2 none_proposed none_accepted k x2 (put_same c1 k x2) refl in
      let same : c3 ≡ until (suc k) (come_to entered read_one) all_seen = put_twice c1 k x2 (at_stage x2 read_one) ∙ put_twice c0 k x1 (at_stage x2 read_one) ∙ put_until k (come_to entered read_one) all_seen in
      subst (λ (f : ℕ → Cell Value). Reaches (asking k) (asks_on k) (alone f (One asked) none_proposed none_accepted)) same
      (reaches_both (asking k) (alone c1 (One asked) none_proposed none_accepted) (alone c3 (One asked) none_proposed none_accepted) (Begins 0 k (write_one asked) ∷ []) (Confirms 0 k (write_one asked) ∷ ReadsOne 0 k all_blank asked no_vote ∷ []) a
      (reaches_both (alone c1 (One asked) none_proposed none_accepted) (alone c2 (One asked) none_proposed none_accepted) (alone c3 (One asked) none_proposed none_accepted) (Confirms 0 k (write_one asked) ∷ []) (ReadsOne 0 k all_blank asked no_vote ∷ []) b c))

  unfoldable pub all_asked : ℕ → Cell Value
  all_asked = until disks (come_to entered read_one) all_seen

  -- PHASE 2

  module _ (v : Value) where
    unfoldable pub proposes_v : ℕ → Option (Proposal Value)
    proposes_v = put none_proposed 1 (Some (proposal_of asked v all_asked))

    unfoldable pub accepted_to : ℕ → ℕ → ℕ → Bool
    accepted_to k = put none_accepted 1 (until k true (λ d. false))

    abbrev pub telling : ℕ → State Value
    telling k = alone (until k (come_to (voting v) read_two) all_asked) (Two (told v)) proposes_v (accepted_to k)

    accepts_more : (k : ℕ) → put (accepted_to k) 1 (put (accepted_to k 1) k true) ≡ accepted_to (suc k)
    unfolding accepted_to
    accepts_more k =
        put_twice none_accepted 1 (until k true (λ d. false)) (put (put none_accepted 1 (until k true (λ d. false)) 1) k true)
        ∙ ap (λ (f : ℕ → Bool). put none_accepted 1 f) (put_until k true (λ d. false))

    tells_once : (k : ℕ) → k < disks → Reaches (telling k) (tells_on v k) (telling (suc k))
    unfolding come_to voting all_asked all_seen entered
    tells_once k below =
        let m : Mind Value = Two (told v) in
        let w = write_two (told v) in
        let p = proposes_v in
        let e = accepted_to k in
        let more = put e 1 (put (e 1) k true) in
        let c0 = until k (come_to (voting v) read_two) all_asked in
        let x0 = come_to entered read_one in
        let x1 = being_written x0 w in
        let c1 = put c0 k x1 in
        let x2 : Cell Value = at_rest w.block wrote_two in
        let c2 = put c1 k x2 in
        let c3 = put c2 k (at_stage x2 read_two) in
        let stands = until_from k (come_to (voting v) read_two) all_asked k (omega arith) ∙ until_below disks (come_to entered read_one) all_seen k below in
        let a = begins c0 m p e k w x0 stands refl refl refl in
        let b = confirms c1 m p e k w x1 (put_same c0 k x1) refl refl refl in
        let c = reads_two c2 p e v k x2 (put_same c1 k x2) refl in
        let same : c3 ≡ until (suc k) (come_to (voting v) read_two) all_asked = put_twice c1 k x2 (at_stage x2 read_two) ∙ put_twice c0 k x1 (at_stage x2 read_two) ∙ put_until k (come_to (voting v) read_two) all_asked in
        subst (λ (f : ℕ → Cell Value). Reaches (telling k) (tells_on v k) (alone f m p (accepted_to (suc k)))) same
        (subst (λ (q : ℕ → ℕ → Bool). Reaches (telling k) (tells_on v k) (alone c3 m p q)) (accepts_more k)
        (reaches_both (telling k) (alone c1 m p e) (alone c3 m p more) (Begins 0 k w ∷ []) (Confirms 0 k w ∷ ReadsTwo 0 k all_blank (told v) ∷ []) a
        (reaches_both (alone c1 m p e) (alone c2 m p e) (alone c3 m p more) (Confirms 0 k w ∷ []) (ReadsTwo 0 k all_blank (told v) ∷ []) b c)))

    -- THE WHOLE

    pub stage_at : (stage : ℕ) (x : Cell Value) (f : ℕ → Cell Value) → x.stage ≡ stage → (d : ℕ) → d < disks → is_at stage (until disks x f) d ≡ true
    stage_at stage x f is d below = eq-eqb ((until disks x f) d).stage stage (ap (λ (c : Cell Value). c.stage) (until_below disks x f d below) ∙ is)

    starts_off : Reaches start (Starts 0 ∷ []) (looking 0)
    unfolding alone come_to none_proposed none_accepted
    starts_off =
        reaches_one start (Starts 0) (looking 0) tt
        (ap (λ (f : ℕ → Cell Value). alone f (Opening none_opened) none_proposed none_accepted) (sym (until_none (come_to blank seen) untouched)))

    takes : 1 ≤ disks → Reaches (looking disks) (Takes 0 none_opened 1 ∷ []) (asking 0)
    unfolding alone come_to all_seen
    takes some =
        reaches_one (looking disks) (Takes 0 none_opened 1) (asking 0)
        (refl, refl, omega arith, all_majority disks (is_at seen all_seen) some (stage_at seen (come_to blank seen) untouched refl))
        (host_changes all_seen (Opening none_opened) none_proposed none_accepted (One asked) all_seen
        ∙ ap (λ (f : ℕ → Cell Value). alone f (One asked) none_proposed none_accepted) (sym (until_none (come_to entered read_one) all_seen)))

    accepts_none : none_accepted ≡ accepted_to 0
    unfolding none_accepted accepted_to until
    accepts_none = λ i. λ b. λ d. (go b d) i
      where
        go : (b d : ℕ) → false ≡ put none_accepted 1 (until 0 true (λ d. false)) b d
        go b d = elim (cases_eq b 1) [
          | inl same ↦ sym (ap (λ (f : ℕ → Bool). f d) (ap (put none_accepted 1 (until 0 true (λ d. false))) same ∙ put_same none_accepted 1 (until 0 true (λ d. false))) ∙ until_from 0 true (λ d. false) d (omega arith))
          | inr other ↦ sym (ap (λ (f : ℕ → Bool). f d) (put_other none_accepted 1 (until 0 true (λ d. false)) b other))
        ]

    proposes : 1 ≤ disks → Reaches (asking disks) (Proposes 0 asked v ∷ []) (telling 0)
    unfolding alone come_to all_asked proposes_v
    proposes some =
        reaches_one (asking disks) (Proposes 0 asked v) (telling 0)
        (record { asking = refl; majority = all_majority disks (is_at read_one all_asked) some (stage_at read_one (come_to entered read_one) all_seen refl) }, tt)
        ((λ i. record {
          cell = put (λ h d. record { confirmed = blank; writing = None; stage = away }) 0 all_asked;
          mind = (put_twice (λ h. Idle) 0 (One asked) (Two (told v))) i;
          proposed = proposes_v;
          accepted = accepts_none i;
        })
        ∙ ap (λ (f : ℕ → Cell Value). alone f (Two (told v)) proposes_v (accepted_to 0)) (sym (until_none (come_to (voting v) read_two) all_asked)))

    -- so v is chosen in the slot
    pub places : 1 ≤ disks → Reaches start (placing disks v) (telling disks)
    places some =
        let phase_2 = reaches_over (tells_on v) telling disks tells_once in
        let proposed = reaches_both (asking disks) (telling 0) (telling disks) (Proposes 0 asked v ∷ []) (over (tells_on v) disks) (proposes some) phase_2 in
        let phase_1 = reaches_both (asking 0) (asking disks) (telling disks) (over asks_on disks) (Proposes 0 asked v ∷ over (tells_on v) disks) (reaches_over asks_on asking disks asks_once) proposed in
        let taken = reaches_both (looking disks) (asking 0) (telling disks) (Takes 0 none_opened 1 ∷ []) (over asks_on disks ++ Proposes 0 asked v ∷ over (tells_on v) disks) (takes some) phase_1 in
        let opened = reaches_both (looking 0) (looking disks) (telling disks) (over looks disks) (Takes 0 none_opened 1 ∷ (over asks_on disks ++ Proposes 0 asked v ∷ over (tells_on v) disks)) (reaches_over looks looking disks (λ k below. looks_once k)) taken in
        reaches_both start (looking 0) (telling disks) (Starts 0 ∷ []) (over looks disks ++ Takes 0 none_opened 1 ∷ (over asks_on disks ++ Proposes 0 asked v ∷ over (tells_on v) disks)) starts_off opened
