-- What becomes of the disks of a phase where one is passed over, dropped, or begun on.
use Rattle.std.specs.Prelude.{nat_lt, nat_le, slice_set}
use Rattle.std.proofs.Common.{◌≡◌, ◌≢◌, ◌+◌, ◌<◌, ◌≤◌, ◌&&◌, not, ℕ, Bool, true, false, Some, List, [], ◌∷◌, length, inl, inr, refl, sym, subst, ap, ◌∙◌, arith}
use Rattle.std.proofs.lemmas.Bool.{cases_eq, cases_lt, le-ltb, lt-ltb, and_left, and_right, eq-eqb}
use Rattle.std.proofs.lemmas.List.{get_or-set_same, get_or-set_other}
use Rattle.torn_block.specs.declared.layout.TheConstants.{LAST_SEQUENCE}
use Rattle.torn_block.specs.declared.write_steps.WriteCall.TheVariants.{CloseGate}
use Rattle.torn_block.specs.Block.{next_number}
use Rattle.torn_block.specs.Plan.{plan_by, told_number}
use Rattle.paxos_block.specs.Saying.{body_saying}
use Rattle.paxos_block.proofs.VoteLemmas.{spent, unspent}
use Rattle.attempt.specs.Calls.{Phase, Opening, start, goal}
use Rattle.attempt.specs.Answers.{Heard, Answers, last_row, seen_block}
use Rattle.attempt.specs.Setup.{Setup}
use Rattle.attempt.specs.Visits.{is_stuck, takes_part, waits, is_left_at}
use Rattle.attempt.proofs.Visitors.{part_is, waiting_if}
use Rattle.phases.specs.declared.phase.Phase as code_phase
use Rattle.phases.specs.declared.phase.Phase.TheVariants as phase
use Rattle.phases.specs.declared.phase.Stage.{Stage}
use Rattle.phases.specs.declared.phase.Stage.TheVariants as stage
use Rattle.phases.specs.declared.visit.Visit.{Visit}
use Rattle.phases.specs.Calls.{phase_in}
use Rattle.phases.specs.Notes.{Notes, no_visit, visit_at}
use Rattle.phases.specs.Steps.{answered, Suits}
use Rattle.phases.specs.Kept.{Remembers, Writes}
use Rattle.phases.specs.Moves.{IsPassed, IsBegun}

-- WHICH DISKS ARE LEFT

same_less : (d e : ℕ) → e ≢ d → nat_lt e (d + 1) ≡ nat_lt e d
same_less d e off =
    elim (cases_lt e d) [
      | inl low ↦ lt-ltb e (d + 1) (omega arith) ∙ sym (lt-ltb e d low)
      | inr high ↦ le-ltb e (d + 1) (omega arith) ∙ sym (le-ltb e d high)
    ]

-- what never comes changes nothing
pub never : (t k : Bool) → (t && not (k && false)) ≡ t
never true true = refl
never true false = refl
never false k = refl

once : (t k : Bool) → (t && not (k && true)) ≡ (t && not k)
once true true = refl
once true false = refl
once false k = refl

module _ (s : Setup) (p : Phase) (f : Answers) (d : ℕ) where
  -- on the next disk nothing is due to a spent block yet
  pub left_here : is_left_at (Some d) s p f d ≡ takes_part p (f d)
  left_here = ap (λ (t : Bool). takes_part p (f d) && not (is_stuck s p (f d) && t)) (le-ltb d d (omega arith)) ∙ never (takes_part p (f d)) (is_stuck s p (f d))

  -- once it is passed it is
  pub left_then : is_left_at (Some (d + 1)) s p f d ≡ (takes_part p (f d) && not (is_stuck s p (f d)))
  left_then = ap (λ (t : Bool). takes_part p (f d) && not (is_stuck s p (f d) && t)) (lt-ltb d (d + 1) (omega arith)) ∙ once (takes_part p (f d)) (is_stuck s p (f d))

  -- the others do not change
  pub left_there : (e : ℕ) → e ≢ d → is_left_at (Some (d + 1)) s p f e ≡ is_left_at (Some d) s p f e
  left_there e off = ap (λ (t : Bool). takes_part p (f e) && not (is_stuck s p (f e) && t)) (same_less d e off)

-- WHERE A DISK IS PASSED

no_wait : (t l k : Bool) → (t && not k) ≡ false → (t && l && not k) ≡ false
no_wait true true k e = e
no_wait true false k e = refl
no_wait false l k e = refl

pub no_answers : (a : List Heard) → length a ≡ 0 → a ≡ []
no_answers [] none = refl
no_answers (x ∷ a) some = absurd (omega arith)

module _ (q : code_phase.Phase) (f : Answers) (n : Notes) (d : ℕ) (there : d < n.of.disks) (is : IsPassed q f n d) where
  abbrev p : Phase
  p = phase_in q

  abbrev s : Setup
  s = n.of

  -- a disk that is not left once it is passed is done with
  goes_by : is_left_at (Some (d + 1)) s p f d ≡ false → (new : List Visit) → ((e : ℕ) → e ≢ d → visit_at new e ≡ visit_at n.visits e) → (visit_at new d).left ≡ false
      → IsPassed q f (record n { visits = new }) (d + 1)
  goes_by gone new others none = record {
    rows = is.rows;
    come = is.come;
    not_outrun = is.not_outrun;
    opened = is.opened;
    says_is = is.says_is;
    past = λ e l u. elim (cases_eq e d) [
      | inl here ↦ ap (λ (k : ℕ). waits s p (f k)) here ∙ no_wait (takes_part p (f d)) (nat_lt (length (f d)) (goal p)) (is_stuck s p (f d)) (sym (left_then s p f d) ∙ gone)
      | inr off ↦ is.past e (omega arith) u
    ];
    ahead = λ e l takes. is.ahead e (omega arith) takes;
    behind = is.behind;
    kept = record {
      left = λ e l. elim (cases_eq e d) [
        | inl here ↦ ap (λ (k : ℕ). (visit_at new k).left) here ∙ none ∙ sym (ap (is_left_at (Some (d + 1)) s p f) here ∙ gone)
        | inr off ↦ ap (λ (v : Visit). v.left) (others e off) ∙ is.kept.left e l ∙ sym (left_there s p f d e off)
      ];
      each = λ e l left. elim (cases_eq e d) [
        | inl here ↦ (let out : is_left_at (Some (d + 1)) s p f e ≡ false = ap (is_left_at (Some (d + 1)) s p f) here ∙ gone in absurd (cc))
        | inr off ↦ subst (Remembers s.version s.host (f e)) (sym (others e off)) (is.kept.each e l (sym (left_there s p f d e off) ∙ left))
      ];
    };
  }

  -- so is one that was dropped before
  pub passes_none : (visit_at n.visits d).left ≡ false → IsPassed q f n (d + 1)
  passes_none none = goes_by (left_then s p f d ∙ and_left (takes_part p (f d)) (not (is_stuck s p (f d))) (sym (left_here s p f d) ∙ sym (is.kept.left d there) ∙ none)) n.visits (λ e off. refl) none

  -- what is kept of a disk that is left
  module _ (left : (visit_at n.visits d).left ≡ true) where
    abbrev visit : Visit
    visit = visit_at n.visits d

    here : is_left_at (Some d) s p f d ≡ true
    here = sym (is.kept.left d there) ∙ left

    takes : takes_part p (f d) ≡ true
    takes = sym (left_here s p f d) ∙ here

    begins : length (f d) ≡ start p
    begins = is.ahead d (omega arith) takes

    remembers : Remembers s.version s.host (f d) visit
    remembers = is.kept.each d there here

    stuck_is : is_stuck s p (f d) ≡ nat_le LAST_SEQUENCE (seen_block (last_row (f d)) s.host).sequence
    stuck_is = ap (λ (t : Bool). t && nat_le LAST_SEQUENCE (seen_block (last_row (f d)) s.host).sequence) (eq-eqb (length (f d)) (start p) begins)

    -- its write is due to a spent block, so it is dropped
    pub passes_spent : ¬ (next_number (told_number visit.block) ≤ LAST_SEQUENCE) → d < length n.visits
        → IsPassed q f (record n { visits = slice_set n.visits d (record visit { left = false }) }) (d + 1)
    passes_spent over room =
        let stuck : is_stuck s p (f d) ≡ true = stuck_is ∙ spent (told_number visit.block) (seen_block (last_row (f d)) s.host).sequence remembers.sequence over in
        let new : Visit = record visit { left = false } in
        goes_by (left_then s p f d ∙ and_right (takes_part p (f d)) (not (is_stuck s p (f d))) (ap not stuck)) (slice_set n.visits d new)
        (λ e off. get_or-set_other n.visits d e new no_visit off) (ap (λ (v : Visit). v.left) (get_or-set_same n.visits d new no_visit room))

    short : (r : code_phase.Phase) → start (phase_in r) < goal (phase_in r)
    short phase.Opening = omega arith
    short phase.One = omega arith
    short phase.Two = omega arith

    -- the phase begins on it
    begins_on : is_stuck s p (f d) ≡ false → (st : Stage) → Suits q st → answered p st ≡ start p → Writes n.of.version st n.says visit → IsBegun q f (record n { disk = d; stage = st })
    begins_on free st suits first writes = record {
      passed = is;
      there = there;
      waiting = waiting_if s p (f d) (record { part = part_is p (f d) takes; short = (let less = short q in omega (arith, begins)); unspent = free });
      suits = suits;
      answers = first;
      writes = writes;
    }

    -- with its write
    pub begins_write : q ≢ phase.Opening → next_number (told_number visit.block) ≤ LAST_SEQUENCE
        → IsBegun q f (record n { disk = d; stage = stage.Writing (plan_by n.of.version visit.block (body_saying n.of.version n.says)) })
    begins_write later room =
        begins_on (stuck_is ∙ unspent (told_number visit.block) (seen_block (last_row (f d)) s.host).sequence remembers.sequence room)
        (stage.Writing (plan_by n.of.version visit.block (body_saying n.of.version n.says))) (suits q later) (omega arith) (record { call = CloseGate; is = refl })
      where
        suits : (r : code_phase.Phase) → r ≢ phase.Opening → Suits r (stage.Writing (plan_by n.of.version visit.block (body_saying n.of.version n.says)))
        suits phase.Opening other = other refl
        suits phase.One other = tt
        suits phase.Two other = tt

-- the opening begins on a disk that is left
pub begins_opening : (f : Answers) (n : Notes) (d : ℕ) → d < n.of.disks → IsPassed phase.Opening f n d → (visit_at n.visits d).left ≡ true → IsBegun phase.Opening f (record n { disk = d; stage = stage.Attaching })
begins_opening f n d there is left =
    begins_on phase.Opening f n d there is left (ap (is_stuck n.of Opening) (no_answers (f d) (begins phase.Opening f n d there is left))) stage.Attaching tt refl tt
