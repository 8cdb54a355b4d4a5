-- What one answer more changes on the disk that is visited: it stays there, or is done with it.
use Rattle.std.specs.Prelude.{nat_lt, nat_le}
use Rattle.std.proofs.Common.{◌≡◌, ◌≢◌, ◌+◌, ◌*◌, ◌<◌, ◌≤◌, ◌&&◌, not, ℕ, Bool, true, false, Option, Some, None, List, [], ◌∷◌, ◌++◌, length, is_some, inl, inr, refl, sym, subst, ap, ap₂, ◌∙◌, arith}
use Rattle.std.proofs.lemmas.Bool.{cases_eq, and_from, and_left, and_right, le-leb, lt-leb}
use Rattle.paxos_block.specs.Saying.{Said}
use Rattle.paxos_block.specs.Row.{DecodedBlock, number_or_zero}
use Rattle.torn_block.specs.Layout.{Version}
use Rattle.torn_block.specs.declared.block.Block128.{Block128}
use Rattle.torn_block.specs.Plan.{IsReading, told_number}
use Rattle.attempt.specs.Calls.{Phase, Opening, One, Two, start, goal}
use Rattle.attempt.specs.Answers.{Heard, Told, Answers, more, is_bad, all_good, told, row_in, last_row, later_row, seen_block, boot_of}
use Rattle.attempt.specs.Setup.{Setup}
use Rattle.attempt.specs.Visits.{is_stuck, takes_part, waits, visited, is_left, is_left_at, are_enough}
use Rattle.attempt.specs.Proposal.{ballot, decided}
use Rattle.attempt.specs.Status.{Due, status, is_opened, taken, taken_by, if_open}
use Rattle.attempt.specs.Standing.{IsIn, NotOutrun}
use Rattle.attempt.specs.NextCall.{says_for, some_value}
use Rattle.attempt.proofs.Firsts.{IsFirst, some_below, below_some, count_same}
use Rattle.attempt.proofs.Lists.{bad_more, length_more, last_more, boot_more, row_last, row_none, row_same}
use Rattle.attempt.proofs.More.{more_here, more_there, by_disk}
use Rattle.attempt.proofs.Rows.{AreSameRows, highest_same, ballot_same, own_same, best_same, decided_same, proposal_same, others_same, opened_same, rows_stay, rows_kept}
use Rattle.attempt.proofs.Visitors.{part_if, part_more, bad_part, IsWaiting, waiting_is, waiting_if, waits_over, not_stuck, visited_kept}
use Rattle.attempt.proofs.Statuses as statuses
use Rattle.phases.specs.declared.phase.Phase as code_phase
use Rattle.phases.specs.declared.phase.Stage.{Stage}
use Rattle.phases.specs.declared.visit.Visit.{Visit}
use Rattle.phases.specs.Calls.{phase_in}
use Rattle.phases.specs.Notes.{Notes, visit_at}
use Rattle.phases.specs.Steps.{answered, Suits}
use Rattle.phases.specs.Kept.{Remembers, KeepsRows, Writes, IsVisiting, Stands, Follows}
use Rattle.phases.specs.Moves.{IsOpenedIn, IsInOrder, ArePassed}
use Rattle.phases.proofs.Visiting.{left_here, left_then, left_there}

-- A CALL IS DUE

-- what is known where a call is due on a disk
pub record IsDue (s : Setup) (p : Phase) (d : ℕ) (f : Answers) : Type 0 where
  pub at : statuses.IsDueAt s p d f
  pub first : IsFirst s.disks (λ e. waits s p (f e)) d
  pub waiting : IsWaiting s p (f d)
  pub order : IsInOrder s p d f

pub is_due : (s : Setup) (p : Phase) (d : ℕ) (f : Answers) → status s f ≡ Due p d → IsInOrder s p d f → IsDue s p d f
is_due s p d f due order =
    let at = statuses.due_is s f p d due in
    let first = some_below s.disks (λ e. waits s p (f e)) d at.visits in
    record { at = at; first = first; waiting = waiting_is s p (f d) first.passes; order = order }

-- THE SAME ROWS

-- with the same rows no other host is faster
pub same_not_outrun : (s : Setup) (f g : Answers) (p : Phase) → AreSameRows Opening g f → AreSameRows p g f → NotOutrun s p f → NotOutrun s p g
same_not_outrun s f g Opening opening rows is = tt
same_not_outrun s f g One opening rows is = ap₂ nat_lt (ballot_same s g f opening) (others_same s g f One rows) ∙ is
same_not_outrun s f g Two opening rows is = ap₂ nat_lt (ballot_same s g f opening) (others_same s g f Two rows) ∙ is

-- the ballot and the proposal go by the same
pub same_rows_kept : (s : Setup) (f g : Answers) (top : ℕ) (vote : Said) (told : Option (List ℕ)) → AreSameRows Opening g f → AreSameRows One g f → KeepsRows s f top vote told → KeepsRows s g top vote told
same_rows_kept s f g top vote told opening one is = record {
  highest = is.highest ∙ sym (highest_same s g f opening);
  best = is.best ∙ sym (best_same s g f opening one s.disks);
  decided = is.decided ∙ sym (decided_same s g f opening);
}

-- what is said in a phase goes by the rows of those before
says_same : (s : Setup) (f g : Answers) (p : Phase) → (start Opening < start p → AreSameRows Opening g f) → (start One < start p → AreSameRows One g f) → says_for s p g ≡ says_for s p f
says_same s f g Opening opening one = refl
says_same s f g One opening one =
    let b = ballot_same s g f (opening (omega arith)) in
    let o = own_same s g f (opening (omega arith)) s.disks in
    λ i. record { mbal = b i; bal = (o i).bal; inp = (o i).inp; mark = false }
says_same s f g Two opening one =
    let b = ballot_same s g f (opening (omega arith)) in
    let v = proposal_same s g f (opening (omega arith)) (one (omega arith)) in
    λ i. record { mbal = b i; bal = b i; inp = Some (some_value (v i)); mark = false }

-- THE BALLOT TAKEN

-- no ballot is taken while the opening goes on
not_taken : (b d : ℕ) (enough : Bool) → taken_by b (Some d) enough ≡ 0
not_taken b d true = refl
not_taken b d false = refl

-- nor where something is decided
pub none_if : (o : Option (List ℕ)) (b : ℕ) → b ≡ 0 → if_open o b ≡ 0
none_if None b none = none
none_if (Some value) b none = refl

-- while a call of the phase is due
pub ballot_visiting : (s : Setup) (f : Answers) (p : Phase) (d : ℕ) (says : Said) → says ≡ says_for s p f → IsOpenedIn s p f → visited s p f ≡ Some d → says.mbal ≡ taken s f
ballot_visiting s f Opening d says is opened visits =
    ap (λ (x : Said). x.mbal) is
    ∙ sym (none_if (decided s f) (taken_by (ballot s f) (visited s Opening f) (are_enough s (is_opened f))) (ap (λ (o : Option ℕ). taken_by (ballot s f) o (are_enough s (is_opened f))) visits ∙ not_taken (ballot s f) d (are_enough s (is_opened f))))
ballot_visiting s f One d says is opened visits = ap (λ (x : Said). x.mbal) is ∙ sym opened
ballot_visiting s f Two d says is opened visits = ap (λ (x : Said). x.mbal) is ∙ sym opened

-- where a call is due, no more is asked
pub follows : (f : Answers) (n : Notes) → n.end ≡ None → IsOpenedIn n.of (phase_in n.phase) f → IsVisiting n.phase f n → Follows f n
follows f n going opened is = record {
  ballot = ballot_visiting n.of f (phase_in n.phase) n.disk n.says is.says opened (statuses.due_is n.of f (phase_in n.phase) n.disk is.status).visits;
  stands = subst (Stands f n) (sym going) is;
}

-- ONE ANSWER MORE

goal_below : (p q : Phase) → start q < start p → goal q ≤ start p
goal_below Opening q l = absurd (omega arith)
goal_below One Opening l = omega arith
goal_below One One l = absurd (omega arith)
goal_below One Two l = absurd (omega arith)
goal_below Two Opening l = omega arith
goal_below Two One l = omega arith
goal_below Two Two l = absurd (omega arith)

-- an answer that is neither bad nor a row leaves the disk waiting for its phase
pub record Stays (p : Phase) (a : List Heard) (x : Heard) : Type 0 where
  pub good : is_bad x ≡ false
  pub rowless : told x ≡ None
  pub short : length a + 1 < goal p

-- a bad one drops the disk, and a row ends the phase there
pub data Ending (p : Phase) (a : List Heard) (x : Heard) : Type 0 where
  Dropped : is_bad x ≡ true → told x ≡ None → Ending p a x
  Read : (row : List DecodedBlock) → x ≡ Told (Some row) → length a + 1 ≡ goal p → Ending p a x

-- whether the disk is left then
abbrev pub keeps_it : (p : Phase) (a : List Heard) (x : Heard) → Ending p a x → Bool
keeps_it p a x (Dropped bad rowless) = false
keeps_it p a x (Read row is last) = true

module _ (s : Setup) (p : Phase) (d : ℕ) (f : Answers) (x : Heard) (due : IsDue s p d f) where
  abbrev new : Answers
  new = more f d x

  abbrev now : List Heard
  now = f d ++ x ∷ []

  long : length now ≡ length (f d) + 1
  long = length_more (f d) x

  -- the rows of the phases before stay
  pub before_kept : (q : Phase) → start q < start p → AreSameRows q new f
  before_kept q l = rows_kept f d x q (let come = due.waiting.part.come in let g = goal_below p q l in omega arith)

  pub says_kept : says_for s p new ≡ says_for s p f
  says_kept = says_same s f new p (before_kept Opening) (before_kept One)

  pub come_kept : IsIn s p new
  come_kept = statuses.in_kept s f d x p due.waiting.part.come due.at.come

  -- the ballot was taken before
  taken_later : visited s Opening f ≡ None → 3 ≤ length (f d) → taken s f ≡ ballot s f → taken s new ≡ ballot s new
  taken_later none l is =
      let opening : AreSameRows Opening new f = rows_kept f d x Opening l in
      let b : ballot s new ≡ ballot s f = ballot_same s new f opening in
      let enough : are_enough s (is_opened new) ≡ are_enough s (is_opened f) = ap (λ (k : ℕ). nat_lt s.disks (2 * k)) (count_same s.disks (is_opened new) (is_opened f) (λ e u. opened_same s new f opening e)) in
      ap (λ (o : Option (List ℕ)). if_open o (taken_by (ballot s new) (visited s Opening new) (are_enough s (is_opened new)))) (decided_same s new f opening)
      ∙ ap (λ (o : Option ℕ). if_open (decided s f) (taken_by (ballot s new) o (are_enough s (is_opened new)))) (visited_kept s f d x Opening l none ∙ sym none)
      ∙ ap₂ (λ (k : ℕ) (t : Bool). if_open (decided s f) (taken_by k (visited s Opening f) t)) b enough
      ∙ is
      ∙ sym b

  -- THE DISKS THAT WERE OPENED

  opened_by : (q : Phase) → p ≡ q → (start q ≡ 0 → is_some (row_in Opening now) ≡ (all_good now && nat_le 3 (length now))) → IsOpenedIn s q new
  opened_by Opening is here = by_disk f d x (λ e a. is_some (row_in Opening a) ≡ (all_good a && nat_le 3 (length a))) (here refl) (λ e off. (let opened = subst (λ (q : Phase). IsOpenedIn s q f) is due.order.opened in opened e))
  opened_by One is here =
      let come = subst (λ (q : Phase). IsIn s q f) is due.at.come in
      taken_later come.over (subst (λ (q : Phase). start q ≤ length (f d)) is due.waiting.part.come) (subst (λ (q : Phase). IsOpenedIn s q f) is due.order.opened)
  opened_by Two is here =
      let come = subst (λ (q : Phase). IsIn s q f) is due.at.come in
      taken_later come.1.taken.over (let low = subst (λ (q : Phase). start q ≤ length (f d)) is due.waiting.part.come in omega arith) (subst (λ (q : Phase). IsOpenedIn s q f) is due.order.opened)

  -- THE DISK STAYS THE ONE THAT IS VISITED

  module _ (stays : Stays p (f d) x) where
    same_rows : (q : Phase) → AreSameRows q new f
    same_rows q = rows_stay f d x stays.rowless q

    pub opened_stays : IsOpenedIn s p new
    opened_stays = opened_by p refl (λ first.
        (let few : length now < 3 = opens p first stays.short in
        ap is_some (row_none Opening now few) ∙ sym (and_right (all_good now) (nat_le 3 (length now)) (lt-leb 3 (length now) few))))
      where
        opens : (q : Phase) → start q ≡ 0 → length (f d) + 1 < goal q → length now < 3
        opens Opening is l = omega (arith, long, l)
        opens One is l = absurd (omega arith)
        opens Two is l = absurd (omega arith)

    visits_still : visited s p new ≡ Some d
    visits_still = below_some s.disks (λ e. waits s p (new e)) d (record {
      below = due.first.below;
      passes = ap (waits s p) (more_here f d x) ∙ waiting_if s p now (record {
        part = part_more p (f d) x stays.good due.waiting.part;
        short = omega (arith, long, stays.short);
        unspent = not_stuck s p now (omega (arith, long, due.waiting.part.come));
      });
      none = λ e l. ap (waits s p) (more_there f d x e (λ same. omega arith)) ∙ due.first.none e l;
    })

    left_at_still : (e : ℕ) → is_left_at (Some d) s p new e ≡ is_left_at (Some d) s p f e
    left_at_still e = elim (cases_eq e d) [
      | inl here ↦
          (let at : is_left_at (Some d) s p new d ≡ is_left_at (Some d) s p f d =
          left_here s p new d
          ∙ ap (takes_part p) (more_here f d x)
          ∙ part_if p now (part_more p (f d) x stays.good due.waiting.part)
          ∙ sym (left_here s p f d ∙ part_if p (f d) due.waiting.part) in
          ap (is_left_at (Some d) s p new) here ∙ at ∙ ap (is_left_at (Some d) s p f) (sym here))
      | inr off ↦ ap (λ (a : List Heard). takes_part p a && not (is_stuck s p a && nat_lt e d)) (more_there f d x e off)
    ]

    pub left_still : (e : ℕ) → is_left s p new e ≡ is_left s p f e
    left_still e =
        ap (λ (o : Option ℕ). is_left_at o s p new e) visits_still
        ∙ left_at_still e
        ∙ ap (λ (o : Option ℕ). is_left_at o s p f e) (sym due.at.visits)

    -- the same disk is visited
    pub status_still : status s new ≡ Due p d
    status_still = statuses.due_if s new p d (record {
      come = come_kept;
      not_outrun = same_not_outrun s f new p (same_rows Opening) (same_rows p) due.at.not_outrun;
      visits = visits_still;
      enough = ap (λ (k : ℕ). nat_lt s.disks (2 * k)) (count_same s.disks (is_left s p new) (is_left s p f) (λ e l. left_still e)) ∙ due.at.enough;
    })

  -- THE DISK IS DONE WITH

  module _ (ending : Ending p (f d) x) where
    -- it does not wait any more
    still_by : Ending p (f d) x → waits s p now ≡ false
    still_by (Dropped bad rowless) =
        and_left (takes_part p now && nat_lt (length now) (goal p)) (not (is_stuck s p now))
        (and_left (takes_part p now) (nat_lt (length now) (goal p)) (bad_part p now (bad_more (f d) x bad)))
    still_by (Read row is last) = waits_over s p now (omega (arith, long))

    -- and is left where its row was read
    left_by : (e : Ending p (f d) x) → (takes_part p now && not (is_stuck s p now)) ≡ keeps_it p (f d) x e
    left_by (Dropped bad rowless) = and_left (takes_part p now) (not (is_stuck s p now)) (bad_part p now (bad_more (f d) x bad))
    left_by (Read row is last) =
        and_from (takes_part p now) (not (is_stuck s p now)) (part_if p now (part_more p (f d) x (ap is_bad is) due.waiting.part))
        (ap not (not_stuck s p now (omega (arith, long, due.waiting.part.come))))

    -- so are the disks below it done with
    pub past_then : (e : ℕ) → e < d + 1 → waits s p (new e) ≡ false
    past_then e l = elim (cases_eq e d) [
      | inl here ↦ ap (waits s p) (ap new here ∙ more_here f d x) ∙ still_by ending
      | inr off ↦ ap (waits s p) (more_there f d x e off) ∙ due.first.none e (omega arith)
    ]

    pub ahead_then : (e : ℕ) → d + 1 ≤ e → takes_part p (new e) ≡ true → length (new e) ≡ start p
    ahead_then e l takes =
        let there = more_there f d x e (λ same. omega arith) in
        ap length there ∙ due.order.rising e (omega arith) (ap (takes_part p) (sym there) ∙ takes)

    pub behind_then : (e : ℕ) → length (new e) ≤ goal p
    behind_then = by_disk f d x (λ e a. length a ≤ goal p) (let short = due.waiting.short in omega (arith, long)) (λ e off. due.order.behind e)

    pub left_then_there : (e : ℕ) → e ≢ d → is_left_at (Some (d + 1)) s p new e ≡ is_left_at (Some d) s p f e
    left_then_there e off = left_there s p new d e off ∙ ap (λ (a : List Heard). takes_part p a && not (is_stuck s p a && nat_lt e d)) (more_there f d x e off)

    pub left_then_here : is_left_at (Some (d + 1)) s p new d ≡ keeps_it p (f d) x ending
    left_then_here = left_then s p new d ∙ ap (λ (a : List Heard). takes_part p a && not (is_stuck s p a)) (more_here f d x) ∙ left_by ending

    third : (q : Phase) → start q ≡ 0 → goal q ≡ 3
    third Opening is = refl
    third One is = absurd (omega arith)
    third Two is = absurd (omega arith)

    opened_here : Ending p (f d) x → start p ≡ 0 → is_some (row_in Opening now) ≡ (all_good now && nat_le 3 (length now))
    opened_here (Dropped bad rowless) first =
        ap is_some (row_same Opening (f d) x rowless ∙ row_none Opening (f d) (let short = due.waiting.short in omega (arith, third p first)))
        ∙ sym (and_left (all_good now) (nat_le 3 (length now)) (bad_more (f d) x bad))
    opened_here (Read row is last) first =
        let three = third p first in
        ap is_some (row_last Opening (f d) x (omega (arith, last, three)) ∙ ap told is)
        ∙ sym (and_from (all_good now) (nat_le 3 (length now)) (part_more p (f d) x (ap is_bad is) due.waiting.part).good (le-leb 3 (length now) (omega (arith, long, last, three))))

    pub opened_then : IsOpenedIn s p new
    opened_then = opened_by p refl (opened_here ending)

-- WHAT IS KEPT

-- an answer that tells no row leaves what is kept of the block
pub remembers_more : (v : Version) (host : ℕ) (a : List Heard) (x : Heard) (old new : Visit) → told x ≡ None → boot_of (a ++ x ∷ []) ≡ new.boot.number → old.block ≡ new.block → Remembers v host a old → Remembers v host (a ++ x ∷ []) new
remembers_more v host a x old new none boot same is =
    let last : last_row (a ++ x ∷ []) ≡ last_row a = last_more a x ∙ ap (later_row (last_row a)) none in
    record {
      boot = boot;
      read = subst (IsReading v (seen_block (last_row (a ++ x ∷ [])) host).bytes) same (subst (λ (o : Option (List DecodedBlock)). IsReading v (seen_block o host).bytes old.block) (sym last) is.read);
      sequence = ap (λ (b : Block128). number_or_zero (told_number b)) (sym same) ∙ is.sequence ∙ ap (λ (o : Option (List DecodedBlock)). (seen_block o host).sequence) (sym last);
    }

module _ (q : code_phase.Phase) (f : Answers) (n : Notes) (v : IsVisiting q f n) (order : IsInOrder n.of (phase_in q) n.disk f) where
  abbrev p : Phase
  p = phase_in q

  abbrev s : Setup
  s = n.of

  abbrev d : ℕ
  d = n.disk

  abbrev visit : Visit
  visit = visit_at n.visits n.disk

  pub due_there : IsDue s p d f
  due_there = is_due s p d f v.status order

  left_there_now : is_left s p f d ≡ true
  left_there_now = ap (λ (o : Option ℕ). is_left_at o s p f d) due_there.at.visits ∙ left_here s p f d ∙ part_if p (f d) due_there.waiting.part

  pub remembers_now : Remembers s.version s.host (f d) visit
  remembers_now = v.visits.each d due_there.first.below left_there_now

  pub left_now : visit.left ≡ true
  left_now = v.visits.left d due_there.first.below ∙ left_there_now

  -- the boot number is told by the first answer
  pub boot_stays : (x : Heard) → 1 ≤ length (f d) → boot_of (f d ++ x ∷ []) ≡ visit.boot.number
  boot_stays x some = let booted = order.booted d some due_there.waiting.part.good in boot_more (f d) x booted.0 booted.1 ∙ remembers_now.boot

  pub stays_there : (x : Heard) → Stays p (f d) x → (visits : List Visit) (stage : Stage)
      → Suits q stage → length (f d) + 1 ≡ answered p stage
      → ((e : ℕ) → e ≢ d → visit_at visits e ≡ visit_at n.visits e)
      → (visit_at visits d).left ≡ visit.left
      → Remembers s.version s.host (f d ++ x ∷ []) (visit_at visits d)
      → Writes s.version stage n.says (visit_at visits d)
      → IsVisiting q (more f d x) (record n { visits = visits; stage = stage })
  stays_there x stays visits stage suits answers others left here writes =
      let due = due_there in
      record {
        rows = same_rows_kept s f (more f d x) n.highest n.best n.decided (rows_stay f d x stays.rowless Opening) (rows_stay f d x stays.rowless One) v.rows;
        status = status_still s p d f x due stays;
        suits = suits;
        answers = ap length (more_here f d x) ∙ length_more (f d) x ∙ answers;
        says = v.says ∙ sym (says_kept s p d f x due);
        visits = record {
          left = λ e l. elim (cases_eq e d) [
            | inl same ↦ ap (λ (k : ℕ). (visit_at visits k).left) same ∙ left ∙ v.visits.left d due.first.below ∙ sym (ap (is_left s p (more f d x)) same ∙ left_still s p d f x due stays d)
            | inr off ↦ ap (λ (w : Visit). w.left) (others e off) ∙ v.visits.left e l ∙ sym (left_still s p d f x due stays e)
          ];
          each = λ e l kept. by_disk f d x (λ k a. k < s.disks → is_left s p f k ≡ true → Remembers s.version s.host a (visit_at visits k))
              (λ u still. here)
              (λ k off u still. subst (Remembers s.version s.host (f k)) (sym (others k off)) (v.visits.each k u still))
              e l (sym (left_still s p d f x due stays e) ∙ kept);
        };
        writes = writes;
      }

  pub passes : (x : Heard) (ending : Ending p (f d) x) (top : ℕ) (vote : Said) (told : Option (List ℕ)) (visits : List Visit)
      → KeepsRows s (more f d x) top vote told → NotOutrun s p (more f d x)
      → ((e : ℕ) → e ≢ d → visit_at visits e ≡ visit_at n.visits e)
      → (visit_at visits d).left ≡ keeps_it p (f d) x ending
      → (keeps_it p (f d) x ending ≡ true → Remembers s.version s.host (f d ++ x ∷ []) (visit_at visits d))
      → ArePassed s q (more f d x) top vote told n.says visits (d + 1)
  passes x ending top vote told visits rows below others left here =
      let due = due_there in
      let there : (e : ℕ) → e ≢ d → is_left s p f e ≡ is_left_at (Some (d + 1)) s p (more f d x) e = λ e off. ap (λ (o : Option ℕ). is_left_at o s p f e) due.at.visits ∙ sym (left_then_there s p d f x due ending e off) in
      record {
        rows = rows;
        come = come_kept s p d f x due;
        not_outrun = below;
        opened = opened_then s p d f x due ending;
        says_is = v.says ∙ sym (says_kept s p d f x due);
        past = λ e l u. past_then s p d f x due ending e l;
        ahead = ahead_then s p d f x due ending;
        behind = behind_then s p d f x due ending;
        kept = record {
          left = λ e l. elim (cases_eq e d) [
            | inl at ↦ ap (λ (k : ℕ). (visit_at visits k).left) at ∙ left ∙ sym (ap (is_left_at (Some (d + 1)) s p (more f d x)) at ∙ left_then_here s p d f x due ending)
            | inr off ↦ ap (λ (w : Visit). w.left) (others e off) ∙ v.visits.left e l ∙ there e off
          ];
          each = λ e l. by_disk f d x (λ k a. k < s.disks → is_left_at (Some (d + 1)) s p (more f d x) k ≡ true → Remembers s.version s.host a (visit_at visits k))
              (λ u is. here (sym (left_then_here s p d f x due ending) ∙ is))
              (λ k off u is. subst (Remembers s.version s.host (f k)) (sym (others k off)) (v.visits.each k u (there k off ∙ is)))
              e l;
        };
      }
