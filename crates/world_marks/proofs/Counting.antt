-- A marking that answers has left its host's block marked on as many disks as it says.
use Rattle.std.specs.Prelude.{nat_lt, nat_le, slice_get, if◌then◌else◌}
use Rattle.std.proofs.Common.{ℕ, suc, ◌+◌, ◌<◌, ◌≤◌, ◌≡◌, ◌||◌, ◌⊎◌, inl, inr, Bool, true, false, Option, Some, None, List, [], length, refl, sym, subst, ap, ◌∙◌, arith}
use Rattle.std.proofs.lemmas.Bool.{and_parts, cases_eq, eq-eqb, leb-true}
use Rattle.disk.specs.Disk.{Call, Answer}
use Rattle.attempt.specs.Answers.{Heard, Answers, on, heard_as, all_good}
use Rattle.attempt.specs.Numbers.{count}
use Rattle.rounds.specs.Marking.Status as mark
use Rattle.paxos_block.specs.Shape.{Shape}
use Rattle.attempt.specs.declared.refusal.Refusal.TheVariants as refusal
use Rattle.host.specs.declared.answer.HostAnswer.TheVariants as said
use Rattle.host.specs.declared.task.Task.TheVariants.{Mark}
use Rattle.host.specs.Host.{Doing, Marks, Memory, Host, Stopped, Running, does, says, marking_with, marking_of, look_of, looking_with}
use Rattle.rounds.specs.Look.Status as look
use Rattle.world.specs.Entry.{Filled, Begin, Called, is_of, begins_on}
use Rattle.world.specs.World.{World, MayFollow, IsRun}
use Rattle.world.specs.Chosen.{at}
use Rattle.world.proofs.Runs.{each}
use Rattle.world_safety.specs.Next.{next_world}
use Rattle.world_safety.proofs.Runs.Places.{at_next, host_next}
use Rattle.world_safety.proofs.Runs.Tracks.{moves_at, tied_at}
use Rattle.world_marks.specs.Found.{IsMarkedOn, IsMarking, IsMarkedOnMany, CountsMarked}
use Rattle.world_marks.proofs.Marking.{Counts, kept, marked_more}
use Rattle.world_marks.proofs.Places.{keeps_at, marked_at}
use Rattle.world_marks.proofs.Saying.{IsSaidBy, ByBeginning, ByLook, ByMarking, said_by, begins_counts, look_counts, marking_counts}
use Rattle.world_marks.proofs.Steps.{Does, does_at, IsNew, with_answer, goes_next, up_to}

-- what a marking that has ended counts
counted_is : (s : mark.Setup) (f : Answers) (n : ℕ) → mark.status s f ≡ mark.Ended (mark.Marked n) → count s.disks (λ d. mark.is_marked s (f d)) ≡ n
counted_is s f n is = by (mark.are_enough s f) (mark.visited s f) is
  where
    by : (b : Bool) (o : Option ℕ) → (if b then mark.due_or o (mark.Ended (mark.Marked (count s.disks (λ d. mark.is_marked s (f d))))) else mark.Ended mark.NoMajority) ≡ mark.Ended (mark.Marked n) → count s.disks (λ d. mark.is_marked s (f d)) ≡ n
    by false o is = absurd (cc)
    by true (Some d) is = absurd (cc)
    by true None is = cc

one_of : (a b : Bool) → (a || b) ≡ true → (a ≡ true) ⊎ (b ≡ true)
one_of true b is = inl refl
one_of false b is = inr is

counts_by : (s : mark.Setup) (a : List Heard) → mark.is_marked s a ≡ true → Counts s.host a
counts_by s a is =
    let parts = and_parts (mark.is_left s a) ((mark.own_block s a).says.mark || nat_le mark.nine_calls (length a)) is in (
      (and_parts (all_good a) _ parts.0).0,
      elim (one_of (mark.own_block s a).says.mark (nat_le mark.nine_calls (length a)) parts.1) [
        | inl has ↦ inl has
        | inr nine ↦ inr (leb-true mark.nine_calls (length a) nine)
      ],
    )

-- whatever marking is under way is of this slot
abbrev pub IsOn : ℕ → ℕ → Doing → Type 0
IsOn slot n (Marks t) = t.slot ≡ slot
IsOn slot n other = Unit {0}

-- so it is of a marking that begins on it
begins_on_slot : (c : Shape) (old : Host) (slot : ℕ) → Does (IsOn slot) (begins_on c old (Mark slot))
begins_on_slot c Stopped slot = tt
begins_on_slot c (Running m) slot = by (nat_lt slot (length m.learned))
  where
    by : (b : Bool) → Does (IsOn slot) (Running (if b then does m (Marks (record { slot = slot; heard = [] })) else says m (said.Refused refusal.NotLearned)))
    by true = refl
    by false = tt

module _ (c : Shape) (log : List Filled) (run : IsRun c log) (i j host slot n : ℕ) (is : IsMarking c log i j host slot n) where
  abbrev OnSlot : World → Type 0
  OnSlot w = Does (IsOn slot) (w.host host)

  -- the host makes device calls alone meanwhile
  new_on : (p : ℕ) (e : Filled) → i < p → p ≤ j → slice_get log p ≡ Some e → (k : ℕ) (doing : Doing) → IsNew host e doing → IsOn slot k doing
  new_on p e after before found k (Marks t) new =
      let call = is.calls p e after before found (ap (is_of host) new.1 ∙ eq-eqb host host refl) in
      let both : Begin host (Mark t.slot) ≡ Called host call.disk call.call call.answer call.left = sym new.1 ∙ call.is in
      absurd (cc)
  new_on p e after before found k other new = tt

  stays_on : (m : Memory) (doing : Doing) (k : ℕ) (call : Call) (answer : Answer) (left : List ℕ) → IsOn slot (length m.learned) doing → IsOn slot (length m.learned) (with_answer doing k answer)
  stays_on m (Marks t) k call answer left so = so
  stays_on m other k call answer left so = tt

  on_slot : i < j → OnSlot (at c log j)
  on_slot less =
      up_to c log OnSlot (suc i) j (omega arith)
      (λ p e from before found so. goes_next c host (IsOn slot) (IsOn slot) (at c log p) e (new_on p e from (omega arith) found) (λ m doing running does here. here)
      (λ m doing k call answer left same running does here. stays_on m doing k call answer left here) so)
      (subst (Does (IsOn slot)) (sym (host_next c log i (Begin host (Mark slot)) host is.begins (eq-eqb host host refl))) (begins_on_slot c ((at c log i).host host) slot))

  -- THE ANSWER

  abbrev here : World
  here = at c log j

  now : (e : Filled) → slice_get log j ≡ Some e → at c log (j + 1) ≡ next_world c here e
  now e found = let number : suc j ≡ j + 1 = omega arith in subst (λ (k : ℕ). at c log k ≡ next_world c here e) number (at_next c log j e found)

  -- it comes behind the entry with which the marking begins
  later : (k : ℕ) (call : Call) (answer : Answer) (left : List ℕ) → slice_get log j ≡ Some (Called host k call answer left) → i < j
  later k call answer left found = elim (cases_eq i j) [
    | inl same ↦ absurd (let both : Some (Begin host (Mark slot)) ≡ Some (Called host k call answer left) = sym is.begins ∙ ap (slice_get log) same ∙ found in cc)
    | inr off ↦ (let order = is.order in omega (arith, order, off))
  ]

  counted_by : IsSaidBy c log j host (said.Marked n) → IsMarkedOnMany c (at c log (j + 1)) slot host n
  counted_by (ByBeginning m says) = absurd (begins_counts c m n says)
  counted_by (ByLook t there says) =
      let longer = looking_with t (record { disk = there.disk; heard = heard_as there.answer }) in
      absurd (look_counts c there.memory longer (look.status (look_of c there.memory t.first) (on longer.heard)) n says)
  counted_by (ByMarking t there says) =
      let m = there.memory in
      let s = marking_of c host m t.slot in
      let longer = marking_with t (record { disk = there.disk; heard = heard_as there.answer }) in
      let ended = marking_counts m longer (mark.status s (on longer.heard)) n says in
      let e = Called host there.disk there.call there.answer there.left in
      let ms = moves_at c log run j in
      let tied = tied_at c log run j in
      let may : MayFollow c here e = each c log j e run there.entry in
      let keeps = keeps_at c log run j e there.entry in
      let before = kept c here ms tied host e may keeps m t there.running there.does (marked_at c log run j host m t there.running there.does) in
      let marked = marked_more c here ms tied host e may keeps m t there.running there.does there.disk there.call there.answer there.left refl before in
      let slot_is : t.slot ≡ slot = does_at (IsOn slot) (here.host host) m (Marks t) (on_slot (later there.disk there.call there.answer there.left there.entry)) there.running there.does in
      record {
        those = λ d. mark.is_marked s (on longer.heard d);
        many = counted_is s (on longer.heard) n ended;
        each = λ d inside those. subst (λ (w : World). IsMarkedOn w slot host d) (sym (now e there.entry))
            (subst (λ (a : ℕ). IsMarkedOn (next_world c here e) a host d) slot_is (marked d (counts_by s (on longer.heard d) those)));
      }

  pub counts_marked : IsMarkedOnMany c (at c log (j + 1)) slot host n
  counts_marked = counted_by (said_by c log j host (said.Marked n) tt run is.says)

pub counts : (c : Shape) (log : List Filled) → IsRun c log → CountsMarked c log
counts c log run i j host slot n is = counts_marked c log run i j host slot n is
