-- What the moves of an entry tell of its host, and that what is chosen stays so.
use Rattle.std.proofs.Common.{ℕ, ◌≤◌, ◌≡◌, ◌==◌, ◌⊎◌, inl, inr, Bool, true, false, cond, Option, Some, None, List, [], ◌∷◌, ◌++◌, length, append-nil, append_assoc, refl, sym, subst, ap, ◌∙◌}
use Rattle.std.proofs.lemmas.Bool.{eqb-true}
use Rattle.disk.specs.Disk.{DiskState, Call, Answer}
use Rattle.torn_block.specs.Layout.{cluster_version}
use Rattle.torn_block.specs.Block.{value_of}
use Rattle.paxos_block.specs.Places.{VoteOf, place_of}
use Rattle.paxos_block.specs.Row.{says_of}
use Rattle.paxos_block.proofs.Outcomes.{Outcomes}
use Rattle.attempt.specs.Answers.{Answers}
use Rattle.attempt.specs.Proposal.{ballot}
use Rattle.attempt.specs.Setup.{Setup}
use Rattle.paxos_block.specs.Shape.{Shape}
use Rattle.host.specs.Host.{Attempt, Doing, Attempts, Memory, Host, Stopped, Running, hears_from}
use Rattle.world.specs.Entry.{Filled, Called, Torn, is_on, disk_step, host_step}
use Rattle.world.specs.World.{World}
use Rattle.agreement.specs.Event.{Event, IsRun, state_after}
use Rattle.agreement.specs.Event.Event.{Starts}
use Rattle.agreement.specs.Chosen.{IsInput, IsProposed, IsChosenBy, IsChosen, IsEmpty}
use Rattle.agreement.specs.Log.{events_of_slot, IsHistory}
use Rattle.agreement.specs.Log.Move.{At, Restart}
use Rattle.agreement.proofs.Growing.{proposed_stays, chosen_stays}
use Rattle.agreement.proofs.Runs.{places}
use Rattle.world_safety.specs.Goes.{Has, IsTryingAt, HostGoes, Carries, Goes}
use Rattle.world_safety.specs.Marks.{AllSay, MaySayOn, HasLearned, KeepsMarks}
use Rattle.world_safety.specs.Next.{next_world, with_host}
use Rattle.world_safety.specs.Tied.{Moves, machine, IsRunning, HostAt, TiedBut, Tied}
use Rattle.world_safety.proofs.Moves.Beside.{IsNoAttempt}
use Rattle.world_safety.proofs.Moves.Due.{IsBusyWith}
use Rattle.world_safety.proofs.Moves.Hosts.{Late, tied_with, but_stops, stops_learned}
use Rattle.world_safety.proofs.Moves.OneBlock.{with_disks}
use Rattle.world_safety.proofs.Moves.Settling.{IsQuiet}
use Rattle.attempt_safety.proofs.Slotting.{events_append}
use Rattle.world_safety.proofs.Moves.Machines.{machine_runs, input_append}

-- WHAT IS CHOSEN STAYS SO

pub chosen_by_later : (disks : ℕ) (ms late : Moves) (k b : ℕ) (v : List ℕ) → IsHistory disks (ms ++ late) → IsChosenBy disks (machine ms k) b v → IsChosenBy disks (machine (ms ++ late) k) b v
chosen_by_later disks ms late k b v history is =
    let run = subst (λ (es : List (Event (List ℕ))). IsRun disks es) (events_append k ms late) (machine_runs disks (ms ++ late) k history) in
    let both = places disks (events_of_slot k ms) (events_of_slot k late) run in
    subst (λ (es : List (Event (List ℕ))). IsChosenBy disks (state_after es) b v) (sym (events_append k ms late))
    (chosen_stays disks (state_after (events_of_slot k ms)) (state_after (events_of_slot k ms ++ events_of_slot k late)) both.grows b v is)

-- and so is what is proposed
pub proposed_by_later : (disks : ℕ) (ms late : Moves) (k b : ℕ) (v : List ℕ) → IsHistory disks (ms ++ late) → IsProposed (machine ms k).proposed b v → IsProposed (machine (ms ++ late) k).proposed b v
proposed_by_later disks ms late k b v history is =
    let run = subst (λ (es : List (Event (List ℕ))). IsRun disks es) (events_append k ms late) (machine_runs disks (ms ++ late) k history) in
    let both = places disks (events_of_slot k ms) (events_of_slot k late) run in
    subst (λ (es : List (Event (List ℕ))). IsProposed (state_after es).proposed b v) (sym (events_append k ms late)) (proposed_stays both.grows.proposed is)

pub carries_later : (s : Setup) (f : Answers) (ms late : Moves) (k : ℕ) → IsHistory s.disks (ms ++ late) → Carries (machine ms k) s f → Carries (machine (ms ++ late) k) s f
carries_later s f ms late k history is =
    record {
      proposed = λ v proposes. proposed_by_later s.disks ms late k (ballot s f) v history (is.proposed v proposes);
      chosen = λ v chooses. chosen_by_later s.disks ms late k (ballot s f) v history (is.chosen v chooses);
    }

pub chosen_later : (disks : ℕ) (ms late : Moves) (k : ℕ) (v : List ℕ) → IsHistory disks (ms ++ late) → IsChosen disks (machine ms k) v → IsChosen disks (machine (ms ++ late) k) v
chosen_later disks ms late k v history is = (is.0, chosen_by_later disks ms late k is.0 v history is.1)

-- THE HOST OF AN ENTRY

pub for_host : (P : ℕ → Type 0) (h g : ℕ) → (h == g) ≡ true → P h → P g
for_host P h g of is = subst P (eqb-true h g of) is

-- by the moves of its host, behind some before them
module _ (c : Shape) (w w2 : World) (e : Filled) (ms early : Moves) (h : ℕ) (trying : Option ℕ) (new : Memory) (late : Late c w2 (ms ++ early) h trying new) (is : host_step c h (w.host h) e ≡ Running new)
    (was : (n : ℕ) → trying ≡ Some n → IsTryingAt w h n) where
  all_moves : (ms ++ early) ++ late.late ≡ ms ++ (early ++ late.late)
  all_moves = append_assoc ms early late.late

  memory_is : (m : Memory) → host_step c h (w.host h) e ≡ Running m → new ≡ m
  memory_is m now = let both : Running new ≡ Running m = sym is ∙ now in cc

  begun_by : (m : Memory) (t : Attempt) → new ≡ m → m.doing ≡ Some (Attempts t) → IsTryingAt w h (length m.learned) ⊎ Has (early ++ late.late) (At (length m.learned) (Starts h))
  begun_by m t same does =
      subst (λ (k : Memory). IsTryingAt w h (length k.learned) ⊎ Has (early ++ late.late) (At (length k.learned) (Starts h))) same
      (elim (late.begun t (ap (λ (k : Memory). k.doing) same ∙ does)) [
        | inl before ↦ inl (was (length new.learned) before)
        | inr has ↦ inr (early ++ has.0, has.1, ap (λ (l : Moves). early ++ l) has.2 ∙ sym (append_assoc early has.0 (At (length new.learned) (Starts h) ∷ has.1)))
      ])

  pub late_goes : HostGoes c w e ms (early ++ late.late) h
  late_goes =
      record {
        begun = λ m t now does. begun_by m t (memory_is m now) does;
        empty = λ m n now said. (let same = memory_is m now in
            subst (λ (k : Memory). (c.slots ≤ length k.learned) ⊎ (IsTryingAt w h (length k.learned) × IsEmpty c.disks (machine (ms ++ (early ++ late.late)) (length k.learned)) h)) same
            (elim (late.empty n (ap (λ (k : Memory). k.said) same ∙ said)) [
              | inl full ↦ inl full
              | inr found ↦ inr (was (length new.learned) found.tried, subst (λ (l : Moves). IsEmpty c.disks (machine l (length new.learned)) h) all_moves found.empty)
            ]));
      }

  pub late_tied : (becomes : ℕ → Host) → becomes h ≡ Running new → Tied c (with_host w2 h becomes) (ms ++ (early ++ late.late))
  late_tied becomes now =
      subst (λ (l : Moves). Tied c (with_host w2 h becomes) l) all_moves
      (tied_with c w2 ((ms ++ early) ++ late.late) h becomes late.tied (subst (HostAt c w2 ((ms ++ early) ++ late.late) h) (sym now) late.running))

-- a host that is not running after the entry has nothing to tell
pub stopped_goes : (c : Shape) (w : World) (e : Filled) (ms more : Moves) (h : ℕ) → host_step c h (w.host h) e ≡ Stopped → HostGoes c w e ms more h
stopped_goes c w e ms more h is =
    record {
      begun = λ m t now does. absurd (let both : Stopped ≡ Running m = sym is ∙ now in cc);
      empty = λ m n now said. absurd (let both : Stopped ≡ Running m = sym is ∙ now in cc);
    }

module _ (c : Shape) (w : World) (ms : Moves) (tied : Tied c w ms) where
  pub running_at : (h : ℕ) (m : Memory) → w.host h ≡ Running m → IsRunning c w ms h m
  running_at h m is = subst (HostAt c w ms h) is (tied.hosts h)

-- MARKS

-- an entry on no disk leaves all blocks
pub marks_stay : (c : Shape) (w : World) (e : Filled) → ((d : ℕ) → is_on d e ≡ false) → KeepsMarks c w (next_world c w e)
marks_stay c w e off slot host d slot_below below =
    subst (λ (b : Bool). AllSay (λ says. says.mark ≡ true → MaySayOn (place_of cluster_version (VoteOf slot host)) (w.disk d) says ⊎ HasLearned w host slot says) (place_of cluster_version (VoteOf slot host)) (cond b (disk_step (w.disk d) e) (w.disk d)))
    (sym (off d))
    (λ bytes left marked. inl (bytes, left, refl))

-- and so does one that leaves a block no other outcome
pub marks_by : (w : World) (slot host : ℕ) (disk new : DiskState) → Outcomes cluster_version disk (place_of cluster_version (VoteOf slot host)) new
    → AllSay (λ says. says.mark ≡ true → MaySayOn (place_of cluster_version (VoteOf slot host)) disk says ⊎ HasLearned w host slot says) (place_of cluster_version (VoteOf slot host)) new
marks_by w slot host disk new o bytes left marked = let b = o bytes left in inl (b.0, b.1, ap (λ (block : List ℕ). says_of cluster_version (value_of cluster_version block)) (sym b.2))

-- ON ONE DISK

-- the disk of the entry makes a step
abbrev pub disk_then : World → ℕ → Filled → World
disk_then w k e = with_disks w (λ d. cond (k == d) (disk_step (w.disk d) e) (w.disk d))

-- A host hears an answer, but no attempt does. It has come to where it stands by a few moves, and so the entry is these.
module _ (c : Shape) (w : World) (ms : Moves) (h k : ℕ) (call : Call) (answer : Answer) (left : List ℕ) (doing : Doing) (it : IsBusyWith c h k call (w.host h) doing) where
  abbrev heard : Memory
  heard = hears_from c h it.memory (Some doing) k answer

  heard_is : host_step c h (w.host h) (Called h k call answer left) ≡ Running heard
  heard_is = ap (λ (host : Host). host_step c h host (Called h k call answer left)) it.running ∙ ap (λ (o : Option Doing). Running (hears_from c h it.memory o k answer)) it.does

  module _ (none : IsNoAttempt (Some doing)) (late : Late c (disk_then w k (Called h k call answer left)) ms h None heard) where
    by : Late c (disk_then w k (Called h k call answer left)) (ms ++ []) h None heard
    by = subst (λ (l : Moves). Late c (disk_then w k (Called h k call answer left)) l h None heard) (sym (append-nil ms)) late

    pub beside_called_goes : KeepsMarks c w (disk_then w k (Called h k call answer left)) → Goes c w (Called h k call answer left) ms
    beside_called_goes keeps =
        record {
          more = by.late;
          tied = late_tied c w (disk_then w k (Called h k call answer left)) (Called h k call answer left) ms [] h None heard by heard_is (λ n is. absurd (cc)) (λ g. host_step c g (w.host g) (Called h k call answer left)) heard_is;
          inputs = λ j v input. absurd (by.quiet j v input);
          host = λ g of. for_host (λ i. HostGoes c w (Called h k call answer left) ms by.late i) h g of
              (late_goes c w (disk_then w k (Called h k call answer left)) (Called h k call answer left) ms [] h None heard by heard_is (λ n is. absurd (cc)));
          carries = λ m t running does. absurd (
              let both : Running it.memory ≡ Running m = sym it.running ∙ running in
              let one : it.memory ≡ m = cc in
              let is : Some doing ≡ Some (Attempts t) = sym it.does ∙ ap (λ (n : Memory). n.doing) one ∙ does in
              subst IsNoAttempt is none);
          marks = keeps;
        }

-- A host stops within a write: one move more.
module _ (c : Shape) (w : World) (ms : Moves) (h k : ℕ) (call : Call) (left : List ℕ) (early : Moves) (quiet : IsQuiet early) (but : TiedBut c (disk_then w k (Torn h k call left)) (ms ++ early) h) where
  torn_input : (j : ℕ) (v : List ℕ) → IsInput (events_of_slot j (early ++ Restart h ∷ [])) v → ⊥
  torn_input j v input =
      elim (input_append (events_of_slot j early) (events_of_slot j (Restart h ∷ [])) v (subst (λ (es : List (Event (List ℕ))). IsInput es v) (events_append j early (Restart h ∷ [])) input)) [
        | inl before ↦ quiet j v before
        | inr later ↦ elim later [ inl puts ↦ puts | inr rest ↦ rest ]
      ]

  pub stops_within : KeepsMarks c w (disk_then w k (Torn h k call left)) → Goes c w (Torn h k call left) ms
  stops_within keeps =
      record {
        more = early ++ Restart h ∷ [];
        tied = subst (λ (l : Moves). Tied c (next_world c w (Torn h k call left)) l) (append_assoc ms early (Restart h ∷ []))
            (tied_with c (disk_then w k (Torn h k call left)) ((ms ++ early) ++ Restart h ∷ []) h (λ g. Stopped) (but_stops c (disk_then w k (Torn h k call left)) (ms ++ early) h but) (stops_learned c (disk_then w k (Torn h k call left)) (ms ++ early) h but));
        inputs = λ j v input. absurd (torn_input j v input);
        host = λ g of. for_host (λ i. HostGoes c w (Torn h k call left) ms (early ++ Restart h ∷ []) i) h g of (stopped_goes c w (Torn h k call left) ms (early ++ Restart h ∷ []) h refl);
        carries = tt;
        marks = keeps;
      }

-- so it is where no move was made before
pub beside_torn_goes : (c : Shape) (w : World) (ms : Moves) (h k : ℕ) (call : Call) (left : List ℕ) → TiedBut c (disk_then w k (Torn h k call left)) ms h → KeepsMarks c w (disk_then w k (Torn h k call left)) → Goes c w (Torn h k call left) ms
beside_torn_goes c w ms h k call left but keeps =
    stops_within c w ms h k call left [] (λ j v input. input) (subst (λ (l : Moves). TiedBut c (disk_then w k (Torn h k call left)) l h) (sym (append-nil ms)) but) keeps
