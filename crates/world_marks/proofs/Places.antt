-- Place by place: a marked block stays marked, an attempt's unmarked one unmarked, and what a marking counts is marked.
use Rattle.std.specs.Prelude.{slice_get}
use Rattle.std.proofs.Common.{ℕ, zero, ◌<◌, ◌≡◌, inl, inr, Some, List, length, sym, subst, ap, ◌∙◌}
use Rattle.disk.specs.Disk.{Call, Answer}
use Rattle.disk.specs.Simulated.{fresh_disk}
use Rattle.disk.proofs.CrashLemmas.{may_leave_now}
use Rattle.torn_block.specs.Layout.{cluster_version}
use Rattle.paxos_block.specs.Places.{image_length}
use Rattle.torn_block.specs.declared.layout.TheConstants.{HOSTS}
use Rattle.paxos_block.specs.Shape.{Shape}
use Rattle.host.specs.Host.{Marking, Doing, Attempts, Marks, Memory, Host, Stopped, Running}
use Rattle.world.specs.Entry.{Filled, Called}
use Rattle.world.specs.World.{World, MayFollow, MayBegin, IsRun}
use Rattle.world.specs.Chosen.{at}
use Rattle.world.proofs.Runs.{each, follows_or, migrated_first}
use Rattle.world_safety.specs.Marks.{KeepsMarks}
use Rattle.world_safety.specs.Next.{next_world}
use Rattle.world_safety.specs.Tied.{Moves, Tied}
use Rattle.world_safety.specs.Tracks.{IsChosenBefore, IsTrueDoing, IsTrueOf}
use Rattle.world_safety.proofs.Blocks.Standing.{fresh_unmarked}
use Rattle.world_safety.proofs.Runs.Places.{by_place}
use Rattle.world_safety.proofs.Runs.Tracks.{moves_at, tied_at, all_true, step_by, stopped_behind}
use Rattle.world_marks.specs.Found.{IsMarkedOn, StaysMarked}
use Rattle.world_marks.proofs.Entries.{entry_keeps}
use Rattle.world_marks.proofs.Keeping.{AttemptKnown}
use Rattle.world_marks.proofs.Marking as marking
use Rattle.world_marks.proofs.Marking.{Marked, nothing_counted, marked_more}
use Rattle.world_marks.proofs.Steps.{Does, does_at, IsNew, with_answer, goes_next, up_to}
use Rattle.world_marks.proofs.Unmarked as unmarked
use Rattle.world_marks.proofs.Unmarked.{Unmarked, nothing_read, more_so}

-- an attempt's unmarked block is so, and what a marking counts is marked
abbrev pub IsKnown : World → ℕ → ℕ → Doing → Type 0
IsKnown w h n (Attempts t) = Unmarked w h n t.heard
IsKnown w h n (Marks t) = Marked w h t.slot t.heard
IsKnown w h n other = Unit {0}

module _ (c : Shape) (w : World) (ms : Moves) (tied : Tied c w ms) (e : Filled) (may : MayFollow c w e) (goes : KeepsMarks c w (next_world c w e))
    (keeps : (slot host d : ℕ) → slot < c.slots → host < HOSTS → IsMarkedOn w slot host d → IsMarkedOn (next_world c w e) slot host d) (h : ℕ) where
  abbrev w' : World
  w' = next_world c w e

  -- with each entry
  known_next : Does (IsKnown w h) (w.host h) → Does (IsKnown w' h) (w'.host h)
  known_next = goes_next c h (IsKnown w h) (IsKnown w' h) w e new stays more
    where
      new : (n : ℕ) (doing : Doing) → IsNew h e doing → IsKnown w' h n doing
      new n (Attempts t) none = subst (Unmarked w' h n) (sym none) (nothing_read w' h n)
      new n (Marks t) none = subst (Marked w' h t.slot) (sym none.0) (nothing_counted w' h t.slot)
      new n other none = tt

      stays : (m : Memory) (doing : Doing) → w.host h ≡ Running m → m.doing ≡ Some doing → IsKnown w h (length m.learned) doing → IsKnown w' h (length m.learned) doing
      stays m (Attempts t) running does is = unmarked.kept c w ms tied e goes h m t running does is
      stays m (Marks t) running does is = marking.kept c w ms tied h e may keeps m t running does is
      stays m other running does is = tt

      more : (m : Memory) (doing : Doing) (k : ℕ) (call : Call) (answer : Answer) (left : List ℕ) → e ≡ Called h k call answer left → w.host h ≡ Running m → m.doing ≡ Some doing → IsKnown w' h (length m.learned) doing
          → IsKnown w' h (length m.learned) (with_answer doing k answer)
      more m (Attempts t) k call answer left same running does is = more_so c w ms tied e goes h m t running does k call answer left same may is
      more m (Marks t) k call answer left same running does is = marked_more c w ms tied h e may keeps m t running does k call answer left same is
      more m other k call answer left same running does is = tt

module _ (c : Shape) (log : List Filled) (run : IsRun c log) where
  -- what holds of a stopped host holds behind the migration
  by_migration : (P : Host → Type 0) → P Stopped → (j : ℕ) (e : Filled) → slice_get log j ≡ Some e → MayBegin c (at c log j) e → (h : ℕ) → (MayFollow c (at c log j) e → P ((next_world c (at c log j) e).host h)) → P ((next_world c (at c log j) e).host h)
  by_migration P stopped j e is may h follows = elim (follows_or c (at c log j) e may) [
    | inl goes ↦ follows goes
    | inr migration ↦ subst P (sym (stopped_behind c log run j e is migration h)) stopped
  ]

  abbrev AllKnown : ℕ → World → Type 0
  AllKnown i w = (h : ℕ) → Does (IsKnown w h) (w.host h)

  known_of : (i h : ℕ) → AllKnown i (at c log i) → AttemptKnown (IsChosenBefore c log i) (at c log i) h
  known_of i h all m t running does = (
    (subst (IsTrueDoing c log i h (length m.learned)) does (subst (IsTrueOf c log i h) running (all_true c log run i h)).doing).1,
    does_at (IsKnown (at c log i) h) ((at c log i).host h) m (Attempts t) (all h) running does,
  )

  -- an entry keeps all marks
  keeps_by : (i : ℕ) (e : Filled) → slice_get log i ≡ Some e → AllKnown i (at c log i) → (slot host d : ℕ) → slot < c.slots → host < HOSTS → IsMarkedOn (at c log i) slot host d → IsMarkedOn (next_world c (at c log i) e) slot host d
  keeps_by i e is all slot host d slot_below below before =
      elim (follows_or c (at c log i) e (each c log i e run is)) [
        | inl may ↦ entry_keeps c (at c log i) (moves_at c log run i) (tied_at c log run i) (IsChosenBefore c log i) (λ h. known_of i h all) slot host d slot_below below before e may
        | inr migration ↦
            (let first = migrated_first c log i c.disks migration.commands run (is ∙ ap Some migration.is) in
            let fresh = fresh_disk (image_length cluster_version c.slots) in
            let marked : IsMarkedOn (at c log zero) slot host d = subst (λ (j : ℕ). IsMarkedOn (at c log j) slot host d) first before in
            absurd (fresh_unmarked (image_length cluster_version c.slots) slot host fresh.bytes (may_leave_now fresh) (marked fresh.bytes (may_leave_now fresh))))
      ]

  -- so it is at each place
  all_known : (i : ℕ) → AllKnown i (at c log i)
  all_known =
      by_place c log run AllKnown (λ h. tt)
      (λ j e is may before h. by_migration (Does (IsKnown (next_world c (at c log j) e) h)) tt j e is may h
      (λ follows. known_next c (at c log j) (moves_at c log run j) (tied_at c log run j) e follows (step_by c log run j e is follows).goes.marks (keeps_by j e is before) h (before h)))
      (λ j is before. before)

  pub keeps_at : (i : ℕ) (e : Filled) → slice_get log i ≡ Some e → (slot host d : ℕ) → slot < c.slots → host < HOSTS → IsMarkedOn (at c log i) slot host d → IsMarkedOn (next_world c (at c log i) e) slot host d
  keeps_at i e is = keeps_by i e is (all_known i)

  pub marked_at : (i h : ℕ) (m : Memory) (t : Marking) → (at c log i).host h ≡ Running m → m.doing ≡ Some (Marks t) → Marked (at c log i) h t.slot t.heard
  marked_at i h m t running does = does_at (IsKnown (at c log i) h) ((at c log i).host h) m (Marks t) (all_known i h) running does

  pub stays_marked : StaysMarked c log
  stays_marked i j slot host d le slot_below below =
      up_to c log (λ (w : World). IsMarkedOn w slot host d) i j le (λ p e from less is before. keeps_at p e is slot host d slot_below below before)
