-- Whatever entry follows, a marked block stays marked.
use Rattle.std.proofs.Common.{ℕ, ◌<◌, ◌≡◌, ◌==◌, true, List, sym, subst}
use Rattle.std.proofs.lemmas.Bool.{eqb-true}
use Rattle.disk.specs.declared.fault.DiskFault.TheVariants.{Failed}
use Rattle.disk.specs.Disk.{DiskState, Fault, Crashes}
use Rattle.torn_block.specs.Layout.{cluster_version}
use Rattle.torn_block.specs.declared.layout.TheConstants.{HOSTS}
use Rattle.torn_block.proofs.RegisterLaws.{rests_crashed}
use Rattle.paxos_block.specs.Places.{VoteOf, place_of}
use Rattle.paxos_block.proofs.Outcomes.{Outcomes}
use Rattle.paxos_block.specs.Shape.{Shape}
use Rattle.world.specs.Entry.{Filled, Called, Torn, Crashed, Lost, Migrated, is_on, disk_step}
use Rattle.world.specs.World.{World, MayFollow}
use Rattle.world_safety.specs.Marks.{AllSay}
use Rattle.world_safety.specs.Next.{next_world}
use Rattle.world_safety.specs.Tied.{Moves, Tied}
use Rattle.world_safety.proofs.Blocks.Keeping.{spares_lost}
use Rattle.world_safety.proofs.Blocks.Values.{all_say_by}
use Rattle.world_safety.proofs.Moves.Calling.{tears}
use Rattle.world_marks.specs.Found.{IsMarkedOn}
use Rattle.world_marks.proofs.Keeping.{AttemptKnown, call_keeps}
use Rattle.world_marks.proofs.Steps.{disk_by}
use Rattle.world_marks.proofs.Unmarked.{HasMark}

module _ (c : Shape) (w : World) (ms : Moves) (tied : Tied c w ms) (K : ℕ → List ℕ → Type 0) (known : (h : ℕ) → AttemptKnown K w h) (slot host d : ℕ) (slot_below : slot < c.slots) (below : host < HOSTS) (before : IsMarkedOn w slot host d) where
  abbrev IsSo : DiskState → Type 0
  IsSo disk = AllSay HasMark (place_of cluster_version (VoteOf slot host)) disk

  -- on another disk, or on this one
  on_this : (k : ℕ) → (k == d) ≡ true → (step : DiskState → DiskState) → (IsSo (w.disk k) → IsSo (step (w.disk k))) → IsSo (step (w.disk d))
  on_this k same step keeps = subst (λ (j : ℕ). (IsSo (w.disk j) → IsSo (step (w.disk j))) → IsSo (step (w.disk d))) (sym (eqb-true k d same)) (λ goes. goes before) keeps

  crashed : (k : ℕ) (left : List ℕ) → Crashes (w.disk k) (disk_step (w.disk k) (Crashed k left)) → IsSo (w.disk k) → IsSo (disk_step (w.disk k) (Crashed k left))
  crashed k left crash is =
      let new = disk_step (w.disk k) (Crashed k left) in
      let outcomes : Outcomes cluster_version (w.disk k) (place_of cluster_version (VoteOf slot host)) new = λ bytes may. (left, crash.bytes, rests_crashed cluster_version (place_of cluster_version (VoteOf slot host)) (w.disk k) new crash bytes may) in
      all_say_by HasMark (place_of cluster_version (VoteOf slot host)) (w.disk k) new outcomes is

  step_keeps : (e : Filled) → MayFollow c w e → is_on d e ≡ true → IsSo (disk_step (w.disk d) e)
  step_keeps (Called h k call answer left) may on =
      on_this k on (λ disk. disk_step disk (Called h k call answer left)) (λ is. call_keeps c w ms tied h k call answer left may.0 may.1 K (known h) slot host slot_below below is)
  step_keeps (Torn h k call left) may on =
      on_this k on (λ disk. disk_step disk (Torn h k call left)) (λ is. call_keeps c w ms tied h k call (Fault Failed) left may.0 (tears c w ms tied h k call left may.1) K (known h) slot host slot_below below is)
  step_keeps (Crashed k left) may on = on_this k on (λ disk. disk_step disk (Crashed k left)) (crashed k left may.2)
  step_keeps (Lost k) may on = all_say_by HasMark (place_of cluster_version (VoteOf slot host)) (w.disk d) (disk_step (w.disk d) (Lost k)) (spares_lost (place_of cluster_version (VoteOf slot host)) (w.disk d)).outcomes before
  step_keeps (Migrated disks log) may on = absurd may
  step_keeps other may on = absurd (cc)

  pub entry_keeps : (e : Filled) → MayFollow c w e → IsMarkedOn (next_world c w e) slot host d
  entry_keeps e may = disk_by c w e d IsSo (λ on. step_keeps e may on) before
