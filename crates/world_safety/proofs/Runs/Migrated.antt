-- Where the machines have come to, and which marks are true, behind a migration of a log.
use Rattle.std.specs.Prelude.{slice_get, cond, map, nat_lt, ◌==◌}
use Rattle.std.proofs.Common.{ℕ, zero, suc, ◌<◌, ◌≡◌, Bool, true, false, inr, Some, None, List, refl, sym, subst, ap, ◌∙◌, arith}
use Rattle.std.proofs.lemmas.Bool.{lt-ltb}
use Rattle.std.proofs.lemmas.List.{length-map}
use Rattle.std.proofs.lemmas.Option.{slice_get_within}
use Rattle.disk.specs.Disk.{DiskState}
use Rattle.disk.specs.Simulated.{fresh_disk}
use Rattle.disk.proofs.StepLemmas.{shape_fresh}
use Rattle.torn_block.specs.Layout.{cluster_version}
use Rattle.torn_block.specs.declared.layout.TheConstants.{HOSTS}
use Rattle.paxos_block.specs.Places.{VoteOf, IsImage, place_of, image_length}
use Rattle.lock_command.specs.declared.command.Command.{Command}
use Rattle.lock_command.specs.Command.{spelling}
use Rattle.paxos_block.specs.Shape.{Shape}
use Rattle.world.specs.Entry.{Filled, Migrated, migrated_to}
use Rattle.world.specs.World.{World, opening_disk, CanMigrate}
use Rattle.world.specs.Chosen.{at, IsMigrated}
use Rattle.world.proofs.Runs.{migrated_is}
use Rattle.agreement.specs.State.{blank, away}
use Rattle.agreement.specs.Event.{at_rest}
use Rattle.agreement.specs.Placed.{placed, voted, ArePlaced}
use Rattle.agreement.proofs.PlacingAll.{are_placed}
use Rattle.attempt_safety.specs.Machine.{Machine}
use Rattle.world_safety.specs.Blocks.{Stands}
use Rattle.world_safety.specs.Marks.{IsMarkTrue, AllSay, AllMarksTrue}
use Rattle.world_safety.specs.Next.{next_world}
use Rattle.world_safety.specs.Tied.{Moves, machine, Tied}
use Rattle.world_safety.specs.Tracks.{IsChosenBefore}
use Rattle.world_safety.proofs.Blocks.Standing.{stands_fresh, fresh_unmarked}
use Rattle.world_safety.proofs.Blocks.Migrated.{image, stands_migrated, marked_migrated, marks_migrated}
use Rattle.world_safety.proofs.Moves.Machines.{machine_is}
use Rattle.world_safety.proofs.Runs.Places.{at_next}

module _ (c : Shape) (log : List Filled) (commands : List Command) (at_first : slice_get log zero ≡ Some (Migrated c.disks commands)) (can : CanMigrate c commands) where
  abbrev pub values : List (List ℕ)
  values = map spelling commands

  abbrev pub moves_first : Moves
  moves_first = placed c.disks values

  pub are : ArePlaced c.disks values
  are = are_placed c.disks can.disk values

  abbrev pub begun_world : World
  begun_world = next_world c (at c log zero) (Migrated c.disks commands)

  pub is_next : at c log (suc zero) ≡ begun_world
  is_next = at_next c log zero (Migrated c.disks commands) at_first

  -- each disk is as the migration left it, or fresh where there is none
  by_disk_first : (P : DiskState → Bool → Type 0) → P (migrated_to (opening_disk c) commands) true → P (fresh_disk (image_length cluster_version c.slots)) false → (d : ℕ) → P (begun_world.disk d) (nat_lt d c.disks)
  by_disk_first P here there d = go (nat_lt d c.disks)
    where
      go : (b : Bool) → P (cond b (migrated_to (opening_disk c) commands) (fresh_disk (image_length cluster_version c.slots))) b
      go true = here
      go false = there

  said_here : (slot host : ℕ) → cond (host == 0) (voted (slice_get values slot)) blank ≡ voted (cond (host == 0) (slice_get values slot) None)
  said_here slot host = go (host == 0)
    where
      go : (b : Bool) → cond b (voted (slice_get values slot)) blank ≡ voted (cond b (slice_get values slot) None)
      go true = refl
      go false = refl

  said_there : (slot host : ℕ) → cond (host == 0) (cond false (voted (slice_get values slot)) blank) blank ≡ blank
  said_there slot host = go (host == 0)
    where
      go : (b : Bool) → cond b (blank {Value = List ℕ}) blank ≡ blank
      go true = refl
      go false = refl

  stand : (slot host d : ℕ) → slot < c.slots → host < HOSTS → Stands (begun_world.disk d) slot host ((machine moves_first slot).cell host d)
  stand slot host d slot_below below =
      subst (Stands (begun_world.disk d) slot host) (sym (ap (λ (m : Machine). m.cell host d) (sym (machine_is moves_first slot)) ∙ are.cells slot host d))
      (by_disk_first (λ disk b. Stands disk slot host (at_rest (cond (host == 0) (cond b (voted (slice_get values slot)) blank) blank) away))
      (stands_migrated c commands can slot host (at_rest (cond (host == 0) (voted (slice_get values slot)) blank) away) slot_below below (said_here slot host))
      (subst (λ x. Stands (fresh_disk (image_length cluster_version c.slots)) slot host (at_rest x away)) (sym (said_there slot host)) (stands_fresh (image_length cluster_version c.slots) slot host))
      d)

  pub tied_begun : Tied c begun_world moves_first
  tied_begun =
      record {
        history = are.history;
        images = by_disk_first (λ disk b. IsImage cluster_version c.slots disk) (image c commands can) (let shape = shape_fresh (image_length cluster_version c.slots) in record { whole = shape.0; long = shape.1 });
        stands = stand;
        hosts = λ h. are.learned h;
      }

  -- the block of each slot of the log is marked on each disk
  pub marked_first : (slot d : ℕ) (v : List ℕ) → d < c.disks → slice_get values slot ≡ Some v → AllSay (λ says. says.mark ≡ true) (place_of cluster_version (VoteOf slot 0)) (begun_world.disk d)
  marked_first slot d v inside is =
      let below : slot < c.slots = let within = slice_get_within values slot v is in let few = can.slots in let size = length-map commands spelling in omega arith in
      subst (λ (b : Bool). AllSay (λ says. says.mark ≡ true) (place_of cluster_version (VoteOf slot 0)) (cond b (migrated_to (opening_disk c) commands) (fresh_disk (image_length cluster_version c.slots)))) (sym (lt-ltb d c.disks inside)) (marked_migrated c commands can slot v below is)

  pub migrated_here : (slot : ℕ) (v : List ℕ) → IsMigrated log slot v → slice_get values slot ≡ Some v
  migrated_here slot v is = ap (λ (l : List Command). slice_get (map spelling l) slot) (sym (migrated_is log c.disks commands at_first)) ∙ is

  pub migrated_there : (slot : ℕ) (v : List ℕ) → slice_get values slot ≡ Some v → IsMigrated log slot v
  migrated_there slot v is = ap (λ (l : List Command). slice_get (map spelling l) slot) (migrated_is log c.disks commands at_first) ∙ is

  pub marks_begun : AllMarksTrue c begun_world (IsChosenBefore c log (suc zero))
  marks_begun slot host d slot_below below =
      by_disk_first (λ disk b. AllSay (IsMarkTrue (IsChosenBefore c log (suc zero) slot)) (place_of cluster_version (VoteOf slot host)) disk)
      (marks_migrated c commands can (IsChosenBefore c log (suc zero) slot) slot host slot_below below (λ v is. inr (omega arith, migrated_there slot v is)))
      (λ bytes left marked. absurd (fresh_unmarked (image_length cluster_version c.slots) slot host bytes left marked))
      d
