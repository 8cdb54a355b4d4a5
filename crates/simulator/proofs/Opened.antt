-- What events make of a beginning: a run, whose list begins with what was moved.
use Rattle.std.specs.Prelude.{take, slice_get}
use Rattle.std.proofs.Common.{ℕ, zero, suc, ◌≡◌, Some, List, [], ◌∷◌, refl, ap, inl, inr}
use Rattle.lock_command.specs.declared.command.Command.{Command}
use Rattle.paxos_block.specs.Shape.{Shape}
use Rattle.world.specs.Entry.{Filled, Migrated}
use Rattle.world.specs.World.{world, CanMigrate, IsRun}
use Rattle.world.specs.Happens.{Event, entry_of, happen, run}
use Rattle.world.specs.Chosen.{migrated}
use Rattle.world.specs.Opening.{Opening, CanBegin, begun_with, begun, run_of}
use Rattle.world.proofs.Runs.{happen_run, run_is_run as run_of_zeros, follows}
use Rattle.simulator.proofs.Entries.{extends, from_event}

-- A RUN

pub begins_run : (c : Shape) (log : List Command) → CanMigrate c log → IsRun c (begun_with c log)
begins_run c [] can = tt
begins_run c (command ∷ log) can = ((refl, can), tt)

pub run_is_run : (o : Opening) (events : List Event) → CanBegin o → IsRun o.shape (run_of o events)
run_is_run o events can = happen_run o.shape (begun o) events (begins_run o.shape o.moved can)

-- WHAT WAS MOVED

-- no event of a run brings a migration
pub no_migration : (c : Shape) (log : List Filled) (event : Event) (disks : ℕ) (moved : List Command) → IsRun c log → entry_of c (world c log) event ≡ Some (Migrated disks moved) → ⊥
no_migration c log event disks moved r is = follows c log event (Migrated disks moved) r is

-- the entry that is there at first migrates all that was moved
pub at_first : (c : Shape) (log : List Command) (place : ℕ) (e : Filled) → slice_get (begun_with c log) place ≡ Some e → e ≡ Migrated c.disks log
at_first c [] place e found = absurd (cc)
at_first c (command ∷ log) zero e found = cc
at_first c (command ∷ log) (suc place) e found = absurd (cc)

-- a run of zeros begins with no migration
none_moved : (c : Shape) (events : List Event) → migrated (run c events) ≡ []
none_moved c events = by_list (run c events) refl where
  by_list : (l : List Filled) → run c events ≡ l → migrated l ≡ []
  by_list [] is = refl
  by_list (Migrated disks log ∷ es) is = elim (from_event c [] events 0 (Migrated disks log) (ap (λ (l : List Filled). slice_get l 0) is)) [
    | inl none ↦ absurd (cc)
    | inr f ↦ absurd (no_migration c (happen c [] (take f.n events)) f.event disks log (run_of_zeros c (take f.n events)) f.brings)
  ]
  by_list (other ∷ es) is = refl

moved_with : (c : Shape) (log : List Command) (events : List Event) → migrated (happen c (begun_with c log) events) ≡ log
moved_with c [] events = none_moved c events
moved_with c (command ∷ log) events = ap migrated (extends c (Migrated c.disks (command ∷ log) ∷ []) events).1

-- what the list was migrated with is what was moved
pub moved_is : (o : Opening) (events : List Event) → migrated (run_of o events) ≡ o.moved
moved_is o events = moved_with o.shape o.moved events
