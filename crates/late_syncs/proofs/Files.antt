-- Hosts over images whose syncs come late are hosts over images whose syncs take effect where they were asked for.
use Rattle.std.specs.Prelude.{slice_get}
use Rattle.std.proofs.Common.{ℕ, ◌≡◌, Bool, List, [], ◌∷◌, ◌++◌, Some, refl, sym, subst, ap, ◌∙◌}
use Rattle.disk.specs.Disk.{DiskState, Attach, Read, Write, Sync, Booted, Told, Done, Fault, lost}
use Rattle.lock_command.specs.declared.command.Command.{Command}
use Rattle.paxos_block.specs.Shape.{Shape}
use Rattle.world.specs.Entry.{Filled, Start, Stop, Begin, Called, Torn, Crashed, Lost, Migrated, on_disk}
use Rattle.at_once.specs.Power.{GoesOn, ServesOn, renumbered}
use Rattle.at_once.proofs.Filling.{at_once_makes_a_run}
use Rattle.at_once.proofs.Losses.{losses_are_crashes, losses_are_joined}
use Rattle.late_syncs.specs.Late.{LateDisk, at_first, Moment, Takes, Keeps, entries_of, GoesThrough, ServesLate}
use Rattle.late_syncs.specs.Files.{GoesLate, LateSyncsServe, SyncsMayBeLate, LateSyncsAreLosses, LateSyncsHaveOneLog}
use Rattle.late_syncs.proofs.Late.{with_flags, Shows, shows_first, Follows, stays, back, same_disk, answers, tears, loses, asks}

module _ (c : Shape) (k : ℕ) where
  follows : (flags : List Bool) (old new : LateDisk) (e : Filled) → Shows flags old → GoesLate c k old e new → Follows new (GoesOn c k (with_flags old.disk flags) e)
  follows flags old new (Called h d call answer left) shows is = answers flags old new shows call answer is
  follows flags old new (Torn h d call left) shows is = tears flags old new shows call is.0 is.1
  follows flags old new (Crashed d left) shows is =
      let after = loses flags old new shows is.0 is.1.2 is.2 in
      record { flags = after.flags; to = (is.1.0, is.1.1, after.to); shows = after.shows }
  follows flags old new (Lost d) shows is =
      record {
        flags = flags;
        to = (is.0.0, is.0.1, ap (λ (disk : DiskState). with_flags disk flags) is.0.2);
        shows = stays flags (record { disk = lost old.disk; owes = old.owes }) new (record { long = shows.long; whole = shows.whole; kept = shows.kept }) is.0.2 is.1;
      }
  follows flags old new (Start h) shows is = absurd is.0
  follows flags old new (Stop h) shows is = absurd is.0
  follows flags old new (Begin h task) shows is = absurd is.0
  follows flags old new (Migrated disks commands) shows is = absurd is.0

  serves : (history : List (Moment Filled)) (flags : List Bool) (old : LateDisk) → Shows flags old → GoesThrough (GoesLate c k) old history → ServesOn c k (with_flags old.disk flags) (entries_of history)
  serves [] flags old shows goes = tt
  serves (Takes e ∷ history) flags old shows goes =
      let one = follows flags old goes.0 e shows goes.1 in
      (with_flags goes.0.disk one.flags, one.to, serves history one.flags goes.0 one.shows goes.2)
  serves (Keeps ∷ history) flags old shows goes =
      subst (λ (disk : DiskState). ServesOn c k disk (entries_of history)) (same_disk flags old goes.0 shows goes.1)
      (serves history flags goes.0 (back flags old goes.0 shows goes.1) goes.2)

  -- WITHOUT LATENESS

  -- one entry, and what is written back for it
  record Late (old : DiskState) (e : Filled) (new : DiskState) : Type 0 where
    moments : List (Moment Filled)
    same : (later : List (Moment Filled)) → entries_of (moments ++ later) ≡ (e ∷ entries_of later)
    goes : (later : List (Moment Filled)) → GoesThrough (GoesLate c k) (at_first new) later → GoesThrough (GoesLate c k) (at_first old) (moments ++ later)

  at_its_moment : (old : DiskState) (e : Filled) (new : DiskState) → GoesLate c k (at_first old) e (at_first new) → Late old e new
  at_its_moment old e new is = record { moments = Takes e ∷ []; same = λ later. refl; goes = λ later goes. (at_first new, is, goes) }

  late : (old : DiskState) (e : Filled) (new : DiskState) → GoesOn c k old e new → Late old e new
  late old (Called h d (Sync boot) Done left) new is =
      let one = asks boot old new is in
      record {
        moments = Takes (Called h d (Sync boot) Done left) ∷ Keeps ∷ [];
        same = λ later. refl;
        goes = λ later goes. (one.0, one.1, (at_first new, one.2, goes));
      }
  late old (Called h d (Sync boot) (Booted number) left) new is = at_its_moment old (Called h d (Sync boot) (Booted number) left) new (is, refl)
  late old (Called h d (Sync boot) (Told bytes) left) new is = at_its_moment old (Called h d (Sync boot) (Told bytes) left) new (is, refl)
  late old (Called h d (Sync boot) (Fault fault) left) new is = at_its_moment old (Called h d (Sync boot) (Fault fault) left) new (is, refl)
  late old (Called h d Attach answer left) new is = at_its_moment old (Called h d Attach answer left) new (is, refl)
  late old (Called h d (Read boot at len) answer left) new is = at_its_moment old (Called h d (Read boot at len) answer left) new (is, refl)
  late old (Called h d (Write boot at from) answer left) new is = at_its_moment old (Called h d (Write boot at from) answer left) new (is, refl)
  late old (Torn h d call left) new is = at_its_moment old (Torn h d call left) new (is, refl)
  late old (Crashed d left) new is = at_its_moment old (Crashed d left) new (λ p. refl, is, refl)
  late old (Lost d) new is = at_its_moment old (Lost d) new (is, refl)
  late old (Start h) new is = absurd is
  late old (Stop h) new is = absurd is
  late old (Begin h task) new is = absurd is
  late old (Migrated disks commands) new is = absurd is

  serves_late : (calls : List Filled) (old : DiskState) → ServesOn c k old calls → ServesLate (GoesLate c k) old calls
  serves_late [] old serves_it = record { history = []; same = refl; goes = tt }
  serves_late (e ∷ calls) old serves_it =
      let one = late old e serves_it.0 serves_it.1 in
      let rest = serves_late calls serves_it.0 serves_it.2 in
      record {
        history = one.moments ++ rest.history;
        same = ap (λ (l : List Filled). e ∷ l) rest.same ∙ sym (one.same rest.history);
        goes = one.goes rest.history rest.goes;
      }

pub late_syncs_serve : LateSyncsServe
late_syncs_serve c k image calls whole late =
    subst (ServesOn c k image) (sym late.same) (serves c k late.history image.unsynced (at_first image) (shows_first image whole) late.goes)

pub syncs_may_be_late : SyncsMayBeLate
syncs_may_be_late c k image calls serves = serves_late c k calls image serves

pub late_syncs_are_losses : LateSyncsAreLosses
late_syncs_are_losses c begun images log over =
    record {
      hosts = over.hosts;
      deeds = over.deeds;
      held = over.held;
      disks = λ k. late_syncs_serve c k (images k) (on_disk k log) (over.whole k) (over.disks k);
      dark = over.dark;
      few = over.few;
    }

one_at_a_slot : (commands : List Command) (slot : ℕ) (one another : Command) → slice_get commands slot ≡ Some one → slice_get commands slot ≡ Some another → one ≡ another
one_at_a_slot commands slot one another is other = let both : Some one ≡ Some another = sym is ∙ other in cc

pub late_syncs_have_one_log : LateSyncsHaveOneLog
late_syncs_have_one_log c images log over =
    let serve = late_syncs_are_losses c [] images log over in
    let run = at_once_makes_a_run c images (renumbered log) (losses_are_crashes c images log serve) in
    let joined = losses_are_joined c images log serve run in
    record {
      run = run;
      joined = joined;
      apart =
          λ i j g h slot kept other one another reply answer come comes acknowledged also.
          one_at_a_slot run.one.commands slot one another (joined.acknowledged i g kept one slot reply come acknowledged).0 (joined.acknowledged j h other another slot answer comes also).0;
    }
