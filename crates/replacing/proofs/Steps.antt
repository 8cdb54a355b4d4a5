-- Calls of the tool on a disk that makes a step of the disk model with each call are calls on what that disk is in the model.
use Rattle.std.proofs.Common.{ℕ, replicate}
use Rattle.disk.specs.Disk.{DiskState, Call, Attach, Read, Write, Sync, Answer, Booted, Told, Done, Step}
use Rattle.torn_block.specs.declared.layout.TheConstants.{ROW_LENGTH}
use Rattle.standings.specs.Epochs.{standings_place}
use Rattle.endless_image.specs.Headers.{header_saying}
use Rattle.endless_image.specs.Sizes.{area_size, size_of}
use Rattle.folders.specs.Layout.{WritesZeros, none, more}
use Rattle.at_once.specs.Disks.{MakesSteps}
use Rattle.in_place.specs.Replacing.{WritesRows}
use Rattle.in_place.specs.declared.replace_rows.Rows.{Rows}
use Rattle.replacing.specs.Laws.{ShowingMakesSteps, PutMakesSteps}

module _ {D : Type 0} (gives : D → Call → Answer → D → Type 0) (state : D → DiskState) (steps : MakesSteps gives state) where
  zeros_put : (boot from to : ℕ) (old new : D) → WritesZeros gives boot from to old new → WritesZeros Step boot from to (state old) (state new)
  zeros_put boot from to old new (none at disk) = none at (state disk)
  zeros_put boot from to old new (more first n end before between after writes len gave is) =
      more first n end (state before) (state between) (state after) (zeros_put boot first n before between writes) len (steps between after (Write boot n (replicate len 0)) Done gave) is

  rows_put : (slots boot : ℕ) (rows : Rows) (old new : D) → WritesRows gives slots boot rows old new → WritesRows Step slots boot rows (state old) (state new)
  rows_put slots boot rows old new stands =
      record {
        between = state stands.between;
        first = steps old stands.between (Write boot (standings_place (area_size slots) 0) rows.first) Done stands.first;
        second = steps stands.between new (Write boot (standings_place (area_size slots) 1) rows.second) Done stands.second;
      }

pub showing_makes_steps : {D : Type 0} (gives : D → Call → Answer → D → Type 0) (state : D → DiskState) → ShowingMakesSteps gives state
showing_makes_steps gives state steps slots told old new shows =
    let t = shows.0 in (
      record {
        boot = t.boot;
        attached = state t.attached;
        between = state t.between;
        attaches = steps old t.attached Attach (Booted t.boot) t.attaches;
        tells_first = steps t.attached t.between (Read t.boot (standings_place (area_size slots) 0) ROW_LENGTH) (Told told.rows.first) t.tells_first;
        tells_second = steps t.between new (Read t.boot (standings_place (area_size slots) 1) ROW_LENGTH) (Told told.rows.second) t.tells_second;
      },
      shows.1,
    )

pub put_makes_steps : {D : Type 0} (gives : D → Call → Answer → D → Type 0) (state : D → DiskState) → PutMakesSteps gives state
put_makes_steps gives state steps image old new put =
    record {
      boot = put.boot;
      attached = state put.attached;
      zeroed = state put.zeroed;
      told = state put.told;
      ready = state put.ready;
      written = state put.written;
      attaches = steps old put.attached Attach (Booted put.boot) put.attaches;
      clears = zeros_put gives state steps put.boot 0 (size_of image.header.slots) put.attached put.zeroed put.clears;
      stands = rows_put gives state steps image.header.slots put.boot image.rows put.zeroed put.told put.stands;
      syncs = steps put.told put.ready (Sync put.boot) Done put.syncs;
      writes_header = steps put.ready put.written (Write put.boot 0 (header_saying image.header)) Done put.writes_header;
      syncs_header = steps put.written new (Sync put.boot) Done put.syncs_header;
    }
