-- A device that goes by its touches makes a step of the disk model with each call.
use Rattle.std.specs.Prelude.{◌≡◌, ◌≢◌, ◌⊎◌, ◌+◌, ◌≤◌, ◌<◌, ℕ, false, List, [], ◌∷◌, length, Contains, Option, None, Some}
use Rattle.std.proofs.Common.{refl, sym, ◌∙◌, ap, subst, arith, inl, inr, get_or}
use Rattle.std.proofs.lemmas.List.{length-replicate, length-take-le, get_or-take}
use Rattle.disk.proofs.CrashLemmas.{put-below, put-above}
use Rattle.disk.specs.declared.fault.DiskFault.TheVariants.{Reset, Failed, Gone}
use Rattle.disk.specs.Disk.{DiskState, Call, Attach, Read, Write, Sync, Answer, Booted, Told, Done, Fault, IsUnder, Torn, put_at, written, synced, FailureLeaves, Step}
use Rattle.disk.specs.Disk as disks
use Rattle.paxos_block.specs.Shape.{Shape}
use Rattle.world.specs.Entry.{Filled, Called, Crashed, Lost}
use Rattle.world.specs.Entry as entry
use Rattle.world.specs.World.{Tears}
use Rattle.sectors.specs.declared.geometry.Geometry.{Geometry}
use Rattle.sectors.specs.Geometry.{IsGeometry}
use Rattle.sectors.specs.Moments.{Sectors, Touch, Sees, Puts, Tries, Keeps, changed}
use Rattle.sectors.specs.Sector.{block_of, sector_with}
use Rattle.sectors.proofs.SectorLaws.{is_torn, block_with}
use Rattle.sectors.proofs.Shapes.{long_sector}
use Rattle.at_once.specs.Power.{GoesOn, ServesOn}
use Rattle.sector_runs.specs.Device.{Device, Moment, Reads, Effect, GoesBy, IsSeen, effects, sector_of, noted, lost}
use Rattle.sector_runs.specs.Touches.{IsInBlock, PutsOrNot, PutsAll, Succeeds, Fails, Answers, IsCutOff, TakesEffect, GoesThrough}
use Rattle.sector_runs.specs.Owning.{IsOfHost, IsOwn, IsOwnEntry, AllOwn}
use Rattle.sector_runs.specs.Showing.{IsSized, ShowsDisk}
use Rattle.sector_runs.proofs.Sectors.{changed_here, changed_there, noted_here, noted_there}
use Rattle.sector_runs.proofs.Seeing.{Comes, Known, IsPut, put_fits, sized_by, was_there, known_next, comes_later, one_of, none_in}
use Rattle.sector_runs.proofs.Reading.{reads_row}
use Rattle.sector_runs.proofs.Restarting.{loses_power, shows_restarted, disk_left}
use Rattle.sector_runs.proofs.Writing.{AgreeBeside, WritesOne, shows_written}

no_items : (l : List ℕ) → length l ≡ 0 → l ≡ []
no_items [] none = refl
no_items (x ∷ xs) none = absurd (omega (arith, none))

-- a disk that a device shows then, to which this one may go
pub record Next (geometry : Geometry) (new : Device) (To : DiskState → Type 0) : Type 0 where
  pub disk : DiskState
  pub to : To disk
  pub shows : ShowsDisk geometry new disk

module _ (geometry : Geometry) (is : IsGeometry geometry) (h : ℕ) (past : List Moment) (old new : Device) (disk : DiskState) (known : Known geometry past old) (shows : ShowsDisk geometry old disk) where
  -- nothing was touched
  same : new ≡ old → ShowsDisk geometry new disk
  same e = subst (λ (d : Device). ShowsDisk geometry d disk) (sym e) shows

  untouched : (by : Option Touch) → by ≡ None → GoesBy by old new → new ≡ old
  untouched by none goes = subst (λ (o : Option Touch). GoesBy o old new) none goes

  -- A WRITE

  module _ (at : ℕ) (from : List ℕ) (block : IsInBlock geometry at (length from)) where
    abbrev s : ℕ
    s = sector_of geometry block.spot

    fits : block.offset + length from ≤ 256
    fits = block.within.ends

    sector_long : 256 ≤ length (old.now s)
    sector_long =
        let size = known.sized.0 s in
        let at_least = long_sector geometry.sector_size is.sector_size in
        omega (arith, size, at_least)

    shown_at : (some : List ℕ) → length some ≡ length from → IsSized geometry new → WritesOne s block.offset some old new → ShowsDisk geometry new (written disk at some)
    shown_at some many sized writes =
        subst (λ (p : ℕ). ShowsDisk geometry new (written disk p some)) (sym block.within.here)
        (shows_written geometry is disk old new block.spot block.is_spot block.offset some (let ends = fits in omega (arith, many, ends)) shows sized writes)

    -- what the write was to put differs within the bytes of the call alone
    agrees_beside : (bytes : List ℕ) → bytes ≡ sector_with block.offset from (old.now s) → AgreeBeside block.offset (length from) bytes (old.now s)
    agrees_beside bytes made o below beside =
        let long = length_block in
        let room : block.offset + length from ≤ length (block_of (old.now s)) = (let ends = fits in omega (arith, ends, long)) in
        sym (get_or-take 256 bytes o 0 below)
        ∙ ap (λ (l : List ℕ). get_or l o 0) (ap block_of made ∙ block_with (old.now s) from block.offset fits sector_long)
        ∙ elim beside [
          | inl before ↦ put-below (block_of (old.now s)) block.offset from room 0 o before
          | inr behind ↦ put-above (block_of (old.now s)) block.offset from room 0 o behind
        ]
        ∙ get_or-take 256 (old.now s) o 0 below
      where
        length_block : length (block_of (old.now s)) ≡ 256
        length_block = length-take-le 256 (old.now s) sector_long

    -- the sector has what it had, or what it was to have
    one_written : (some bytes : List ℕ) → length some ≡ length from → bytes ≡ sector_with block.offset from (old.now s) → block_of (new.now s) ≡ put_at (block_of (old.now s)) block.offset some →
        ((t : ℕ) → s ≢ t → new.now t ≡ old.now t) → new.since ≡ noted s bytes old → new.gone ≡ old.gone → WritesOne s block.offset some old new
    one_written some bytes many made here there since gone =
        record {
          here = here;
          there = there;
          had_here =
              λ had in_it.
              elim (one_of (old.now s) bytes (old.since s) had (subst (λ (l : List (List ℕ)). Contains l had) (ap (λ (f : ℕ → List (List ℕ)). f s) since ∙ noted_here s bytes old) in_it)) [
                | inl first ↦ inl (λ o below beside. ap (λ (l : List ℕ). get_or l o 0) first)
                | inr (inl second) ↦
                    inl (λ o below beside.
                    ap (λ (l : List ℕ). get_or l o 0) second
                    ∙ agrees_beside bytes made o below (subst (λ (n : ℕ). (o < block.offset) ⊎ (block.offset + n ≤ o)) many beside))
                | inr (inr earlier) ↦ inr earlier
              ];
          had_there = λ t off. ap (λ (f : ℕ → List (List ℕ)). f t) since ∙ noted_there s t bytes old off;
          gone = gone;
        }

    -- nothing was written
    none_written : (some : List ℕ) → block_of (old.now s) ≡ put_at (block_of (old.now s)) block.offset some → new ≡ old → WritesOne s block.offset some old new
    none_written some here e =
        record {
          here = ap (λ (d : Device). block_of (d.now s)) e ∙ here;
          there = λ t off. ap (λ (d : Device). d.now t) e;
          had_here = λ had in_it. inr (subst (λ (d : Device). Contains (d.since s) had) e in_it);
          had_there = λ t off. ap (λ (d : Device). d.since t) e;
          gone = ap (λ (d : Device). d.gone) e;
        }

  -- what a write is to put is made of what the sector has
  made_now : (s : ℕ) (bytes : List ℕ) (w : IsPut geometry h past s bytes) → bytes ≡ sector_with w.put.block.offset w.from (old.now (sector_of geometry w.put.block.spot))
  made_now s bytes w =
      let put = w.put in
      put.made ∙ ap (sector_with put.block.offset w.from) (sym (was_there geometry is h past old known s bytes w) ∙ ap old.now put.sector)

  pub puts : (s : ℕ) (bytes : List ℕ) (w : IsPut geometry h past s bytes) → GoesBy (Some (Puts s bytes)) old new → ShowsDisk geometry new (written disk w.at w.from)
  puts s bytes w goes =
      let at = w.at in
      let from = w.from in
      let put = w.put in
      let b = put.block in
      let t = sector_of geometry b.spot in
      let made = made_now s bytes w in
      let now : (u : ℕ) → new.now u ≡ changed t bytes old.now u = λ u. ap (λ (f : Sectors). f u) goes.0 ∙ ap (λ (n : ℕ). changed n bytes old.now u) put.sector in
      shown_at at from b from refl (sized_by geometry is h past old known (Some (Puts s bytes)) new w goes)
      (one_written at from b from bytes refl made
      (ap block_of (now t ∙ changed_here t bytes old.now ∙ made) ∙ block_with (old.now t) from b.offset (fits at from b) (sector_long at from b))
      (λ u off. now u ∙ changed_there t u bytes old.now off)
      (subst (λ (n : ℕ). new.since ≡ noted n bytes old) put.sector goes.1)
      goes.2)

  -- a write that failed or was cut off leaves some bytes in its range
  pub tries : (s : ℕ) (bytes : List ℕ) (w : IsPut geometry h past s bytes) → GoesBy (Some (Tries s bytes)) old new → Next geometry new (Torn w.at (length w.from) disk)
  tries s bytes w goes =
      let at = w.at in
      let from = w.from in
      let put = w.put in
      let b = put.block in
      let t = sector_of geometry b.spot in
      let made = made_now s bytes w in
      let left : (new.now t ≡ old.now t) ⊎ (new.now t ≡ sector_with b.offset from (old.now t)) = elim goes.0 [
        | inl kept ↦ inl (ap (λ (f : Sectors). f t) kept)
        | inr put_there ↦ inr (ap (λ (f : Sectors). f t) put_there ∙ ap (λ (n : ℕ). changed n bytes old.now t) put.sector ∙ changed_here t bytes old.now ∙ made)
      ] in
      let there : (u : ℕ) → t ≢ u → new.now u ≡ old.now u = (λ u off. elim goes.0 [
        | inl kept ↦ ap (λ (f : Sectors). f u) kept
        | inr put_there ↦ ap (λ (f : Sectors). f u) put_there ∙ ap (λ (n : ℕ). changed n bytes old.now u) put.sector ∙ changed_there t u bytes old.now off
      ]) in
      let some = is_torn (old.now t) from (new.now t) b.offset (fits at from b) (sector_long at from b) left in
      record {
        disk = written disk at some.0;
        to = record { left = some.0; as_many = some.1; leaves = refl };
        shows =
            shown_at at from b some.0 some.1 (sized_by geometry is h past old known (Some (Tries s bytes)) new w goes)
            (one_written at from b some.0 bytes some.1 made some.2 there (subst (λ (n : ℕ). new.since ≡ noted n bytes old) put.sector goes.1) goes.2);
      }

  -- one that has not come so far leaves what there was
  puts_none : (at : ℕ) (from : List ℕ) → IsInBlock geometry at (length from) → new ≡ old → Next geometry new (Torn at (length from) disk)
  puts_none at from b e =
      let t = sector_of geometry b.spot in
      let some = is_torn (old.now t) from (old.now t) b.offset (fits at from b) (sector_long at from b) (inl refl) in
      record {
        disk = written disk at some.0;
        to = record { left = some.0; as_many = some.1; leaves = refl };
        shows = shown_at at from b some.0 some.1 (subst (IsSized geometry) (sym e) shows.sized) (none_written at from b some.0 some.2 e);
      }

  puts_or_not : (at : ℕ) (from : List ℕ) (by : Option Touch) → IsOfHost h at → PutsOrNot geometry h past at from by → GoesBy by old new → Next geometry new (Torn at (length from) disk)
  puts_or_not at from by own (b, inl none) goes = puts_none at from b (untouched by none goes)
  puts_or_not at from by own (b, inr (s, bytes, some, put)) goes =
      tries s bytes (put_fits geometry is h past by at from s bytes own put) (subst (λ (o : Option Touch). GoesBy o old new) some goes)

  -- a write of nothing changes nothing
  puts_empty : (at : ℕ) (from : List ℕ) → IsInBlock geometry at (length from) → from ≡ [] → new ≡ old → ShowsDisk geometry new (written disk at from)
  puts_empty at from b empty e =
      let n = puts_none at from b e in
      let torn = n.to in
      let none : torn.left ≡ from = no_items torn.left (torn.as_many ∙ ap (λ (l : List ℕ). length l) empty) ∙ sym empty in
      subst (λ (l : List ℕ). ShowsDisk geometry new (written disk at l)) none (subst (ShowsDisk geometry new) torn.leaves n.shows)

  puts_all : (at : ℕ) (from : List ℕ) (by : Option Touch) → IsOfHost h at → PutsAll geometry h past at from by → GoesBy by old new → ShowsDisk geometry new (written disk at from)
  puts_all at from by own (inl (b, empty, none)) goes = puts_empty at from b empty (untouched by none goes)
  puts_all at from by own (inr (s, bytes, some, put)) goes =
      puts s bytes (put_fits geometry is h past by at from s bytes own put) (subst (λ (o : Option Touch). GoesBy o old new) some goes)

  -- A SYNC

  pub syncs : GoesBy (Some Keeps) old new → ShowsDisk geometry new (synced disk)
  syncs goes =
      record {
        shape = (length-replicate (length disk.bytes) false, shows.shape.1);
        sized = sized_by geometry is h past old known (Some Keeps) new tt goes;
        blocks = λ spot is_spot. shows.blocks spot is_spot ∙ ap block_of (ap (λ (f : Sectors). f (sector_of geometry spot)) (sym goes.0));
        others = shows.others;
        synced = λ spot o had is_spot below is_synced in_it. absurd (none_in had (subst (λ (f : ℕ → List (List ℕ)). Contains (f (sector_of geometry spot)) had) goes.1 in_it));
        boot = shows.boot;
        gone = shows.gone ∙ sym goes.2;
      }

  -- EACH CALL

  module _ (future : List Moment) (later : (s : ℕ) (bytes : List ℕ) → IsSeen s bytes future → Comes s bytes new.now) where
    success : (call : Call) (answer : Answer) (by : Option Touch) → IsOwn h call → Succeeds geometry h past future call answer by → GoesBy by old new → Next geometry new (disks.Succeeds call disk answer)
    success Attach answer by own s goes =
        record { disk = disk; to = (s.0 ∙ ap Booted (sym shows.boot), refl); shows = same (untouched by s.1 goes) }
    success (Read boot at len) answer by own s goes =
        let e = untouched by s.2 goes in
        record {
          disk = disk;
          to = (s.1 ∙ ap Told (reads_row geometry is past future old disk known (λ t bytes seen. subst (λ (d : Device). Comes t bytes d.now) e (later t bytes seen)) shows at len s.0 s.3), refl);
          shows = same e;
        }
    success (Write boot at from) answer by own s goes =
        record { disk = written disk at from; to = (s.0, refl); shows = puts_all at from by own s.1 goes }
    success (Sync boot) answer by own s goes =
        record { disk = synced disk; to = (s.0, refl); shows = syncs (subst (λ (o : Option Touch). GoesBy o old new) s.1 goes) }

    failure : (call : Call) (by : Option Touch) → IsOwn h call → Fails geometry h past call by → GoesBy by old new → Next geometry new (FailureLeaves call disk)
    failure Attach by own s goes = record { disk = disk; to = refl; shows = same (untouched by s goes) }
    failure (Read boot at len) by own s goes = record { disk = disk; to = refl; shows = same (untouched by s goes) }
    failure (Write boot at from) by own s goes = puts_or_not at from by own s goes
    failure (Sync boot) by own s goes = record { disk = disk; to = refl; shows = same (untouched by s goes) }

    there : old.gone ≡ false → disk.gone ≡ false
    there e = shows.gone ∙ e

    under : (call : Call) → IsUnder call 1 → IsUnder call disk.boot
    under call u = subst (IsUnder call) (sym shows.boot) u

    answer_next : (call : Call) (answer : Answer) (by : Option Touch) → IsOwn h call → Answers geometry h past future old.gone call answer by → GoesBy by old new → Next geometry new (Step disk call answer)
    answer_next call (Booted boot) by own a goes = let n = success call (Booted boot) by own a.2 goes in record { disk = n.disk; to = (there a.0, under call a.1, n.to); shows = n.shows }
    answer_next call (Told bytes) by own a goes = let n = success call (Told bytes) by own a.2 goes in record { disk = n.disk; to = (there a.0, under call a.1, n.to); shows = n.shows }
    answer_next call Done by own a goes = let n = success call Done by own a.2 goes in record { disk = n.disk; to = (there a.0, under call a.1, n.to); shows = n.shows }
    answer_next call (Fault Reset) by own a goes = absurd a
    answer_next call (Fault Failed) by own a goes = let n = failure call by own a.2 goes in record { disk = n.disk; to = (there a.0, under call a.1, n.to); shows = n.shows }
    answer_next call (Fault Gone) by own a goes = record { disk = disk; to = (shows.gone ∙ a.0, refl); shows = same (untouched by a.1 goes) }

    cut_off_next : (call : Call) (by : Option Touch) → IsOwn h call → IsCutOff geometry h past old.gone call by → GoesBy by old new → Next geometry new (Tears call disk)
    cut_off_next Attach by own a goes = absurd a
    cut_off_next (Read boot at len) by own a goes = absurd a
    cut_off_next (Write boot at from) by own a goes =
        let n = puts_or_not at from by own a.2 goes in
        record { disk = n.disk; to = (there a.0, a.1 ∙ sym shows.boot, n.to); shows = n.shows }
    cut_off_next (Sync boot) by own a goes = absurd a

-- EACH ENTRY

module _ (c : Shape) (k : ℕ) (geometry : Geometry) (is : IsGeometry geometry) (past future : List Moment) (old new : Device) (disk : DiskState) (known : Known geometry past old) (shows : ShowsDisk geometry old disk) (later : (s : ℕ) (bytes : List ℕ) → IsSeen s bytes future → Comes s bytes new.now) where
  shows_lost : ShowsDisk geometry (lost old) (disks.lost disk)
  shows_lost = record { shape = shows.shape; sized = shows.sized; blocks = shows.blocks; others = shows.others; synced = shows.synced; boot = shows.boot; gone = refl }

  entry_next : (e : Filled) (by : Option Touch) → IsOwnEntry e → TakesEffect c k geometry past future old e by new → Next geometry new (GoesOn c k disk e)
  entry_next (Called h d call answer left) by own takes = answer_next geometry is h past old new disk known shows future later call answer by own takes.0 takes.1
  entry_next (entry.Torn h d call left) by own takes = cut_off_next geometry is h past old new disk known shows future later call by own takes.0 takes.1
  entry_next (Crashed d left) by own takes =
      let restarts = takes.3 in
      let sized = (known_next c k geometry is past future old new (Effect (Crashed d left) by) known (tt, tt) takes).sized in
      record {
        disk = disk_left geometry is disk old new shows restarts sized;
        to = (takes.0, shows.gone ∙ takes.1, loses_power geometry is disk old new shows restarts sized);
        shows = shows_restarted geometry is disk old new shows restarts sized;
      }
  entry_next (Lost d) by own takes =
      record {
        disk = disks.lost disk;
        to = (takes.0, shows.gone ∙ takes.1, refl);
        shows = subst (λ (there : Device). ShowsDisk geometry there (disks.lost disk)) (sym takes.3) shows_lost;
      }
  entry_next other by own takes = absurd takes

-- ALL CALLS

module _ (c : Shape) (k : ℕ) (geometry : Geometry) (is : IsGeometry geometry) where
  -- a sector that is read stays as it was
  shows_read : (old new : Device) (disk : DiskState) (s : ℕ) (bytes : List ℕ) → ShowsDisk geometry old disk → GoesBy (Some (Sees s bytes)) old new → ShowsDisk geometry new disk
  shows_read old new disk s bytes shows goes =
      subst (λ (d : Device). ShowsDisk geometry d disk) (sym (λ i. record { now = goes.0.1 i; since = goes.1 i; gone = goes.2 i })) shows

  pub serves_from : (history past : List Moment) (old : Device) (disk : DiskState) → Known geometry past old → ShowsDisk geometry old disk → AllOwn (effects history) → GoesThrough c k geometry past old history → ServesOn c k disk (effects history)
  serves_from [] past old disk known shows own goes = tt
  serves_from (Reads s bytes ∷ future) past old disk known shows own goes =
      let new = goes.0 in
      serves_from future (Reads s bytes ∷ past) new disk (known_next c k geometry is past future old new (Reads s bytes) known tt goes.1) (shows_read old new disk s bytes shows goes.1) own goes.2
  serves_from (Effect e by ∷ future) past old disk known shows own goes =
      let new = goes.0 in
      let known_then = known_next c k geometry is past future old new (Effect e by) known (own.0, tt) goes.1 in
      let n = entry_next c k geometry is past future old new disk known shows (λ s bytes seen. comes_later c k geometry is s bytes (Effect e by ∷ past) new future known_then own.1 goes.2 seen) e by own.0 goes.1 in
      (n.disk, n.to, serves_from future (Effect e by ∷ past) new n.disk known_then n.shows own.1 goes.2)
