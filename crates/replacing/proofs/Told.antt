-- What disks told of epochs: that half of them show no number above an epoch, and that none of the rows which were told does.
use Rattle.std.specs.Prelude.{◌≢◌, ◌*◌, unwrap_or, slice_get, slice_range, Option, None}
use Rattle.std.proofs.Common.{ℕ, zero, suc, ◌≡◌, ◌+◌, ◌≤◌, ◌<◌, Bool, true, false, cond, true≢false, Some, List, length, refl, sym, ◌∙◌, ap, subst, arith}
use Rattle.std.proofs.lemmas.Option.{none-some}
use Rattle.disk.specs.Disk.{DiskState, Call, Attach, Read, Answer, Booted, Told, Step}
use Rattle.attempt.specs.Numbers.{count}
use Rattle.lock_command.specs.declared.number.TheConstants.{HOSTS}
use Rattle.paxos_block.specs.Shape.{Shape}
use Rattle.standings.specs.Epochs.{epoch_by, IsNewest, number_of, standings_place, whole_length}
use Rattle.standings.specs.Reading.{numbers_in}
use Rattle.at_once.proofs.Headless.{Lies, used_steps}
use Rattle.epochs.proofs.Pasts.{read_number}
use Rattle.epochs.proofs.Showing.{part_is, length-part}
use Rattle.epoch_deeds.specs.Knowing.{image_of}
use Rattle.epoch_runs.specs.Replacing.{HalfShowNoneAbove}
use Rattle.epoch_runs.specs.World.{World, ShowsNoneAbove}
use Rattle.epochs_at_once.specs.Images.{slots_of}
use Rattle.in_place.specs.Replacing.{Tellings, TellsRows, IsNewestIn, IsNewestOfRows, AreOfNewest, IsNewestTold, TakesPartFrom, how_many, one_if_told, rows_in}
use Rattle.in_place.specs.declared.replace_epoch.EpochsTold.{EpochsTold}
use Rattle.in_place.specs.declared.replace_rows.Rows.{Rows}
use Rattle.replacing.specs.ByTool.{IsUsedOf, AreToldOf}
use Rattle.replacing.specs.Laws.{RowsShowNoneAbove, row_in}
use Rattle.replacing.proofs.Used.{as_long, used_long}

-- ROWS

-- no number of the row belongs to a later epoch than the newest one
pub none_in_row : (area newest : ℕ) (row : List ℕ) → IsNewestIn area row newest → (host order : ℕ) → host < HOSTS → epoch_by area (numbers_in row host) ≡ Some order → order ≤ newest
none_in_row area newest row is host order is_host belongs = by_newest is.1.0 is.1.1 is.1.2
  where
    by_newest : (of : Option ℕ) → IsNewest area (numbers_in row) of → newest ≡ unwrap_or of 0 → order ≤ newest
    by_newest None none same = absurd (none-some order (sym (none host is_host) ∙ belongs))
    by_newest (Some e) most same =
        let value : newest ≡ e = same in
        let up = most.1 host order is_host belongs in
        omega (arith, up, value)

-- so it is with both
pub none_in_rows : (rows : Rows) (newest : ℕ) → IsNewestOfRows rows newest → (area host order : ℕ) → area < 2 → host < HOSTS → epoch_by area (numbers_in (row_in rows area) host) ≡ Some order → order ≤ newest
none_in_rows rows newest is zero host order is_area is_host belongs =
    let up = none_in_row 0 is.first rows.first is.in_first host order is_host belongs in let greater = is.later in omega (arith, up, greater)
none_in_rows rows newest is (suc zero) host order is_area is_host belongs =
    let up = none_in_row 1 is.second rows.second is.in_second host order is_host belongs in let greater = is.later in omega (arith, up, greater)
none_in_rows rows newest is (suc (suc area)) host order is_area is_host belongs = absurd (omega (arith, is_area))

-- READINGS

-- what an image told of itself is read on the disk that hosts use of it
pub record AreRead (c : Shape) (disk : DiskState) (rows : Rows) : Type 0 where
  pub attaches : Step disk Attach (Booted disk.boot) disk
  pub reads : (area : ℕ) → area < 2 → Step disk (Read disk.boot (standings_place (image_of c) area) 4096) (Told (row_in rows area)) disk
  pub long : whole_length (image_of c) ≤ length disk.bytes

module _ (c : Shape) (image disk looked : DiskState) (is_used : IsUsedOf c image disk) (rows : Rows) (t : TellsRows Step c.slots rows image looked) where
  attached : t.attached ≡ image
  attached = t.attaches.2.1

  first_read : Step image (Read t.boot (standings_place (image_of c) 0) 4096) (Told rows.first) t.between
  first_read = subst (λ (d : DiskState). Step d (Read t.boot (standings_place (image_of c) 0) 4096) (Told rows.first) t.between) attached t.tells_first

  between : t.between ≡ image
  between = first_read.2.1

  second_read : Step image (Read t.boot (standings_place (image_of c) 1) 4096) (Told rows.second) looked
  second_read = subst (λ (d : DiskState). Step d (Read t.boot (standings_place (image_of c) 1) 4096) (Told rows.second) looked) between t.tells_second

  same_boot : t.boot ≡ disk.boot
  same_boot =
      let told : Booted t.boot ≡ Booted image.boot = t.attaches.2.0 in
      let first : t.boot ≡ image.boot = cc in
      first ∙ sym (ap (λ (d : DiskState). d.boot) is_used.is)

  -- a call that leaves the image as it is, under its boot number
  on_used : (call : Call) (answer : Answer) (left : DiskState) → Lies (slots_of c) call → Step image call answer left → left ≡ image → Step disk call answer disk
  on_used call answer left lies step same =
      let stays = subst (λ (d : DiskState). Step image call answer d) same step in
      subst (λ (d : DiskState). Step d call answer d) (sym is_used.is) (used_steps (slots_of c) image image call answer is_used.long lies stays)

  row_read : (area : ℕ) → area < 2 → Step disk (Read t.boot (standings_place (image_of c) area) 4096) (Told (row_in rows area)) disk
  row_read zero is_area = on_used (Read t.boot (standings_place (image_of c) 0) 4096) (Told rows.first) t.between (omega arith, (let size = as_long c in omega (arith, size))) first_read between
  row_read (suc zero) is_area = on_used (Read t.boot (standings_place (image_of c) 1) 4096) (Told rows.second) looked (omega arith, (let size = as_long c in omega (arith, size))) second_read second_read.2.1
  row_read (suc (suc area)) is_area = absurd (omega (arith, is_area))

  pub are_read : AreRead c disk rows
  are_read =
      record {
        attaches = subst (λ (b : ℕ). Step disk Attach (Booted b) disk) same_boot (on_used Attach (Booted t.boot) t.attached tt t.attaches attached);
        reads = λ area is_area. subst (λ (b : ℕ). Step disk (Read b (standings_place (image_of c) area) 4096) (Told (row_in rows area)) disk) same_boot (row_read area is_area);
        long = (let long = used_long c image is_used.long in let same = ap (λ (d : DiskState). length d.bytes) is_used.is in omega (arith, long, same));
      }

module _ (c : Shape) (disk : DiskState) (rows : Rows) (are : AreRead c disk rows) where
  room : 4096 + image_of c + image_of c ≤ length disk.bytes
  room = (let long = are.long in omega (arith, long))

  numbers_are : (area host : ℕ) → area < 2 → host < 16 → numbers_in (row_in rows area) host ≡ number_of (image_of c) area host disk.bytes
  numbers_are area host is_area is_host =
      read_number (image_of c) (omega arith) (omega arith) area disk.boot (row_in rows area) disk disk is_area room (are.reads area is_area) host is_host

  pub shows_none : (newest : ℕ) → IsNewestOfRows rows newest → ShowsNoneAbove newest (image_of c) disk
  shows_none newest is area host order is_area is_host belongs =
      none_in_rows rows newest is area host order is_area is_host (ap (epoch_by area) (numbers_are area host is_area is_host) ∙ belongs)

  pub long_row : (area : ℕ) → area < 2 → length (row_in rows area) ≡ 4096
  long_row area is_area =
      let place = standings_place (image_of c) area in
      let answer : Told (row_in rows area) ≡ Told (slice_range disk.bytes place (place + 4096)) = (are.reads area is_area).2.0 in
      let told : row_in rows area ≡ slice_range disk.bytes place (place + 4096) = cc in
      ap (λ (l : List ℕ). length l) (told ∙ part_is place 4096 disk.bytes) ∙ length-part place 4096 disk.bytes (let long = room in let big : 4096 ≤ image_of c = omega arith in omega (arith, long, big, is_area))

-- WHO TOLD SOMETHING

abbrev pub is_told : Option (Option EpochsTold) → Bool
is_told (Some (Some told)) = true
is_told other = false

pub which_told : (o : Option (Option EpochsTold)) → is_told o ≡ true → (t : EpochsTold) × (o ≡ Some (Some t))
which_told None is = absurd (true≢false (sym is))
which_told (Some None) is = absurd (true≢false (sym is))
which_told (Some (Some t)) is = (t, refl)

counts_one : (o : Option (Option EpochsTold)) → one_if_told o ≡ cond (is_told o) 1 0
counts_one None = refl
counts_one (Some None) = refl
counts_one (Some (Some t)) = refl

pub counted : (tellings : Tellings) (n : ℕ) → how_many tellings n ≡ count n (λ (k : ℕ). is_told (slice_get tellings k))
counted tellings zero = refl
counted tellings (suc n) =
    let rest = counted tellings n in
    let one = counts_one (slice_get tellings n) in
    omega (arith, rest, one)

-- where none did they are none
none_counted : (tellings : Tellings) (n : ℕ) → ((k : ℕ) (told : EpochsTold) → k < n → slice_get tellings k ≢ Some (Some told)) → how_many tellings n ≡ 0
none_counted tellings zero none = refl
none_counted tellings (suc n) none =
    let rest = none_counted tellings n (λ k told below. none k told (omega (arith, below))) in
    let one = either (slice_get tellings n) refl in
    omega (arith, rest, one)
  where
    either : (o : Option (Option EpochsTold)) → slice_get tellings n ≡ o → one_if_told o ≡ 0
    either None is = refl
    either (Some None) is = refl
    either (Some (Some t)) is = absurd (none n t (omega arith) is)

-- so where half of them did, one of them told the newest epoch
pub record TellsNewest (disks : ℕ) (tellings : Tellings) (rows : Rows) (of : Option EpochsTold) : Type 0 where
  pub read : ℕ
  pub best : EpochsTold
  pub inside : read < disks
  pub told : slice_get tellings read ≡ Some (Some best)
  pub newest : of ≡ Some best
  pub are : rows ≡ best.rows

pub tells_newest : (disks : ℕ) (tellings : Tellings) (rows : Rows) → 0 < disks → disks ≤ 2 * how_many tellings disks → (are : AreOfNewest tellings disks rows) → TellsNewest disks tellings rows are.best
tells_newest disks tellings rows some half are = by_best are.best are.newest are.are
  where
    by_best : (of : Option EpochsTold) → IsNewestTold tellings disks of → rows ≡ rows_in of → TellsNewest disks tellings rows of
    by_best None newest same = absurd (let none = none_counted tellings disks newest.one in omega (arith, some, half, none))
    by_best (Some best) newest same = record { read = newest.one.0; best = best; inside = newest.one.1; told = newest.one.2; newest = refl; are = same }

pub rows_show_none_above : {D : Type 0} (gives : D → Call → Answer → D → Type 0) → RowsShowNoneAbove gives
rows_show_none_above gives slots lost disks first firsts devices tellings rows some told takes_part are area host order is_area is_host belongs =
    let best = tells_newest disks tellings rows some takes_part.half are in
    let (device, there, by) = told best.read best.best best.told in
    let shows = by.shows.1 in
    let low = none_in_rows best.best.rows best.best.newest shows area host order is_area is_host (ap (λ (r : Rows). epoch_by area (numbers_in (row_in r area) host)) (sym best.are) ∙ belongs) in
    let below = (takes_part.below best.read best.best best.inside best.told).0 in
    let after = takes_part.after in
    omega (arith, low, below, after)

-- HALF OF THE DISKS

module _ (c : Shape) (w : World) (lost : ℕ) (tellings : Tellings) (told : AreToldOf c w lost tellings) where
  -- what a disk told is read on it
  pub told_read : (k : ℕ) (t : EpochsTold) → slice_get tellings k ≡ Some (Some t) → k < c.disks → AreRead c (w.disk k) t.rows
  told_read k t is inside = let (image, there, by) = told.told k t is in are_read c image (w.disk k) by.new (told.image k t is inside image there) t.rows by.shows.0

  pub half_show_none : (first : ℕ) (part : TakesPartFrom c.disks tellings first) → HalfShowNoneAbove part.epoch c w
  half_show_none first part =
      record {
        those = λ k. is_told (slice_get tellings k);
        half = (let many = counted tellings c.disks in let enough = part.half in omega (arith, many, enough));
        takes_part = λ k inside those. takes_part_soon k inside (which_told (slice_get tellings k) those);
        none = λ k inside those. none_there k inside (which_told (slice_get tellings k) those);
      }
    where
      takes_part_soon : (k : ℕ) → k < c.disks → ((t : EpochsTold) × (slice_get tellings k ≡ Some (Some t))) → w.first k ≤ part.epoch + 1
      takes_part_soon k inside (t, is) =
          let below = (part.below k t inside is).1 in
          let (image, there, by) = told.told k t is in
          let said = by.first in
          let same = told.takes_part k t is inside in
          omega (arith, below, said, same)

      none_there : (k : ℕ) → k < c.disks → ((t : EpochsTold) × (slice_get tellings k ≡ Some (Some t))) → ShowsNoneAbove part.epoch (image_of c) (w.disk k)
      none_there k inside (t, is) area host order is_area is_host belongs =
          let (image, there, by) = told.told k t is in
          let low = shows_none c (w.disk k) t.rows (told_read k t is inside) t.newest by.shows.1 area host order is_area is_host belongs in
          let below = (part.below k t inside is).0 in
          omega (arith, low, below)
