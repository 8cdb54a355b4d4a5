-- A row whose sectors are read twice alike is a read of the disk that the device shows.
use Rattle.std.specs.Prelude.{◌≡◌, ◌+◌, ◌<◌, ℕ, List, length, slice_range}
use Rattle.std.proofs.Common.{sym, ◌∙◌, ap, arith}
use Rattle.disk.specs.Disk.{DiskState}
use Rattle.torn_block.specs.Layout.{cluster_version, area_place}
use Rattle.paxos_block.specs.Places as images
use Rattle.paxos_block.specs.Places.{Spot, BeatOf, VoteOf}
use Rattle.paxos_block.proofs.PlaceLemmas as places
use Rattle.sectors.specs.declared.geometry.Geometry.{Geometry}
use Rattle.sectors.specs.Geometry.{IsGeometry}
use Rattle.sectors.specs.Places.{RowOf, BeatsRow, SlotRow, IsRow, image_row}
use Rattle.sectors.specs.Row.{IsRowOf, sector_in}
use Rattle.sectors.specs.Sector.{block_of}
use Rattle.sectors.proofs.Putting.{part_is, length-part}
use Rattle.sectors.proofs.RowLaws.{one_row}
use Rattle.sector_runs.specs.Device.{Device, Moment, IsSeen, first_of}
use Rattle.sector_runs.specs.Touches.{IsReadTwice}
use Rattle.sector_runs.specs.Showing.{ShowsDisk}
use Rattle.sector_runs.proofs.Seeing.{Comes, Known, is_there}

module _ (geometry : Geometry) (is : IsGeometry geometry) (device : Device) (disk : DiskState) (shows : ShowsDisk geometry device disk) (one : List ℕ) where
  -- the row that the sectors of a row have
  pub row_is : (row : RowOf) → IsRow geometry row → ((host : ℕ) → host < geometry.hosts → device.now (first_of geometry row + host) ≡ sector_in geometry host one) →
      IsRowOf geometry one (slice_range disk.bytes (image_row row) (image_row row + 4096))
  row_is BeatsRow is_row has =
      record {
        as_long =
            ap (λ (l : List ℕ). length l) (part_is (area_place cluster_version) 4096 disk.bytes)
            ∙ length-part (area_place cluster_version) 4096 disk.bytes (omega (arith, shows.shape.1));
        blocks =
            λ host below.
            places.block_of-area_of cluster_version host disk.bytes (omega (arith, below, is.hosts.1))
            ∙ shows.blocks (BeatOf host) below
            ∙ (let first : host ≡ 0 + host = omega arith in ap block_of (ap device.now first ∙ has host below));
        others =
            λ host above few.
            places.block_of-area_of cluster_version host disk.bytes few
            ∙ shows.others (BeatOf host) few (λ spot. absurd (omega (arith, above, spot)));
      }
  row_is (SlotRow slot) is_row has =
      record {
        as_long =
            ap (λ (l : List ℕ). length l) (part_is (images.row_place cluster_version slot) 4096 disk.bytes)
            ∙ length-part (images.row_place cluster_version slot) 4096 disk.bytes (omega (arith, shows.shape.1, is_row));
        blocks =
            λ host below.
            places.block_of-row_of cluster_version slot host disk.bytes (omega (arith, below, is.hosts.1))
            ∙ shows.blocks (VoteOf slot host) (is_row, below)
            ∙ ap block_of (has host below);
        others =
            λ host above few.
            places.block_of-row_of cluster_version slot host disk.bytes few
            ∙ shows.others (VoteOf slot host) (is_row, few) (λ spot. absurd (omega (arith, above, spot.1)));
      }

pub reads_row : (geometry : Geometry) → IsGeometry geometry → (past future : List Moment) (device : Device) (disk : DiskState) → Known geometry past device → ((s : ℕ) (bytes : List ℕ) → IsSeen s bytes future → Comes s bytes device.now) →
    ShowsDisk geometry device disk → (at len : ℕ) (bytes : List ℕ) → IsReadTwice geometry past future at len bytes → bytes ≡ slice_range disk.bytes at (at + len)
reads_row geometry is past future device disk known later shows at len bytes twice =
    let has : (host : ℕ) → host < geometry.hosts → device.now (first_of geometry twice.row + host) ≡ sector_in geometry host twice.one =
    (λ host below.
    let s = first_of geometry twice.row + host in
    is_there s (sector_in geometry host twice.one) (sector_in geometry host twice.other) device.now
    (known.came s (sector_in geometry host twice.one) (twice.before host below))
    (later s (sector_in geometry host twice.other) (twice.after host below))
    (twice.agree host below)) in
    one_row geometry twice.one bytes (slice_range disk.bytes (image_row twice.row) (image_row twice.row + 4096)) twice.gathered (row_is geometry is device disk shows twice.one twice.row twice.is_row has)
    ∙ (λ i. slice_range disk.bytes (sym twice.here i) (sym twice.here i + sym twice.whole i))
