-- That devices can serve what hosts do: each call, at any moment.
use Rattle.std.specs.Prelude.{◌≡◌, ◌+◌, ◌<◌, ◌^◌, ℕ, false, [], ◌∷◌, length}
use Rattle.disk.specs.Disk.{DiskState, Call, Attach, Read, Write, Sync, success_of}
use Rattle.torn_block.specs.declared.layout.TheConstants.{ROW_LENGTH}
use Rattle.paxos_block.specs.Shape.{Shape}
use Rattle.world.specs.Entry.{Called}
use Rattle.sectors.specs.declared.geometry.Geometry.{Geometry}
use Rattle.sectors.specs.Geometry.{IsGeometry}
use Rattle.sectors.specs.Places.{RowOf, IsRow, image_row}
use Rattle.sectors.specs.Sector.{stamp_of}
use Rattle.sector_runs.specs.Device.{Device}
use Rattle.sector_runs.specs.Showing.{ShowsDisk}
use Rattle.sector_runs.specs.Touches.{IsInBlock, ServesBySectors}

-- A row of the device begins here in an image.
pub record IsRowHere (geometry : Geometry) (at len : ℕ) : Type 0 where
  pub row : RowOf
  pub is_row : IsRow geometry row
  pub here : at ≡ image_row row
  pub whole : len ≡ ROW_LENGTH

-- the call reads a row of the device, or writes in a block of it, or does neither
abbrev pub IsFor : Geometry → Call → Type 0
IsFor geometry Attach = Unit {0}
IsFor geometry (Read boot at len) = (boot ≡ 1) × IsRowHere geometry at len
IsFor geometry (Write boot at from) = (boot ≡ 1) × IsInBlock geometry at (length from)
IsFor geometry (Sync boot) = boot ≡ 1

-- A device that is not lost, and no stamp of which is spent, can serve any such call of any host, with the answer of the disk that it shows.
abbrev pub CallsCanBeServed : Type 0
CallsCanBeServed =
    (c : Shape) (k h : ℕ) (geometry : Geometry) (device : Device) (disk : DiskState) (call : Call) → IsGeometry geometry → ShowsDisk geometry device disk → device.gone ≡ false →
    ((s : ℕ) → stamp_of (device.now s) + 1 < 2 ^ 64) → IsFor geometry call → ServesBySectors c k geometry device (Called h k call (success_of disk call) [] ∷ [])
