-- How an image is laid out that has this size and begins with these bytes: the calls of its disk, in their order, all of which succeeded.
use Rattle.std.specs.Prelude.{ℕ, List, [], ◌∷◌, drop}
use Rattle.disk.specs.Disk.{Call, Attach, Write, Sync, Answer, Booted, Done}
use Rattle.torn_block.specs.declared.block.TheConstants.{OPEN_GATE}
use Rattle.folders.specs.Layout.{WritesZeros}

-- an image's first bytes with a closed gate
abbrev pub with_closed_gate : List ℕ → List ℕ
with_closed_gate header = 0 ∷ drop 1 header

-- The image is zeros throughout, and synced; then its header is written with a closed gate, and synced; then the gate is opened, and
-- synced. The disk after each of these calls stands first.
pub record IsLaidOut {D : Type 0} (gives : D → Call → Answer → D → Type 0) (size : ℕ) (header : List ℕ) (old new : D) : Type 0 where
  pub boot : ℕ
  pub attached : D
  pub zeroed : D
  pub blank : D
  pub closed : D
  pub ready : D
  pub opened : D
  pub attaches : gives old Attach (Booted boot) attached
  pub clears : WritesZeros gives boot 0 size attached zeroed
  pub syncs_zeros : gives zeroed (Sync boot) Done blank
  pub writes : gives blank (Write boot 0 (with_closed_gate header)) Done closed
  pub syncs_header : gives closed (Sync boot) Done ready
  pub opens : gives ready (Write boot 0 (OPEN_GATE ∷ [])) Done opened
  pub syncs_gate : gives opened (Sync boot) Done new
