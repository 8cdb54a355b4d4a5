-- What C is shown of a host over all epochs and of its lock table, by whatever the host did.
use Rattle.std.specs.Prelude.{◌≡◌, ℕ, Bool, List, length, slice_get, Option, Some, None, IfSome, IsSome, is_some, unwrap_or, if◌then◌else◌}
use Rattle.paxos_block.specs.Shape.{Shape}
use Rattle.lock_command.specs.declared.command.Command.{Command}
use Rattle.host.specs.Host.{Memory, Running}
use Rattle.epoch_deeds.specs.Deeds.{Deeds, core_in}
use Rattle.epoch_host.specs.declared.walk.Walk.{Walk}
use Rattle.epoch_host.specs.Ending.{HasLearnedUpto, IsThere, IsWhereItIs}
use Rattle.epoch_host.specs.Knowing.{where_is}
use Rattle.epoch_host.specs.Leading.{LeadsTo}
use Rattle.c_host.specs.Views.{LacksLock}
use Rattle.c_epochs.specs.Calls.{is_before}
use Rattle.c_epochs.specs.declared.fault.ShowFault.{ShowFault}
use Rattle.c_epochs.specs.declared.fault.ShowFault.TheVariants.{NoTable, NoSuchLock, NoMemory}
use Rattle.c_epochs.specs.declared.open_epochs.OpenEpochs.{OpenEpochs}
use Rattle.c_epochs.specs.declared.view.EpochsView.{EpochsView}

abbrev pub flag : Bool → ℕ
flag so = if so then 1 else 0

-- THE HOST

-- The view shows where the host is, and how much it has learned there: nothing where it is nowhere.
pub record ShowsEpoch (view : EpochsView) (w : Walk) : Type 0 where
  pub epoch : Option ℕ
  pub is : (c : Shape) (h : ℕ) (deeds : Deeds) → LeadsTo c h deeds w → IsWhereItIs c h deeds epoch
  pub somewhere : view.is_in_epoch ≡ flag (is_some epoch)
  pub number : view.epoch ≡ unwrap_or epoch 0
  pub taken : (c : Shape) (h : ℕ) (deeds : Deeds) → LeadsTo c h deeds w → (e : ℕ) (memory : Memory) → core_in c h e deeds ≡ Running memory → view.taken ≡ length memory.learned
  pub nowhere : epoch ≡ None → view.taken ≡ 0

-- It shows the place below which all is learned, and that the lock table is known. Where it says that the table is not known, the table is not there.
pub record ShowsLength (view : EpochsView) (w : Walk) : Type 0 where
  pub upto : Option ℕ
  pub is : IfSome upto (λ place. (c : Shape) (h : ℕ) (deeds : Deeds) → LeadsTo c h deeds w → (learned : List Command) × HasLearnedUpto c h deeds place learned)
  pub there : IsThere w → IsSome upto
  pub known : view.has_table ≡ flag (is_some upto)
  pub learned : view.learned ≡ unwrap_or upto 0

-- It is shown of each disk whether it takes no part yet in this epoch, by its first one.
abbrev pub AreAway : Option ℕ → (firsts away : List ℕ) → Type 0
AreAway epoch firsts away = (k first shown : ℕ) → slice_get firsts k ≡ Some first → slice_get away k ≡ Some shown → shown ≡ flag (is_before epoch first)

-- The view shows this host.
pub record ShowsHost (view : EpochsView) (kept : OpenEpochs) : Type 0 where
  pub number : view.host ≡ kept.host.host
  pub disks : view.disks ≡ kept.config.disks
  pub slots : view.slots ≡ kept.config.slots
  pub cluster : view.cluster ≡ kept.cluster
  pub away : AreAway (where_is kept.host) kept.firsts view.away
  pub epoch : ShowsEpoch view kept.host
  pub length : ShowsLength view kept.host

-- ITS LOCK TABLE

-- By whatever deeds lead to the host, it has learned all places below one, and this is so of the commands learned of the last epoch, which make the lock table.
abbrev pub KnowsTable : Walk → (List Command → Type 0) → Type 0
KnowsTable w IsSo = (c : Shape) (h : ℕ) (deeds : Deeds) → LeadsTo c h deeds w → (upto : ℕ) × (learned : List Command) × HasLearnedUpto c h deeds upto learned × IsSo learned

-- why nothing of the table is shown: it is not there; or it is, and memory was refused
abbrev pub LacksTable : Walk → ShowFault → Type 0
LacksTable w NoTable = IsThere w → ⊥
LacksTable w NoSuchLock = ⊥
LacksTable w NoMemory = KnowsTable w (λ learned. Unit {0})

-- or the lock of this number is not in it
abbrev pub MayLack : Walk → (lock : ℕ) → ShowFault → Type 0
MayLack w lock NoTable = IsThere w → ⊥
MayLack w lock NoSuchLock = KnowsTable w (λ learned. LacksLock learned lock)
MayLack w lock NoMemory = KnowsTable w (λ learned. Unit {0})
