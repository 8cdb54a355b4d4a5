-- What a host knows: the epoch where it is, the commands learned of that one, and those of the one before.
use Rattle.std.specs.Prelude.{◌≡◌, ◌⊎◌, ◌+◌, ◌*◌, ℕ, zero, suc, List, [], length, Option, Some, None}
use Rattle.paxos_block.specs.Shape.{Shape}
use Rattle.lock_command.specs.declared.command.Command.{Command}
use Rattle.host.specs.Host.{Memory, Running}
use Rattle.epoch_deeds.specs.Deeds.{Deeds, core_in}
use Rattle.epoch_deeds.specs.Knowing.{HasLearned}
use Rattle.epoch_host.specs.declared.over.Over.{Over}
use Rattle.epoch_host.specs.declared.over.Over.TheVariants.{Unknown, Known}
use Rattle.epoch_host.specs.declared.walk.Walk.{Walk}
use Rattle.epoch_host.specs.declared.walk.Whereabouts.{Whereabouts}
use Rattle.epoch_host.specs.declared.walk.Whereabouts.TheVariants.{In}

-- BY WHAT IT KEEPS

-- the commands that are kept of the epoch before
abbrev pub before_over : Over → List Command
before_over Unknown = []
before_over (Known values before) = before.items

abbrev pub epoch_at : Whereabouts → Option ℕ
epoch_at (In s) = Some s.epoch
epoch_at other = None

abbrev pub prefix_at : Whereabouts → List Command
prefix_at (In s) = s.core.prefix
prefix_at other = []

abbrev pub before_at : Whereabouts → List Command
before_at (In s) = before_over s.over
before_at other = []

abbrev pub length_at : Shape → Whereabouts → ℕ
length_at c (In s) = s.epoch * c.slots + length s.core.prefix
length_at c other = 0

-- the epoch where the host is
abbrev pub where_is : Walk → Option ℕ
where_is w = epoch_at w.is

-- the commands learned of that epoch
abbrev pub prefix_of : Walk → List Command
prefix_of w = prefix_at w.is

-- all commands of the epoch before, where the host came from there
abbrev pub before_of : Walk → List Command
before_of w = before_at w.is

-- the place behind the commands learned
abbrev pub length_of : Walk → ℕ
length_of w = length_at w.config w.is

-- BY WHAT IT DID

-- The core of the epoch before had learned that one whole, and these were the commands. Before the first epoch there is none.
abbrev pub AreOfEpochBefore : Shape → (h e : ℕ) → Deeds → List Command → Type 0
AreOfEpochBefore c h zero deeds before = before ≡ []
AreOfEpochBefore c h (suc e) deeds before = HasLearned c h e deeds before

-- The host is in the epoch after the one of which these are all commands.
pub record CameFrom (c : Shape) (h : ℕ) (deeds : Deeds) (before : List Command) : Type 0 where
  pub epoch : ℕ
  pub memory : Memory
  pub runs : core_in c h (suc epoch) deeds ≡ Running memory
  pub learned : HasLearned c h epoch deeds before

-- none are told, or all commands of the epoch before the one where the host is
abbrev pub KnowsBefore : Shape → (h : ℕ) → Deeds → List Command → Type 0
KnowsBefore c h deeds before = (before ≡ []) ⊎ CameFrom c h deeds before
