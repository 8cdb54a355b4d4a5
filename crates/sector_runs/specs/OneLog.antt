-- One log of what hosts on several machines do over devices of sectors.
use Rattle.std.specs.Prelude.{◌≡◌, ℕ, List}
use Rattle.disk.specs.Disk.{DiskState}
use Rattle.lock_command.specs.declared.command.Command.{Command}
use Rattle.lock_command.specs.declared.reply.Reply.{Reply}
use Rattle.paxos_block.specs.Shape.{Shape}
use Rattle.host.specs.Kept.{Kept}
use Rattle.world.specs.Entry.{Filled}
use Rattle.dlm_images.specs.Operations.{IsAcknowledged}
use Rattle.sectors.specs.declared.geometry.Geometry.{Geometry}
use Rattle.at_once.specs.AtOnce.{IsRunOf}
use Rattle.at_once.specs.Joined.{HasCome, IsJoined}
use Rattle.at_once.specs.Power.{renumbered}
use Rattle.sector_runs.specs.Device.{Device}
use Rattle.sector_runs.specs.OverDevices.{IsOverDevices}

-- What hosts do is a run of the world, whose one log joins all that they keep. At one slot no two hosts, nor one at two places, have
-- acknowledged different commands.
pub record HasOneLog (c : Shape) (log : List Filled) : Type 0 where
  pub run : IsRunOf c (renumbered log)
  pub joined : IsJoined c log run.one.commands
  pub apart : (i j g h slot : ℕ) (kept other : Kept) (one another : Command) (reply answer : Reply) → HasCome c log i g kept → HasCome c log j h other →
      IsAcknowledged one slot reply kept.prefix → IsAcknowledged another slot answer other.prefix → one ≡ another

abbrev pub DevicesHaveOneLog : Type 0
DevicesHaveOneLog =
    (c : Shape) (geometry : ℕ → Geometry) (images : ℕ → DiskState) (devices : ℕ → Device) (log : List Filled) → IsOverDevices c geometry images devices log → HasOneLog c log
