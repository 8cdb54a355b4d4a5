-- What a host's disks gave, disk by disk, as what each disk serves by itself.
use Rattle.std.specs.Prelude.{ℕ, List, ◌++◌}
use Rattle.disk.specs.Disk.{DiskState, Call, Answer}
use Rattle.paxos_block.specs.Shape.{Shape}
use Rattle.at_once.specs.Disks.{on_one, GaveAlone, MakesSteps}
use Rattle.epoch_deeds.specs.Deeds.{Deeds}
use Rattle.epoch_images.specs.Working.{calls_of}
use Rattle.epoch_runs.specs.World.{Entry}
use Rattle.epochs_at_once.specs.AtOnce.{Serves, on_disk}
use Rattle.epochs_at_once.specs.Tasks.{done_by}

-- A disk that makes a step of the disk model with each answer has served the calls that deeds of a host made on it, and may serve more.
abbrev pub GivingServes : {D : Type 0} → (DiskState → DiskState → Type 0) → (D → Call → Answer → D → Type 0) → (D → DiskState) → Type 0
GivingServes {D = D} IsCrash gives state = MakesSteps gives state →
    (c : Shape) (h k : ℕ) (before after : D) (deeds : Deeds) (more : List Entry) → GaveAlone gives before (on_one k (calls_of deeds)) after →
    Serves IsCrash c k (state after) more → Serves IsCrash c k (state before) (on_disk k (done_by h deeds) ++ more)
