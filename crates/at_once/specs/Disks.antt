-- What the disks of a host gave, disk by disk.
use Rattle.std.specs.Prelude.{◌≡◌, ◌==◌, ℕ, List, [], ◌∷◌, ◌++◌, filter, slice_get, Some}
use Rattle.disk.specs.Disk.{DiskState, Call, Answer, Step}
use Rattle.disk.specs.Simulated.{SimState, outcome}
use Rattle.paxos_block.specs.Shape.{Shape}
use Rattle.world.specs.Entry.{Filled, on_disk}
use Rattle.dlm_images.specs.Operations.{Made, Gave}
use Rattle.at_once.specs.AtOnce.{Serves}
use Rattle.at_once.specs.Deeds.{calls}

-- the calls on disk k
abbrev pub on_one : ℕ → List Made → List Made
on_one k made = filter (λ x. x.disk == k) made

-- the disk gave these answers, one after another
abbrev pub GaveAlone : {D : Type 0} → (D → Call → Answer → D → Type 0) → D → List Made → D → Type 0
GaveAlone gives old [] new = new ≡ old
GaveAlone {D} gives old (x ∷ xs) new = (between : D) × gives old x.call x.answer between × GaveAlone gives between xs new

-- Of the calls on this disk it gave the answers by itself.
pub record GaveOn {D : Type 0} (gives : D → Call → Answer → D → Type 0) (k : ℕ) (before : D) (made : List Made) (new : List D) : Type 0 where
  pub after : D
  pub is : slice_get new k ≡ Some after
  pub gave : GaveAlone gives before (on_one k made) after

-- each disk by itself gave the answers to the calls on it
abbrev pub EachGave : {D : Type 0} → (D → Call → Answer → D → Type 0) → Type 0
EachGave {D = D} gives = (old new : List D) (made : List Made) → Gave gives old made new →
    (k : ℕ) (before : D) → slice_get old k ≡ Some before → GaveOn gives k before made new

-- each answer makes a step of the disk model
abbrev pub MakesSteps : {D : Type 0} → (D → Call → Answer → D → Type 0) → (D → DiskState) → Type 0
MakesSteps {D = D} gives state = (old new : D) (call : Call) (answer : Answer) → gives old call answer new → Step (state old) call answer (state new)

-- A disk that makes a step with each call has served the calls that it gave the answers to, and may serve more.
abbrev pub GivingServes : {D : Type 0} → (D → Call → Answer → D → Type 0) → (D → DiskState) → Type 0
GivingServes {D = D} gives state = MakesSteps gives state →
    (c : Shape) (h k : ℕ) (before after : D) (made : List Made) (more : List Filled) → GaveAlone gives before (on_one k made) after →
    Serves c k (state after) more → Serves c k (state before) (on_disk k (calls h made) ++ more)

-- a simulated disk makes a step with each call
abbrev pub SimulatedSteps : Type 0
SimulatedSteps = (old new : SimState) (call : Call) (answer : Answer) → (new, answer) ≡ outcome old call → Step old.disk call answer new.disk
