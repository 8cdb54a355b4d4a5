-- A recovery, and then a marking of each place that it learned in the newest epoch.
use Rattle.std.specs.Prelude.{◌≡◌, ◌⊎◌, ◌+◌, ◌-◌, ◌%◌, ℕ, Bool, false, List, max, nat_lt, if◌then◌else◌, Option, Some}
use Rattle.disk.specs.Disk.{Call, Answer}
use Rattle.paxos_block.specs.Shape.{Shape}
use Rattle.lock_command.specs.declared.command.Command.{Command}
use Rattle.epoch_deeds.specs.Deeds.{Deeds}
use Rattle.epoch_host.specs.declared.answer.EpochAnswer.{EpochAnswer}
use Rattle.epoch_host.specs.declared.answer.EpochAnswer.TheVariants.{Recovered, Marked}
use Rattle.epoch_host.specs.declared.task.EpochTask.TheVariants.{Recover, Mark}
use Rattle.epoch_host.specs.declared.walk.Walk.{Walk}
use Rattle.epoch_host.specs.Ending.{HasLearnedUpto}
use Rattle.epoch_host.specs.Leading.{LeadsTo}
use Rattle.epoch_images.specs.Working.{Standing, HasWorked}

-- the first place of the epoch in which a place is
abbrev pub first_of : Shape → ℕ → ℕ
first_of c place = place - place % c.slots

-- whether a marking ended with the host's block marked on some disk
abbrev pub leaves_a_mark : Option EpochAnswer → Bool
leaves_a_mark (Some (Marked count)) = nat_lt 0 count
leaves_a_mark other = false

-- Each place from this one on, so many of them, was marked, one after another. Of so many the host's block is marked since then.
pub data MarksFrom {D : Type 0} (gives : D → Call → Answer → D → Type 0) (from : ℕ) : (places marked : ℕ) → Standing D → Standing D → Type 0 where
  none : (host : Standing D) → MarksFrom gives from 0 0 host host
  more : (n marked : ℕ) (said : Option EpochAnswer) (old before after : Standing D) → MarksFrom gives from n marked old before → HasWorked gives (Mark (from + n)) said before after
      → MarksFrom gives from (n + 1) (marked + (if leaves_a_mark said then 1 else 0)) old after

-- The host had learned all places below this one, and the table was there; or it had not, and this is 0.
abbrev pub HadLearned : Walk → ℕ → Type 0
HadLearned w upto = (upto ≡ 0) ⊎ ((c : Shape) (h : ℕ) (deeds : Deeds) → LeadsTo c h deeds w → (learned : List Command) × HasLearnedUpto c h deeds upto learned)

-- The first place that is marked is the first one that was not learned before; or that of the newest epoch, if it is later.
abbrev pub marked_from : Shape → (before learned : ℕ) → ℕ
marked_from c before learned = max before (first_of c learned)

-- The host recovered, and all places below `learned` are learned. Then it marked each of them that it had not learned before, in the newest epoch alone. Of so many its block is marked.
pub record RecoversAndMarks {D : Type 0} (gives : D → Call → Answer → D → Type 0) (tries before learned marked : ℕ) (old new : Standing D) : Type 0 where
  pub known : HadLearned old.host before
  pub recovered : Standing D
  pub recovers : HasWorked gives (Recover tries) (Some (Recovered learned)) old recovered
  pub marks : MarksFrom gives (marked_from old.host.config before learned) (learned - marked_from old.host.config before learned) marked recovered new
