-- When the prefixes of hosts agree.
use Rattle.std.specs.Prelude.{◌<◌, ◌⊎◌, ℕ, List, length, slice_index_or}
use Rattle.lock_command.specs.declared.command.Command.{Command}
use Rattle.paxos_block.specs.Shape.{Shape}
use Rattle.host.specs.Host.{learned_of}
use Rattle.world.specs.Headline.{IsPrefix}
use Rattle.cluster_tie.specs.Parts.{Own}
use Rattle.cluster.specs.Seat.{host_in}

-- one of the two begins the other
abbrev pub Agree : List Command → List Command → Type 0
Agree one other = IsPrefix one other ⊎ IsPrefix other one

-- the commands that a seat's host has learned
abbrev pub prefix_of : Shape → Own → List Command
prefix_of c own = learned_of (host_in c own)

-- a prefix agrees with those of these seats
abbrev pub AgreesWith : Shape → List Command → List Own → Type 0
AgreesWith c one seats = (j : ℕ) (d : Own) → j < length seats → Agree one (prefix_of c (slice_index_or seats j d))

-- and so does each of theirs
abbrev pub AllAgree : Shape → List Own → Type 0
AllAgree c seats = (i : ℕ) (d : Own) → i < length seats → AgreesWith c (prefix_of c (slice_index_or seats i d)) seats
