-- Whose blocks a host writes.
use Rattle.std.specs.Prelude.{◌≡◌, ◌+◌, ◌<◌, ℕ, List, [], ◌∷◌}
use Rattle.disk.specs.Disk.{Call, Attach, Read, Write, Sync}
use Rattle.torn_block.specs.Layout.{cluster_version}
use Rattle.torn_block.specs.declared.layout.TheConstants.{HOSTS, BLOCK_LENGTH}
use Rattle.paxos_block.specs.Places.{Spot, BeatOf, VoteOf, place_of}
use Rattle.paxos_block.specs.Shape.{Shape}
use Rattle.host.specs.Host.{Stopped}
use Rattle.world.specs.Entry.{Filled, Called, Torn, of_host}
use Rattle.at_once.specs.AtOnce.{Does}

-- the host whose block it is
abbrev pub host_of : Spot → ℕ
host_of (BeatOf host) = host
host_of (VoteOf slot host) = host

-- In an image these bytes begin in a block of this host.
pub record IsOfHost (h at : ℕ) : Type 0 where
  pub spot : Spot
  pub own : host_of spot ≡ h
  pub below : h < HOSTS
  pub offset : ℕ
  pub here : at ≡ place_of cluster_version spot + offset
  pub begins : offset < BLOCK_LENGTH

-- a call of host h writes a block of its own, or nothing
abbrev pub IsOwn : ℕ → Call → Type 0
IsOwn h Attach = Unit {0}
IsOwn h (Read boot at len) = Unit {0}
IsOwn h (Write boot at from) = IsOfHost h at
IsOwn h (Sync boot) = Unit {0}

abbrev pub IsOwnEntry : Filled → Type 0
IsOwnEntry (Called h d call answer left) = IsOwn h call
IsOwnEntry (Torn h d call left) = IsOwn h call
IsOwnEntry other = Unit {0}

abbrev pub AllOwn : List Filled → Type 0
AllOwn [] = Unit {0}
AllOwn (e ∷ es) = IsOwnEntry e × AllOwn es

-- Hosts that do what they may, each by itself, write their own blocks alone, whatever their reads showed.
abbrev pub HostsWriteTheirOwn : Type 0
HostsWriteTheirOwn = (c : Shape) (log : List Filled) → ((h : ℕ) → Does c h Stopped (of_host h log)) → AllOwn log
