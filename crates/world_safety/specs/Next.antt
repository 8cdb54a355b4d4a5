-- The world after one entry more.
use Rattle.std.specs.Prelude.{◌==◌, ℕ, cond}
use Rattle.host.specs.Host.{Host}
use Rattle.paxos_block.specs.Shape.{Shape}
use Rattle.world.specs.Entry.{Filled, is_on, is_of, disk_step, host_step}
use Rattle.world.specs.World.{World}

-- its own disk and its own host make a step
abbrev pub next_world : Shape → World → Filled → World
next_world c w e =
    record {
      disk = λ k. cond (is_on k e) (disk_step (w.disk k) e) (w.disk k);
      host = λ h. cond (is_of h e) (host_step c h (w.host h) e) (w.host h);
    }

-- one host has come to another state
abbrev pub with_host : World → ℕ → (ℕ → Host) → World
with_host w h becomes = record { disk = w.disk; host = λ g. cond (h == g) (becomes g) (w.host g) }
