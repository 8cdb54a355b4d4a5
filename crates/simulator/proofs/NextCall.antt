-- What is kept of a host and of its disk tells the next call, and whether it may be torn.
use Rattle.std.specs.Prelude.{◌&&◌, is_none}
use Rattle.std.proofs.Common.{ℕ, ◌<◌, ◌≡◌, Bool, false, Option, Some, None, get_or, sym, ap, ◌∙◌}
use Rattle.disk.specs.Disk.{DiskState, Call}
use Rattle.disk.specs.Simulated.{SimState, refusal_of}
use Rattle.paxos_block.specs.Shape.{Shape}
use Rattle.host.specs.Host.{Memory, next_of, next_in}
use Rattle.host.specs.Kept as hosts
use Rattle.world.specs.World.{world}
use Rattle.simulator.specs.Calls.{is_write}
use Rattle.simulator.specs.Kept.{Kept, is_busy, TellsNext, told_call}
use Rattle.simulator.proofs.Calls.{no_call}
use Rattle.simulator.proofs.Events.{running_at}

-- an idle host has none
pub tells_none : (old : Kept) (h : ℕ) (o : Option hosts.Kept) → get_or old.hosts h None ≡ o → is_busy o ≡ false → TellsNext h None old
tells_none old h o found idle log leads = ap (told_call (world old.shape log)) (sym (no_call log old leads h o found idle))

pub tells_next : (old : Kept) (h : ℕ) (core : hosts.Kept) (k : ℕ) (call : Call) (x : SimState) (t : Bool) → get_or old.hosts h None ≡ Some core
    → ((c : Shape) (g : ℕ) (m : Memory) → hosts.LeadsTo c g m core → next_in c g m ≡ Some (k, call))
    → k < old.shape.disks → x ≡ get_or old.disks k x → t ≡ (is_write call && is_none (refusal_of x.disk call))
    → TellsNext h (Some (k, t)) old
tells_next old h core k call x t found next inside value is log leads =
    let w = world old.shape log in
    let r = running_at log old leads h core found in
    let due : next_of old.shape h (w.host h) ≡ Some (k, call) = ap (next_of old.shape h) r.1 ∙ next old.shape h r.0 r.2 in
    let same : x.disk ≡ w.disk k = ap (λ (s : SimState). s.disk) (value ∙ leads.shows.disks k x inside) in
    ap (λ (b : Bool). Some (k, b)) (is ∙ ap (λ (d : DiskState). is_write call && is_none (refusal_of d call)) same) ∙ ap (told_call w) (sym due)
