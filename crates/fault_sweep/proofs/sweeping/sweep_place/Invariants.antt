use Rattle.std.specs.Prelude.{sum_by, take, IfSome}
use Rattle.std.proofs.Common.{◌≡◌, ◌+◌, ◌*◌, ◌≤◌}
use Rattle.simulator.specs.Events.{event_of, events_of}
use Rattle.fault_sweep.specs.Sweeping.{changed, recovered_behind}
use Rattle.fault_sweep.proofs.sweeping.sweep_place.Given as goal

abbrev pub invariant-loop-change : goal.invariant-loop-change
invariant-loop-change l =
    (l.sweep.runs ≡ l.initial.sweep.runs + l.change-index) × (l.sweep.recovered ≤ 2 * l.sweep.runs) × (l.sweep.wrong ≤ l.sweep.runs)
    × (l.sweep.recovered ≡ l.initial.sweep.recovered
    + sum_by (λ change. recovered_behind (record { shape = l.fn.config; moved = l.fn.log }) (changed (events_of l.fn.events) l.fn.place (event_of change))) (take l.change-index l.fn.changes))
    × (l.sweep.wrong ≡ l.initial.sweep.wrong) × (l.sweep.first ≡ l.initial.sweep.first)
    × IfSome l.kept (λ replay. replay.cluster.shape ≡ l.fn.config)
