-- The call that is due is the host's own.
use Rattle.std.specs.Prelude.{IsSome}
use Rattle.std.proofs.Common.{ℕ, ◌≡◌, Bool, Some, sym, ap, ap₂, ◌∙◌, subst}
use Rattle.disk.specs.Disk.{Call}
use Rattle.epoch_host.specs.declared.walk.Walk.{Walk}
use Rattle.epoch_simulator.specs.Doing.{due, due_of}
use Rattle.epoch_sweep.proofs.Running.{busy_next, idle_next, same_host}
use Rattle.epoch_sweep.proofs.interrupting.next_call.Goals as goal

pub returns-then-is_idle : goal.returns-then-is_idle
returns-then-is_idle c = idle_next c.args.cluster.now c.args.host (c.is_idle.ensures.idle c.if-is_idle.true)

pub call-disk-requires : goal.call-disk-requires
call-disk-requires c =
    let busy = c.is_idle.ensures.busy c.if-is_idle.false in
    record { busy = subst (λ (w : Walk). IsSome w.task) (same_host c.args.cluster.now c.args.host busy.0 c.host.result.now busy.1 c.host.ensures) busy.2 }

pub may_tear-requires : goal.may_tear-requires
may_tear-requires c = c.is_idle.ensures.busy c.if-is_idle.false

pub returns : goal.returns
returns c =
    let k = c.args.cluster.now in
    let h = c.args.host in
    let disk : c.call-disk.result.disk ≡ (due k h).0 = ap (λ (call : ℕ × Call). call.0) (c.call-disk.ensures.due ∙ sym (ap due_of c.host.ensures)) in
    ap₂ (λ (d : ℕ) (tears : Bool). Some (d, tears)) disk c.may_tear.ensures ∙ busy_next k h (c.is_idle.ensures.busy c.if-is_idle.false)
