use Rattle.std.proofs.Common.{ℕ, ◌≡◌, List, [], ◌∷◌, length, slice_get, Some, sym, ap, ◌∙◌, subst, arith}
use Rattle.std.proofs.lemmas.List.{length-append}
use Rattle.epoch_host.specs.declared.walk.Walk.{Walk}
use Rattle.epoch_simulator.specs.Kept.{IsNew}
use Rattle.epoch_simulator.proofs.Lists.{all_more}
use Rattle.epoch_simulator.proofs.simulated_epochs.fresh_hosts.Goals as goal

pub loop-number-preserved : goal.loop-number-preserved
loop-number-preserved c =
    let hosts = c.loop-number.hosts.items in
    let own = c.new-in-loop-number.result in
    let items = c.push_reserved.ensures.items in
    let count = c.loop-number.invariant.count in
    let more = length-append hosts (own ∷ []) in
    let place : c.in-Some.host ≡ length hosts = c.in-Some.ensures.host.1 ∙ sym count in
    let new : IsNew c.args.config (length hosts) own =
    subst (λ (h : ℕ). IsNew c.args.config h own) place (c.new-in-loop-number.ensures.leads, c.new-in-loop-number.ensures.idle) in record {
      count = ap length items ∙ more ∙ omega (arith, count);
      new = subst (λ (l : List Walk). (h : ℕ) (w : Walk) → slice_get l h ≡ Some w → IsNew c.args.config h w) (sym items) (all_more (IsNew c.args.config) hosts own c.loop-number.invariant.new new);
      room = omega (arith, c.push_reserved.ensures.capacity, c.loop-number.invariant.room);
    }
