use Rattle.std.specs.Prelude.{map}
use Rattle.std.specs.List.{range_with_len}
use Rattle.std.proofs.Common.{ℕ, ◌≡◌, ◌+◌, List, [], ◌∷◌, ◌++◌, sym, ap, ◌∙◌, subst, arith}
use Rattle.std.proofs.lemmas.List.FromFn.{map-range_with_len_more}
use Rattle.lock_script.specs.declared.event.Event.{Event}
use Rattle.lock_script.specs.declared.event.Event.TheVariants.{Stop}
use Rattle.epoch_sweep.specs.Sweeping.{HappenOn}
use Rattle.epoch_sweep.proofs.Running.{nothing, on}
use Rattle.epoch_sweep.proofs.ending.stop_all.Goals as goal

pub loop-number-init : goal.loop-number-init
loop-number-init c = nothing c.args.config c.args.cluster.now c.args.told.now.items

pub loop-number-preserved : goal.loop-number-preserved
loop-number-preserved c =
    let at = c.loop-number in
    let so_far : List Event = map Stop (range_with_len 0 at.number) in
    let one_more : so_far ++ Stop c.in-Some.host ∷ [] ≡ map Stop (range_with_len 0 (at.number + 1)) =
    ap (λ (h : ℕ). so_far ++ Stop h ∷ []) c.in-Some.ensures.host.1 ∙ sym (map-range_with_len_more Stop 0 at.number at.number (omega arith)) in
    subst (λ (l : List Event). HappenOn c.args.config l c.args.cluster.now c.happen_once.new.cluster c.args.told.now.items c.happen_once.new.told.items) one_more
    (on c.args.config so_far (Stop c.in-Some.host ∷ []) c.args.cluster.now at.cluster c.happen_once.new.cluster c.args.told.now.items at.told.items c.happen_once.new.told.items at.invariant c.in_ok-happen_once.ensures)
