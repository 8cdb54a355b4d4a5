use Rattle.std.specs.Prelude.{All}
use Rattle.std.proofs.Common.{◌+◌, ◌<◌, ◌≤◌, ◌≡◌, ◌++◌, ◌∷◌, ◌∙◌, List, [], length, length-append, take, subst, sym, ap, arith}
use Rattle.std.proofs.lemmas.List.{take_all, take_more}
use Rattle.std.proofs.lemmas.List.Elements.{All-push}
use Rattle.lock_script.specs.declared.event.Event.{Event}
use Rattle.epoch_sweep.specs.declared.tally.End.{End}
use Rattle.epoch_sweep.specs.Sweeping.{AllEnd}
use Rattle.epoch_sweep.proofs.Running.{none_ends, one_ends}
use Rattle.epoch_sweep.proofs.sweeping.end_each.Goals as goal

pub loop-change-init : goal.loop-change-init
loop-change-init c = record {
  few = omega arith;
  each = λ all. all;
  ended = none_ends c.args.config c.args.events.now c.args.place c.args.ends.now.items;
}

pub loop-change-preserved : goal.loop-change-preserved
loop-change-preserved c =
    let at = c.loop-change in
    let changes = c.args.changes.now in
    let change = c.change-item.result in
    let end = c.in_ok-end.end in
    let few : (end : End) → Type 0 = λ e. e.recovered ≤ 2 in
    let within : at.change-index < length changes = omega arith in
    let grown : take at.change-index changes ++ change ∷ [] ≡ take (at.change-index + 1) changes =
    ap (λ (e : Event). take at.change-index changes ++ e ∷ []) c.change-item.is ∙ sym (take_more changes at.change-index change within) in
    let now : List End = at.ends.items ++ end ∷ [] in
    let longer : length now ≡ length at.ends.items + 1 = length-append at.ends.items (end ∷ []) in
    let pushed = c.in_ok-list.ensures in
    record {
      few = omega (arith, at.invariant.few, longer, ap (λ (l : List End). length l) pushed);
      each = λ all. subst (All few) (sym pushed) (All-push few at.ends.items end (at.invariant.each all) c.in_ok-end.ensures.few);
      ended =
          subst (λ (l : List Event). AllEnd c.args.config c.args.events.now c.args.place l c.args.ends.now.items c.list.new.ends.items) grown
          (subst (λ (l : List End). AllEnd c.args.config c.args.events.now c.args.place (take at.change-index changes ++ change ∷ []) c.args.ends.now.items l) (sym pushed)
          (one_ends c.args.config c.args.events.now c.args.place (take at.change-index changes) change c.args.ends.now.items at.ends.items end at.invariant.ended c.in_ok-end.ensures.ended));
    }

pub returns-clause-ended : goal.returns-clause-ended
returns-clause-ended c =
    let at = c.loop-change in
    let changes = c.args.changes.now in
    subst (λ (l : List Event). AllEnd c.args.config c.args.events.now c.args.place l c.args.ends.now.items at.ends.items) (take_all at.change-index changes (omega arith)) at.invariant.ended
