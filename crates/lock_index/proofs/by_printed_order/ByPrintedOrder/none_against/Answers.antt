use Rattle.std.proofs.Common.{◌≡◌, false, not, get_or, sym, ap, ◌∙◌, inl, inr, arith}
use Rattle.std.proofs.lemmas.Bool.{cases_lt, and_parts, and_from, not-true}
use Rattle.lock_command.specs.State.{holds_against}
use Rattle.lock_index.specs.Shelved.{no_lock}
use Rattle.lock_index.proofs.by_printed_order.ByPrintedOrder.none_against.Goals as goal

pub loop-at-preserved : goal.loop-at-preserved
loop-at-preserved c = record {
  clear = λ t k d low high.
      let both = and_parts c.loop-at.none (not c.holds_against.result) t in
      elim (cases_lt k c.loop-at.at) as (λ w. holds_against c.args.wanted (get_or c.args.self.now k d).state ≡ false) [
        | inl before ↦ c.loop-at.invariant.clear both.0 k d low before
        | inr after ↦
            let here : k ≡ c.loop-at.at = omega (arith, after, high) in
            ap (λ n. holds_against c.args.wanted (get_or c.args.self.now n d).state) here ∙ sym (c.holds_against.ensures d) ∙ not-true c.holds_against.result both.1
      ];
  met = λ all.
      and_from c.loop-at.none (not c.holds_against.result) (c.loop-at.invariant.met all)
      (ap not (c.holds_against.ensures no_lock ∙ all c.loop-at.at no_lock c.loop-at.auto.at c.loop-at-test.true));
}

pub returns-clause-clear : goal.returns-clause-clear
returns-clause-clear c = λ t k d low high. c.loop-at.invariant.clear t k d low (omega (arith, high, c.loop-at-test.false))
