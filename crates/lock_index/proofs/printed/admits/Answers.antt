use Rattle.std.proofs.Common.{◌≡◌, ◌≤◌, true, false, get_or, sym, ap, ◌∙◌, arith}
use Rattle.std.proofs.lemmas.Bool.{not-true, not-false}
use Rattle.lock_command.specs.Locks.{is_lock}
use Rattle.lock_index.specs.Shelved.{no_lock}
use Rattle.lock_index.proofs.Holders.{clear_admits, admits_from_name, admits_behind, admits_not, past_itself, past_other}
use Rattle.lock_index.proofs.printed.admits.Goals as goal
use Rattle.lock_index.proofs.printed.admits.Goals.{else-holds_against-via-then-holds_against+else-ne, else-holds_against-via-else-holds_against}

pub loop-at-init : goal.loop-at-init
loop-at-init c = admits_from_name c.args.name.now c.args.lock c.args.mode c.args.printed.now c.args.group.begin c.requires.group.point.0

pub returns-then-none_against : goal.returns-then-none_against
returns-then-none_against c =
    sym (clear_admits c.args.name.now c.args.lock c.args.mode c.args.printed.now c.args.group.begin c.conversions_end-to.result
    c.requires.group.point.0 c.conversions_end-to.ensures.point.1 (c.none_against.ensures.clear c.if-none_against.true))

pub returns-then-ne : goal.returns-then-ne
returns-then-ne c =
    let d = c.get.result.now in
    let other : is_lock c.args.lock (get_or c.args.printed.now c.loop-at.at d) ≡ false = ap (λ r. is_lock c.args.lock r) (sym c.get.ensures.lock) ∙ not-true _ (sym c.if-ne.ensures) in
    sym (c.loop-at.invariant ∙ admits_not c.args.name.now c.args.lock c.args.mode c.args.printed.now c.args.group.begin c.conversions_end-to.result c.loop-at.at c.requires.group.point.1 c.conversions_end-to.ensures.point.0 c.loop-at.auto.at c.loop-at-test.true (omega (arith, c.loop-at-test.true, c.conversions_end-to.ensures.bound)) d other (sym (c.holds_against.ensures d) ∙ c.if-holds_against.true))

pub loop-at-preserved : goal.loop-at-preserved
loop-at-preserved c =
    elim c.else-holds_against.branch [
      | else-holds_against-via-then-holds_against+else-ne w ↦
          let own : is_lock c.args.lock (get_or c.args.printed.now c.loop-at.at w.get.result.now) ≡ true = ap (λ r. is_lock c.args.lock r) (sym w.get.ensures.lock) ∙ not-false _ (sym w.if-ne.ensures) in
          c.loop-at.invariant ∙ past_itself c.args.name.now c.args.lock c.args.mode c.args.printed.now c.args.group.begin c.conversions_end-to.result c.loop-at.at c.requires.group.point.1 c.conversions_end-to.ensures.point.0 c.loop-at.auto.at c.loop-at-test.true (omega (arith, c.loop-at-test.true, c.conversions_end-to.ensures.bound)) w.get.result.now own
      | else-holds_against-via-else-holds_against w ↦
          c.loop-at.invariant ∙ past_other c.args.name.now c.args.lock c.args.mode c.args.printed.now c.args.group.begin c.conversions_end-to.result c.loop-at.at c.requires.group.point.1 c.conversions_end-to.ensures.point.0 c.loop-at.auto.at c.loop-at-test.true (omega (arith, c.loop-at-test.true, c.conversions_end-to.ensures.bound)) no_lock (sym (c.holds_against.ensures no_lock) ∙ w.if-holds_against.false)
    ]

pub returns : goal.returns
returns c =
    let behind : c.conversions_end-to.result ≤ c.loop-at.at = omega (arith, c.loop-at-test.false) in
    sym (c.loop-at.invariant ∙ admits_behind c.args.name.now c.args.lock c.args.mode c.args.printed.now c.conversions_end-to.result c.loop-at.at c.conversions_end-to.ensures.point.1 behind)
