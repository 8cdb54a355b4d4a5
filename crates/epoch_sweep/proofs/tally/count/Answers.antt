use Rattle.std.proofs.Common.{◌+◌, ◌<◌, ◌≤◌, ◌∙◌, length, refl, ap, arith}
use Rattle.std.proofs.lemmas.List.{take_all}
use Rattle.std.proofs.lemmas.List.Elements.{All-get_or}
use Rattle.epoch_sweep.specs.declared.tally.End.{End}
use Rattle.epoch_sweep.specs.Counting.{counted}
use Rattle.epoch_sweep.proofs.Counted.{more, recovered_more, runs_more, wrong_by}
use Rattle.epoch_sweep.proofs.tally.count.Goals as goal

pub with_end-sweep-requires-clause-each : goal.with_end-sweep-requires-clause-each
with_end-sweep-requires-clause-each c =
    let at = c.loop-end in
    let within : at.end-index < length c.args.ends.now = omega arith in (
      omega (arith, at.invariant.recovered, at.invariant.runs),
      All-get_or (λ (e : End). e.recovered ≤ 2) c.args.ends.now at.end-index _ within c.requires.each,
    )

pub loop-end-init : goal.loop-end-init
loop-end-init c = record { counted = refl; runs = refl; recovered = omega arith; wrong = omega arith }

pub loop-end-preserved : goal.loop-end-preserved
loop-end-preserved c =
    let at = c.loop-end in
    let ends = c.args.ends.now in
    let after = c.with_end-sweep.result in
    let is = c.with_end-sweep.ensures in
    let within : at.end-index < length ends = omega arith in
    let runs = runs_more _ at.sweep after is in
    let recovered = recovered_more _ at.sweep after is (All-get_or (λ (e : End). e.recovered ≤ 2) ends at.end-index _ within c.requires.each) in
    let wrong = wrong_by _ at.sweep after is in
    record {
      counted = more ends at.end-index _ at.sweep after within at.invariant.counted is;
      runs = omega (arith, runs, at.invariant.runs);
      recovered = omega (arith, recovered, at.invariant.recovered);
      wrong = omega (arith, wrong, at.invariant.wrong);
    }

pub returns : goal.returns
returns c =
    let at = c.loop-end in
    at.invariant.counted ∙ ap counted (take_all at.end-index c.args.ends.now (omega arith))
