use Rattle.std.proofs.Common.{true, arith, sym, ◌∙◌}
use Rattle.inspect.proofs.MarkLemmas.{as_read, run_more}
use Rattle.inspect.proofs.edges.end_of_run.Goals as goal

pub loop-end-preserved : goal.loop-end-preserved
loop-end-preserved c = record {
  more = let more = c.loop-end.invariant.more in omega (arith, more);
  fits = let lt = c.loop-end-test.true in omega (arith, lt);
  run = run_more c.args.locks.now c.args.start c.loop-end.end c.index-locks-start.result c.index-locks-end.result c.index-locks-start.is c.index-locks-end.is (as_read c.args.locks.now c.loop-end.end c.args.start c.index-locks-end.result c.index-locks-start.result true c.index-locks-end.is c.index-locks-start.is (sym c.eq.ensures ∙ c.if-eq.true)) c.loop-end.invariant.run;
}
