use Rattle.world.proofs.Runs as runs
use Rattle.world.proofs.law.goes_on.Goals as goal

pub returns : goal.returns
returns c = record {
  empty = λ shape. tt;
  more = runs.more;
  fresh = runs.fresh_is_run;
  beginnings = runs.beginning;
  first = λ shape log e is found. runs.each shape log 0 e is found;
  each = runs.each_behind;
  whole = λ shape log k is. runs.run_whole shape log is k;
}
