use Rattle.sector_runs.proofs.Making.{calls_can_be_served}
use Rattle.sector_runs.proofs.Steps.{blank_devices_show, keeps_are_syncs, puts_are_writes, restarts_lose_power, rows_are_reads, sectors_follow, sectors_serve, tries_are_torn}
use Rattle.sector_runs.proofs.Undoing.{writes_may_be_undone}
use Rattle.sector_runs.proofs.law.touches_are_steps.Goals as goal

pub returns : goal.returns
returns c = record {
  writes = puts_are_writes;
  failures = tries_are_torn;
  syncs = keeps_are_syncs;
  restarts = restarts_lose_power;
  undone = writes_may_be_undone;
  reads = rows_are_reads;
  serves = sectors_serve;
  blank = blank_devices_show;
  can = calls_can_be_served;
  numbers = sectors_follow;
}
