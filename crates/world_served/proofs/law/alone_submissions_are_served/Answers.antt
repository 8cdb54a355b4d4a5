use Rattle.std.proofs.Common.{◌≤◌, List}
use Rattle.paxos_block.specs.Shape.{Shape}
use Rattle.world.specs.Entry.{Filled}
use Rattle.world.specs.World.{IsRun}
use Rattle.world.specs.Happens.{run}
use Rattle.world.proofs.Runs.{run_is_run}
use Rattle.world_served.specs.Served.{ServesAlone}
use Rattle.world_served.proofs.Submissions.{serves}
use Rattle.world_served.proofs.law.alone_submissions_are_served.Goals as goal

served : (c : Shape) (log : List Filled) → 1 ≤ c.disks → IsRun c log → ServesAlone c log
served c log some runs i j host tries command marks alone = serves c log runs some i j host tries command marks alone

pub returns-clause-runs : goal.returns-clause-runs
returns-clause-runs c = served

pub returns-clause-events : goal.returns-clause-events
returns-clause-events c = λ shape events some. served shape (run shape events) some (run_is_run shape events)
