use Rattle.world.proofs.Runs.{fresh_is_run}
use Rattle.world.specs.Examples.{one_disk, submission}
use Rattle.cluster.proofs.ShortRecord.{run, is_record, no_seats, submits}
use Rattle.cluster.proofs.examples.first_record.Goals as goal

pub returns-clause-record : goal.returns-clause-record
returns-clause-record c = is_record (c.one_log_and_nothing_lost.ensures.headline one_disk submission (fresh_is_run one_disk submission run))

pub returns-clause-seats : goal.returns-clause-seats
returns-clause-seats c = no_seats

pub returns-clause-entries : goal.returns-clause-entries
returns-clause-entries c = submits
