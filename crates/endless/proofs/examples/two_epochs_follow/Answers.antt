use Rattle.endless.proofs.Example.{runs, fresh, keeps, acknowledged_first, acknowledged_second}
use Rattle.endless.proofs.examples.two_epochs_follow.Goals as goal

pub returns : goal.returns
returns c = record { runs = runs; fresh = fresh; keeps = keeps; first = acknowledged_first; second = acknowledged_second }
