use Rattle.dlm_tasks.proofs.Refusing.{play_refused}
use Rattle.dlm_tasks.proofs.any_run.run_any_script.Goals as goal

pub returns-in_err-play-in-Endless-clause-refused : goal.returns-in_err-play-in-Endless-clause-refused
returns-in_err-play-in-Endless-clause-refused g c = play_refused c.in_err-play-in-Endless.field-0.0 c.from_residual.result c.from_residual.ensures.1
