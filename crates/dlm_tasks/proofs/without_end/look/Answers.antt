-- Whether the look ended well or not, the host has worked for it.
use Rattle.std.proofs.Common.{ℕ, Option, Some, Result, Ok, Err}
use Rattle.std.specs.Result.{IfOk, IfErr}
use Rattle.disk.specs.FileStates.{FileGives}
use Rattle.epoch_host.specs.declared.answer.EpochAnswer.{EpochAnswer}
use Rattle.epoch_host.specs.declared.answer.EpochAnswer.TheVariants.{Looked}
use Rattle.epoch_host.specs.declared.task.EpochTask.TheVariants.{Look}
use Rattle.epoch_images.specs.Working.{HasWorked, said_by}
use Rattle.epoch_images.specs.declared.fault.EpochFault.{EpochFault}
use Rattle.dlm_tasks.proofs.without_end.look.Goals as goal

ended : (P : Option EpochAnswer → Type 0) (r : Result ℕ EpochFault) → IfOk r (λ upto. P (Some (Looked upto))) → IfErr r (λ fault. P (said_by fault)) → (seen : Option EpochAnswer) × P seen
ended P (Ok upto) well ill = (Some (Looked upto), well)
ended P (Err fault) well ill = (said_by fault, ill)

pub returns-clause-looked : goal.returns-clause-looked
returns-clause-looked g c =
    ended (λ (seen : Option EpochAnswer). HasWorked FileGives Look seen c.args.host.now c.look.new.self) c.look.result c.look.ensures.learned c.look.ensures.refused
