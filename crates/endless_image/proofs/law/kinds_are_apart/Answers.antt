use Rattle.endless_image.proofs.KindLaws.{one_kind, new_of_kind}
use Rattle.endless_image.proofs.law.kinds_are_apart.Goals as goal

pub returns-clause-one : goal.returns-clause-one
returns-clause-one c = one_kind

pub returns-clause-new : goal.returns-clause-new
returns-clause-new c = new_of_kind
