use Rattle.endless_image.proofs.HoldingLaws.{new_right, new_blank, new_first}
use Rattle.endless_image.proofs.law.new_images_hold_nothing.Goals as goal

pub returns-clause-header : goal.returns-clause-header
returns-clause-header c = new_right

pub returns-clause-blank : goal.returns-clause-blank
returns-clause-blank c = new_blank

pub returns-clause-first : goal.returns-clause-first
returns-clause-first c = new_first
