use Rattle.std.proofs.Common.{Ok, Err, ap, refl}
use Rattle.endless_image.specs.declared.any_header.AnyHeader.{AnyHeader}
use Rattle.endless_image.specs.declared.any_header.AnyHeader.TheVariants.{Ending, Endless}
use Rattle.log_folders.proofs.UsedHeaders.{neither_used, one_used, unused_by}
use Rattle.log_folders.proofs.any_image.used_header.Goals as goal

pub returns-in-Ok-clause-only : goal.returns-in-Ok-clause-only
returns-in-Ok-clause-only c = λ header used.
    ap (λ (h : AnyHeader). Ok h) (one_used c.args.disk c.args.long c.args.bytes.now (Endless c.in-Ok.header) header c.in-Ok.ensures.right used)

pub returns-in-Ok-image_header-clause-only : goal.returns-in-Ok-image_header-clause-only
returns-in-Ok-image_header-clause-only c = λ header used.
    ap (λ (h : AnyHeader). Ok h) (one_used c.args.disk c.args.long c.args.bytes.now (Ending c.in-Ok-image_header.header) header c.in-Ok-image_header.ensures.right used)

pub returns-in-Err-clause-only : goal.returns-in-Err-clause-only
returns-in-Err-clause-only c = λ header used.
    absurd (neither_used c.args.disk c.args.long c.args.bytes.now (λ h right. let wrong = c.in_default.ensures.only h right in absurd cc) (λ h right. let wrong = c.in-Err.ensures.only h right in absurd cc) header used)

pub returns-in-Err-clause-fault : goal.returns-in-Err-clause-fault
returns-in-Err-clause-fault c =
    unused_by c.args.disk c.args.long c.args.bytes.now (λ h right. let wrong = c.in_default.ensures.only h right in absurd cc) c.in-Err.fault (Err c.in-Err.fault) refl
    c.in-Err.ensures.not_formatted c.in-Err.ensures.wrong_header c.in-Err.ensures.old_layout c.in-Err.ensures.readable
