use Rattle.std.proofs.Common.{rules}
use Rattle.folders.proofs.Headers.{not_both}
use Rattle.folders.specs.Headers.{IsOld}
use Rattle.folders.proofs.header.image_header.Goals as goal

pub returns-in-Ok-clause-only : goal.returns-in-Ok-clause-only
returns-in-Ok-clause-only g c = λ header right.
    let old : IsOld g.L.Layout.version c.args.disk c.args.long c.args.bytes.now = search rules in
    absurd (not_both g.L.Layout.version c.args.disk c.args.long c.args.bytes.now header old right)
