use Rattle.std.proofs.Common.{◌∙◌}
use Rattle.folders.proofs.Headers.{told_first, told_later}
use Rattle.folders.proofs.header.length_in_header.Goals as goal

pub returns-then-bytes-eq-VERSION-clause-right : goal.returns-then-bytes-eq-VERSION-clause-right
returns-then-bytes-eq-VERSION-clause-right c = λ v disk long header right. c.told_length.ensures ∙ told_first v disk long c.args.bytes.now header right c.if-bytes-eq-VERSION.true

pub returns-else-bytes-eq-VERSION-clause-right : goal.returns-else-bytes-eq-VERSION-clause-right
returns-else-bytes-eq-VERSION-clause-right c = λ v disk long header right.
    c.told_length-else-bytes-eq-VERSION.ensures ∙ told_later v disk long c.args.bytes.now header right c.if-bytes-eq-VERSION.false
