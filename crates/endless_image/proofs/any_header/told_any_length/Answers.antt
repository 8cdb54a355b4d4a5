use Rattle.std.proofs.Common.{◌∙◌}
use Rattle.endless_image.proofs.KindLaws.{endless_long, ending_long}
use Rattle.endless_image.proofs.any_header.told_any_length.Goals as goal

pub returns-then-bytes-eq-ENDLESS_VERSION : goal.returns-then-bytes-eq-ENDLESS_VERSION
returns-then-bytes-eq-ENDLESS_VERSION c = λ disk long header is. c.told_size.ensures ∙ endless_long disk long c.args.bytes.now header c.if-bytes-eq-ENDLESS_VERSION.true is

pub returns : goal.returns
returns c = λ disk long header is. c.told_length.ensures ∙ ending_long disk long c.args.bytes.now header c.if-bytes-eq-ENDLESS_VERSION.false is
