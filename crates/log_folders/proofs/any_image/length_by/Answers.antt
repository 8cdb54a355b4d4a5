use Rattle.log_folders.proofs.UsedHeaders.{kind_by_first, layout_by_other}
use Rattle.log_folders.proofs.any_image.length_by.Goals as goal

pub returns-then-bytes-eq-VERSION-clause-kinds : goal.returns-then-bytes-eq-VERSION-clause-kinds
returns-then-bytes-eq-VERSION-clause-kinds c = λ disk long header right. absurd (kind_by_first disk long c.args.bytes.now header right c.if-bytes-eq-VERSION.true)

pub returns-else-bytes-eq-VERSION-clause-layouts : goal.returns-else-bytes-eq-VERSION-clause-layouts
returns-else-bytes-eq-VERSION-clause-layouts c = λ v disk long header right.
    layout_by_other disk long c.args.bytes.now v header right c.if-bytes-eq-VERSION.false c.told_any_length.result (c.told_any_length.ensures disk long)
