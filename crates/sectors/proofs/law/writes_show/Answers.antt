use Rattle.sectors.proofs.RowLaws.{row_written, image_written}
use Rattle.sectors.proofs.law.writes_show.Goals as goal

pub returns-clause-row : goal.returns-clause-row
returns-clause-row c = λ geometry sectors old new from host offset is long below within gathers gathers_new.
    row_written geometry is sectors old from host offset long below within gathers new gathers_new

pub returns-clause-image : goal.returns-clause-image
returns-clause-image c = λ geometry device image from spot offset is is_spot long as_long within shows.
    image_written geometry is device image from spot offset is_spot long as_long within shows
