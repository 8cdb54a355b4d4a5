use Rattle.sectors.proofs.RowLaws.{new_shows}
use Rattle.sectors.proofs.law.new_devices_show.Goals as goal

pub returns : goal.returns
returns c = new_shows
