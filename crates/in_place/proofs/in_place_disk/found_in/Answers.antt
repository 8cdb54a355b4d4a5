use Rattle.in_place.proofs.InPlaceDisks.{found_at}
use Rattle.in_place.proofs.in_place_disk.found_in.Goals as goal

pub returns : goal.returns
returns c = found_at c.args.disk c.args.long c.args.bytes.now c.progress_in.result c.progress_in.ensures.ending c.progress_in.ensures.marked c.progress_in.ensures.endless
