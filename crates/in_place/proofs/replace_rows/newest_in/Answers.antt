use Rattle.std.specs.Prelude.{slice_index}
use Rattle.standings.specs.Reading.{numbers_in}
use Rattle.log_folders.proofs.Insiders.{newest_as}
use Rattle.in_place.proofs.replace_rows.newest_in.Goals as goal

pub returns : goal.returns
returns c = (
  (λ damaged. absurd (let none = c.in_ok-numbers.ensures.damaged.1 damaged in cc)),
  (
    c.newest.result,
    newest_as c.args.area (slice_index c.in_ok-numbers.numbers) (numbers_in c.args.row.now) c.in_ok-numbers.ensures.each c.newest.result c.newest.ensures.newest,
    c.unwrap_or.ensures,
  ),
)
