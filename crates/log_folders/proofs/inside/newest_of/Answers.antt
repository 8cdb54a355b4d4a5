use Rattle.std.proofs.Common.{ℕ, ◌∙◌, ap₂}
use Rattle.std.specs.Prelude.{max, slice_index}
use Rattle.standings.specs.Reading.{numbers_in}
use Rattle.log_folders.proofs.Insiders.{newest_as}
use Rattle.log_folders.proofs.inside.newest_of.Goals as goal

pub returns : goal.returns
returns c = λ one other says_one says_other.
    record {
      first = c.newest.result;
      second = c.newest-2.result;
      in_first = newest_as 0 (slice_index c.args.first.now) (numbers_in one) says_one.1 c.newest.result c.newest.ensures.newest;
      in_second = newest_as 1 (slice_index c.args.second.now) (numbers_in other) says_other.1 c.newest-2.result c.newest-2.ensures.newest;
      later = c.max.ensures ∙ ap₂ (λ (x y : ℕ). max x y) c.unwrap_or-first.ensures c.unwrap_or-second.ensures;
    }
