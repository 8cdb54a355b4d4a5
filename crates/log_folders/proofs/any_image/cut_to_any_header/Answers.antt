use Rattle.std.proofs.Common.{◌∙◌, ap, ℕ}
use Rattle.std.specs.Prelude.{min}
use Rattle.log_folders.proofs.UsedHeaders.{cut_as, cut_by}
use Rattle.log_folders.proofs.any_image.cut_to_any_header.Goals as goal

pub returns-clause-cut : goal.returns-clause-cut
returns-clause-cut g c = λ enough.
    let read = c.first_bytes.new.device in
    record {
      bytes = c.in-Ok.bytes;
      read = read;
      told = c.in-Ok.ensures.told enough;
      same = cut_as read c.cut.new.self c.min.result c.cut.ensures;
      size = rw c.cut.ensures (cut_by c.in-Ok.bytes c.length_by.result read.size c.min.result (c.min.ensures ∙ ap (λ (n : ℕ). min c.length_by.result n) c.size.ensures) c.length_by.ensures.kinds);
    }
