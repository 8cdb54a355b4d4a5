use Rattle.std.proofs.Common.{length, refl, ap, ◌∙◌, arith}
use Rattle.disk.specs.Filling.{spread}
use Rattle.disk.specs.Image.{Contents}
use Rattle.disk.specs.Simulated.{SimState}
use Rattle.disk.proofs.FillingLemmas.{length-spread}
use Rattle.disk.proofs.PutLemmas.{length-put_at}
use Rattle.disk.proofs.simulated.SimDisk.tear.Goals as goal

pub returns-clause-torn : goal.returns-clause-torn
returns-clause-torn c =
    record {
      left = spread c.args.given.now 0 c.args.len;
      as_many = length-spread c.args.given.now 0 c.args.len;
      leaves = rw (c.fill.ensures, ← c.self.view_is) refl;
    }

pub returns-clause-size : goal.returns-clause-size
returns-clause-size c =
    let xs = spread c.args.given.now 0 c.args.len in
    let size = ap (λ (s : SimState). length s.disk.bytes) c.self.view_is in
    ap (λ (s : Contents). length s.bytes) c.fill.ensures
    ∙ length-put_at c.self.inside.image.bytes c.args.at xs (omega (arith, length-spread c.args.given.now 0 c.args.len, size, c.requires.range))
    ∙ size
