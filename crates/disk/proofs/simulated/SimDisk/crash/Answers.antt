use Rattle.std.proofs.Common.{ℕ, false, length, replicate, refl, ap, ◌∙◌}
use Rattle.disk.specs.Image.{Contents}
use Rattle.disk.specs.Simulated.{SimState}
use Rattle.disk.proofs.FillingLemmas.{filled_length, filled_only}
use Rattle.disk.proofs.simulated.SimDisk.crash.Goals as goal

pub returns-clause-exact : goal.returns-clause-exact
returns-clause-exact c =
    let old = c.self.inside.image in
    rw (c.settle.ensures, c.fill_unsynced.ensures, filled_length c.args.given.now 0 old.unsynced old.bytes, ← c.self.view_is) refl

pub returns-clause-crashes : goal.returns-clause-crashes
returns-clause-crashes c =
    let old = c.self.inside.image in
    rw (c.settle.ensures, c.fill_unsynced.ensures, ← c.self.view_is)
    (record {
      bytes = filled_only c.args.given.now 0 old.unsynced old.bytes;
      unsynced = ap (λ (n : ℕ). replicate n false) (filled_length c.args.given.now 0 old.unsynced old.bytes);
      boot = refl;
      gone = refl;
    })

pub returns-clause-size : goal.returns-clause-size
returns-clause-size c =
    let old = c.self.inside.image in
    ap (λ (s : Contents). length s.bytes) (c.settle.ensures)
    ∙ ap (λ (s : Contents). length s.bytes) c.fill_unsynced.ensures
    ∙ filled_length c.args.given.now 0 old.unsynced old.bytes
    ∙ ap (λ (s : SimState). length s.disk.bytes) c.self.view_is
