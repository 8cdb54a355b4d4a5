use Rattle.std.proofs.Common.{sym}
use Rattle.disk.proofs.SeenLemmas.{size_is}
use Rattle.disk.proofs.image.Image.len.Goals as goal

pub returns : goal.returns
returns c = sym (size_is _ _ _ _ _ c.self.view_is)
