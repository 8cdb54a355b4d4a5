use Rattle.world.specs.World.{world}
use Rattle.world.proofs.Looks as looks
use Rattle.world.proofs.law.looks_only_read.Goals as goal

pub returns : goal.returns
returns c = record {
  reads = looks.reads_only;
  disk = λ shape log h k m t e running is may of. looks.disk_stays shape (world shape log) h k m t running is e may of;
  begins = λ shape m. looks.on_so shape m 0;
  says = λ shape h k m t answer is. looks.hears_so shape h k m t answer is;
}
