use Rattle.std.proofs.Common.{◌<◌, Ok, arith}
use Rattle.std.proofs.lemmas.Option.{slice_get_within}
use Rattle.c_epochs.proofs.images.found_in.Goals as goal

pub returns-clause-images : goal.returns-clause-images
returns-clause-images c = record {
  all = c.loop-disk.invariant.all;
  right = λ k header says.
      let within = slice_get_within c.loop-disk.found k (Ok header) says in
      let below : k < c.loop-disk.disk = omega (arith, within, c.loop-disk.invariant.all, c.loop-disk-test.false) in
      (c.loop-disk.invariant.own k (Ok header) below says).0;
  numbers = λ k header says.
      let within = slice_get_within c.loop-disk.found k (Ok header) says in
      let below : k < c.loop-disk.disk = omega (arith, within, c.loop-disk.invariant.all, c.loop-disk-test.false) in
      (c.loop-disk.invariant.own k (Ok header) below says).1;
}
