use Rattle.std.proofs.Common.{◌<◌, length, Ok, arith}
use Rattle.std.proofs.lemmas.Option.{slice_get_within}
use Rattle.attempt.proofs.Moments.{get_some}
use Rattle.c_host.proofs.images.found_in.Goals as goal

pub returns-clause-headers : goal.returns-clause-headers
returns-clause-headers c = λ k header says.
    let within = slice_get_within c.loop-disk.found k (Ok header) says in
    let there : k < length c.args.images.now.all = omega (arith, within, c.loop-disk.invariant.all) in
    let at = get_some c.args.images.now.all k there in
    let read = c.loop-disk.invariant.found k (Ok header) at.0 (omega (arith, within, c.loop-disk.invariant.all, c.loop-disk-test.false)) says at.1 in
    read.1.may_be
