use Rattle.std.proofs.Common.{rules, arith, subst}
use Rattle.in_place.specs.InPlaceFolders.{AreLong}
use Rattle.in_place.proofs.in_place.make_images.Goals as goal

pub make_all_endless-requires-clause-few : goal.make_all_endless-requires-clause-few
make_all_endless-requires-clause-few g c =
    let long : AreLong c.args.set.now c.deref_mut.result.now = subst (AreLong c.args.set.now) (search rules) c.in-Ok.ensures.long in
    omega (arith, long.as_many, c.requires.among.few)

pub make_all_endless-requires-clause-sizes : goal.make_all_endless-requires-clause-sizes
make_all_endless-requires-clause-sizes g c =
    let long : AreLong c.args.set.now c.deref_mut.result.now = subst (AreLong c.args.set.now) (search rules) c.in-Ok.ensures.long in
    long.sizes

pub returns-in-Ok-make_all_endless-clause-made : goal.returns-in-Ok-make_all_endless-clause-made
returns-in-Ok-make_all_endless-clause-made g c =
    record { old = c.deref_mut.result.now; new = c.make_all_endless.new.devices; long = subst (AreLong c.args.set.now) (search rules) c.in-Ok.ensures.long; made = c.in-Ok-make_all_endless.ensures.made }
