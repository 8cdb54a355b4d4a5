use Rattle.std.proofs.Common.{◌≡◌, rules}
use Rattle.json.specs.Print.{print}
use Rattle.mg.specs.Json.{making}
use Rattle.mg.proofs.Printing.{printed}
use Rattle.mg.proofs.as_json.make_endless.Goals as goal

pub returns : goal.returns
returns g c =
    let text : c.in_ok-object.object.items ≡ print (making c.args.folder.now c.in_ok-made.made) = search rules in
    record { made = c.in_ok-made.made; came_to = search rules; written = printed _ _ _ _ _ text c.as_slice.ensures.value c.in_ok-print_object.ensures }
