use Rattle.std.proofs.Common.{◌≡◌, rules}
use Rattle.json.specs.Print.{print}
use Rattle.mg_words.specs.Results.{replaced}
use Rattle.mg.proofs.Printing.{printed}
use Rattle.mg.proofs.as_json.replace.Goals as goal

pub returns : goal.returns
returns g c =
    let text : c.in_ok-object.object.items ≡ print (replaced c.args.folder.now c.args.disk c.in_ok-first.first) = search rules in
    record { first = c.in_ok-first.first; is = search rules; written = printed _ _ _ _ _ text c.as_slice.ensures.value c.in_ok-print_object.ensures }
