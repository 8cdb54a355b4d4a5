use Rattle.std.proofs.Common.{◌≡◌, rules}
use Rattle.json.specs.Print.{print}
use Rattle.mg_words.specs.Results.{checked}
use Rattle.mg.proofs.Printing.{printed}
use Rattle.mg.proofs.as_json.print_checked.Goals as goal

pub returns : goal.returns
returns g c =
    let lines = c.unwrap_or-lines.result.now in
    let text : c.in_ok-object.object.items ≡ print (checked c.args.folder.now c.args.sound lines) = search rules in
    (lines, printed _ _ _ _ _ text c.as_slice.ensures.value c.in_ok-print_object.ensures)
