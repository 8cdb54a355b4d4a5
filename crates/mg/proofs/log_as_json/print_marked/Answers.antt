use Rattle.std.proofs.Common.{◌≡◌, ℕ, List, rules, subst}
use Rattle.json.specs.Print.{print}
use Rattle.mg_words.specs.Results.{marked}
use Rattle.mg_words.specs.Told.{TellsMarks}
use Rattle.mg.proofs.Printing.{printed}
use Rattle.mg.proofs.log_as_json.print_marked.Goals as goal

pub returns : goal.returns
returns g c =
    let found = c.in-Some.marks in
    let text : c.in_ok-object.object.items ≡ print (marked c.args.folder.now found.recovered found.marked) = search rules in
    record {
      recovered = found.recovered;
      count = found.marked;
      tells = subst (λ (told : List ℕ). TellsMarks told found.recovered found.marked) c.in_ok-told.ensures c.in-Some.ensures;
      written = printed _ _ _ _ _ text c.as_slice.ensures.value c.in_ok-print_object.ensures;
    }
