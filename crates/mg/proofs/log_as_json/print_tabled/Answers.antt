use Rattle.std.proofs.Common.{◌≡◌, ℕ, List, rules, subst}
use Rattle.json.specs.Print.{print}
use Rattle.mg_words.specs.Results.{tabled}
use Rattle.mg_words.specs.Told.{TellsTable}
use Rattle.mg.proofs.Printing.{printed}
use Rattle.mg.proofs.log_as_json.print_tabled.Goals as goal

pub returns : goal.returns
returns g c =
    let found = c.in-Some.table in
    let text : c.in_ok-object.object.items ≡ print (tabled c.args.folder.now found.recovered found.lines.now) = search rules in
    record {
      recovered = found.recovered;
      lines = found.lines.now;
      tells = subst (λ (told : List ℕ). TellsTable told found.recovered found.lines.now) c.in_ok-told.ensures c.in-Some.ensures;
      written = printed _ _ _ _ _ text c.as_slice.ensures.value c.in_ok-print_object.ensures;
    }
