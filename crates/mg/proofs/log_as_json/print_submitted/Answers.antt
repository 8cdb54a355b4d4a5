use Rattle.std.proofs.Common.{◌≡◌, ℕ, List, rules, subst}
use Rattle.json.specs.Print.{print}
use Rattle.mg_words.specs.Results.{submitted}
use Rattle.mg_words.specs.Told.{TellsAck}
use Rattle.mg.proofs.Printing.{printed}
use Rattle.mg.proofs.log_as_json.print_submitted.Goals as goal

pub returns : goal.returns
returns g c =
    let found = c.in-Some.ack in
    let text : c.in_ok-object.object.items ≡ print (submitted c.args.folder.now found.place found.reply.now) = search rules in
    record {
      place = found.place;
      reply = found.reply.now;
      tells = subst (λ (told : List ℕ). TellsAck told found.place found.reply.now) c.in_ok-told.ensures c.in-Some.ensures;
      written = printed _ _ _ _ _ text c.as_slice.ensures.value c.in_ok-print_object.ensures;
    }
