-- The images are made as they are asked for, and the object was there before.
use Rattle.std.proofs.Common.{◌≡◌, rules}
use Rattle.json.specs.Print.{print}
use Rattle.mg_words.specs.Results.{created}
use Rattle.mg.proofs.Printing.{printed}
use Rattle.mg.proofs.Sizes.{images_of}
use Rattle.mg.proofs.creating.create_as_json.Goals as goal

pub returns : goal.returns
returns g c =
    let text : c.in_ok-object.object.items ≡ print (created c.args.folder.now c.args.cluster c.args.disks c.args.slots) = search rules in (
      images_of c.args.cluster c.log_of-log.result.0 _ c.log_of-log.result.1 _ c.log_of-log.ensures.kind c.log_of-log.ensures.config c.in_ok-format.ensures.laid_out,
      printed _ _ _ _ _ text c.as_slice.ensures.value c.in_ok-print_object.ensures,
    )
