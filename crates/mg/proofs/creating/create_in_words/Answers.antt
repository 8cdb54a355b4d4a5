use Rattle.dlm_tasks.specs.Printed.{formatted_text}
use Rattle.mg.proofs.Sizes.{made}
use Rattle.mg.proofs.creating.create_in_words.Goals as goal

pub returns : goal.returns
returns g c =
    made formatted_text c.args.cluster (g.O.Write.contents c.args.out.now) (g.O.Write.contents c.format.new.out) c.log_of-log.result.0 _ c.log_of-log.result.1 _ c.log_of-log.ensures.kind
    c.log_of-log.ensures.config c.in_ok-format.ensures.laid_out c.in_ok-format.ensures.prints
