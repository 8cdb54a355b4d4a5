use Rattle.std.proofs.lemmas.Result.{on_ok_weaker}
use Rattle.mg.proofs.as_json.check.Goals as goal

pub returns-in-Ok : goal.returns-in-Ok
returns-in-Ok g c = on_ok_weaker c.print_checked.result (λ written. (c.in-Ok.ensures.sound.0, written)) c.print_checked.ensures
