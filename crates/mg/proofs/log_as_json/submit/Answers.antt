-- What is told begins with nothing, and is printed so.
use Rattle.std.proofs.Common.{ℕ, List, [], Some, subst, sym}
use Rattle.std.proofs.lemmas.Result.{on_ok_weaker}
use Rattle.dlm_tasks.specs.Folders.{WritesAck}
use Rattle.dlm_tasks.specs.declared.images.TheConstants.{TRIES}
use Rattle.mg.proofs.log_as_json.submit.Goals as goal

pub returns : goal.returns
returns g c =
    let told = c.as_slice.result.now in
    let does : WritesAck TRIES c.args.command (Some []) (Some told) =
    subst (λ (text : List ℕ). WritesAck TRIES c.args.command (Some []) (Some text)) (sym c.as_slice.ensures.value)
    (subst (λ (text : List ℕ). WritesAck TRIES c.args.command (Some text) (Some c.submit.new.out.items)) c.new-told.ensures.items c.in_ok-submit.ensures.written) in
    on_ok_weaker c.print_submitted.result (λ printed. (told, does, printed)) c.print_submitted.ensures
