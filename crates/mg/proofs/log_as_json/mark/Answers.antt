-- What is told begins with nothing, and is printed so.
use Rattle.std.proofs.Common.{ℕ, List, [], Some, subst, sym}
use Rattle.std.proofs.lemmas.Result.{on_ok_weaker}
use Rattle.dlm_tasks.specs.Folders.{WritesMarked}
use Rattle.dlm_tasks.specs.declared.images.TheConstants.{TRIES}
use Rattle.mg.proofs.log_as_json.mark.Goals as goal

pub returns : goal.returns
returns g c =
    let told = c.as_slice.result.now in
    let does : WritesMarked TRIES c.args.host (Some []) (Some told) =
    subst (λ (text : List ℕ). WritesMarked TRIES c.args.host (Some []) (Some text)) (sym c.as_slice.ensures.value)
    (subst (λ (text : List ℕ). WritesMarked TRIES c.args.host (Some text) (Some c.mark.new.out.items)) c.new-told.ensures.items c.in_ok-mark.ensures.written) in
    on_ok_weaker c.print_marked.result (λ printed. (told, does, printed)) c.print_marked.ensures
