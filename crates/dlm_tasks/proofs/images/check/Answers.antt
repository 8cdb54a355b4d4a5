-- `sound` is printed where nothing was found. Else what was found first is the refusal.
use Rattle.std.proofs.Common.{◌≡◌, ◌⊎◌, Some, inl, subst}
use Rattle.std.proofs.lemmas.Result.{on_ok_weaker, IfErr-weaker}
use Rattle.folders.specs.declared.check.Finding.{Finding}
use Rattle.dlm_tasks.specs.Checking.{IsFound, IsFoundFault, IsNotOpened}
use Rattle.dlm_tasks.specs.Faults.{of_finding}
use Rattle.dlm_tasks.specs.declared.fault.Fault.{Fault}
use Rattle.dlm_tasks.proofs.Checking.{weaker, found_fault, found_first}
use Rattle.dlm_tasks.proofs.Refusing.{as_part}
use Rattle.dlm_tasks.proofs.images.check.Goals as goal

pub returns-clause-sound : goal.returns-clause-sound
returns-clause-sound g c =
    on_ok_weaker c.tell_found.result
    (λ (none, written). (subst IsFound none c.in_ok-found.ensures.found, (g.O.Write.contents c.print_findings.new.out, written)))
    c.tell_found.ensures.sound

pub returns-clause-refused : goal.returns-clause-refused
returns-clause-refused g c =
    IfErr-weaker c.tell_found.result _ _
    (weaker _ (λ (fault : Fault). IsNotOpened fault ⊎ IsFoundFault fault) (found_first c.in_ok-found.found c.in_ok-found.ensures.found))
    c.tell_found.ensures.refused

pub returns-clause-silent : goal.returns-clause-silent
returns-clause-silent g c =
    as_part (λ (fault : Fault). (first : Finding) × (c.in_ok-found.found ≡ Some first) × (fault ≡ of_finding first))
    (λ (fault : Fault). IsFoundFault fault ⊎ (g.O.Write.contents c.tell_found.new.out ≡ g.O.Write.contents c.args.out.now)) c.tell_found.result c.tell_found.ensures.refused
    (λ fault told. inl (found_fault c.in_ok-found.found c.in_ok-found.ensures.found fault told))
