-- Where the look has found the command, a host that has learned nothing submits it.
use Rattle.std.proofs.Common.{rules, Bool, true, false, subst, inl, inr}
use Rattle.std.proofs.lemmas.Result.{on_ok_weaker}
use Rattle.dlm_tasks.specs.Printed.{Begins, HasSearched, IsFresh}
use Rattle.dlm_tasks.specs.Refusing.{IsNotSubmitted, RefusesSubmission}
use Rattle.dlm_tasks.specs.declared.fault.Fault.{Fault}
use Rattle.dlm_tasks.specs.declared.images.TheConstants.{TRIES}
use Rattle.dlm_tasks.proofs.Refusing.{as_part}
use Rattle.dlm_tasks.proofs.ending.submit_in.Goals as goal

pub returns-in_ok-other-clause-written : goal.returns-in_ok-other-clause-written
returns-in_ok-other-clause-written g c =
    let searched : HasSearched c.args.command true c.has_found.new.host
    = subst (λ (found : Bool). HasSearched c.args.command found c.has_found.new.host) c.if-has_found.true (c.has_found.ensures.searched c.requires.fresh) in
    let fresh : IsFresh c.args.command.host c.in_ok-other.other = search rules in
    let begins : Begins c.args.command c.in_ok-other.other = inr (fresh, (c.has_found.new.host, searched)) in
    on_ok_weaker c.submit_through.result (λ written. written begins) c.submit_through.ensures.written

pub returns-in_ok-other-clause-refused : goal.returns-in_ok-other-clause-refused
returns-in_ok-other-clause-refused g c =
    let searched : HasSearched c.args.command true c.has_found.new.host
    = subst (λ (found : Bool). HasSearched c.args.command found c.has_found.new.host) c.if-has_found.true (c.has_found.ensures.searched c.requires.fresh) in
    let fresh : IsFresh c.args.command.host c.in_ok-other.other = search rules in
    let begins : Begins c.args.command c.in_ok-other.other = inr (fresh, (c.has_found.new.host, searched)) in
    as_part (λ (fault : Fault). Begins c.args.command c.in_ok-other.other → RefusesSubmission TRIES c.args.command fault) (IsNotSubmitted TRIES c.args.command) c.submit_through.result c.submit_through.ensures.refused (λ fault refuses. inr (refuses begins))

pub returns-else-has_found-clause-refused : goal.returns-else-has_found-clause-refused
returns-else-has_found-clause-refused g c =
    let searched : HasSearched c.args.command false c.has_found.new.host
    = subst (λ (found : Bool). HasSearched c.args.command found c.has_found.new.host) c.if-has_found.false (c.has_found.ensures.searched c.requires.fresh) in
    let begins : Begins c.args.command c.has_found.new.host = inl searched in
    as_part (λ (fault : Fault). Begins c.args.command c.has_found.new.host → RefusesSubmission TRIES c.args.command fault) (IsNotSubmitted TRIES c.args.command) c.submit_through-else-has_found.result c.submit_through-else-has_found.ensures.refused (λ fault refuses. inr (refuses begins))
