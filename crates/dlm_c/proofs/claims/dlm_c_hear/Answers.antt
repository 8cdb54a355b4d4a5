-- The claim that hears it is the one that is kept.
use Rattle.std.proofs.Common.{◌≡◌, ◌∙◌, ℤ, Some, of_z, rules, subst, to_z, w32}
use Rattle.std.proofs.lemmas.Int.{to_z-of_z}
use Rattle.session.specs.declared.claim.Claim.{Claim}
use Rattle.c_host.specs.Numbers.{done}
use Rattle.c_claims.specs.Ending.{Hears}
use Rattle.dlm_c.proofs.Kept.{in_handle}
use Rattle.dlm_c.proofs.claims.dlm_c_hear.Goals as goal

pub returns-clause-heard : goal.returns-clause-heard
returns-clause-heard c = λ opened is.
    let told = c.hear_in-told.result in
    let before = c.in-Some.claim.value in
    let after = c.hear_in-told.new.claim in
    let heard = c.hear_in-told.ensures.heard opened is in
    let same : c.deref_mut.result.now ≡ before = search rules in
    let kept : c.keep.new.self.held.value ≡ Some after = search rules in
    let hears : Hears c.args.event c.args.status c.args.left_over opened c.deref_mut.result.now after
    = subst (λ (status : ℤ). Hears c.args.event status c.args.left_over opened c.deref_mut.result.now after) (to_z-of_z w32 c.args.status c.ranges.status) heard.1 in
    in_handle (λ (old new : Claim). (to_z w32 (of_z w32 told) ≡ done) × Hears c.args.event c.args.status c.args.left_over opened old new)
    c.args.handle.now.held.value c.keep.new.self.held.value before after (to_z w32 (of_z w32 told)) c.in-Some.ensures.some kept
    (to_z-of_z w32 told (search rules) ∙ heard.0, subst (λ (old : Claim). Hears c.args.event c.args.status c.args.left_over opened old after) same hears)
