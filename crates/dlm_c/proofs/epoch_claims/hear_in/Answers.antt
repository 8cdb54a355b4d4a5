-- The host that is heard by is the one that is kept.
use Rattle.std.proofs.Common.{rules, ◌≡◌, ℤ, w32, refl, subst}
use Rattle.std.proofs.lemmas.Int.{to_z-of_z}
use Rattle.c_epochs.specs.declared.open_epochs.OpenEpochs.{OpenEpochs}
use Rattle.c_claims.specs.Epochs.{Hears}
use Rattle.dlm_c.proofs.epoch_claims.hear_in.Goals as goal

pub returns-clause-heard : goal.returns-clause-heard
returns-clause-heard c = λ opened is.
    let heard_by = c.deref.result.now in
    let same : heard_by ≡ opened = search rules in
    let old = c.args.claim.now in
    let new = c.hear.new.claim in
    let hears : Hears c.args.event c.args.status c.args.left_over heard_by old new
    = subst (λ (status : ℤ). Hears c.args.event status c.args.left_over heard_by old new) (to_z-of_z w32 c.args.status c.ranges.status) c.hear.ensures in
    (refl, subst (λ (host : OpenEpochs). Hears c.args.event c.args.status c.args.left_over host old new) same hears)
