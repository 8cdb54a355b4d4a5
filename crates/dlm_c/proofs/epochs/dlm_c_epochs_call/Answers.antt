-- The host whose call is due is the one that is kept.
use Rattle.std.proofs.Common.{rules, ◌∙◌, Some, ap, sym, w32}
use Rattle.std.proofs.lemmas.Int.{to_z-of_z}
use Rattle.c_epochs.specs.declared.open_epochs.OpenEpochs.{OpenEpochs}
use Rattle.dlm_c.proofs.Kept.{in_handle}
use Rattle.dlm_c.proofs.epochs.dlm_c_epochs_call.Goals as goal

pub returns-clause-reads : goal.returns-clause-reads
returns-clause-reads c =
    in_handle _ c.args.handle.now.held.value c.keep.new.self.held.value c.deref_mut.result.now c.call-status.new.self _ (c.in-Some.ensures.some ∙ ap (λ (host : OpenEpochs). Some host) (sym c.deref_mut.ensures.value)) c.keep.ensures
    (λ only is. c.call-status.ensures.reads only (sym (to_z-of_z w32 c.call-status.result (search rules)) ∙ is))
