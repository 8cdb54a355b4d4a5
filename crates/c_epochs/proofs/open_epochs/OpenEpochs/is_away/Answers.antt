use Rattle.std.specs.Prelude.{slice_index}
use Rattle.std.proofs.Common.{◌∙◌, ℕ, Option, ap}
use Rattle.disk.specs.Disk.{Call}
use Rattle.epoch_host.specs.Knowing.{where_is}
use Rattle.c_epochs.specs.Calls.{is_before}
use Rattle.c_epochs.proofs.open_epochs.OpenEpochs.is_away.Goals as goal

pub returns : goal.returns
returns c =
    c.is_before.ensures ∙ ap (λ (at : Option ℕ). is_before at c.first_of.result) c.epoch.ensures.is
    ∙ ap (λ (first : ℕ). is_before (where_is c.args.self.now.host) first) (c.first_of.ensures ∙ ap (λ (due : ℕ × Call). slice_index c.args.self.now.firsts due.0) c.call-disk.ensures.due)
