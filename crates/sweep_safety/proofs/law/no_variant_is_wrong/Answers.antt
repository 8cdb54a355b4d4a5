use Rattle.sweep_safety.proofs.Swept.{no_variant_is_wrong, sweeps_find_nothing}
use Rattle.sweep_safety.proofs.law.no_variant_is_wrong.Goals as goal

pub returns : goal.returns
returns c = record { variants = no_variant_is_wrong; counted = sweeps_find_nothing }
