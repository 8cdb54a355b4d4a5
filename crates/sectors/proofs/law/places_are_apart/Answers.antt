use Rattle.sectors.proofs.PlaceLaws.{spots_apart, spot_behind, spot_fits, spot_aligned}
use Rattle.sectors.proofs.law.places_are_apart.Goals as goal

pub returns-clause-apart : goal.returns-clause-apart
returns-clause-apart c = λ geometry a b is is_a is_b differ. spots_apart geometry a b is_a is_b differ

pub returns-clause-behind : goal.returns-clause-behind
returns-clause-behind c = spot_behind

pub returns-clause-within : goal.returns-clause-within
returns-clause-within c = λ geometry a is is_a. spot_fits geometry a is_a

pub returns-clause-aligned : goal.returns-clause-aligned
returns-clause-aligned c = spot_aligned
