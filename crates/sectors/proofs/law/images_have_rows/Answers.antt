use Rattle.std.proofs.Common.{arith}
use Rattle.sectors.proofs.PlaceLaws.{rows_are_long}
use Rattle.sectors.proofs.law.images_have_rows.Goals as goal

pub returns-clause-long : goal.returns-clause-long
returns-clause-long c = λ geometry. rows_are_long geometry.kind geometry.slots

pub returns-clause-standings : goal.returns-clause-standings
returns-clause-standings c = λ slots area host. omega arith

pub returns-clause-beats : goal.returns-clause-beats
returns-clause-beats c = λ slots host. omega arith

pub returns-clause-votes : goal.returns-clause-votes
returns-clause-votes c = λ slots slot host. omega arith
