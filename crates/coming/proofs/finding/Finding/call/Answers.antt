use Rattle.std.proofs.Common.{subst}
use Rattle.standings.specs.Past.{WritesNumber}
use Rattle.coming.proofs.Rising.{search_writes_none}
use Rattle.coming.proofs.finding.Finding.call.Goals as goal

pub returns-clause-raises : goal.returns-clause-raises
returns-clause-raises c n host past w = search_writes_none c.self.inside.search n host past (subst (WritesNumber n host past) c.call.ensures.due w)
