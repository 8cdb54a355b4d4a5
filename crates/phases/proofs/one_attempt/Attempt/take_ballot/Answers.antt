use Rattle.std.proofs.Common.{ap}
use Rattle.std.specs.Option.{option_map}
use Rattle.phases.specs.declared.phase.Phase.TheVariants as phase
use Rattle.phases.specs.Inside.{notes_in}
use Rattle.phases.proofs.Beginning.{over_in, ends_decided, ends_spent, begins_one}
use Rattle.phases.proofs.one_attempt.Attempt.take_ballot.Goals as goal

pub returns-in-Some-clause-ends : goal.returns-in-Some-clause-ends
returns-in-Some-clause-ends g c f is =
    let n = notes_in g.L.Layout.version g.L.Layout.spelled c.self.inside in
    ends_decided f n (over_in phase.Opening f n c.args.self.now c.self.view_is c.requires.phase is) (g.L.Layout.spelled c.in-Some.value) (ap (option_map g.L.Layout.spelled) c.in-Some.is)

pub returns-in_default-ballot_above-clause-ends : goal.returns-in_default-ballot_above-clause-ends
returns-in_default-ballot_above-clause-ends g c f is =
    let n = notes_in g.L.Layout.version g.L.Layout.spelled c.self.inside in
    ends_spent f n (over_in phase.Opening f n c.args.self.now c.self.view_is c.requires.phase is) (ap (option_map g.L.Layout.spelled) c.in_default.is) c.in_default-ballot_above.ensures.spent

pub returns-clause-begins : goal.returns-clause-begins
returns-clause-begins g c f is =
    let n = notes_in g.L.Layout.version g.L.Layout.spelled c.self.inside in
    begins_one f n (over_in phase.Opening f n c.args.self.now c.self.view_is c.requires.phase is) (ap (option_map g.L.Layout.spelled) c.in_default.is) c.in-Some-ballot_above.ballot c.in-Some-ballot_above.ensures.found c.in-Some-ballot_above.ensures.owned.within
