use Rattle.std.proofs.Common.{◌∙◌, sym, ap}
use Rattle.std.specs.Option.{option_map}
use Rattle.paxos_block.proofs.VoteLemmas.{or_mapped}
use Rattle.phases.specs.declared.phase.Phase.TheVariants as phase
use Rattle.phases.specs.Inside.{notes_in}
use Rattle.phases.proofs.Beginning.{over_in, ends_empty, begins_two}
use Rattle.phases.proofs.one_attempt.Attempt.propose.Goals as goal

pub returns-in_default-clause-ends : goal.returns-in_default-clause-ends
returns-in_default-clause-ends g c f is =
    let spelled = g.L.Layout.spelled in
    let n = notes_in g.L.Layout.version spelled c.self.inside in
    let found = ap (option_map spelled) c.or.ensures ∙ or_mapped spelled c.self.inside.best.inp c.self.inside.of.input in
    ends_empty f n (over_in phase.One f n c.args.self.now c.self.view_is c.requires.phase is) (sym found ∙ ap (option_map spelled) c.in_default.is)

pub returns-clause-begins : goal.returns-clause-begins
returns-clause-begins g c f is =
    let spelled = g.L.Layout.spelled in
    let n = notes_in g.L.Layout.version spelled c.self.inside in
    let found = ap (option_map spelled) c.or.ensures ∙ or_mapped spelled c.self.inside.best.inp c.self.inside.of.input in
    begins_two f n (over_in phase.One f n c.args.self.now c.self.view_is c.requires.phase is) (spelled c.in-Some.value) (sym found ∙ ap (option_map spelled) c.in-Some.is)
