use Rattle.std.proofs.Common.{rules, ◌≢◌, ◌∙◌, sym, ap}
use Rattle.paxos_block.specs.Votes.{highest_mbal_of_others}
use Rattle.phases.specs.declared.phase.Phase.TheVariants as phase
use Rattle.phases.specs.Inside.{notes_in}
use Rattle.phases.specs.Moves.{outruns}
use Rattle.phases.specs.Notes.{Notes}
use Rattle.phases.proofs.Taking.{outruns_some, outruns_none}
use Rattle.phases.proofs.one_attempt.Attempt.outrun_by.Goals as goal

pub returns-then-self-others : goal.returns-then-self-others
returns-then-self-others g c bytes reads =
    let n = notes_in g.L.Layout.version g.L.Layout.spelled c.self.inside in
    let later : n.phase ≢ phase.Opening = search rules in
    outruns_some n.phase n reads.seen c.args.gist.now.others later (reads.so.others ∙ ap (λ (m : Notes). highest_mbal_of_others g.L.Layout.version m.of.host reads.seen) (sym c.self.view_is)) c.if-self-others.true
    ∙ ap (λ (m : Notes). outruns m.phase m reads.seen) c.self.view_is

pub returns-else-self-others : goal.returns-else-self-others
returns-else-self-others g c bytes reads =
    let n = notes_in g.L.Layout.version g.L.Layout.spelled c.self.inside in
    let later : n.phase ≢ phase.Opening = search rules in
    outruns_none n.phase n reads.seen c.args.gist.now.others later (reads.so.others ∙ ap (λ (m : Notes). highest_mbal_of_others g.L.Layout.version m.of.host reads.seen) (sym c.self.view_is)) c.if-self-others.false
    ∙ ap (λ (m : Notes). outruns m.phase m reads.seen) c.self.view_is
