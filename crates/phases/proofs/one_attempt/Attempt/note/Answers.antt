use Rattle.std.proofs.Common.{◌≡◌, ◌∙◌, max, sym, ap, arith}
use Rattle.std.specs.Option.{option_map, option_or}
use Rattle.paxos_block.specs.Saying.{said_as}
use Rattle.paxos_block.specs.Votes.{later_of, says_in}
use Rattle.paxos_block.proofs.VoteLemmas.{or_mapped}
use Rattle.phases.specs.Inside.{notes_in}
use Rattle.phases.specs.Moves.{noted}
use Rattle.phases.specs.Notes.{Notes}
use Rattle.phases.proofs.Taking.{opening_sound, opens}
use Rattle.phases.proofs.one_attempt.Attempt.note.Goals as goal

pub invariant_of-self : goal.invariant_of-self
invariant_of-self g c =
    let v = g.L.Layout.version in
    let spelled = g.L.Layout.spelled in
    let n = notes_in v spelled c.self.inside in
    let reads = c.requires.1 in
    let top = reads.so.greatest in
    let most : c.max-self-inside.result ≡ max n.highest c.args.gist.now.greatest = omega arith in
    opening_sound c.requires.0 reads.seen n c.max-self-inside.result (said_as spelled c.or_later-self-inside.result) (said_as spelled c.args.gist.now.own.says) (option_map spelled c.or-self-inside.result) c.self.invariant c.in-Opening.is reads.said (most ∙ ap (max n.highest) top) (c.or_later-self-inside.ensures spelled)
    (reads.so.own.says ∙ ap (λ (m : Notes). says_in reads.seen m.of.host) (sym c.self.view_is))

pub returns-in-Opening : goal.returns-in-Opening
returns-in-Opening g c bytes reads =
    let v = g.L.Layout.version in
    let spelled = g.L.Layout.spelled in
    let n = notes_in v spelled c.self.inside in
    let top = reads.so.greatest in
    let most : c.max-self-inside.result ≡ max n.highest c.args.gist.now.greatest = omega arith in
    opens n reads.seen c.max-self-inside.result (said_as spelled c.or_later-self-inside.result) (option_map spelled c.or-self-inside.result) c.in-Opening.is (most ∙ ap (max n.highest) top)
    (c.or_later-self-inside.ensures spelled ∙ ap (later_of n.best) (reads.so.own.says ∙ ap (λ (m : Notes). says_in reads.seen m.of.host) (sym c.self.view_is)))
    (ap (option_map spelled) c.or-self-inside.ensures ∙ or_mapped spelled c.self.inside.decided c.args.gist.now.marked ∙ ap (option_or (option_map spelled c.self.inside.decided)) reads.so.marked)
    ∙ ap (λ (m : Notes). noted m.phase m reads.seen) c.self.view_is
