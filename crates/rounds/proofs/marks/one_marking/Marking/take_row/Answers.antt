use Rattle.std.proofs.Common.{◌∙◌, ◌++◌, ◌∷◌, [], List, Option, Some, sym, ap, subst}
use Rattle.std.proofs.lemmas.Bool.{and_parts}
use Rattle.std.specs.Prelude.{not}
use Rattle.torn_block.specs.Layout.{cluster_version}
use Rattle.torn_block.specs.Block.{value_of}
use Rattle.paxos_block.specs.Saying.{MaySay, body_saying}
use Rattle.paxos_block.specs.Row.{DecodedBlock, IsSaid, seen_at}
use Rattle.paxos_block.proofs.RowLemmas.{said_is_said}
use Rattle.attempt.specs.Answers.{Told}
use Rattle.rounds.specs.Marking.Kept.{LeadsTo}
use Rattle.rounds.specs.Marking.Notes.{Notes, notes_in}
use Rattle.rounds.specs.Marking.Status.{is_value, with_mark}
use Rattle.rounds.specs.Kept as rounds
use Rattle.rounds.proofs.Marking.Going.{says_shown, said_same, may_mark_it, still_going, writes, passes}
use Rattle.rounds.proofs.marks.one_marking.Marking.take_row.Goals as goal

pub encode-requires : goal.encode-requires
encode-requires c =
    let p = c.self.inside in
    let reads = c.requires.row.1 in
    let own = seen_at reads.seen p.host in
    let says = c.cell-cell.result.now.says in
    let shows = c.cell-cell.ensures cluster_version (λ value. value) reads.seen reads.so in
    let said : IsSaid cluster_version p.host (value_of cluster_version own.bytes) own.says = said_is_said cluster_version c.requires.row.0 reads.seen p.host c.self.invariant.is_host reads.said in
    let holds = and_parts (not says.mark) (is_value says.inp p.value) (sym c.is_to_mark.ensures ∙ c.if-is_to_mark.true) in
    subst (MaySay cluster_version p.host) (sym (said_same (with_mark says)))
    (may_mark_it p.host (value_of cluster_version own.bytes) says p.value (subst (IsSaid cluster_version p.host (value_of cluster_version own.bytes)) (sym (says_shown says _ shows.says)) said) holds.1)

pub returns-then-is_to_mark-clause-leads : goal.returns-then-is_to_mark-clause-leads
returns-then-is_to_mark-clause-leads c s answers bytes reads leads =
    let p = c.self.inside in
    let says = c.cell-cell.result.now.says in
    let block = c.cell-cell.result.now.block in
    let shows = c.cell-cell.ensures cluster_version (λ value. value) reads.seen reads.so in
    let led = subst (LeadsTo s answers) (sym c.self.view_is) leads in
    let going = still_going p.round.end (ap (λ (m : Notes). m.end) c.self.view_is ∙ c.requires.going) in
    let st = ap (λ (m : Notes). m.round.stage) c.self.view_is ∙ c.requires.stage in
    let step = c.write.ensures.step ∙ ap (rounds.begins p.round block) (c.encode.ensures ∙ ap (body_saying cluster_version) (said_same (with_mark says))) in
    let new : Notes = notes_in p.host p.slot p.value c.write.new.self in
    subst (λ (o : Option (List DecodedBlock)). LeadsTo s (answers ++ record { disk = c.args.self.now.disk; heard = Told o } ∷ []) new) (sym reads.said)
    (subst (λ (m : Notes). LeadsTo s (answers ++ record { disk = m.disk; heard = Told (Some reads.seen) } ∷ []) new) c.self.view_is
    (writes p.host p.slot p.value p.round s answers led going c.self.invariant.sound.visits_one st reads.seen says (says_shown says _ shows.says) c.write.new.self c.write.ensures.disks block shows.read shows.sequence (sym c.is_to_mark.ensures ∙ c.if-is_to_mark.true) step))

pub returns-else-is_to_mark-clause-leads : goal.returns-else-is_to_mark-clause-leads
returns-else-is_to_mark-clause-leads c s answers bytes reads leads =
    let p = c.self.inside in
    let says = c.cell-cell.result.now.says in
    let shows = c.cell-cell.ensures cluster_version (λ value. value) reads.seen reads.so in
    let led = subst (LeadsTo s answers) (sym c.self.view_is) leads in
    let going = still_going p.round.end (ap (λ (m : Notes). m.end) c.self.view_is ∙ c.requires.going) in
    let st = ap (λ (m : Notes). m.round.stage) c.self.view_is ∙ c.requires.stage in
    let new : Notes = notes_in p.host p.slot p.value c.pass.new.self in
    subst (λ (o : Option (List DecodedBlock)). LeadsTo s (answers ++ record { disk = c.args.self.now.disk; heard = Told o } ∷ []) new) (sym reads.said)
    (subst (λ (m : Notes). LeadsTo s (answers ++ record { disk = m.disk; heard = Told (Some reads.seen) } ∷ []) new) c.self.view_is
    (passes p.host p.slot p.value p.round s answers led going c.self.invariant.sound.visits_one st reads.seen says (says_shown says _ shows.says) c.pass.new.self c.pass.ensures.disks (sym c.is_to_mark.ensures ∙ c.if-is_to_mark.false) c.pass.ensures.step))
