use Rattle.std.proofs.Common.{◌∙◌, ◌++◌, ◌∷◌, [], List, Option, None, ap, refl, sym, subst}
use Rattle.torn_block.specs.Layout.{cluster_version}
use Rattle.paxos_block.specs.Row.{DecodedBlock}
use Rattle.attempt.specs.Answers.{Told}
use Rattle.attempt.proofs.ReadRows.{reads_as}
use Rattle.rounds.specs.Marking.Kept.{LeadsTo}
use Rattle.rounds.specs.Marking.Notes.{Notes, notes_in}
use Rattle.rounds.proofs.Marking.Going.{reads_damage, still_going}
use Rattle.rounds.proofs.marks.one_marking.Marking.hear_row.Goals as goal

pub returns-in-Ok-clause-leads : goal.returns-in-Ok-clause-leads
returns-in-Ok-clause-leads c s answers leads = c.take_row.ensures.leads s answers c.args.bytes.now (reads_as cluster_version (λ value. value) c.args.bytes.now c.read_row.new.row c.in-Ok.ensures.said) leads

pub returns-in-Err-clause-leads : goal.returns-in-Err-clause-leads
returns-in-Err-clause-leads c s answers leads =
    let p = c.self.inside in
    let led = subst (LeadsTo s answers) (sym c.self.view_is) leads in
    let going = still_going p.round.end (ap (λ (m : Notes). m.end) c.self.view_is ∙ c.requires.going) in
    let st = ap (λ (m : Notes). m.round.stage) c.self.view_is ∙ c.requires.stage in
    let new : Notes = notes_in p.host p.slot p.value c.drop_disk.new.self in
    subst (λ (o : Option (List DecodedBlock)). LeadsTo s (answers ++ record { disk = c.args.self.now.disk; heard = Told o } ∷ []) new) (sym (c.in-Err.ensures.unsaid.0 refl))
    (subst (λ (m : Notes). LeadsTo s (answers ++ record { disk = m.disk; heard = Told None } ∷ []) new) c.self.view_is
    (reads_damage p.host p.slot p.value p.round s answers led going c.self.invariant.sound.visits_one st c.drop_disk.new.self c.drop_disk.ensures.step c.drop_disk.ensures.disks))
