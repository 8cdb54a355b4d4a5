use Rattle.std.proofs.Common.{◌∙◌, ◌++◌, ◌∷◌, [], List, ℕ, ap, sym, subst}
use Rattle.attempt.specs.Answers.{Answered}
use Rattle.attempt.specs.History.{Fits}
use Rattle.torn_block.specs.Layout.{cluster_version}
use Rattle.attempt.specs.DeviceCalls.{heard_of}
use Rattle.attempt.specs.declared.heard.Heard as code_heard
use Rattle.rounds.specs.Marking.Kept.{IsSameMarking, LeadsTo, answer_of, call_due}
use Rattle.rounds.specs.Marking.Notes.{Notes, notes_in}
use Rattle.rounds.specs.Marking.Status.{Setup}
use Rattle.rounds.proofs.Marking.Going.{hears, still_going}
use Rattle.rounds.proofs.Marking.Histories.{bound}
use Rattle.rounds.proofs.marks.one_marking.Marking.hear.Goals as goal

pub returns-in-Told-clause-leads : goal.returns-in-Told-clause-leads
returns-in-Told-clause-leads c s answers leads =
    subst (λ (x : code_heard.Heard (List ℕ)). LeadsTo s (answers ++ answer_of c.args.self.now x ∷ []) c.hear_row.new.self) (sym c.in-Told.is) (c.hear_row.ensures.leads s answers leads)

pub returns-in-Told-clause-bound : goal.returns-in-Told-clause-bound
returns-in-Told-clause-bound c s answers leads = bound s (answers ++ answer_of c.args.self.now c.args.heard.now ∷ []) (returns-in-Told-clause-leads c s answers leads).history

pub returns-in_default : goal.returns-in_default
returns-in_default c =
    let p = c.self.inside in
    let new : Notes = notes_in p.host p.slot p.value c.hear.new.self in
    let leads : (s : Setup) (answers : List Answered) → LeadsTo s answers c.args.self.now → LeadsTo s (answers ++ answer_of c.args.self.now c.args.heard.now ∷ []) new = λ s answers leads.
    (let led = subst (LeadsTo s answers) (sym c.self.view_is) leads in
    let going = still_going p.round.end (ap (λ (m : Notes). m.end) c.self.view_is ∙ c.requires.going) in
    let fits = subst (λ (m : Notes). Fits (call_due m).1 (heard_of cluster_version c.args.heard.now)) (sym c.self.view_is) c.requires.fits in
    subst (λ (m : Notes). LeadsTo s (answers ++ answer_of m c.args.heard.now ∷ []) new) c.self.view_is
    (hears p.host p.slot p.value p.round s answers led going c.self.invariant.sound.visits_one c.args.heard.now fits c.in_default.not-Told c.hear.new.self c.hear.ensures.step c.hear.ensures.disks)) in
    record {
      leads = leads;
      bound = λ s answers led. bound s (answers ++ answer_of c.args.self.now c.args.heard.now ∷ []) (leads s answers led).history;
      same = subst (λ (m : Notes). IsSameMarking m new) c.self.view_is (ap (λ (m : ℕ). record { host = p.host; slot = p.slot; disks = m; value = p.value }) c.hear.ensures.disks);
    }
