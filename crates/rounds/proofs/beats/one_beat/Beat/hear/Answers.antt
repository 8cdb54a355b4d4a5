use Rattle.std.proofs.Common.{◌∙◌, ◌++◌, ◌∷◌, [], List, ℕ, ap, sym, subst, refl}
use Rattle.attempt.specs.History.{Fits}
use Rattle.torn_block.specs.Layout.{cluster_version}
use Rattle.attempt.specs.DeviceCalls as calls
use Rattle.attempt.specs.declared.heard.Heard as code_heard
use Rattle.rounds.specs.Beat.Answers.{Answered}
use Rattle.rounds.specs.Beat.Status.{Setup}
use Rattle.rounds.specs.Beat.Kept.{IsSameBeat, LeadsTo, answer_of, call_due}
use Rattle.rounds.specs.Beat.Notes.{Notes, notes_in}
use Rattle.rounds.proofs.Beat.Beating.{hears, still_going}
use Rattle.rounds.proofs.Beat.Histories.{bound}
use Rattle.rounds.proofs.beats.one_beat.Beat.hear.Goals as goal

pub returns-in-Told-clause-leads : goal.returns-in-Told-clause-leads
returns-in-Told-clause-leads c s answers leads =
    subst (λ (x : code_heard.Heard (List ℕ)). LeadsTo s (answers ++ answer_of c.args.self.now x ∷ []) c.take_area.new.self) (sym c.in-Told.is) (c.take_area.ensures.leads s answers leads)

pub returns-in-Told-clause-bound : goal.returns-in-Told-clause-bound
returns-in-Told-clause-bound c s answers leads = bound s (answers ++ answer_of c.args.self.now c.args.heard.now ∷ []) (returns-in-Told-clause-leads c s answers leads).history

pub returns-in_default : goal.returns-in_default
returns-in_default c =
    let p = c.self.inside in
    let new : Notes = notes_in p.host c.hear.new.self p.readings in
    let leads : (s : Setup) (answers : List Answered) → LeadsTo s answers c.args.self.now → LeadsTo s (answers ++ answer_of c.args.self.now c.args.heard.now ∷ []) new = λ s answers leads.
    (let led = subst (LeadsTo s answers) (sym c.self.view_is) leads in
    let going = still_going p.round.end (ap (λ (m : Notes). m.end) c.self.view_is ∙ c.requires.going) in
    let fits = subst (λ (m : Notes). Fits (call_due m).1 (calls.heard_of cluster_version c.args.heard.now)) (sym c.self.view_is) c.requires.fits in
    subst (λ (m : Notes). LeadsTo s (answers ++ answer_of m c.args.heard.now ∷ []) new) c.self.view_is
    (hears p.host p.round p.readings s answers led going c.self.invariant.sound.visits_one c.args.heard.now fits c.in_default.not-Told c.hear.new.self c.hear.ensures.step c.hear.ensures.disks)) in
    record {
      leads = leads;
      bound = λ s answers led. bound s (answers ++ answer_of c.args.self.now c.args.heard.now ∷ []) (leads s answers led).history;
      same = subst (λ (m : Notes). IsSameBeat m new) c.self.view_is (record { host = refl; disks = c.hear.ensures.disks });
    }
