use Rattle.std.proofs.Common.{◌≡◌, ◌<◌, ◌∙◌, ap, sym, subst, ℕ, Option, Some, None, ◌++◌, ◌∷◌, [], refl}
use Rattle.disk.specs.Disk as device
use Rattle.attempt.specs.Answers.{Answers, on}
use Rattle.attempt.specs.History.{Fits, IsAnswerTo}
use Rattle.torn_block.specs.Layout.{cluster_version}
use Rattle.attempt.specs.DeviceCalls.{heard_of}
use Rattle.rounds.specs.Look.Status.{Setup, next_call}
use Rattle.rounds.specs.declared.looks.notes.Notes.{Notes}
use Rattle.rounds.specs.Look.Kept.{LeadsTo, Follows, answer_of, call_due}
use Rattle.rounds.proofs.Look.Asking.{v, call_is}
use Rattle.attempt.proofs.Hearing.{history_more}
use Rattle.rounds.proofs.Look.Histories.{bound}
use Rattle.attempt.proofs.More.{on_more}
use Rattle.rounds.proofs.looks.one_look.Look.hear.Goals as goal

pub returns-clause-leads : goal.returns-clause-leads
returns-clause-leads c s answers leads =
    let n = c.self.inside.notes in
    let sound = c.self.invariant in
    let x = answer_of n c.args.heard.now in
    let before = subst (LeadsTo s answers) (sym c.self.view_is) leads in
    let going : n.end ≡ None = ap (λ (m : Notes). m.end) c.self.view_is ∙ c.requires.going in
    let fits = subst (λ (m : Notes). Fits (call_due m).1 (heard_of cluster_version c.args.heard.now)) (sym c.self.view_is) c.requires.fits in
    let next = subst (λ (t : Setup). next_call t (on answers) ≡ Some (call_due n)) before.of (call_is (on answers) n (v (on answers) n before.follows going sound.first sound.asks_one) sound.first sound.asks_one) in
    let answered : IsAnswerTo (Some (call_due n)) x = (refl, fits) in
    subst (λ (m : Notes). LeadsTo s (answers ++ answer_of m c.args.heard.now ∷ []) c.hear.new.self) c.self.view_is
    (record {
      of = c.hear.ensures.same ∙ before.of;
      history = history_more (next_call s) answers x before.history (subst (λ (o : Option (ℕ × device.Call)). IsAnswerTo o x) (sym next) answered);
      follows = subst (λ (g : Answers). Follows g c.hear.new.self) (sym (on_more answers x)) (c.hear.ensures.follows (on answers) before.follows);
    })

pub returns-clause-bound : goal.returns-clause-bound
returns-clause-bound c s answers leads =
    let after = returns-clause-leads c s answers leads in
    let n = c.self.inside.notes in
    let before = subst (LeadsTo s answers) (sym c.self.view_is) leads in
    bound s (subst (λ (t : Setup). t.first < t.disks) before.of c.self.invariant.first) (answers ++ answer_of c.args.self.now c.args.heard.now ∷ []) after.history
