use Rattle.std.proofs.Common.{◌≡◌, ◌∙◌, ap, ap₂, sym, subst, ℕ, Some, None}
use Rattle.disk.specs.Disk as device
use Rattle.attempt.specs.Answers.{on}
use Rattle.rounds.specs.Look.Status.{Setup, next_call}
use Rattle.rounds.specs.declared.looks.notes.Notes.{Notes}
use Rattle.rounds.specs.Look.Kept.{LeadsTo, call_due}
use Rattle.rounds.proofs.Look.Asking.{v, call_is}
use Rattle.rounds.proofs.looks.one_look.Look.call.Goals as goal

pub returns-clause-next : goal.returns-clause-next
returns-clause-next c s heard leads =
    let n = c.self.inside.notes in
    let sound = c.self.invariant in
    let before = subst (LeadsTo s heard) (sym c.self.view_is) leads in
    let going : n.end ≡ None = ap (λ (m : Notes). m.end) c.self.view_is ∙ c.requires in
    subst (λ (t : Setup). next_call t (on heard) ≡ Some (call_due n)) before.of (call_is (on heard) n (v (on heard) n before.follows going sound.first sound.asks_one) sound.first sound.asks_one)
    ∙ ap₂ (λ (d : ℕ) (call : device.Call). Some (d, call)) (sym c.disk.ensures.disk) (sym c.call.ensures.due)
