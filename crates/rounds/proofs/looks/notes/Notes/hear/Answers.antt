use Rattle.std.proofs.Common.{◌≡◌, ℕ, List, inl, inr, refl, sym, subst}
use Rattle.torn_block.specs.Layout.{cluster_version}
use Rattle.attempt.specs.DeviceCalls.{heard_of}
use Rattle.attempt.specs.declared.heard.Heard as code_heard
use Rattle.attempt.specs.declared.heard.Heard.TheVariants as answer
use Rattle.attempt.specs.Answers.{Fault, more}
use Rattle.rounds.specs.Look.Kept.{Follows, FitsStage, disk_of}
use Rattle.rounds.specs.declared.looks.notes.Stage.{Stage}
use Rattle.rounds.specs.declared.looks.notes.Stage.TheVariants as stage
use Rattle.rounds.proofs.Look.Asking.{attaches}
use Rattle.rounds.proofs.looks.notes.Notes.hear.Goals as goal

is_attaching : (at : Stage) (heard : code_heard.Heard (List ℕ)) → FitsStage at heard → (boot : _) → heard ≡ answer.Booted boot → at ≡ stage.Attaching
is_attaching stage.Attaching heard fits boot is = refl
is_attaching (stage.Reading b) heard fits boot is = absurd (subst (FitsStage (stage.Reading b)) is fits)

not_done : (at : Stage) (heard : code_heard.Heard (List ℕ)) → FitsStage at heard → heard ≡ answer.Done → ⊥
not_done stage.Attaching heard fits is = subst (FitsStage stage.Attaching) is fits
not_done (stage.Reading b) heard fits is = subst (FitsStage (stage.Reading b)) is fits

pub returns-in-Booted-clause-follows : goal.returns-in-Booted-clause-follows
returns-in-Booted-clause-follows c f is =
    let n = c.args.self.now in
    subst (λ (h : code_heard.Heard (List ℕ)). Follows (more f (disk_of n) (heard_of cluster_version h)) (record n { stage = stage.Reading c.in-Booted.boot })) (sym c.in-Booted.is)
    (attaches f n is c.requires.going c.requires.sound.first c.requires.sound.asks_one (is_attaching n.stage c.args.heard.now c.requires.fits c.in-Booted.boot c.in-Booted.is) c.in-Booted.boot)

pub returns-in-Told-clause-follows : goal.returns-in-Told-clause-follows
returns-in-Told-clause-follows c f is =
    subst (λ (h : code_heard.Heard (List ℕ)). Follows (more f (disk_of c.args.self.now) (heard_of cluster_version h)) c.hear_row.new.self) (sym c.in-Told.is) (c.hear_row.ensures.follows f is)

pub returns-in-Done-clause-follows : goal.returns-in-Done-clause-follows
returns-in-Done-clause-follows c f is =
    let n = c.args.self.now in
    elim c.in-Done.is [
      | inl done ↦ absurd (not_done n.stage c.args.heard.now c.requires.fits done)
      | inr fault ↦
          subst (λ (h : code_heard.Heard (List ℕ)). Follows (more f (disk_of n) (heard_of cluster_version h)) c.pass_over.new.self) (sym fault.1)
          (c.pass_over.ensures.follows f (Fault fault.0) is refl)
    ]
