-- What was answered with the steps is what was said with the last.
use Rattle.std.specs.Prelude.{replicate}
use Rattle.std.specs.Io.KnownBytes.{Appends}
use Rattle.std.proofs.Common.{ℕ, ◌+◌, ◌-◌, List, Option, Some, None, sym, ap, ◌∙◌, subst}
use Rattle.std.proofs.KnownBytes.{Appends-nil}
use Rattle.std.proofs.lemmas.List.{length-replicate}
use Rattle.world.specs.Entry.{Filled}
use Rattle.world.specs.Happens.{Line, Step}
use Rattle.simulator.specs.declared.simulated_cluster.Said.{Said}
use Rattle.simulator.specs.Events.{lines_of}
use Rattle.simulator.specs.Kept.{Kept, BringsAll}
use Rattle.dlm_tasks.specs.Printed.{WritesAnswers, lines_text}
use Rattle.dlm_tasks.proofs.run.happen_steps.Goals as goal

writes : (log : List Filled) (h made first : ℕ) (old new : Kept) (said : Option Said) (before after : Option (List ℕ)) → BringsAll log (replicate made (Step h)) old new said
    → Appends before after (lines_text (lines_of (first + made - 1) said)) → WritesAnswers log (replicate made (Step h)) first old new before after
writes log h made first old new said before after brings written =
    let all = ap (λ (n : ℕ). lines_of (first + n - 1) said) (sym (length-replicate made (Step h))) ∙ brings.says first in
    record { shape = brings.shape; leads = brings.leads; written = subst (λ (lines : List Line). Appends before after (lines_text lines)) all written }

pub returns-in_ok-tell-clause-written : goal.returns-in_ok-tell-clause-written
returns-in_ok-tell-clause-written g c = λ log leads.
    let made = c.steps-made.result.0 in
    writes log c.args.host made c.args.first _ _ (Some c.in-Some.said) _ _
    (subst (BringsAll log (replicate made (Step c.args.host)) c.args.cluster.now c.steps-made.new.self) c.in-Some.is (c.steps-made.ensures.brings log leads)) c.in_ok-tell.ensures

pub returns-in_default-clause-written : goal.returns-in_default-clause-written
returns-in_default-clause-written g c = λ log leads.
    let made = c.steps-made.result.0 in
    writes log c.args.host made c.args.first _ _ None _ _
    (subst (BringsAll log (replicate made (Step c.args.host)) c.args.cluster.now c.steps-made.new.self) c.in_default.is (c.steps-made.ensures.brings log leads)) (Appends-nil _)
