use Rattle.std.proofs.Common.{ℕ, List, [], ◌∷◌, ◌++◌, sym, ◌∙◌, ap, subst}
use Rattle.slot_log.specs.Learning.{Memory, learns}
use Rattle.slot_log.specs.Kept.{task_as, Kept, LeadsTo, is_idle}
use Rattle.slot_log.proofs.Learners.{idle_doing, other_learned}
use Rattle.slot_log.proofs.learner.Learner.learn.Goals as goal

pub returns-else-is_placed_by-clause-leads : goal.returns-else-is_placed_by-clause-leads
returns-else-is_placed_by-clause-leads g c c' h m t of keeps =
    let v = g.L.Layout.version in
    let spelled = g.L.Layout.spelled in
    let is = c.add.ensures in
    let value = spelled c.args.value in
    let P : Memory → Type 0 = λ n. LeadsTo v c' h n c.go_on.new.self in
    subst P (sym (other_learned c' m t (task_as spelled c.args.task) value of (sym c.is_placed_by.ensures ∙ c.if-is_placed_by.false)))
    (c.go_on.ensures.leads c' h (learns m value) (record {
      shape = ap (λ (k : Kept). k.shape) is ∙ keeps.shape;
      is_host = ap (λ (k : Kept). k.host) is ∙ keeps.is_host;
      learned = ap (λ (k : Kept). k.learned) is ∙ ap (λ (l : List (List ℕ)). l ++ value ∷ []) keeps.learned;
      floor = ap (λ (k : Kept). k.floor) is;
      said = ap (λ (k : Kept). k.said) is;
      doing = idle_doing v c' h (learns m value) c.add.new.self.task c.add.new.self.attempt (ap is_idle is ∙ c.requires.idle);
    }))
