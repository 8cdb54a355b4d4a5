use Rattle.std.proofs.Common.{Option, sym, ◌∙◌, ap, subst}
use Rattle.std.specs.Option.{option_map}
use Rattle.slot_log.specs.declared.operation.LogTask as code_task
use Rattle.slot_log.specs.Learning.{Memory, setup_of, takes}
use Rattle.slot_log.specs.Kept.{kept_of, task_as, Kept, LeadsTo, is_idle_with}
use Rattle.slot_log.proofs.Learners.{task_is, counted, finished, refuses_value, takes_value}
use Rattle.slot_log.proofs.learner.Learner.take.Goals as goal

pub returns-then-is_command-clause-leads : goal.returns-then-is_command-clause-leads
returns-then-is_command-clause-leads g c c' h m leads =
    let v = g.L.Layout.version in
    let spelled = g.L.Layout.spelled in
    let is = c.self.view_is in
    let task = c.in-Some-take.task in
    let value = spelled c.in-Some.value in
    let doing = task_is v c' h m c.args.self.now (task_as spelled task) leads (sym (ap (λ (k : Kept). k.task) is) ∙ ap (option_map (task_as spelled)) (sym c.take.ensures.value ∙ c.in-Some-take.is)) in
    let t = doing.0 in
    let P : Memory → Type 0 = λ n. LeadsTo v c' h n c.learn.new.self in
    let taken = takes_value v c' h m t value doing.1 (sym (ap (option_map spelled) c.in-Some.is) ∙ c.offered.ensures.value c' h m leads) in
    subst P (sym (ap (takes v c' h m m.doing) c.if-is_command.true ∙ taken))
    (c.learn.ensures.leads c' h m t (record { operation = doing.2.operation; tries = doing.2.tries }) (record {
      shape = ap (λ (k : Kept). k.shape) is ∙ leads.shape;
      is_host = ap (λ (k : Kept). k.host) is ∙ leads.is_host;
      learned = ap (λ (k : Kept). k.learned) is ∙ leads.learned;
    }))

pub returns-else-is_command-clause-leads : goal.returns-else-is_command-clause-leads
returns-else-is_command-clause-leads g c c' h m leads =
    let v = g.L.Layout.version in
    let spelled = g.L.Layout.spelled in
    let s = c.self.inside in
    let k : Kept = kept_of spelled s.host s.config s.learned.items s.floor s.task s.attempt s.said in
    let Known : Kept → Type 0 = λ j. LeadsTo v c' h m j in
    let leads' : LeadsTo v c' h m k = subst Known (sym c.self.view_is) leads in
    let doing = task_is v c' h m k (task_as spelled c.in-Some-take.task) leads' (ap (option_map (task_as spelled)) (sym c.take.ensures.value ∙ c.in-Some-take.is)) in
    let t = doing.0 in
    let ballot = c.ballot-ballot.result in
    let took = c.ballot-ballot.ensures (setup_of v c' h m t.operation) t.heard doing.2.heard in
    let ends = refuses_value v c' h m t (spelled c.in-Some.value) ballot doing.1 (sym (ap (option_map spelled) c.in-Some.is) ∙ c.offered.ensures.value c' h m leads) took in
    let P : Memory → Type 0 = λ n. LeadsTo v c' h n c.finish.new.self in
    subst P (sym (ap (takes v c' h m m.doing) c.if-is_command.false ∙ ends))
    (finished v c' h _ c.count_ballot.new.self c.finish.new.self _
    (counted v c' h m k c.count_ballot.new.self _ _ ballot leads' (ap (λ (o : Option (code_task.LogTask g.row.L-Value.Denot)). is_idle_with (option_map (task_as spelled) o)) c.take.ensures.after) c.count_ballot.ensures)
    c.finish.ensures)
