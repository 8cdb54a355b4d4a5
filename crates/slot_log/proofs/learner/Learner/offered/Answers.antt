use Rattle.std.proofs.Common.{not, ap, ◌∙◌}
use Rattle.std.specs.Option.{option_map}
use Rattle.phases.specs.Calls.{end_as}
use Rattle.slot_log.specs.Kept.{kept_of, task_as, Kept}
use Rattle.slot_log.proofs.Learners.{offered_is, some_mapped}
use Rattle.slot_log.proofs.learner.Learner.offered.Goals as goal

pub returns-clause-value : goal.returns-clause-value
returns-clause-value g c c' h m leads =
    let v = g.L.Layout.version in
    let spelled = g.L.Layout.spelled in
    let s = c.self.inside in
    let k : Kept = kept_of spelled s.host s.config s.learned.items s.floor s.task s.attempt s.said in
    c.chosen.ensures spelled
    ∙ offered_is v c' h m k c.args.self.now (option_map (end_as spelled) c.end.result) c.self.view_is leads (some_mapped (task_as spelled) s.task ∙ c.is_none.ensures ∙ ap not c.if-is_none.false) c.end.ensures.end
