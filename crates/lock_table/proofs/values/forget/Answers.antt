use Rattle.std.proofs.Common.{◌<◌, List, length, subst, ◌∙◌}
use Rattle.lock_table.specs.declared.values.NamedValue.{NamedValue}
use Rattle.lock_table.specs.Stored.{StandsAt, WouldStandAt}
use Rattle.lock_table.proofs.Sought.{forgotten_there, forgotten_absent}
use Rattle.lock_table.proofs.values.forget.Goals as goal

pub returns-in-Ok : goal.returns-in-Ok
returns-in-Ok c =
    let inside : c.in-Ok.at < length c.args.values.now = subst (λ (l : List NamedValue). c.in-Ok.at < length l) c.entries.ensures c.in-Ok.ensures.bound in
    let here = subst (λ (l : List NamedValue). StandsAt c.args.name l c.in-Ok.at) c.entries.ensures c.in-Ok.ensures.place in
    c.remove.ensures ∙ forgotten_there c.args.name c.args.values.now c.in-Ok.at c.requires inside here

pub returns-in_default : goal.returns-in_default
returns-in_default c =
    let absent = subst (λ (l : List NamedValue). WouldStandAt c.args.name l c.in_default.field-0) c.entries.ensures c.in_default.ensures.place in
    forgotten_absent c.args.name c.args.values.now c.in_default.field-0 absent
