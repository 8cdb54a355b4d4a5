use Rattle.std.proofs.Common.{◌∙◌, Some, ap}
use Rattle.host.proofs.UnderWay.{marking_alone, marking_ends, marking_fails, marking_few, marking_goes}
use Rattle.host.proofs.host_core.HostCore.hear_marking.Goals as goal

pub returns-in-None-clause-leads : goal.returns-in-None-clause-leads
returns-in-None-clause-leads c c' h m leads =
    marking_goes c' h m c.self.inside _ c.self.view_is leads c.in-Mark.marking c.in-Mark.is c.args.heard.now
    c.hear.new.self c.hear.ensures.leads c.end.result c.end.ensures.end c.in-None.is

pub returns-in-Some-NoMajority-clause-leads : goal.returns-in-Some-NoMajority-clause-leads
returns-in-Some-NoMajority-clause-leads c c' h m leads =
    marking_fails c' h m c.self.inside _ c.self.view_is leads c.in-Mark.marking c.in-Mark.is c.args.heard.now
    c.hear.new.self c.hear.ensures.leads c.end.result c.end.ensures.end (c.in-Some-NoMajority.is ∙ ap Some c.in-Some-NoMajority.field-0-is)

pub returns-in-Some-Marked-clause-leads : goal.returns-in-Some-Marked-clause-leads
returns-in-Some-Marked-clause-leads c c' h m leads =
    marking_ends c' h m c.self.inside _ c.self.view_is leads c.in-Mark.marking c.in-Mark.is c.args.heard.now
    c.hear.new.self c.hear.ensures.leads c.end.result c.end.ensures.end c.in-Some-Marked.count (c.in-Some-Marked.is ∙ ap Some c.in-Some-Marked.field-0-is)

pub returns-in-None-clause-few : goal.returns-in-None-clause-few
returns-in-None-clause-few c c' h m leads =
    marking_few c' h m c.self.inside _ c.self.view_is leads c.in-Mark.marking c.in-Mark.is c.args.heard.now c.hear.ensures.bound

pub returns-in-Some-NoMajority-clause-few : goal.returns-in-Some-NoMajority-clause-few
returns-in-Some-NoMajority-clause-few c c' h m leads =
    marking_few c' h m c.self.inside _ c.self.view_is leads c.in-Mark.marking c.in-Mark.is c.args.heard.now c.hear.ensures.bound

pub returns-in-Some-Marked-clause-few : goal.returns-in-Some-Marked-clause-few
returns-in-Some-Marked-clause-few c c' h m leads =
    marking_few c' h m c.self.inside _ c.self.view_is leads c.in-Mark.marking c.in-Mark.is c.args.heard.now c.hear.ensures.bound

pub returns-in-None-clause-alone : goal.returns-in-None-clause-alone
returns-in-None-clause-alone c c' h m leads = marking_alone c' h m c.self.inside _ c.self.view_is leads c.in-Mark.marking c.in-Mark.is c.args.heard.now _

pub returns-in-Some-NoMajority-clause-alone : goal.returns-in-Some-NoMajority-clause-alone
returns-in-Some-NoMajority-clause-alone c c' h m leads = marking_alone c' h m c.self.inside _ c.self.view_is leads c.in-Mark.marking c.in-Mark.is c.args.heard.now _

pub returns-in-Some-Marked-clause-alone : goal.returns-in-Some-Marked-clause-alone
returns-in-Some-Marked-clause-alone c c' h m leads = marking_alone c' h m c.self.inside _ c.self.view_is leads c.in-Mark.marking c.in-Mark.is c.args.heard.now _
