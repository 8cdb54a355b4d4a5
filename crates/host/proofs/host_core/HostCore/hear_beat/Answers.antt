use Rattle.std.proofs.Common.{◌∙◌, Some, ap}
use Rattle.host.proofs.UnderWay.{beat_alone, beat_ends, beat_fails, beat_few, beat_goes}
use Rattle.host.proofs.host_core.HostCore.hear_beat.Goals as goal

pub returns-in-None-clause-leads : goal.returns-in-None-clause-leads
returns-in-None-clause-leads c c' h m leads =
    beat_goes c' h m c.self.inside _ c.self.view_is leads c.in-Beat.beat c.in-Beat.is c.self.invariant.alone c.args.heard.now
    c.hear.new.self c.hear.ensures.leads c.hear.ensures.same c.end.result c.end.ensures.end c.in-None.is

pub returns-in-Some-NoMajority-clause-leads : goal.returns-in-Some-NoMajority-clause-leads
returns-in-Some-NoMajority-clause-leads c c' h m leads =
    beat_fails c' h m c.self.inside _ c.self.view_is leads c.in-Beat.beat c.in-Beat.is c.self.invariant.alone c.args.heard.now
    c.hear.new.self c.hear.ensures.leads c.hear.ensures.same c.end.result c.end.ensures.end (c.in-Some-NoMajority.is ∙ ap Some c.in-Some-NoMajority.field-0-is)

pub returns-in-Some-Beaten-clause-leads : goal.returns-in-Some-Beaten-clause-leads
returns-in-Some-Beaten-clause-leads c c' h m leads =
    beat_ends c' h m c.self.inside _ c.self.view_is leads c.in-Beat.beat c.in-Beat.is c.self.invariant.alone c.args.heard.now
    c.hear.new.self c.hear.ensures.leads c.hear.ensures.same c.end.result c.end.ensures.end (c.in-Some-Beaten.is ∙ ap Some c.in-Some-Beaten.field-0-is)
    c.readings-after.result c.readings-after.ensures c.suggested-host.result c.suggested-host.ensures

pub returns-in-None-clause-few : goal.returns-in-None-clause-few
returns-in-None-clause-few c c' h m leads =
    beat_few c' h m c.self.inside _ c.self.view_is leads c.in-Beat.beat c.in-Beat.is c.self.invariant.alone c.args.heard.now c.hear.ensures.bound

pub returns-in-Some-NoMajority-clause-few : goal.returns-in-Some-NoMajority-clause-few
returns-in-Some-NoMajority-clause-few c c' h m leads =
    beat_few c' h m c.self.inside _ c.self.view_is leads c.in-Beat.beat c.in-Beat.is c.self.invariant.alone c.args.heard.now c.hear.ensures.bound

pub returns-in-Some-Beaten-clause-few : goal.returns-in-Some-Beaten-clause-few
returns-in-Some-Beaten-clause-few c c' h m leads =
    beat_few c' h m c.self.inside _ c.self.view_is leads c.in-Beat.beat c.in-Beat.is c.self.invariant.alone c.args.heard.now c.hear.ensures.bound

pub returns-in-None-clause-alone : goal.returns-in-None-clause-alone
returns-in-None-clause-alone c c' h m leads = beat_alone c' h m c.self.inside _ c.self.view_is leads c.in-Beat.beat c.in-Beat.is c.self.invariant.alone c.args.heard.now _

pub returns-in-Some-NoMajority-clause-alone : goal.returns-in-Some-NoMajority-clause-alone
returns-in-Some-NoMajority-clause-alone c c' h m leads = beat_alone c' h m c.self.inside _ c.self.view_is leads c.in-Beat.beat c.in-Beat.is c.self.invariant.alone c.args.heard.now _

pub returns-in-Some-Beaten-clause-alone : goal.returns-in-Some-Beaten-clause-alone
returns-in-Some-Beaten-clause-alone c c' h m leads = beat_alone c' h m c.self.inside _ c.self.view_is leads c.in-Beat.beat c.in-Beat.is c.self.invariant.alone c.args.heard.now _
