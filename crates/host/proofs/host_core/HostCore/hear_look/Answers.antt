use Rattle.std.proofs.Common.{◌∙◌, Some, length, ap, subst, sym, arith}
use Rattle.std.proofs.lemmas.List.{map-id}
use Rattle.rounds.specs.Look.Kept.{IsInside}
use Rattle.rounds.specs.Look.Status.{Setup}
use Rattle.host.specs.Kept.{IsAlone}
use Rattle.host.proofs.UnderWay.{look_alone, look_fails, look_few, look_finds_none, look_goes, look_learns}
use Rattle.host.proofs.host_core.HostCore.hear_look.Goals as goal

pub learn_marked-requires-clause-disk : goal.learn_marked-requires-clause-disk
learn_marked-requires-clause-disk c =
    let told = subst (IsInside c.hear.new.self.disks) (c.in-Some.is ∙ ap Some c.in-Decided.is) c.end.ensures.inside in
    let alone = subst (IsAlone c.self.inside.learner) c.in-Look.is c.self.invariant.alone in
    let same = ap (λ (s : Setup). s.disks) c.hear.ensures.same ∙ alone.as_many in
    omega arith

pub returns-in_default-end-clause-leads : goal.returns-in_default-end-clause-leads
returns-in_default-end-clause-leads c c' h m leads =
    look_goes c' h m c.self.inside _ c.self.view_is leads c.in-Look.look c.in-Look.is c.args.heard.now
    c.hear.new.self c.hear.ensures.leads c.end.result c.end.ensures.end c.in_default-end.is

pub returns-in-Decided-clause-leads : goal.returns-in-Decided-clause-leads
returns-in-Decided-clause-leads c c' h m leads =
    look_learns c' h m c.self.inside _ c.self.view_is leads c.in-Look.look c.in-Look.is c.args.heard.now
    c.hear.new.self c.hear.ensures.leads c.end.result c.end.ensures.end c.in-Decided.disk c.in-Decided.value (c.in-Some.is ∙ ap Some c.in-Decided.is) c.learn_marked.new.self
    (λ n led. c.learn_marked.ensures.leads c' h n led)

pub returns-in-Unmarked-clause-leads : goal.returns-in-Unmarked-clause-leads
returns-in-Unmarked-clause-leads c c' h m leads =
    look_finds_none c' h m c.self.inside _ c.self.view_is leads c.in-Look.look c.in-Look.is c.args.heard.now
    c.hear.new.self c.hear.ensures.leads c.end.result c.end.ensures.end (c.in-Some.is ∙ ap Some c.in-Unmarked.is)
    (length c.learned.result.now) (ap length (sym (map-id c.learned.result.now) ∙ c.learned.ensures.learned))

pub returns-in-NoMajority-clause-leads : goal.returns-in-NoMajority-clause-leads
returns-in-NoMajority-clause-leads c c' h m leads =
    look_fails c' h m c.self.inside _ c.self.view_is leads c.in-Look.look c.in-Look.is c.args.heard.now
    c.hear.new.self c.hear.ensures.leads c.end.result c.end.ensures.end (c.in-Some.is ∙ ap Some c.in-NoMajority.is)

pub returns-in_default-end-clause-few : goal.returns-in_default-end-clause-few
returns-in_default-end-clause-few c c' h m leads =
    look_few c' h m c.self.inside _ c.self.view_is leads c.in-Look.look c.in-Look.is c.args.heard.now c.hear.ensures.bound

pub returns-in-Decided-clause-few : goal.returns-in-Decided-clause-few
returns-in-Decided-clause-few c c' h m leads =
    look_few c' h m c.self.inside _ c.self.view_is leads c.in-Look.look c.in-Look.is c.args.heard.now c.hear.ensures.bound

pub returns-in-Unmarked-clause-few : goal.returns-in-Unmarked-clause-few
returns-in-Unmarked-clause-few c c' h m leads =
    look_few c' h m c.self.inside _ c.self.view_is leads c.in-Look.look c.in-Look.is c.args.heard.now c.hear.ensures.bound

pub returns-in-NoMajority-clause-few : goal.returns-in-NoMajority-clause-few
returns-in-NoMajority-clause-few c c' h m leads =
    look_few c' h m c.self.inside _ c.self.view_is leads c.in-Look.look c.in-Look.is c.args.heard.now c.hear.ensures.bound

pub returns-in_default-end-clause-alone : goal.returns-in_default-end-clause-alone
returns-in_default-end-clause-alone c c' h m leads = look_alone c' h m c.self.inside _ c.self.view_is leads c.in-Look.look c.in-Look.is c.args.heard.now _

pub returns-in-Decided-clause-alone : goal.returns-in-Decided-clause-alone
returns-in-Decided-clause-alone c c' h m leads = look_alone c' h m c.self.inside _ c.self.view_is leads c.in-Look.look c.in-Look.is c.args.heard.now _

pub returns-in-Unmarked-clause-alone : goal.returns-in-Unmarked-clause-alone
returns-in-Unmarked-clause-alone c c' h m leads = look_alone c' h m c.self.inside _ c.self.view_is leads c.in-Look.look c.in-Look.is c.args.heard.now _

pub returns-in-NoMajority-clause-alone : goal.returns-in-NoMajority-clause-alone
returns-in-NoMajority-clause-alone c c' h m leads = look_alone c' h m c.self.inside _ c.self.view_is leads c.in-Look.look c.in-Look.is c.args.heard.now _
