use Rattle.std.proofs.Common.{◌≡◌, ◌∙◌, Option, Some, sym, ap, subst}
use Rattle.lock_command.specs.declared.command.Command.{Command}
use Rattle.lock_command.specs.Reading.{decoded}
use Rattle.host.specs.Host.{takes_marked}
use Rattle.host.specs.Kept.{Kept, LeadsTo, is_idle, values_with}
use Rattle.host.proofs.UnderWay.{with_command, learned_then}
use Rattle.host.proofs.Hosts.{kept_in, decoded_spelled}
use Rattle.host.proofs.host_core.HostCore.learn_marked.Goals as goal

pub returns-clause-leads : goal.returns-clause-leads
returns-clause-leads c c' h m leads =
    let k = kept_in c.self.inside in
    let command = c.in-Some.command in
    let value = c.args.value.now in
    let known = subst (λ (v : Kept). LeadsTo c' h m v) (sym c.self.view_is) leads in
    let decodes : decoded value ≡ Some command = sym c.decode.ensures.exact ∙ c.in-Some.is in
    subst (λ (o : Option Command). LeadsTo c' h (takes_marked c' m c.args.disk o) c.look_on.new.self) (sym decodes)
    (c.look_on.ensures.leads c' h (with_command m command)
    (learned_then c' h m k known (ap is_idle c.self.view_is ∙ c.requires.idle) command value (decoded_spelled value command decodes)
    c.learn_marked.new.self (c.learn_marked.ensures.leads c' h (values_with k.learner.said m) known.learner) c.carry_out.new.prefix.items c.carry_out.ensures.prefix))
