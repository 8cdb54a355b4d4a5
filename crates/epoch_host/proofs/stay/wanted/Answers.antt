use Rattle.std.proofs.Common.{ℕ, ◌<◌, sym, subst, arith}
use Rattle.torn_block.specs.Layout.{cluster_version}
use Rattle.torn_block.specs.declared.layout.TheConstants.{HOSTS}
use Rattle.paxos_block.specs.Places.{image_length}
use Rattle.paxos_block.specs.Shape.{Shape}
use Rattle.attempt.specs.DeviceCalls.{device_call_of}
use Rattle.window.specs.Calls.{IsOwn}
use Rattle.epoch_host.proofs.Owning.{due_is_own}
use Rattle.epoch_host.proofs.stay.wanted.Goals as goal

pub returns-clause-own : goal.returns-clause-own
returns-clause-own c =
    let w = c.requires.works in
    let call = device_call_of cluster_version c.call.result.call in
    let below : w.host < HOSTS = (let less = c.requires.host in let same = w.leads.learner.is_host in omega (arith, less, same)) in
    let own = due_is_own w.shape w.host below w.memory c.call.result.disk call w.memory.doing w.here (c.call.ensures.next w.shape w.host w.memory w.leads) in
    subst (λ (h : ℕ). IsOwn (image_length cluster_version c.args.core.now.learner.shape.slots) h call) (sym w.leads.learner.is_host)
    (subst (λ (s : Shape). IsOwn (image_length cluster_version s.slots) w.host call) (sym w.leads.learner.shape) own)
