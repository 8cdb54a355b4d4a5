use Rattle.std.proofs.Common.{Option, length, refl, sym, ap, subst, ◌∙◌}
use Rattle.lock_command.specs.declared.command.Command.{Command}
use Rattle.host.specs.Host.{idles}
use Rattle.world.specs.World.{MayBeGiven}
use Rattle.cluster_tie.specs.Parts.{Own}
use Rattle.cluster.specs.Seat.{host_in}
use Rattle.cluster.proofs.Begun.{begun, idle_there, may_begin, Begins}
use Rattle.cluster.proofs.journal.Journal.begin.Goals as goal

pub keep-requires : goal.keep-requires
keep-requires g c =
    let shape = g.N.ClusterName.shape in
    let own = c.seat.inside.tie in
    let log = c.args.self.now.log in
    let idle = ap (λ (o : Own). idles (host_in shape o)) c.seat.view_is ∙ c.requires.idle in
    let may = subst (λ (o : Own). MayBeGiven shape o.number c.args.task.now) (sym c.seat.view_is) c.requires.may in
    record {
      entry = refl;
      host = c.host-host.ensures ∙ c.seat.invariant.running.leads.learner.is_host;
      may = λ part. (idle_there shape log own idle part, may);
    }

pub begin-requires-clause-may : goal.begin-requires-clause-may
begin-requires-clause-may g c =
    may_begin g.N.ClusterName.shape c.args.seat.now.number c.seat.inside.core c.args.task.now (c.seat.invariant.running.leads.learner.is_host ∙ ap (λ (o : Own). o.number) c.seat.view_is) c.requires.may

pub invariant_of-seat-2 : goal.invariant_of-seat-2
invariant_of-seat-2 g c =
    let shape = g.N.ClusterName.shape in
    let s = c.seat.invariant in
    let own = c.seat.inside.tie in
    let core = c.seat.inside.core in
    let idle = ap (λ (o : Own). idles (host_in shape o)) c.seat.view_is ∙ c.requires.idle in
    let b = begun shape own core c.begin.new.self c.seat.inside.submitting (length c.args.self.now.log) c.args.task.now s.running idle (c.begin.ensures shape own.number) in
    let k = subst (λ (p : Own × Option Command). Begins shape own p.0 core c.begin.new.self p.1) (λ i. (sym c.in_ok-keep.ensures.tie i, sym c.command_of-seat-inside.ensures i)) b in
    record { running = k.running; acks = s.acks ∙ k.acks; few = k.few (length c.seat.inside.acks.items) s.few; room = s.room }
