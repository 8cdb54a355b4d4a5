use Rattle.std.proofs.Common.{rules, subst, inr}
use Rattle.host.specs.Host.{learned_of}
use Rattle.world.specs.Entry.{Begin}
use Rattle.cluster_tie.specs.Parts.{Own}
use Rattle.cluster.specs.Operations.{Fails, HasAnswered, IsAnswer, IsRefusedBy, Stops, said_by}
use Rattle.cluster.specs.Seat.{host_in}
use Rattle.cluster.specs.declared.fault.HostFault.{HostFault}
use Rattle.cluster.specs.declared.operate.Resumed.{Resumed}
use Rattle.cluster.proofs.Looking.{looked, stopped, unbegun}
use Rattle.cluster.proofs.Operating.{gave_its, goes_on_so, refused, task_begun}
use Rattle.cluster.proofs.cluster.Cluster.carry_out.Goals as goal

pub go_on-requires : goal.go_on-requires
go_on-requires g c = (c.args.task.now, task_begun g.N.ClusterName.shape c.args.task.now c.args.seat.now c.begin.new.seat _ c.requires.idle c.in_ok-begin.ensures.seat)

pub outcome-requires-clause-carried : goal.outcome-requires-clause-carried
outcome-requires-clause-carried g c = (
  c.args.task.now,
  goes_on_so g.N.ClusterName.shape c.args.task.now c.begin.new.seat c.go_on.new.seat (task_begun g.N.ClusterName.shape c.args.task.now c.args.seat.now c.begin.new.seat _ c.requires.idle c.in_ok-begin.ensures.seat) c.in_ok-go_on.ensures.steps,
)

pub returns-clause-carried : goal.returns-clause-carried
returns-clause-carried g c =
    let shape = g.N.ClusterName.shape in
    let carried = goes_on_so shape c.args.task.now c.begin.new.seat c.go_on.new.seat (task_begun shape c.args.task.now c.args.seat.now c.begin.new.seat _ c.requires.idle c.in_ok-begin.ensures.seat) c.in_ok-go_on.ensures.steps in
    search (rules, carried)

pub returns-clause-its : goal.returns-clause-its
returns-clause-its g c =
    let shape = g.N.ClusterName.shape in
    let carried = goes_on_so shape c.args.task.now c.begin.new.seat c.go_on.new.seat (task_begun shape c.args.task.now c.args.seat.now c.begin.new.seat _ c.requires.idle c.in_ok-begin.ensures.seat) c.in_ok-go_on.ensures.steps in
    let its : (gave : Resumed) → HasAnswered shape gave c.go_on.new.seat → IsAnswer c.args.task.now (learned_of (host_in shape c.go_on.new.seat)) (said_by gave) = gave_its shape c.args.task.now c.go_on.new.seat carried c.in_ok-go_on.ensures.idle in
    search (rules, its)

pub returns-clause-err : goal.returns-clause-err
returns-clause-err g c =
    let shape = g.N.ClusterName.shape in
    let failed : (fault : HostFault) → IsRefusedBy shape fault c.go_on.new.seat → Fails shape (Begin c.args.seat.now.number c.args.task.now) fault c.args.seat.now c.go_on.new.seat = λ fault is.
    inr (_, subst (λ (o : Own). Stops shape fault o c.go_on.new.seat) c.in_ok-begin.ensures.seat (refused shape c.args.task.now fault c.begin.new.seat c.go_on.new.seat (task_begun shape c.args.task.now c.args.seat.now c.begin.new.seat _ c.requires.idle c.in_ok-begin.ensures.seat) c.in_ok-go_on.ensures.steps is)) in
    search (rules, failed)

pub returns-clause-look : goal.returns-clause-look
returns-clause-look g c = λ look. looked g.N.ClusterName.shape c.args.task.now c.args.seat.now c.begin.new.seat c.go_on.new.seat _ look c.requires.idle c.in_ok-begin.ensures.seat c.in_ok-go_on.ensures.steps

pub returns-in_err-go_on-clause-look : goal.returns-in_err-go_on-clause-look
returns-in_err-go_on-clause-look g c = λ look. stopped g.N.ClusterName.shape c.args.task.now _ c.args.seat.now c.begin.new.seat c.go_on.new.seat _ look c.requires.idle c.in_ok-begin.ensures.seat c.in_err-go_on.ensures.err

pub returns-in_err-begin-clause-look : goal.returns-in_err-begin-clause-look
returns-in_err-begin-clause-look g c = λ look. unbegun c.args.seat.now c.begin.new.seat c.in_err-begin.ensures.unchanged.0
