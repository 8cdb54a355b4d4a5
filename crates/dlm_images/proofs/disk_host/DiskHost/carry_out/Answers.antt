use Rattle.std.proofs.Common.{◌≡◌, ◌≤◌, ◌++◌, ℕ, List, Option, Some, length, take, drop, slice_get, arith, refl, sym, ◌∙◌, subst, ap}
use Rattle.torn_block.specs.Layout.{cluster_version}
use Rattle.paxos_block.specs.Places.{image_length}
use Rattle.paxos_block.specs.Shape.{Shape}
use Rattle.host.specs.declared.answer.HostAnswer.{HostAnswer}
use Rattle.dlm_images.specs.Operations.{Standing, HasCarriedOut}
use Rattle.host.specs.Host.{starts}
use Rattle.host.specs.Kept.{MayBegin}
use Rattle.dlm_images.specs.Tasks.{EndsTask, StaysWithin}
use Rattle.dlm_images.proofs.Counting.{rests_then, stays_within}
use Rattle.dlm_images.proofs.Driving.{known_begun, begun_shape, carried_out, same_host, task_ends, said_some, written_back}
use Rattle.dlm_images.proofs.disk_host.DiskHost.carry_out.Goals as goal

pub begin-requires-clause-may : goal.begin-requires-clause-may
begin-requires-clause-may g c = subst (λ (s : Standing g.row.D.Denot). MayBegin s.core c.args.task) (sym c.self.view_is) c.requires.may

pub drive-requires-clause-known : goal.drive-requires-clause-known
drive-requires-clause-known g c =
    known_begun c.args.task c.self.inside.core c.begin.new.self c.requires.asked c.self.invariant.known c.begin.ensures

pub drive-requires-clause-as_many : goal.drive-requires-clause-as_many
drive-requires-clause-as_many g c =
    let same : c.begin.new.self.learner.shape ≡ c.self.inside.core.learner.shape = begun_shape (λ s m. starts s m c.args.task) c.self.inside.core c.begin.new.self c.self.invariant.known c.begin.ensures in
    ap length c.deref_mut.ensures.value ∙ c.self.invariant.as_many ∙ ap (λ (s : Shape). s.disks) (sym same)

pub drive-requires-clause-few : goal.drive-requires-clause-few
drive-requires-clause-few g c =
    let same : c.begin.new.self.learner.shape ≡ c.self.inside.core.learner.shape = begun_shape (λ s m. starts s m c.args.task) c.self.inside.core c.begin.new.self c.self.invariant.known c.begin.ensures in
    let few : length c.deref_mut.result.now ≡ c.self.inside.core.learner.shape.disks = ap length c.deref_mut.ensures.value ∙ c.self.invariant.as_many in
    let slots : c.begin.new.self.learner.shape.slots ≡ c.self.inside.core.learner.shape.slots = ap (λ (s : Shape). s.slots) same in
    (omega (arith, few, c.self.invariant.small.disks), omega (arith, slots, c.self.invariant.small.slots))

pub drive-requires-clause-large : goal.drive-requires-clause-large
drive-requires-clause-large g c =
    let same : c.begin.new.self.learner.shape ≡ c.self.inside.core.learner.shape = begun_shape (λ s m. starts s m c.args.task) c.self.inside.core c.begin.new.self c.self.invariant.known c.begin.ensures in
    subst (λ (s : Shape). (k : ℕ) (d : g.row.D.Denot) → slice_get c.deref_mut.result.now k ≡ Some d → image_length cluster_version s.slots ≤ (g.D.Disk.device d).size) (sym same)
    (subst (λ (ds : List g.row.D.Denot). (k : ℕ) (d : g.row.D.Denot) → slice_get ds k ≡ Some d → image_length cluster_version c.self.inside.core.learner.shape.slots ≤ (g.D.Disk.device d).size) (sym c.deref_mut.ensures.value)
    c.self.invariant.large)

pub answered-requires : goal.answered-requires
answered-requires g c =
    let done : HasCarriedOut g.D.Disk.gives (λ s m. starts s m c.args.task) (record { core = c.self.inside.core; disks = c.self.inside.disks.items }) (record { core = c.drive.new.host; disks = c.drive.new.disks }) =
    carried_out g.D.Disk.gives (λ s m. starts s m c.args.task) c.self.inside.core c.begin.new.self c.drive.new.host c.self.inside.disks.items c.deref_mut.result.now c.drive.new.disks c.drive.new.disks c.begin.ensures c.deref_mut.ensures.value refl c.drive.ensures.heard c.drive.ensures.ended in
    said_some c.args.task c.drive.new.host.prefix c.drive.new.host.said
    (task_ends g.D.Disk.gives (record { core = c.self.inside.core; disks = c.self.inside.disks.items }) (record { core = c.drive.new.host; disks = c.drive.new.disks }) c.self.invariant.known c.args.task c.requires.asked done)

pub invariant_of-self : goal.invariant_of-self
invariant_of-self g c =
    let kept : take c.self.inside.disks.len (c.drive.new.disks ++ drop (length c.drive.new.disks) c.self.inside.disks.items) ≡ c.drive.new.disks =
    (written_back c.drive.new.disks c.self.inside.disks.items c.self.inside.disks.len (c.drive.auto.disks ∙ c.deref_mut.ensures.len)) in
    let done : HasCarriedOut g.D.Disk.gives (λ s m. starts s m c.args.task) (record { core = c.self.inside.core; disks = c.self.inside.disks.items }) (record { core = c.drive.new.host; disks = (take c.self.inside.disks.len (c.drive.new.disks ++ drop (length c.drive.new.disks) c.self.inside.disks.items)) }) =
    carried_out g.D.Disk.gives (λ s m. starts s m c.args.task) c.self.inside.core c.begin.new.self c.drive.new.host c.self.inside.disks.items c.deref_mut.result.now c.drive.new.disks (take c.self.inside.disks.len (c.drive.new.disks ++ drop (length c.drive.new.disks) c.self.inside.disks.items)) c.begin.ensures c.deref_mut.ensures.value (sym kept) c.drive.ensures.heard c.drive.ensures.ended in
    rests_then g.D.Disk.gives (λ d. (g.D.Disk.device d).size) (record { core = c.self.inside.core; disks = c.self.inside.disks.items }) (record { core = c.drive.new.host; disks = (take c.self.inside.disks.len (c.drive.new.disks ++ drop (length c.drive.new.disks) c.self.inside.disks.items)) }) c.self.invariant c.args.task (subst (λ (s : Standing g.row.D.Denot). MayBegin s.core c.args.task) (sym c.self.view_is) c.requires.may) c.requires.asked done
    (subst (λ (ds : List g.row.D.Denot). (k : ℕ) (d : g.row.D.Denot) → slice_get ds k ≡ Some d → image_length cluster_version c.drive.new.host.learner.shape.slots ≤ (g.D.Disk.device d).size) (sym kept)
    (subst (λ (s : Shape). (k : ℕ) (d : g.row.D.Denot) → slice_get c.drive.new.disks k ≡ Some d → image_length cluster_version s.slots ≤ (g.D.Disk.device d).size) (sym c.drive.ensures.shape)
    c.drive.ensures.large))

pub returns-clause-done : goal.returns-clause-done
returns-clause-done g c =
    subst (λ (s : Standing g.row.D.Denot). HasCarriedOut g.D.Disk.gives (λ s m. starts s m c.args.task) s (record { core = c.drive.new.host; disks = (take c.self.inside.disks.len (c.drive.new.disks ++ drop (length c.drive.new.disks) c.self.inside.disks.items)) })) c.self.view_is
    (carried_out g.D.Disk.gives (λ s m. starts s m c.args.task) c.self.inside.core c.begin.new.self c.drive.new.host c.self.inside.disks.items c.deref_mut.result.now c.drive.new.disks (take c.self.inside.disks.len (c.drive.new.disks ++ drop (length c.drive.new.disks) c.self.inside.disks.items)) c.begin.ensures c.deref_mut.ensures.value (sym (written_back c.drive.new.disks c.self.inside.disks.items c.self.inside.disks.len (c.drive.auto.disks ∙ c.deref_mut.ensures.len))) c.drive.ensures.heard c.drive.ensures.ended)

pub returns-clause-same : goal.returns-clause-same
returns-clause-same g c =
    let done : HasCarriedOut g.D.Disk.gives (λ s m. starts s m c.args.task) (record { core = c.self.inside.core; disks = c.self.inside.disks.items }) (record { core = c.drive.new.host; disks = c.drive.new.disks }) =
    carried_out g.D.Disk.gives (λ s m. starts s m c.args.task) c.self.inside.core c.begin.new.self c.drive.new.host c.self.inside.disks.items c.deref_mut.result.now c.drive.new.disks c.drive.new.disks c.begin.ensures c.deref_mut.ensures.value refl c.drive.ensures.heard c.drive.ensures.ended in
    subst (λ (s : Standing g.row.D.Denot). c.drive.new.host.learner.host ≡ s.core.learner.host) c.self.view_is
    (same_host g.D.Disk.gives (λ s m. starts s m c.args.task) (record { core = c.self.inside.core; disks = c.self.inside.disks.items }) (record { core = c.drive.new.host; disks = c.drive.new.disks }) c.self.invariant.known done)

pub returns-clause-ends : goal.returns-clause-ends
returns-clause-ends g c =
    let done : HasCarriedOut g.D.Disk.gives (λ s m. starts s m c.args.task) (record { core = c.self.inside.core; disks = c.self.inside.disks.items }) (record { core = c.drive.new.host; disks = c.drive.new.disks }) =
    carried_out g.D.Disk.gives (λ s m. starts s m c.args.task) c.self.inside.core c.begin.new.self c.drive.new.host c.self.inside.disks.items c.deref_mut.result.now c.drive.new.disks c.drive.new.disks c.begin.ensures c.deref_mut.ensures.value refl c.drive.ensures.heard c.drive.ensures.ended in
    subst (λ (said : Option HostAnswer). EndsTask c.args.task c.drive.new.host.prefix said) c.answered.ensures
    (task_ends g.D.Disk.gives (record { core = c.self.inside.core; disks = c.self.inside.disks.items }) (record { core = c.drive.new.host; disks = c.drive.new.disks }) c.self.invariant.known c.args.task c.requires.asked done)

pub returns-clause-within : goal.returns-clause-within
returns-clause-within g c =
    subst (λ (s : Standing g.row.D.Denot). StaysWithin g.D.Disk.gives c.args.task s (record { core = c.drive.new.host; disks = (take c.self.inside.disks.len (c.drive.new.disks ++ drop (length c.drive.new.disks) c.self.inside.disks.items)) })) c.self.view_is
    (stays_within g.D.Disk.gives (λ d. (g.D.Disk.device d).size) (record { core = c.self.inside.core; disks = c.self.inside.disks.items }) (record { core = c.drive.new.host; disks = (take c.self.inside.disks.len (c.drive.new.disks ++ drop (length c.drive.new.disks) c.self.inside.disks.items)) }) c.self.invariant c.args.task (subst (λ (s : Standing g.row.D.Denot). MayBegin s.core c.args.task) (sym c.self.view_is) c.requires.may)
    (carried_out g.D.Disk.gives (λ s m. starts s m c.args.task) c.self.inside.core c.begin.new.self c.drive.new.host c.self.inside.disks.items c.deref_mut.result.now c.drive.new.disks (take c.self.inside.disks.len (c.drive.new.disks ++ drop (length c.drive.new.disks) c.self.inside.disks.items)) c.begin.ensures c.deref_mut.ensures.value (sym (written_back c.drive.new.disks c.self.inside.disks.items c.self.inside.disks.len (c.drive.auto.disks ∙ c.deref_mut.ensures.len))) c.drive.ensures.heard c.drive.ensures.ended))
