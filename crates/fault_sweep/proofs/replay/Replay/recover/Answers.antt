use Rattle.std.specs.Prelude.{is_some, ◌*◌}
use Rattle.std.proofs.Common.{ℕ, ◌+◌, ◌≡◌, ◌≤◌, ap, ◌∙◌, arith}
use Rattle.std.proofs.lemmas.Nat.{mul-le}
use Rattle.paxos_block.specs.Shape.{Shape}
use Rattle.fault_sweep.specs.Replayed.{Heard, HasKept, Played}
use Rattle.fault_sweep.specs.Sweeping.{recovery}
use Rattle.fault_sweep.proofs.Covering.{nothing_kept}
use Rattle.fault_sweep.proofs.Replaying.{recovery_on, recovery_keeps, heard_nothing, all_heard}
use Rattle.fault_sweep.proofs.replay.Replay.recover.Goals as goal

-- the steps of a recovery are 17 for each disk in each slot and once more
few_steps : (disks slots : ℕ) → disks ≤ 7 → slots ≤ 4096 → 17 * disks * (slots + 1) ≤ 487543
few_steps disks slots few least = mul-le (17 * disks) (slots + 1) 119 4097 (omega arith) (omega arith)

pub step-requires : goal.step-requires
step-requires c =
    let few = few_steps c.from.result c.from-2.result (omega (arith, c.from.ensures, c.disks.ensures.range)) (omega (arith, c.from-2.ensures, c.slots.ensures.range)) in
    omega (arith, few, c.in_ok-listen.ensures.counted, c.in_ok-listen-2.ensures.counted)

pub listen-requires-3 : goal.listen-requires-3
listen-requires-3 c =
    let few = few_steps c.from.result c.from-2.result (omega (arith, c.from.ensures, c.disks.ensures.range)) (omega (arith, c.from-2.ensures, c.slots.ensures.range)) in
    omega (arith, few, c.in_ok-listen.ensures.counted, c.in_ok-listen-2.ensures.counted, c.in_ok-step.ensures.counted)

pub returns-clause-counted : goal.returns-clause-counted
returns-clause-counted c =
    let few = few_steps c.from.result c.from-2.result (omega (arith, c.from.ensures, c.disks.ensures.range)) (omega (arith, c.from-2.ensures, c.slots.ensures.range)) in
    omega (arith, few, c.in_ok-listen.ensures.counted, c.in_ok-listen-2.ensures.counted, c.in_ok-step.ensures.counted, c.in_ok-listen-3.ensures.counted)

pub returns-clause-happened : goal.returns-clause-happened
returns-clause-happened c =
    λ p is.
    let shape : c.self.inside.config ≡ p.opening.shape = c.self.invariant.0 ∙ ap (λ (r : Played). r.cluster.shape) c.self.view_is ∙ is.own in
    recovery_on p p.opening.shape c.in-Some.host c.args.number _ c.args.self.now c.listen.new.self c.listen-2.new.self c.step.new.self is
    c.in_ok-listen.ensures.happened c.in_ok-listen-2.ensures.happened c.in_ok-step.ensures.happened c.listen-3.new.self c.in_ok-listen-3.ensures.happened c.in-Some.ensures.host.1
    (ap (λ (d : ℕ). 17 * d * (c.from-2.result + 1)) (c.from.ensures ∙ c.disks.ensures.value ∙ ap (λ (s : Shape). s.disks) shape)
    ∙ ap (λ (n : ℕ). 17 * p.opening.shape.disks * (n + 1)) (c.from-2.ensures ∙ c.slots.ensures.value ∙ ap (λ (s : Shape). s.slots) shape))

pub returns-clause-learned : goal.returns-clause-learned
returns-clause-learned c =
    λ p is.
    let shape : c.self.inside.config ≡ p.opening.shape = c.self.invariant.0 ∙ ap (λ (r : Played). r.cluster.shape) c.self.view_is ∙ is.own in
    all_heard p (is_some c.listen-3.new.learned) (recovery p.opening.shape c.args.number)
    (recovery_keeps p p.opening.shape c.in-Some.host c.args.number _ c.args.self.now c.listen.new.self c.listen-2.new.self c.step.new.self is
    c.in_ok-listen.ensures.happened c.in_ok-listen-2.ensures.happened c.in_ok-step.ensures.happened
    Heard _ _ _ _ _ c.in_ok-listen.ensures.heard c.in_ok-listen-2.ensures.heard c.in_ok-step.ensures.heard c.in_ok-listen-3.ensures.heard (heard_nothing p) c.in-Some.ensures.host.1
    (ap (λ (d : ℕ). 17 * d * (c.from-2.result + 1)) (c.from.ensures ∙ c.disks.ensures.value ∙ ap (λ (s : Shape). s.disks) shape)
    ∙ ap (λ (n : ℕ). 17 * p.opening.shape.disks * (n + 1)) (c.from-2.ensures ∙ c.slots.ensures.value ∙ ap (λ (s : Shape). s.slots) shape)))

pub returns-clause-kept : goal.returns-clause-kept
returns-clause-kept c =
    λ p is.
    let shape : c.self.inside.config ≡ p.opening.shape = c.self.invariant.0 ∙ ap (λ (r : Played). r.cluster.shape) c.self.view_is ∙ is.own in
    (recovery_keeps p p.opening.shape c.in-Some.host c.args.number _ c.args.self.now c.listen.new.self c.listen-2.new.self c.step.new.self is
    c.in_ok-listen.ensures.happened c.in_ok-listen-2.ensures.happened c.in_ok-step.ensures.happened
    HasKept _ _ _ _ _ c.in_ok-listen.ensures.kept c.in_ok-listen-2.ensures.kept c.in_ok-step.ensures.kept c.in_ok-listen-3.ensures.kept (nothing_kept p) c.in-Some.ensures.host.1
    (ap (λ (d : ℕ). 17 * d * (c.from-2.result + 1)) (c.from.ensures ∙ c.disks.ensures.value ∙ ap (λ (s : Shape). s.disks) shape)
    ∙ ap (λ (n : ℕ). 17 * p.opening.shape.disks * (n + 1)) (c.from-2.ensures ∙ c.slots.ensures.value ∙ ap (λ (s : Shape). s.slots) shape))).has
