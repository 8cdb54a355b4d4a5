use Rattle.std.specs.Prelude.{replicate, is_some}
use Rattle.std.proofs.Common.{ℕ, ◌+◌, ◌-◌, ◌≡◌, List, Option, refl, subst, arith}
use Rattle.lock_command.specs.declared.command.Command.{Command}
use Rattle.world.specs.Happens.{Step}
use Rattle.simulator.specs.Past.{Past}
use Rattle.fault_sweep.specs.Replayed.{later, IsOf, Heard, HasKept}
use Rattle.fault_sweep.proofs.Covering.{kept_still}
use Rattle.fault_sweep.proofs.Replaying.{later_steps, heard_still}
use Rattle.fault_sweep.proofs.replay.Replay.step.Goals as goal

kept_there : {a b : Past} {learned : Option (List Command)} (start : Past) → a ≡ b → HasKept start a learned → HasKept start b learned
kept_there {a} {b} {learned} start same kept = subst (λ (q : Past). HasKept start q learned) same kept

-- the steps that are left are passed
module _ (c : goal.After-pass) (p : Past) where
  abbrev here : Past
  here = later p (replicate c.loop-done.done (Step c.args.host))

  all : later here (replicate (c.args.steps - c.loop-done.done) (Step c.args.host)) ≡ later p (replicate c.args.steps (Step c.args.host))
  all = later_steps p c.args.host c.loop-done.done (c.args.steps - c.loop-done.done) c.args.steps (omega (arith, c.loop-done-test.true))

pub returns-then-is_idle-clause-happened : goal.returns-then-is_idle-clause-happened
returns-then-is_idle-clause-happened c =
    λ p is. subst (λ (q : Past). IsOf q c.pass.new.self) (all c p) (c.pass.ensures.happened (here c p) (c.loop-done.invariant.happened p is))

pub returns-then-is_idle-clause-heard : goal.returns-then-is_idle-clause-heard
returns-then-is_idle-clause-heard c =
    λ start p is heard.
    subst (λ (q : Past). Heard start q (is_some c.loop-done.learned)) (all c p)
    (heard_still start (here c p) (later (here c p) (replicate (c.args.steps - c.loop-done.done) (Step c.args.host))) (is_some c.loop-done.learned)
    (c.pass.ensures.quiet (here c p) (c.loop-done.invariant.happened p is)) (c.loop-done.invariant.heard start p is heard))

pub returns-then-is_idle-clause-kept : goal.returns-then-is_idle-clause-kept
returns-then-is_idle-clause-kept c =
    λ start p is kept.
    let rest = replicate (c.args.steps - c.loop-done.done) (Step c.args.host) in
    kept_there start (all c p) (kept_still start (here c p) (later (here c p) rest) rest _ refl (c.loop-done.invariant.kept start p is kept))

-- the steps so far, and those that it makes now
one : (p : Past) (h k m : ℕ) → later (later p (replicate k (Step h))) (replicate m (Step h)) ≡ later p (replicate (k + m) (Step h))
one p h k m = later_steps p h k m (k + m) refl

pub loop-done-preserved : goal.loop-done-preserved
loop-done-preserved c =
    let h = c.args.host in
    let k = c.loop-done.done in
    let m = c.in_ok-done.field-0 in
    let here : Past → Past = λ p. later p (replicate k (Step h)) in
    record {
      within = omega (arith, c.in_ok-done.ensures.made.1, c.loop-done-test.true);
      counted = omega (arith, c.in_ok-done.ensures.counted);
      happened = λ p is. subst (λ (q : Past). IsOf q c.listen_steps.new.self) (one p h k m) (c.in_ok-done.ensures.happened (here p) (c.loop-done.invariant.happened p is));
      heard = λ start p is heard.
          subst (λ (q : Past). Heard start q (is_some c.listen_steps.new.learned)) (one p h k m)
          (c.in_ok-done.ensures.heard start (here p) (c.loop-done.invariant.happened p is) (c.loop-done.invariant.heard start p is heard));
      kept = λ start p is kept.
          kept_there start (one p h k m)
          (c.in_ok-done.ensures.kept start (here p) (c.loop-done.invariant.happened p is) (c.loop-done.invariant.kept start p is kept));
    }
