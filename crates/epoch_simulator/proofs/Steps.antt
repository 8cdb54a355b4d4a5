-- What a simulated disk makes of a call is a step of the model.
use Rattle.std.specs.Prelude.{if◌then◌else◌}
use Rattle.std.proofs.Common.{ℕ, ◌≡◌, ◌==◌, Bool, true, false, Some, None, List, refl, sym, ap, ◌∙◌, subst}
use Rattle.std.proofs.lemmas.Bool.{eqb-true, eq-eqb}
use Rattle.disk.specs.declared.fault.DiskFault.TheVariants.{Reset, Failed, Gone}
use Rattle.disk.specs.Disk.{DiskState, Call, Attach, Read, Write, Sync, Answer, Fault, IsUnder, FailureLeaves, Step, success_of, done_by}
use Rattle.disk.specs.Simulated.{SimState, failed_by, outcome, outcome_by, refusal_of}
use Rattle.world.specs.World.{Tears}
use Rattle.epoch_simulator.specs.Doing.{is_write, left_by}
use Rattle.epoch_simulator.specs.Kept.{calm}

-- the answer and the disk are a step, and no failure was asked for
pub record IsStep (disk : DiskState) (call : Call) (o : SimState × Answer) : Type 0 where
  pub step : Step disk call o.1 o.0.disk
  pub calm_still : o.0 ≡ calm o.0.disk

-- a call that succeeds
well : (disk : DiskState) (call : Call) → disk.gone ≡ false → IsUnder call disk.boot → Step disk call (success_of disk call) (done_by disk call)
well disk Attach there under = (there, under, (refl, refl))
well disk (Read boot at len) there under = (there, under, (refl, refl))
well disk (Write boot at from) there under = (there, under, (refl, refl))
well disk (Sync boot) there under = (there, under, (refl, refl))

-- a call under a boot number that is or is not the disk's
under : (disk : DiskState) (call : Call) (gone same : Bool) → disk.gone ≡ gone → (same ≡ true → IsUnder call disk.boot) → (same ≡ false → IsUnder call disk.boot → ⊥)
    → IsStep disk call (outcome_by (calm disk) call (if gone then Some Gone else if same then None else Some Reset) None)
under disk call true same is now old = record { step = (is, refl); calm_still = refl }
under disk call false false is now old = record { step = (is, old refl, refl); calm_still = refl }
under disk call false true is now old = record { step = well disk call is (now refl); calm_still = refl }

not_same : (a b : ℕ) → (a == b) ≡ false → a ≡ b → ⊥
not_same a b is same = absurd (let e : (a == b) ≡ true = eq-eqb a b same in cc)

pub is_step : (disk : DiskState) (call : Call) → IsStep disk call (outcome (calm disk) call)
is_step disk Attach = under disk Attach disk.gone (disk.boot == disk.boot) refl (λ e. tt) (λ e u. not_same disk.boot disk.boot e refl)
is_step disk (Read boot at len) = under disk (Read boot at len) disk.gone (boot == disk.boot) refl (eqb-true boot disk.boot) (not_same boot disk.boot)
is_step disk (Write boot at from) = under disk (Write boot at from) disk.gone (boot == disk.boot) refl (eqb-true boot disk.boot) (not_same boot disk.boot)
is_step disk (Sync boot) = under disk (Sync boot) disk.gone (boot == disk.boot) refl (eqb-true boot disk.boot) (not_same boot disk.boot)

-- A CALL THAT IS NOT REFUSED

pub record IsTaken (disk : DiskState) (call : Call) : Type 0 where
  pub there : disk.gone ≡ false
  pub under : IsUnder call disk.boot

taken_by : (disk : DiskState) (call : Call) (gone same : Bool) → disk.gone ≡ gone → (same ≡ true → IsUnder call disk.boot) → (if gone then Some Gone else if same then None else Some Reset) ≡ None → IsTaken disk call
taken_by disk call true same is now none = absurd (cc)
taken_by disk call false false is now none = absurd (cc)
taken_by disk call false true is now none = record { there = is; under = now refl }

pub is_taken : (disk : DiskState) (call : Call) → refusal_of disk call ≡ None → IsTaken disk call
is_taken disk Attach none = taken_by disk Attach disk.gone (disk.boot == disk.boot) refl (λ e. tt) none
is_taken disk (Read boot at len) none = taken_by disk (Read boot at len) disk.gone (boot == disk.boot) refl (eqb-true boot disk.boot) none
is_taken disk (Write boot at from) none = taken_by disk (Write boot at from) disk.gone (boot == disk.boot) refl (eqb-true boot disk.boot) none
is_taken disk (Sync boot) none = taken_by disk (Sync boot) disk.gone (boot == disk.boot) refl (eqb-true boot disk.boot) none

-- it may fail,
pub fails : (disk left : DiskState) (call : Call) → refusal_of disk call ≡ None → FailureLeaves call disk left → Step disk call (Fault Failed) left
fails disk left call none leaves = let taken = is_taken disk call none in (taken.there, taken.under, leaves)

-- and a write may be torn
pub tears : (disk left : DiskState) (call : Call) → is_write call ≡ true → refusal_of disk call ≡ None → FailureLeaves call disk left → Tears call disk left
tears disk left Attach writes none leaves = absurd (cc)
tears disk left (Read boot at len) writes none leaves = absurd (cc)
tears disk left (Write boot at from) writes none leaves = let taken = is_taken disk (Write boot at from) none in (taken.there, taken.under, leaves)
tears disk left (Sync boot) writes none leaves = absurd (cc)

-- OF WHAT IS KEPT OF A DISK

pub calm_by : (s : SimState) (disk : DiskState) → s ≡ calm disk → s ≡ calm s.disk
calm_by s disk is = is ∙ ap calm (sym (ap (λ (o : SimState). o.disk) is))

pub step_of : (x left : SimState) (call : Call) (answer : Answer) → x ≡ calm x.disk → (left, answer) ≡ outcome x call → IsStep x.disk call (left, answer)
step_of x left call answer is gave =
    subst (IsStep x.disk call) (sym gave) (subst (λ (s : SimState). IsStep x.disk call (outcome s call)) (sym is) (is_step x.disk call))

-- a call that is not made to its end asks for no failure
pub calm_left : (x left : SimState) (call : Call) (given : List ℕ) → x ≡ calm x.disk → left ≡ left_by x call given → left ≡ calm left.disk
calm_left x left call given is left_is = calm_by left (failed_by x.disk call given) (left_is ∙ ap (λ (s : SimState). record s { disk = failed_by x.disk call given }) is)
