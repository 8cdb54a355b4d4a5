-- What the disks of a host gave, disk by disk.
use Rattle.std.specs.Prelude.{slice_get, slice_set}
use Rattle.std.proofs.Common.{ℕ, zero, suc, ◌≡◌, ◌==◌, Bool, true, false, true≢false, cond, Option, Some, None, List, [], ◌∷◌, ◌++◌, length, refl, sym, subst, ap, ◌∙◌, inl, inr}
use Rattle.std.proofs.lemmas.Bool.{cases_Bool, eqb-true, eq-eqb}
use Rattle.disk.specs.declared.fault.DiskFault.{DiskFault}
use Rattle.disk.specs.declared.fault.DiskFault.TheVariants.{Reset, Failed, Gone}
use Rattle.disk.specs.Disk.{DiskState, Call, Attach, Read, Write, Sync, Answer, Step, IsUnder, FailureLeaves, success_of, done_by}
use Rattle.disk.specs.Filling.{spread}
use Rattle.disk.specs.Simulated.{SimState, refusal_under, refusal_of, failed_by, outcome_by}
use Rattle.disk.proofs.FillingLemmas.{length-spread}
use Rattle.paxos_block.specs.Shape.{Shape}
use Rattle.world.specs.Entry.{Filled, Called, on_disk}
use Rattle.dlm_images.specs.Operations.{Made, Gave}
use Rattle.at_once.specs.AtOnce.{Serves}
use Rattle.at_once.specs.Deeds.{calls}
use Rattle.at_once.specs.Disks.{on_one, GaveAlone, GaveOn, EachGave, GivingServes, SimulatedSteps}

-- EACH BY ITSELF

module _ {A : Type 0} where
  -- what is put at one place stands there, and elsewhere what stood there
  pub set_here : (xs : List A) (i : ℕ) (old new : A) → slice_get xs i ≡ Some old → slice_get (slice_set xs i new) i ≡ Some new
  set_here [] i old new is = absurd (cc)
  set_here (x ∷ xs) zero old new is = refl
  set_here (x ∷ xs) (suc i) old new is = set_here xs i old new is

  pub set_there : (xs : List A) (i k : ℕ) (new : A) → (i ≡ k → ⊥) → slice_get (slice_set xs i new) k ≡ slice_get xs k
  set_there [] i k new off = refl
  set_there (x ∷ xs) zero zero new off = absurd (off refl)
  set_there (x ∷ xs) zero (suc k) new off = refl
  set_there (x ∷ xs) (suc i) zero new off = refl
  set_there (x ∷ xs) (suc i) (suc k) new off = set_there xs i k new (λ e. off (ap (λ (n : ℕ). suc n) e))

module _ {D : Type 0} (gives : D → Call → Answer → D → Type 0) where
  first_on : (k : ℕ) (x : Made) (xs : List Made) (before after : D) → (x.disk == k) ≡ true → (between : D) → gives before x.call x.answer between → GaveAlone gives between (on_one k xs) after → GaveAlone gives before (on_one k (x ∷ xs)) after
  first_on k x xs before after is between gave rest = subst (λ (b : Bool). GaveAlone gives before (cond b (x ∷ on_one k xs) (on_one k xs)) after) (sym is) (between, gave, rest)

  other_on : (k : ℕ) (x : Made) (xs : List Made) (before after : D) → (x.disk == k) ≡ false → GaveAlone gives before (on_one k xs) after → GaveAlone gives before (on_one k (x ∷ xs)) after
  other_on k x xs before after off rest = subst (λ (b : Bool). GaveAlone gives before (cond b (x ∷ on_one k xs) (on_one k xs)) after) (sym off) rest

  pub each_gave : (made : List Made) (old new : List D) → Gave gives old made new → (k : ℕ) (before : D) → slice_get old k ≡ Some before → GaveOn gives k before made new
  each_gave [] old new gave k before is = record { after = before; is = ap (λ (l : List D). slice_get l k) gave ∙ is; gave = refl }
  each_gave (x ∷ xs) old new gave k before is =
      let one = gave.1 in
      elim (cases_Bool (x.disk == k)) [
        | inl same ↦
            let at : x.disk ≡ k = eqb-true x.disk k same in
            let then : slice_get gave.0 k ≡ Some one.after =
            ap (λ (l : List D). slice_get l k) one.others ∙ subst (λ (j : ℕ). slice_get (slice_set old x.disk one.after) j ≡ Some one.after) at (set_here old x.disk one.before one.after one.is) in
            let rest = each_gave xs gave.0 new gave.2 k one.after then in
            let both : Some one.before ≡ Some before = sym one.is ∙ ap (slice_get old) at ∙ is in
            let own : one.before ≡ before = cc in
            record {
              after = rest.after;
              is = rest.is;
              gave = first_on k x xs before rest.after same one.after (subst (λ (d : D). gives d x.call x.answer one.after) own one.gave) rest.gave;
            }
        | inr off ↦
            let then : slice_get gave.0 k ≡ Some before = ap (λ (l : List D). slice_get l k) one.others ∙ set_there old x.disk k one.after (λ e. true≢false (sym (eq-eqb x.disk k e) ∙ off)) ∙ is in
            let rest = each_gave xs gave.0 new gave.2 k before then in
            record { after = rest.after; is = rest.is; gave = other_on k x xs before rest.after off rest.gave }
      ]

  -- IT SERVES

  module _ (state : D → DiskState) (steps : (old new : D) (call : Call) (answer : Answer) → gives old call answer new → Step (state old) call answer (state new)) (c : Shape) (h k : ℕ) (after : D) (more : List Filled)
      (then : Serves c k (state after) more) where
    serves_by : (x : Made) (xs : List Made) (before : D) (b : Bool) → ((d : D) → GaveAlone gives d (on_one k xs) after → Serves c k (state d) (on_disk k (calls h xs) ++ more)) → GaveAlone gives before (cond b (x ∷ on_one k xs) (on_one k xs)) after
        → Serves c k (state before) (cond b (Called h x.disk x.call x.answer [] ∷ on_disk k (calls h xs)) (on_disk k (calls h xs)) ++ more)
    serves_by x xs before true rest gave = (state gave.0, steps before gave.0 x.call x.answer gave.1, rest gave.0 gave.2)
    serves_by x xs before false rest gave = rest before gave

    serves : (made : List Made) (before : D) → GaveAlone gives before (on_one k made) after → Serves c k (state before) (on_disk k (calls h made) ++ more)
    serves [] before gave = subst (λ (d : D). Serves c k (state d) more) gave then
    serves (x ∷ xs) before gave = serves_by x xs before (x.disk == k) (λ d rest. serves xs d rest) gave

pub each_gave_alone : {D : Type 0} (gives : D → Call → Answer → D → Type 0) → EachGave gives
each_gave_alone gives old new made gave k before is = each_gave gives made old new gave k before is

pub giving_serves : {D : Type 0} (gives : D → Call → Answer → D → Type 0) (state : D → DiskState) → GivingServes gives state
giving_serves gives state steps c h k before after made more gave then = serves gives state steps c h k after more then made before gave

-- A SIMULATED DISK

-- why a call is refused
IsRefusal : DiskState → Call → Option DiskFault → Type 0
IsRefusal disk call None = (disk.gone ≡ false) × IsUnder call disk.boot
IsRefusal disk call (Some Gone) = disk.gone ≡ true
IsRefusal disk call (Some Reset) = (disk.gone ≡ false) × (IsUnder call disk.boot → ⊥)
IsRefusal disk call (Some Failed) = ⊥

module _ (disk : DiskState) (call : Call) (boot : ℕ) (to : boot ≡ disk.boot → IsUnder call disk.boot) (back : IsUnder call disk.boot → boot ≡ disk.boot) where
  refusal_by : (lost same : Bool) → disk.gone ≡ lost → (boot == disk.boot) ≡ same → IsRefusal disk call (cond lost (Some Gone) (cond same None (Some Reset)))
  unfolding IsRefusal
  refusal_by true same lost is = lost
  refusal_by false true there is = (there, to (eqb-true boot disk.boot is))
  refusal_by false false there is = (there, λ under. true≢false (sym (eq-eqb boot disk.boot (back under)) ∙ is))

  refusal_is : IsRefusal disk call (refusal_under disk boot)
  refusal_is = refusal_by disk.gone (boot == disk.boot) refl refl

refusals : (disk : DiskState) (call : Call) → IsRefusal disk call (refusal_of disk call)
refusals disk Attach = refusal_is disk Attach disk.boot (λ e. tt) (λ u. refl)
refusals disk (Read boot at len) = refusal_is disk (Read boot at len) boot (λ e. e) (λ e. e)
refusals disk (Write boot at from) = refusal_is disk (Write boot at from) boot (λ e. e) (λ e. e)
refusals disk (Sync boot) = refusal_is disk (Sync boot) boot (λ e. e) (λ e. e)

fails_so : (old : DiskState) (call : Call) (given : List ℕ) → FailureLeaves call old (failed_by old call given)
fails_so old Attach given = refl
fails_so old (Read boot at len) given = refl
fails_so old (Write boot at from) given = record { left = spread given 0 (length from); as_many = length-spread given 0 (length from); leaves = refl }
fails_so old (Sync boot) given = refl

succeeds_so : (old : DiskState) (call : Call) → old.gone ≡ false → IsUnder call old.boot → Step old call (success_of old call) (done_by old call)
succeeds_so old Attach there under = (there, under, (refl, refl))
succeeds_so old (Read boot at len) there under = (there, under, (refl, refl))
succeeds_so old (Write boot at from) there under = (there, under, (refl, refl))
succeeds_so old (Sync boot) there under = (there, under, (refl, refl))

steps_by : (old : SimState) (call : Call) (refusal : Option DiskFault) (failing : Option (List ℕ)) → IsRefusal old.disk call refusal →
    Step old.disk call (outcome_by old call refusal failing).1 (outcome_by old call refusal failing).0.disk
unfolding IsRefusal
steps_by old call (Some Gone) failing is = (is, refl)
steps_by old call (Some Reset) failing is = (is.0, is.1, refl)
steps_by old call (Some Failed) failing is = absurd is
steps_by old call None (Some given) is = (is.0, is.1, fails_so old.disk call given)
steps_by old call None None is = succeeds_so old.disk call is.0 is.1

pub simulated_steps : SimulatedSteps
simulated_steps old new call answer is =
    subst (λ (p : SimState × Answer). Step old.disk call p.1 p.0.disk) (sym is) (steps_by old call (refusal_of old.disk call) old.failing (refusals old.disk call))
