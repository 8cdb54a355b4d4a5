-- The step of a read, and the call that is due in it.
use Rattle.std.specs.Prelude.{◌==◌, ◌&&◌}
use Rattle.std.proofs.Common.{ℕ, ◌≡◌, ◌∙◌, Bool, true, false, List, Option, Some, None, refl, sym, ap, subst, inl, inr}
use Rattle.std.proofs.lemmas.Bool.{cond-true, cond-false, cases_Bool, eq-eqb, eqb-true}
use Rattle.disk.specs.Disk.{Call, Read}
use Rattle.disk.specs.declared.boot.Boot.{Boot}
use Rattle.standings.specs.declared.epoch.Epoch.{Epoch}
use Rattle.standings.specs.Past.{Past, Spares}
use Rattle.window.specs.declared.sight.Sight.{Sight}
use Rattle.window.specs.declared.step.Reading.{Reading}
use Rattle.window.specs.declared.step.Step.{Step}
use Rattle.window.specs.declared.step.Step.TheVariants.{First, Row, Second}
use Rattle.window.specs.Knows.{AreNumbersOf, HasRead, Knows, KnowsOf}
use Rattle.window.specs.Steps.{first_step, is_of, numbers_under, read_due, step_by}

-- Whatever is due in a read is a read under its boot number.
pub record IsRead (boot : ℕ) (call : Call) : Type 0 where
  pub at : ℕ
  pub len : ℕ
  pub is : call ≡ Read boot at len

pub due_is_read : (n area boot at len : ℕ) (step : Step) → IsRead boot (read_due n area boot at len step)
due_is_read n area boot at len First = record { at = _; len = _; is = refl }
due_is_read n area boot at len (Row first is_last) = record { at = _; len = _; is = refl }
due_is_read n area boot at len (Second first is_last) = record { at = _; len = _; is = refl }

pub read_spares : (place length boot : ℕ) (call : Call) → IsRead boot call → Spares place length call
read_spares place length boot call is = subst (Spares place length) (sym is.is) tt

-- three tests that hold
all_three : (a b c : Bool) → a ≡ true → b ≡ true → c ≡ true → (a && b && c) ≡ true
all_three true true true x y z = refl
all_three false b c x y z = x
all_three true false c x y z = y
all_three true true false x y z = z

first_of : (a b c : Bool) → (a && b && c) ≡ true → (a ≡ true) × (b ≡ true) × (c ≡ true)
first_of true true true is = (refl, refl, refl)
first_of true true false is = absurd (let wrong : false ≡ true = is in cc)
first_of true false c is = absurd (let wrong : false ≡ true = is in cc)
first_of false b c is = absurd (let wrong : false ≡ true = is in cc)

-- a read that has begun is at its step
pub begun : (sight : Option Sight) (disk at : ℕ) (boot : Boot) (step : Step) →
    step_by (Some (record { disk = disk; boot = boot; at = at; step = step })) sight disk boot.number at ≡ step
begun sight disk at boot step =
    cond-true ((disk == disk) && (boot.number == boot.number) && (at == at)) step (first_step (numbers_under boot.number sight))
    (all_three (disk == disk) (boot.number == boot.number) (at == at) (eq-eqb disk disk refl) (eq-eqb boot.number boot.number refl) (eq-eqb at at refl))

-- what was read for it
module _ (n : ℕ) (e : Epoch) (host : ℕ) (past : Past) (boot : ℕ) where
  under : (s : Sight) → Knows n e host past s → AreNumbersOf n e.area boot (numbers_under boot (Some s)) past
  under s is = elim (cases_Bool (s.boot.number == boot)) [
    | inl same ↦
        subst (λ (o : Option (List ℕ)). AreNumbersOf n e.area boot o past) (sym (cond-true (s.boot.number == boot) s.numbers None same))
        (subst (λ (b : ℕ). AreNumbersOf n e.area b s.numbers past) (eqb-true s.boot.number boot same) is.numbers)
    | inr other ↦ subst (λ (o : Option (List ℕ)). AreNumbersOf n e.area boot o past) (sym (cond-false (s.boot.number == boot) s.numbers None other)) tt
  ]

  pub under_of : (s : Option Sight) → KnowsOf n e host past s → AreNumbersOf n e.area boot (numbers_under boot s) past
  under_of None is = tt
  under_of (Some s) is = under s is

module _ (n : ℕ) (e : Epoch) (host : ℕ) (past : Past) (row : List ℕ) (boot at : ℕ) where
  first_known : (o : Option (List ℕ)) → AreNumbersOf n e.area boot o past → HasRead n e boot at row past (first_step o)
  first_known None is = tt
  first_known (Some first) is = is

  pub step_known : (under_way : Option Reading) (s : Option Sight) (disk : ℕ) (pasts : ℕ → Past) → past ≡ pasts disk → KnowsOf n e host past s →
      ((r : Reading) → under_way ≡ Some r → HasRead n e r.boot.number r.at row (pasts r.disk) r.step) →
      HasRead n e boot at row past (step_by under_way s disk boot at)
  step_known None s disk pasts here is reads = first_known (numbers_under boot s) (under_of n e host past boot s is)
  step_known (Some r) s disk pasts here is reads =
      let first = first_step (numbers_under boot s) in
      elim (cases_Bool (is_of r disk boot at)) [
        | inl same ↦
            (let t = first_of (r.disk == disk) (r.boot.number == boot) (r.at == at) same in
            subst (HasRead n e boot at row past) (sym (cond-true (is_of r disk boot at) r.step first same))
            (subst (λ (p : Past). HasRead n e boot at row p r.step) (ap pasts (eqb-true r.disk disk t.0) ∙ sym here)
            (subst (λ (b : ℕ). HasRead n e b at row (pasts r.disk) r.step) (eqb-true r.boot.number boot t.1)
            (subst (λ (a : ℕ). HasRead n e r.boot.number a row (pasts r.disk) r.step) (eqb-true r.at at t.2) (reads r refl)))))
        | inr other ↦
            subst (HasRead n e boot at row past) (sym (cond-false (is_of r disk boot at) r.step first other))
            (first_known (numbers_under boot s) (under_of n e host past boot s is))
      ]

-- WHERE THE STANDINGS ALONE ARE LEFT TO BE READ

-- so no read begins
not_first : (o : Option (List ℕ)) (first : List ℕ) (is_last : Bool) → first_step o ≡ Second first is_last → ⊥
not_first None first is_last is = absurd cc
not_first (Some numbers) first is_last is = absurd cc

-- the read under way is this one
pub record HasBegun (under_way : Option Reading) (disk boot at : ℕ) (step : Step) : Type 0 where
  pub reading : Reading
  pub is : under_way ≡ Some reading
  pub is_disk : reading.disk ≡ disk
  pub is_boot : reading.boot.number ≡ boot
  pub is_at : reading.at ≡ at
  pub is_step : reading.step ≡ step

pub has_begun : (under_way : Option Reading) (s : Option Sight) (disk boot at : ℕ) (first : List ℕ) (is_last : Bool) →
    step_by under_way s disk boot at ≡ Second first is_last → HasBegun under_way disk boot at (Second first is_last)
has_begun None s disk boot at first is_last is = absurd (not_first (numbers_under boot s) first is_last is)
has_begun (Some r) s disk boot at first is_last is =
    let anew = first_step (numbers_under boot s) in
    elim (cases_Bool (is_of r disk boot at)) [
      | inl same ↦
          (let t = first_of (r.disk == disk) (r.boot.number == boot) (r.at == at) same in
          record {
            reading = r;
            is = refl;
            is_disk = eqb-true r.disk disk t.0;
            is_boot = eqb-true r.boot.number boot t.1;
            is_at = eqb-true r.at at t.2;
            is_step = sym (cond-true (is_of r disk boot at) r.step anew same) ∙ is;
          })
      | inr other ↦ absurd (not_first (numbers_under boot s) first is_last (sym (cond-false (is_of r disk boot at) r.step anew other) ∙ is))
    ]
