-- How many commands of the one log stand before each place of all epochs.
use Rattle.std.specs.Prelude.{◌-◌, ◌*◌, nat_lt}
use Rattle.std.proofs.Common.{ℕ, zero, suc, ◌≡◌, ◌+◌, ◌<◌, ◌≤◌, Bool, cond, refl, sym, ◌∙◌, ap, subst, inl, inr, arith}
use Rattle.std.proofs.Math.Nat.{suc-mul}
use Rattle.std.proofs.lemmas.Bool.{cases_lt, lt-ltb, le-ltb}
use Rattle.endless.specs.Headline.{Stretch, place_of}

-- From this epoch on, of so many more epochs; the last one goes on for ever.
pub counted : (slots : ℕ) (stretch : ℕ → Stretch) → (more e place : ℕ) → ℕ
counted slots stretch zero e place = place_of (stretch e) place
counted slots stretch (suc more) e place = cond (nat_lt place slots) (place_of (stretch e) place) (counted slots stretch more (suc e) (place - slots))

module _ (slots : ℕ) (some : 1 ≤ slots) (stretch : ℕ → Stretch) (last : ℕ) (next : (e : ℕ) → e < last → (stretch (suc e)).behind ≡ place_of (stretch e) slots) where
  abbrev count : (more e place : ℕ) → ℕ
  count more e place = counted slots stretch more e place

  ended : (e place : ℕ) → count 0 e place ≡ place_of (stretch e) place
  unfolding counted
  ended e place = refl

  within : (more e place : ℕ) → place < slots → count more e place ≡ place_of (stretch e) place
  unfolding counted
  within zero e place less = refl
  within (suc more) e place less = ap (λ (b : Bool). cond b (place_of (stretch e) place) (counted slots stretch more (suc e) (place - slots))) (lt-ltb place slots less)

  past : (more e place : ℕ) → slots ≤ place → count (suc more) e place ≡ count more (suc e) (place - slots)
  unfolding counted
  past more e place no_less = ap (λ (b : Bool). cond b (place_of (stretch e) place) (counted slots stretch more (suc e) (place - slots))) (le-ltb place slots no_less)

  -- AT A SLOT

  -- the first slot of an epoch is behind all of the one before
  at_first : (e : ℕ) → e < last → place_of (stretch (suc e)) 0 ≡ place_of (stretch e) slots
  at_first e less = let is = next e less in omega (arith, is)

  here : (more e slot : ℕ) → e + more ≤ last → slot ≤ slots → count more e slot ≡ place_of (stretch e) slot
  here zero e slot upto low = ended e slot
  here (suc more) e slot upto low =
      elim (cases_lt slot slots) [
        | inl less ↦ within (suc more) e slot less
        | inr whole ↦
            (let is : slot ≡ slots = omega (arith, low, whole) in
            let none : slot - slots ≡ 0 = omega (arith, is) in
            past more e slot whole
            ∙ ap (count more (suc e)) none
            ∙ within more (suc e) 0 (omega (arith, some))
            ∙ at_first e (omega (arith, upto))
            ∙ ap (place_of (stretch e)) (sym is))
      ]

  at_slot : (d more e slot : ℕ) → e + (d + more) ≤ last → slot ≤ slots → count (d + more) e (d * slots + slot) ≡ place_of (stretch (e + d)) slot
  at_slot zero more e slot upto low =
      ap (λ (n : ℕ). count n e (0 * slots + slot)) (let is : 0 + more ≡ more = omega arith in is)
      ∙ ap (count more e) (let is : 0 * slots + slot ≡ slot = omega arith in is)
      ∙ here more e slot (omega (arith, upto)) low
      ∙ ap (λ (n : ℕ). place_of (stretch n) slot) (let is : e ≡ e + 0 = omega arith in is)
  at_slot (suc d) more e slot upto low =
      let far : slots ≤ suc d * slots + slot = omega (arith, suc-mul d slots) in
      let less : suc d * slots + slot - slots ≡ d * slots + slot = omega (arith, suc-mul d slots) in
      ap (λ (n : ℕ). count n e (suc d * slots + slot)) (let is : suc d + more ≡ suc (d + more) = omega arith in is)
      ∙ past (d + more) e (suc d * slots + slot) far
      ∙ ap (count (d + more) (suc e)) less
      ∙ at_slot d more (suc e) slot (omega (arith, upto)) low
      ∙ ap (λ (n : ℕ). place_of (stretch n) slot) (let is : suc e + d ≡ e + suc d = omega arith in is)

  -- so many commands stand before a slot of an epoch
  pub counted_at : (e slot : ℕ) → e ≤ last → slot ≤ slots → count last 0 (e * slots + slot) ≡ place_of (stretch e) slot
  counted_at e slot upto low =
      ap (λ (n : ℕ). count n 0 (e * slots + slot)) (let is : last ≡ e + (last - e) = omega (arith, upto) in is)
      ∙ at_slot e (last - e) 0 slot (omega (arith, upto)) low
      ∙ ap (λ (n : ℕ). place_of (stretch n) slot) (let is : 0 + e ≡ e = omega arith in is)

  -- THEY RISE

  slots_rise : (s : Stretch) (slot later : ℕ) → slot ≤ later → place_of s slot ≤ place_of s later
  slots_rise s slot later order = omega (arith, order)

  behind_all : (more e place : ℕ) → e + more ≤ last → (stretch e).behind ≤ count more e place
  behind_all zero e place upto = let is = ended e place in omega (arith, is)
  behind_all (suc more) e place upto =
      elim (cases_lt place slots) [
        | inl less ↦ (let is = within (suc more) e place less in subst (λ (n : ℕ). (stretch e).behind ≤ n) (sym is) (omega arith))
        | inr no_less ↦
            (let rest = behind_all more (suc e) (place - slots) (omega (arith, upto)) in
            let is = next e (omega (arith, upto)) in
            let low : (stretch e).behind ≤ place_of (stretch e) slots = omega arith in
            subst (λ (n : ℕ). (stretch e).behind ≤ n) (sym (past more e place no_less)) (omega (arith, rest, is, low)))
      ]

  rise_from : (more e place later : ℕ) → e + more ≤ last → place ≤ later → count more e place ≤ count more e later
  rise_from zero e place later upto order =
      let one = ended e place in
      let other = ended e later in
      let rises = slots_rise (stretch e) place later order in
      omega (arith, one, other, rises)
  rise_from (suc more) e place later upto order =
      elim (cases_lt place slots) [
        | inl less ↦
            elim (cases_lt later slots) [
              | inl also ↦
                  (let one = within (suc more) e place less in
                  let other = within (suc more) e later also in
                  let rises = slots_rise (stretch e) place later order in
                  omega (arith, one, other, rises))
              | inr past_it ↦
                  (let one = within (suc more) e place less in
                  let other = past more e later past_it in
                  let rises = slots_rise (stretch e) place slots (omega (arith, less)) in
                  let is = next e (omega (arith, upto)) in
                  let low = behind_all more (suc e) (later - slots) (omega (arith, upto)) in
                  omega (arith, one, other, rises, is, low))
            ]
        | inr no_less ↦
            (let one = past more e place no_less in
            let other = past more e later (omega (arith, no_less, order)) in
            let rest = rise_from more (suc e) (place - slots) (later - slots) (omega (arith, upto)) (omega (arith, order)) in
            omega (arith, one, other, rest))
      ]

  pub rises : (place later : ℕ) → place ≤ later → count last 0 place ≤ count last 0 later
  rises place later order = rise_from last 0 place later (omega arith) order
