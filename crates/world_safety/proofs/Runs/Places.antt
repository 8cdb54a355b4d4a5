-- Place by place through a list of entries.
use Rattle.std.specs.Prelude.{take, slice_get}
use Rattle.std.proofs.Common.{ℕ, zero, suc, ◌≡◌, Bool, true, false, cond, Option, Some, None, List, [], ◌∷◌, ◌++◌, refl, sym, subst, ap, ◌∙◌}
use Rattle.paxos_block.specs.Shape.{Shape}
use Rattle.world.specs.Entry.{Filled, is_of, host_step}
use Rattle.world.specs.World.{World, world, MayBegin, IsRun}
use Rattle.world.specs.Chosen.{at}
use Rattle.world.proofs.Runs.{each}
use Rattle.world_safety.specs.Next.{next_world}
use Rattle.world_safety.proofs.Runs.Worlds.{world_next}

pub take_next : {A : Type 0} (l : List A) (i : ℕ) (x : A) → slice_get l i ≡ Some x → take (suc i) l ≡ take i l ++ x ∷ []
take_next [] i x is = absurd (cc)
take_next (y ∷ l) zero x is = let same : y ≡ x = cc in ap (λ z. z ∷ []) same
take_next (y ∷ l) (suc i) x is = ap (λ z. y ∷ z) (take_next l i x is)

pub take_end : {A : Type 0} (l : List A) (i : ℕ) → slice_get l i ≡ None → take (suc i) l ≡ take i l
take_end [] zero is = refl
take_end [] (suc i) is = refl
take_end (y ∷ l) zero is = absurd (cc)
take_end (y ∷ l) (suc i) is = ap (λ z. y ∷ z) (take_end l i is)

module _ (c : Shape) (log : List Filled) where
  -- an entry leads to the next world
  pub at_next : (i : ℕ) (e : Filled) → slice_get log i ≡ Some e → at c log (suc i) ≡ next_world c (at c log i) e
  at_next i e is = ap (world c) (take_next log i e is) ∙ world_next c (take i log) e

  -- behind the last the world stays
  pub at_end : (i : ℕ) → slice_get log i ≡ None → at c log (suc i) ≡ at c log i
  at_end i is = ap (world c) (take_end log i is)

  -- and so does each host
  pub host_next : (i : ℕ) (e : Filled) (h : ℕ) → slice_get log i ≡ Some e → is_of h e ≡ true → (at c log (suc i)).host h ≡ host_step c h ((at c log i).host h) e
  host_next i e h is of = ap (λ (w : World). w.host h) (at_next i e is) ∙ ap (λ (b : Bool). cond b (host_step c h ((at c log i).host h) e) ((at c log i).host h)) of

  pub host_stays : (i : ℕ) (e : Filled) (h : ℕ) → slice_get log i ≡ Some e → is_of h e ≡ false → (at c log (suc i)).host h ≡ (at c log i).host h
  host_stays i e h is off = ap (λ (w : World). w.host h) (at_next i e is) ∙ ap (λ (b : Bool). cond b (host_step c h ((at c log i).host h) e) ((at c log i).host h)) off

  by_entry : IsRun c log → (P : ℕ → World → Type 0) → ((i : ℕ) (e : Filled) → slice_get log i ≡ Some e → MayBegin c (at c log i) e → P i (at c log i) → P (suc i) (next_world c (at c log i) e))
      → ((i : ℕ) → slice_get log i ≡ None → P i (at c log i) → P (suc i) (at c log i)) → (i : ℕ) (o : Option Filled) → slice_get log i ≡ o → P i (at c log i) → P (suc i) (at c log (suc i))
  by_entry run P next end i None is before = subst (P (suc i)) (sym (at_end i is)) (end i is before)
  by_entry run P next end i (Some e) is before = subst (P (suc i)) (sym (at_next i e is)) (next i e is (each c log i e run is) before)

  -- What holds at first, and with each entry, holds at each place.
  pub by_place : IsRun c log → (P : ℕ → World → Type 0) → P zero (at c log zero) → ((i : ℕ) (e : Filled) → slice_get log i ≡ Some e → MayBegin c (at c log i) e → P i (at c log i) → P (suc i) (next_world c (at c log i) e))
      → ((i : ℕ) → slice_get log i ≡ None → P i (at c log i) → P (suc i) (at c log i)) → (i : ℕ) → P i (at c log i)
  by_place run P first next end zero = first
  by_place run P first next end (suc i) = by_entry run P next end i (slice_get log i) refl (by_place run P first next end i)
