use Rattle.std.proofs.Common.{◌≡◌, ◌+◌, ◌∷◌, [], ℕ, Some, length, slice_get, arith, ap, subst, ◌∙◌}
use Rattle.std.proofs.lemmas.List.{length-append}
use Rattle.folders.proofs.Laying.{each_more}
use Rattle.in_place.proofs.in_place.lock_hosts.Goals as goal

pub loop-number-preserved : goal.loop-number-preserved
loop-number-preserved g c =
    let locks = c.loop-number.locks.items in
    let one = c.in_ok-lock.lock in record {
      as_many = ap length c.push_reserved.ensures.items ∙ length-append locks (one ∷ []) ∙ ap (λ (n : ℕ). n + 1) c.loop-number.invariant.as_many;
      room = omega (arith, c.push_reserved.ensures.capacity, c.loop-number.invariant.room);
      each = λ k file is. each_more g.R.File.TryLock.locked locks one c.in_ok-lock.ensures.locked c.loop-number.invariant.each k file (subst (λ l. slice_get l k ≡ Some file) c.push_reserved.ensures.items is);
    }
