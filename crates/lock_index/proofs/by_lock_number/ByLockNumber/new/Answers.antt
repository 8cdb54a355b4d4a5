use Rattle.std.proofs.Common.{arith}
use Rattle.lock_index.proofs.HostedPlaces.{hosted_none}
use Rattle.lock_index.proofs.NumberedPlaces.{numbered_none}
use Rattle.lock_index.proofs.Places.{shelved_none}
use Rattle.lock_index.proofs.by_lock_number.ByLockNumber.new.Goals as goal

pub invariant_of-result : goal.invariant_of-result
invariant_of-result c = (
  shelved_none c.in_ok-with_capacity.field-0.items c.in_ok-with_capacity-2.field-0.items c.in_ok-with_capacity-3.field-0.items c.in_ok-with_capacity.ensures.items c.in_ok-with_capacity-2.ensures.items c.in_ok-with_capacity-3.ensures.items,
  omega (arith, c.in_ok-with_capacity.ensures.len),
  omega (arith, c.in_ok-with_capacity.ensures.capacity),
  omega (arith, c.in_ok-with_capacity-2.ensures.capacity),
  omega (arith, c.in_ok-with_capacity-3.ensures.capacity),
  c.in_ok-from_elem.ensures.len,
  numbered_none c.in_ok-with_capacity.field-0.items c.in_ok-with_capacity-2.field-0.items c.in_ok-from_elem.field-0.items 256 c.in_ok-with_capacity-2.ensures.items (c.in_ok-from_elem.ensures.items_if_clones_equal (λ y same. same)),
  hosted_none c.in_ok-with_capacity.field-0.items c.in_ok-with_capacity-2.field-0.items _ c.in_ok-with_capacity-2.ensures.items,
)
