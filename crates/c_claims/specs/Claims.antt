-- What C is told of a claim.
use Rattle.std.specs.Prelude.{◌≡◌, ◌-◌, ◌^◌, ℕ, ℤ, Option, Some, None, min, pos, negsuc, if◌then◌else◌}
use Rattle.session.specs.declared.claim.Claim.{Claim}
use Rattle.session.specs.declared.claim.Standing.{Standing}
use Rattle.session.specs.declared.claim.Standing.TheVariants as standing
use Rattle.session.specs.declared.order.Order.{Order}
use Rattle.session.specs.declared.order.Order.TheVariants as order
use Rattle.session.specs.declared.outcome.Outcome.{Outcome}
use Rattle.session.specs.declared.outcome.Outcome.TheVariants as outcome
use Rattle.c_claims.specs.declared.due_order.DueOrder.{DueOrder}
use Rattle.c_claims.specs.declared.view.ClaimView.{ClaimView}
use Rattle.c_claims.specs.Failures.{why_number}
use Rattle.c_claims.specs.Marking.{is_waited_for}

-- a place of the log, at most the last one that C can be told
abbrev pub place_told : ℕ → ℤ
place_told place = pos (min (2 ^ 63 - 1) place)

-- ORDERS

-- an order of this kind, with nothing to say of it
abbrev pub of_kind : ℕ → DueOrder
of_kind kind = record { kind = kind; lock = 0; amount = 0; outcome = 0; status = pos 0; unused = 0; slot = negsuc 0 }

abbrev pub ended_as : Outcome → DueOrder
ended_as outcome.Held = of_kind 11
ended_as (outcome.NotHeld why) = record (of_kind 11) { outcome = 1; status = why_number why }
ended_as (outcome.Given slot) = record (of_kind 11) { outcome = 2; slot = place_told slot }
ended_as (outcome.InDoubt why) = record (of_kind 11) { outcome = 3; status = why_number why }
ended_as (outcome.Failed why) = record (of_kind 11) { outcome = 4; status = why_number why }

-- each order as C is told it
abbrev pub told_order : Order → DueOrder
told_order order.Open = of_kind 1
told_order order.OpenToLook = of_kind 2
told_order order.Learn = of_kind 3
told_order order.Look = of_kind 4
told_order order.Tidy = of_kind 5
told_order (order.TakeSign lock) = record (of_kind 6) { lock = lock }
told_order (order.DropSign sign) = record (of_kind 7) { lock = sign.lock; amount = if sign.removes then 1 else 0 }
told_order (order.Submit command) = record (of_kind 8) { amount = if is_waited_for command.action then 1 else 0 }
told_order (order.Rest milliseconds) = record (of_kind 9) { amount = milliseconds }
told_order (order.Yield outrun) = record (of_kind 10) { amount = outrun }
told_order (order.Done outcome) = ended_as outcome

-- THE CLAIM

-- where its command stands, or that this is not known
abbrev pub slot_number : Option ℕ → ℤ
slot_number None = negsuc 0
slot_number (Some place) = place_told place

abbrev pub standing_number : Standing → ℕ
standing_number standing.Unasked = 0
standing_number standing.Asked = 1
standing_number standing.Waiting = 2
standing_number standing.Held = 3
standing_number standing.Left = 4
standing_number standing.Leaving = 5

-- The view shows this claim.
pub record ShowsClaim (view : ClaimView) (c : Claim) : Type 0 where
  pub request : view.request ≡ c.request
  pub lock : view.lock ≡ c.lock
  pub slot : view.slot ≡ slot_number c.slot
  pub standing : view.standing ≡ standing_number c.standing
