-- What a step orders.
use Rattle.std.specs.Prelude.{ℕ}
use Rattle.session.specs.declared.claim.Step.{Step}
use Rattle.session.specs.declared.claim.Step.TheVariants as step
use Rattle.session.specs.declared.order.Order.{Order}
use Rattle.session.specs.declared.order.Order.TheVariants as order

-- each step is one order; a pause after a command that was outrun tells how often it was
abbrev pub order_of : Step → ℕ → Order
order_of step.Opening outrun = order.Open
order_of step.OpeningToLook outrun = order.OpenToLook
order_of step.Learning outrun = order.Learn
order_of step.Looking outrun = order.Look
order_of step.Tidying outrun = order.Tidy
order_of (step.Signing choice) outrun = order.TakeSign choice.lock
order_of (step.Submitting command) outrun = order.Submit command
order_of (step.Dropping sign then) outrun = order.DropSign sign
order_of (step.Resting milliseconds) outrun = order.Rest milliseconds
order_of step.Yielding outrun = order.Yield outrun
order_of (step.Ended outcome) outrun = order.Done outcome
