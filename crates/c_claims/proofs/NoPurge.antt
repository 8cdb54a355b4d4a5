-- Where the order is none to submit a purge, none is due.
use Rattle.std.proofs.Common.{◌≡◌, ℕ, refl, inl, inr}
use Rattle.lock_command.specs.declared.command.Command.{Command}
use Rattle.lock_table.specs.Picture.{Shown}
use Rattle.cleanup.specs.Purges.{HasNoLocks, HasNoRequest, IsTried}
use Rattle.cleanup.specs.declared.purging.PurgeOrder.{PurgeOrder}
use Rattle.cleanup.specs.declared.purging.PurgeOrder.TheVariants.{TrySign, Submit, Done, NoNumber}
use Rattle.cleanup.specs.declared.purging.Purging.{Purging}
use Rattle.c_claims.specs.Cleanups.{NoneIsDue}

pub none_due_by : (p : Purging) (table : Shown) (order : PurgeOrder) →
    ((lock : ℕ) → order ≡ TrySign lock → IsTried p table lock) → (order ≡ Done → HasNoLocks table p.victim) →
    (order ≡ NoNumber → HasNoRequest p table) → ((command : Command) → order ≡ Submit command → ⊥) → NoneIsDue p table
none_due_by p table (TrySign lock) tries done number other = inl (lock, tries lock refl)
none_due_by p table (Submit command) tries done number other = absurd (other command refl)
none_due_by p table Done tries done number other = inr (inl (done refl))
none_due_by p table NoNumber tries done number other = inr (inr (number refl))
