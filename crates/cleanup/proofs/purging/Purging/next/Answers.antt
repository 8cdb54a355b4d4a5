use Rattle.std.proofs.Common.{rules, ◌≡◌, None}
use Rattle.cleanup.proofs.purging.Purging.next.Goals as goal

pub purge-requires : goal.purge-requires
purge-requires c = let none : c.first_from.result ≡ None = search rules in record { passed = c.first_from.ensures.none none; needed = search rules }
