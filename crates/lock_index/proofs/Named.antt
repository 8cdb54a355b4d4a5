-- Names are told apart by their numbers.
use Rattle.std.proofs.Common.{◌≡◌, ℕ, List, sym}
use Rattle.lock_command.specs.Name.{IsName}
use Rattle.lock_index.specs.Keys.{spelled}
use Rattle.lock_index.proofs.Apart.{name_is}
use Rattle.lock_index.proofs.Spelled.{alike_spelled}
use Rattle.lock_index.proofs.Unique.{names_equal}

-- names that are spelled alike are one
pub one_name : (a b : List ℕ) → IsName a → IsName b → spelled 15 a ≡ spelled 15 b → a ≡ b
one_name a b this that same = sym (name_is b a (names_equal a b (alike_spelled a b this that same)))
