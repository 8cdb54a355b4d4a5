use Rattle.std.proofs.Common.{◌≡◌, drop, Some, None, sym, ap, ◌∙◌, arith}
use Rattle.std.specs.List.{list_any}
use Rattle.lock_command.specs.Locks.{is_on}
use Rattle.lock_command.specs.Name.{same_name}
use Rattle.lock_index.proofs.Parts.{first}
use Rattle.lock_index.proofs.Cuts.{slice_get_is_first}
use Rattle.lock_index.proofs.Below.{rank_point}
use Rattle.lock_index.proofs.Holders.{locked_first, locked_none}
use Rattle.lock_index.proofs.printed.has_locks.Goals as goal

pub returns-in-Some : goal.returns-in-Some
returns-in-Some c =
    let xs = c.args.printed.now in
    let i = c.end_behind.result in
    let point = rank_point xs c.end_behind.ensures.fit c.new-name.result 0 c.key.result i c.key.ensures.name (omega arith) c.key.ensures.key c.end_behind.ensures.bound c.end_behind.ensures.point in
    let r = c.in-Some.first in
    let stands : first (drop i xs) ≡ Some r = sym (slice_get_is_first xs i) ∙ sym c.lock_at.ensures ∙ c.in-Some.is in
    c.eq.ensures ∙ ap (same_name r.name) (c.name.ensures ∙ c.new-name.ensures)
    ∙ ap (same_name r.name) (sym c.new-name.ensures) ∙ locked_first c.new-name.result xs i r c.requires point stands
    ∙ ap (λ n. list_any (is_on n) xs) c.new-name.ensures

pub returns-in-None : goal.returns-in-None
returns-in-None c =
    let xs = c.args.printed.now in
    let i = c.end_behind.result in
    let point = rank_point xs c.end_behind.ensures.fit c.new-name.result 0 c.key.result i c.key.ensures.name (omega arith) c.key.ensures.key c.end_behind.ensures.bound c.end_behind.ensures.point in
    let stands : first (drop i xs) ≡ None = sym (slice_get_is_first xs i) ∙ sym c.lock_at.ensures ∙ c.in-None.is in
    locked_none c.new-name.result xs i c.requires point stands ∙ ap (λ n. list_any (is_on n) xs) c.new-name.ensures
