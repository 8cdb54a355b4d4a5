use Rattle.std.proofs.Common.{◌≡◌, ◌<◌, Some, true, false, get_or, length, sym, ap, ◌∙◌, arith, rules}
use Rattle.lock_table.specs.Apply.{has_locks}
use Rattle.folder_migration.proofs.Renewing.{first_more, none_more}
use Rattle.folder_migration.proofs.renewal.first_with_locks.Goals as goal

pub returns-then-has_locks : goal.returns-then-has_locks
returns-then-has_locks c =
    let has = has_locks c.args.table.now.locks in
    let clients = c.args.clients.now in
    let k = c.index-clients-at.result in
    let inside : c.loop-at.at < length clients = omega (arith, c.loop-at-test.true) in
    let here : get_or clients c.loop-at.at k ≡ k = sym c.index-clients-at.is in
    let is : has k ≡ true = search rules in
    sym (first_more has clients c.loop-at.at k inside c.loop-at.invariant (ap has here ∙ is) ∙ ap (λ o. Some o) here)

pub loop-at-preserved : goal.loop-at-preserved
loop-at-preserved c =
    let has = has_locks c.args.table.now.locks in
    let clients = c.args.clients.now in
    let k = c.index-clients-at.result in
    let inside : c.loop-at.at < length clients = omega (arith, c.loop-at-test.true) in
    let here : get_or clients c.loop-at.at k ≡ k = sym c.index-clients-at.is in
    let is : has k ≡ false = search rules in
    none_more has clients c.loop-at.at k inside c.loop-at.invariant (ap has here ∙ is)
