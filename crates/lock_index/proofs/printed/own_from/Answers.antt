use Rattle.std.proofs.Common.{◌≡◌, ◌<◌, true, length, get_or, sym, ap, ◌∙◌}
use Rattle.lock_command.specs.Locks.{is_lock}
use Rattle.std.proofs.lemmas.Bool.{not-false}
use Rattle.std.proofs.lemmas.List.{get_or_default}
use Rattle.lock_index.proofs.Keyed.{inside_where_found, stands_where_found, remove_where_stands}
use Rattle.lock_index.proofs.printed.own_from.Goals as goal

pub returns-clause-place : goal.returns-clause-place
returns-clause-place c =
    let xs = c.args.printed.now in
    let own = c.args.own.now in
    let at = c.loop-at.at in
    let inside : at < length xs = inside_where_found (is_lock own.lock) xs at own c.loop-at.invariant in
    let stands : is_lock own.lock (get_or xs at c.get.result.now) ≡ true = ap (is_lock own.lock) (sym c.get.ensures.lock) ∙ not-false _ (sym c.loop-at-test.ensures) in
    remove_where_stands (is_lock own.lock) xs at c.get.result.now inside stands (c.requires.distinct own.lock)

pub returns-clause-lock : goal.returns-clause-lock
returns-clause-lock c = λ d.
    let xs = c.args.printed.now in
    let own = c.args.own.now in
    let at = c.loop-at.at in
    let inside : at < length xs = inside_where_found (is_lock own.lock) xs at own c.loop-at.invariant in
    let stands : is_lock own.lock (get_or xs at d) ≡ true = ap (is_lock own.lock) (get_or_default xs at d c.get.result.now inside ∙ sym c.get.ensures.lock) ∙ not-false _ (sym c.loop-at-test.ensures) in
    stands_where_found (is_lock own.lock) xs at own d c.loop-at.invariant stands
