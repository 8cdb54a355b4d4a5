use Rattle.std.proofs.Common.{◌≡◌, ℕ, not, List, map, sym, ap, subst, ◌∙◌}
use Rattle.std.specs.List.{filter}
use Rattle.lock_command.specs.declared.record.LockRecord.{LockRecord}
use Rattle.lock_command.specs.Locks.{is_through, settled_all, IsDistinct}
use Rattle.lock_index.proofs.Numbered.{IsDistinct-filter}
use Rattle.lock_table.proofs.Behave.{any-names}
use Rattle.lock_index.proofs.Settled.{is_among}
use Rattle.lock_index.proofs.Shown.{shown, shown-settled_same}
use Rattle.lock_table.proofs.locks.Locks.purge.Goals as goal

pub settle_all-requires-clause-distinct : goal.settle_all-requires-clause-distinct
settle_all-requires-clause-distinct c =
    subst (λ (l : List LockRecord). IsDistinct l) (sym c.take_through-count.ensures.left)
    (IsDistinct-filter (λ r. not (is_through c.args.host r)) c.self.inside.index c.take_through-count.ensures.distinct)

pub returns-clause-locks : goal.returns-clause-locks
returns-clause-locks c =
    let now = c.self.inside.index in
    let host = c.args.host in
    let left = filter (λ r. not (is_through host r)) now in
    let gone = filter (is_through host) now in
    let distinct = IsDistinct-filter (λ r. not (is_through host r)) now c.take_through-count.ensures.distinct in
    let among : (name : List ℕ) → is_among c.take_through-count.new.names.items name ≡ is_among (map (λ (r : LockRecord). r.name) gone) name = λ name.
    c.take_through-count.ensures.names name ∙ sym (any-names name gone) in
    c.settle_all.ensures
    ∙ (λ i. shown (settled_all (c.take_through-count.ensures.left i) (c.deref.ensures.value i)))
    ∙ shown-settled_same c.take_through-count.new.names.items (map (λ (r : LockRecord). r.name) gone) left distinct among
    ∙ ap (λ l. shown (settled_all (filter (λ r. not (is_through host r)) l) (map (λ (r : LockRecord). r.name) (filter (is_through host) l)))) c.self.view_is
