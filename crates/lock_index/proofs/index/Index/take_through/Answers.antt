use Rattle.std.proofs.Common.{◌≡◌, ℕ, List, not, sym, subst, ◌∙◌, arith}
use Rattle.std.specs.List.{filter}
use Rattle.std.specs.List.Sorted.{IsSorted}
use Rattle.lock_command.specs.declared.record.LockRecord.{LockRecord}
use Rattle.lock_command.specs.Locks.{is_through}
use Rattle.lock_index.specs.Indexed.{IsIndexed}
use Rattle.lock_index.specs.Printed.{printed_cmp}
use Rattle.lock_index.specs.Placed.{in_order}
use Rattle.lock_index.proofs.Keyed.{filter_none}
use Rattle.lock_index.proofs.Shown.{indexed_filter, shown_sorted}
use Rattle.lock_index.proofs.index.Index.take_through.Goals as goal

-- what is left stands in printed order
shown_left : (printed numbers left : List LockRecord) (host : ℕ) → IsIndexed printed numbers → left ≡ filter (λ r. not (is_through host r)) printed → in_order printed_cmp left ≡ left
shown_left printed numbers left host sound is =
    shown_sorted left (subst (λ (l : List LockRecord). IsSorted printed_cmp l) (sym is) (indexed_filter printed numbers sound (λ r. not (is_through host r))).sorted)

pub invariant_of-self : goal.invariant_of-self
invariant_of-self c =
    let fact = indexed_filter c.self.inside.printed c.self.inside.numbers c.self.invariant (λ r. not (is_through c.args.host r)) in
    subst (λ (l : List LockRecord). IsIndexed l c.keep_others.new.numbers) (sym c.take_through-count.ensures.left)
    (subst (λ (l : List LockRecord). IsIndexed (filter (λ r. not (is_through c.args.host r)) c.self.inside.printed) l) (sym c.keep_others.ensures.items) fact)

pub invariant_of-self-else-count-gt0 : goal.invariant_of-self-else-count-gt0
invariant_of-self-else-count-gt0 c =
    subst (λ (l : List LockRecord). IsIndexed l c.self.inside.numbers)
    (sym (c.take_through-count.ensures.left ∙ filter_none (is_through c.args.host) c.self.inside.printed (omega (arith, c.take_through-count.ensures.count, c.if-count-gt0.false)))) c.self.invariant

pub returns-then-count-gt0-clause-printed : goal.returns-then-count-gt0-clause-printed
returns-then-count-gt0-clause-printed c = shown_left c.self.inside.printed c.self.inside.numbers _ c.args.host c.self.invariant c.take_through-count.ensures.left

pub returns-else-count-gt0-clause-printed : goal.returns-else-count-gt0-clause-printed
returns-else-count-gt0-clause-printed c = shown_left c.self.inside.printed c.self.inside.numbers _ c.args.host c.self.invariant c.take_through-count.ensures.left
