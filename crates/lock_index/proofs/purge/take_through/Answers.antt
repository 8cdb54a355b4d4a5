use Rattle.std.proofs.Common.{◌≡◌, ◌≤◌, ◌<◌, ◌-◌, ◌||◌, suc, Bool, true, false, not, drop, refl, [], ◌∷◌, length, get_or, sym, ap, ◌∙◌, arith}
use Rattle.std.specs.List.{list_any}
use Rattle.lock_command.specs.Name.{same_name}
use Rattle.std.proofs.lemmas.List.{length-drop}
use Rattle.lock_command.specs.declared.record.LockRecord.{LockRecord}
use Rattle.lock_command.specs.Locks.{is_on, is_through}
use Rattle.lock_index.specs.Shelved.{no_lock}
use Rattle.lock_index.proofs.Keyed.{kept_fewer}
use Rattle.lock_index.proofs.Partly.{partly, behind, taken_none, taken_next, taken_last, partly_last, behind_none, behind_taken}
use Rattle.lock_index.proofs.purge.take_through.Goals as goal

pub loop-end-init : goal.loop-end-init
loop-end-init c =
    let others = c.through_end-end.ensures.others in
    let xs = c.args.locks.now in
    let low = c.through_end-end.result in
    let inside : low ≤ length xs = omega (arith, c.through_end-end.ensures.bound, c.len.ensures.len) in
    let none : behind (is_through c.args.host) xs low ≡ [] = behind_none (is_through c.args.host) xs low inside (λ k d from to. others k d from (omega (arith, to, c.len.ensures.len))) in
    record {
      left = taken_none (is_through c.args.host) xs low inside (λ k d from to. others k d from (omega (arith, to, c.len.ensures.len)));
      inside = inside;
      last = c.through_end-end.ensures.last;
      count = ap length (sym none);
      names = λ name. ap (list_any (λ n. same_name n name)) c.requires.empty ∙ ap (list_any (is_on name)) (sym none);
      few = omega (arith, ap length c.requires.empty, inside);
      room = omega arith;
    }

pub overflow_add-count : goal.overflow_add-count
overflow_add-count c =
    omega (arith, c.loop-end.invariant.count, kept_fewer (is_through c.args.host) (drop c.loop-end.end c.args.locks.now), length-drop c.loop-end.end c.args.locks.now, c.len.ensures.few, c.len.ensures.len)

or_turned : (a b : Bool) → (a || b) ≡ (b || a)
or_turned true true = refl
or_turned true false = refl
or_turned false true = refl
or_turned false false = refl

pub loop-end-preserved : goal.loop-end-preserved
loop-end-preserved c =
    let through = is_through c.args.host in
    let xs = c.args.locks.now in
    let k = c.loop-end.end - 1 in
    let r = get_or xs k no_lock in
    let next = c.through_end-end-in-loop-end in
    let low = next.result in
    let inside : k < length xs = omega (arith, c.loop-end-test.true, c.loop-end.invariant.inside) in
    let one : c.loop-end.end ≡ suc k = omega (arith, c.loop-end-test.true) in
    let now : c.loop-end.locks ≡ partly (λ o. not (through o)) xs (suc k) = c.loop-end.invariant.left ∙ ap (partly (λ o. not (through o)) xs) one in
    let goes = c.loop-end.invariant.last (omega (arith, c.loop-end-test.true)) in
    let named : c.name.result ≡ r.name = c.name.ensures no_lock ∙ ap (λ l. (get_or l k no_lock).name) now ∙ ap (λ (o : LockRecord). o.name) (partly_last (λ o. not (through o)) xs k no_lock inside) in
    let more : behind through xs low ≡ r ∷ behind through xs c.loop-end.end =
    behind_taken through xs c.loop-end.locks c.remove.new.self k inside goes now c.remove.ensures.locks low no_lock next.ensures.bound next.ensures.others
    ∙ ap (λ n. r ∷ behind through xs n) (sym one) in
    record {
      left = taken_next through xs c.loop-end.locks c.remove.new.self k inside goes now c.remove.ensures.locks low no_lock next.ensures.bound next.ensures.others;
      inside = omega (arith, next.ensures.bound, inside);
      last = taken_last through xs c.loop-end.locks c.remove.new.self k inside goes now c.remove.ensures.locks low next.ensures.bound next.ensures.last;
      count = omega (arith, c.loop-end.invariant.count, ap length more);
      names = λ name.
          c.add_name.ensures.names name
          ∙ ap (λ n. list_any (λ o. same_name o name) c.loop-end.names.items || same_name n name) named
          ∙ ap (λ b. b || same_name r.name name) (c.loop-end.invariant.names name)
          ∙ or_turned (list_any (is_on name) (behind through xs c.loop-end.end)) (same_name r.name name)
          ∙ ap (list_any (is_on name)) (sym more);
      few = omega (arith, c.add_name.ensures.len, c.loop-end.invariant.few, next.ensures.bound, c.loop-end-test.true);
      room = omega (arith, c.add_name.ensures.room, c.loop-end.invariant.room);
    }
