use Rattle.std.proofs.Common.{◌≡◌, drop, get_or, Some, None, sym, ap, ◌∙◌}
use Rattle.std.specs.Bool.{then_some}
use Rattle.std.proofs.lemmas.Bool.{eq-eqb}
use Rattle.lock_command.specs.declared.record.LockRecord.{LockRecord}
use Rattle.lock_command.specs.Locks.{is_lock}
use Rattle.lock_index.proofs.Parts.{first}
use Rattle.lock_index.proofs.Shown.{lock_of}
use Rattle.lock_index.proofs.Keyed.{first_if, then_some_if, find_at_cut}
use Rattle.lock_index.proofs.Cuts.{slice_get_is_first}
use Rattle.lock_index.proofs.Standing.{found_there}
use Rattle.lock_index.proofs.by_lock_number.numbered.Goals as goal

pub returns-in-Some : goal.returns-in-Some
returns-in-Some c =
    let r = c.in-Some.found in
    let xs = c.args.numbers.now in
    let there = c.in-Some.ensures in
    let own = eq-eqb (get_or xs there.0 r).lock c.args.lock (ap (λ (x : LockRecord). x.lock) there.2 ∙ there.3) in
    ap Some (sym there.2) ∙ sym (found_there (is_lock c.args.lock) xs there.0 r there.1 own (c.requires.distinct c.args.lock))

pub returns-in_err-found : goal.returns-in_err-found
returns-in_err-found c =
    let xs = c.args.numbers.now in
    let i = c.lower_numbers-place.result in
    let stands : None ≡ first (drop i xs) = sym c.in_err-found.was ∙ c.record_at.ensures ∙ slice_get_is_first xs i in
    c.from_residual.ensures ∙ ap (first_if (is_lock c.args.lock)) stands ∙ sym (find_at_cut lock_of c.args.lock xs i c.requires.rising c.lower_numbers-place.ensures.point)

pub returns : goal.returns
returns c =
    let xs = c.args.numbers.now in
    let i = c.lower_numbers-place.result in
    let stands : Some c.in_ok-found.found ≡ first (drop i xs) = sym c.in_ok-found.was ∙ c.record_at.ensures ∙ slice_get_is_first xs i in
    c.then_some.ensures
    ∙ ap (λ b. then_some b c.in_ok-found.found) c.eq.ensures
    ∙ then_some_if (is_lock c.args.lock) c.in_ok-found.found
    ∙ ap (first_if (is_lock c.args.lock)) stands
    ∙ sym (find_at_cut lock_of c.args.lock xs i c.requires.rising c.lower_numbers-place.ensures.point)
