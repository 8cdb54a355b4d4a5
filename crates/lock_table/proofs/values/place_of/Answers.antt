use Rattle.std.proofs.Common.{rules, of_calls}
use Rattle.std.specs.Ordering.{nat_cmp}
use Rattle.std.specs.Cmp.Lexicographic.{slice_cmp}
use Rattle.std.proofs.lemmas.Fn.{always_returns_same}
use Rattle.lock_table.specs.declared.values.NamedValue.{NamedValue}
use Rattle.lock_table.proofs.Sought.{found_place}
use Rattle.lock_table.proofs.values.place_of.Goals as goal

pub returns-clause-place : goal.returns-clause-place
returns-clause-place c =
    found_place c.args.name c.args.entries.now c.binary_search_by.result c.requires
    (c.binary_search_by.ensures.position (λ (e : NamedValue). slice_cmp nat_cmp e.name c.args.name) (always_returns_same _ _ _ (λ a r f k. search (rules, of_calls))))
