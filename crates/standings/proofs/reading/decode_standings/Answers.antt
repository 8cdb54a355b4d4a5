use Rattle.std.specs.Prelude.{slice_index, IfSome, IfOk}
use Rattle.std.specs.Result.{result_ok}
use Rattle.std.proofs.Common.{ℕ, ◌≡◌, ◌∙◌, List, Option, Result, Ok, Err, sym, ap, subst, arith}
use Rattle.std.proofs.lemmas.Option.{IfSome_then}
use Rattle.torn_block.specs.Layout.{cluster_version}
use Rattle.torn_block.specs.Damage.{block_of}
use Rattle.standings.proofs.Numbers.{counter_within, counters_are_numbers}
use Rattle.standings.proofs.reading.decode_standings.Goals as goal

of_ok : {E : Type 0} (r : Result (List ℕ) E) (P : List ℕ → Type 0) → IfOk r P → IfSome (result_ok r) P
of_ok (Ok numbers) P so = so
of_ok (Err e) P so = tt

kept : {E : Type 0} (r : Result (List ℕ) E) (o : Option (List ℕ)) (P : List ℕ → Type 0) → o ≡ result_ok r → IfOk r P → IfSome o P
kept r o P is so = subst (λ (x : Option (List ℕ)). IfSome x P) (sym is) (of_ok r P so)

pub returns-clause-exact : goal.returns-clause-exact
returns-clause-exact c = kept c.decode_area.result c.ok.result _ c.ok.ensures.value c.decode_area.ensures.exact

pub returns-clause-each : goal.returns-clause-each
returns-clause-each c =
    IfSome_then c.ok.result (returns-clause-exact c) (λ numbers is host below. ap (λ (l : List ℕ). slice_index l host) is ∙ counters_are_numbers c.args.row.now host below)

pub returns-clause-range : goal.returns-clause-range
returns-clause-range c =
    IfSome_then c.ok.result (kept c.decode_area.result c.ok.result _ c.ok.ensures.value c.decode_area.ensures.counters) (λ numbers are host below.
    omega (arith, (are host below).counts, counter_within (block_of cluster_version host c.args.row.now) (are host below).sound))
