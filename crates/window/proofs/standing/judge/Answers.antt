use Rattle.std.specs.Prelude.{slice_index}
use Rattle.std.proofs.Common.{◌≡◌, List, ℕ, refl, subst, sym, ◌∙◌}
use Rattle.heartbeat.specs.Beat.{counters_in}
use Rattle.standings.specs.declared.epoch.Epoch.{Epoch}
use Rattle.standings.specs.Reading.{HasPassed, numbers_in}
use Rattle.standings.proofs.TwoReadings.{passed_by_row}
use Rattle.window.proofs.standing.judge.Goals as goal

by_row : (e : Epoch) (row numbers : List ℕ) → numbers ≡ counters_in row → HasPassed e (slice_index numbers) → HasPassed e (numbers_in row)
by_row e row numbers exact passed = (passed_by_row e row).0 (subst (λ (l : List ℕ). HasPassed e (slice_index l)) exact passed)

by_numbers : (e : Epoch) (row numbers : List ℕ) → numbers ≡ counters_in row → HasPassed e (numbers_in row) → HasPassed e (slice_index numbers)
by_numbers e row numbers exact passed = subst (λ (l : List ℕ). HasPassed e (slice_index l)) (sym exact) ((passed_by_row e row).1 passed)

pub returns-then-has_passed-clause-hidden : goal.returns-then-has_passed-clause-hidden
returns-then-has_passed-clause-hidden c = (
  (λ damaged. absurd (let none = c.in-Some.ensures.damaged.1 damaged in cc)),
  by_row c.args.from.now.epoch c.args.standings.now c.in-Some.numbers c.in-Some.ensures.exact (c.if-has_passed.ensures.0 refl),
)

pub returns-then-not-may_see-clause-hidden : goal.returns-then-not-may_see-clause-hidden
returns-then-not-may_see-clause-hidden c =
    let outside = c.if-not-may_see.ensures.outside refl in (
      outside.0,
      (λ passed. absurd (let wrong = c.if-has_passed.ensures.1 (by_numbers c.args.from.now.epoch c.args.standings.now c.in-Some.numbers c.in-Some.ensures.exact passed) in cc)),
      (λ own. let each = c.in-Some.ensures.each c.args.from.now.host c.args.from.now.host_in_range in outside.1 (each ∙ own)),
    )

pub returns-clause-good : goal.returns-clause-good
returns-clause-good c =
    record {
      sound = λ damaged. absurd (let none = c.in-Some.ensures.damaged.1 damaged in cc);
      nobody = λ passed. absurd (let wrong = c.if-has_passed.ensures.1 (by_numbers c.args.from.now.epoch c.args.standings.now c.in-Some.numbers c.in-Some.ensures.exact passed) in cc);
      inside = λ comes. (let each = c.in-Some.ensures.each c.args.from.now.host c.args.from.now.host_in_range in sym each ∙ c.if-not-may_see.ensures.sees refl comes);
    }

pub returns-clause-numbers : goal.returns-clause-numbers
returns-clause-numbers c = record { are = c.in-Some.ensures.exact }
