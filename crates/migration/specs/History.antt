-- When a list of answers is the history of a migration: each is to the call that was due.
use Rattle.std.specs.Prelude.{ℕ, List, [], ◌∷◌, Option, Some, None}
use Rattle.disk.specs.Disk.{Call, Answer}
use Rattle.attempt.specs.Answers.{heard_as}
use Rattle.attempt.specs.Heard.{Fits}
use Rattle.migration.specs.Heard.{Progress, hears, next}

abbrev pub IsAnswerTo : Option (ℕ × Call) → Answer → Type 0
IsAnswerTo None answer = ⊥
IsAnswerTo (Some due) answer = Fits due.1 (heard_as answer)

abbrev pub IsHistory : Progress → List Answer → Type 0
IsHistory p [] = Unit {0}
IsHistory p (answer ∷ answers) = IsAnswerTo (next p) answer × IsHistory (hears p answer) answers
