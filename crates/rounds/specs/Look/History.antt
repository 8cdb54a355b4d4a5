-- When a list of answers is the history of a look: each is to the call that was due.
use Rattle.std.specs.Prelude.{List}
use Rattle.attempt.specs.Answers.{Answered}
use Rattle.attempt.specs.Heard.{IsHistoryBy}
use Rattle.rounds.specs.Look.Status.{Setup, next_call}

abbrev pub IsHistory : Setup → List Answered → Type 0
IsHistory s heard = IsHistoryBy (next_call s) heard
