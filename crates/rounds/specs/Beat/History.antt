-- When a list of answers is the history of a beat: each is to the call that was due.
use Rattle.std.specs.Prelude.{List}
pub use Rattle.attempt.specs.Heard.{Fits, IsAnswerTo}
use Rattle.attempt.specs.Heard.{IsHistoryBy}
use Rattle.rounds.specs.Beat.Answers.{Answered}
use Rattle.rounds.specs.Beat.Status.{Setup, next_call}

abbrev pub IsHistory : Setup → List Answered → Type 0
IsHistory s heard = IsHistoryBy (next_call s) heard
