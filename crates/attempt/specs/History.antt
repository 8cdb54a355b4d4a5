-- When a list of answers is the history of an attempt: each is to the call that was due.
use Rattle.std.specs.Prelude.{List}
use Rattle.attempt.specs.Answers.{Answered}
use Rattle.attempt.specs.Heard.{GoesOnWith, IsHistoryBy}
pub use Rattle.attempt.specs.Heard.{Fits, IsAnswerTo}
use Rattle.attempt.specs.Setup.{Setup}
use Rattle.attempt.specs.NextCall.{next_call}

-- behind those before, each answer is to the call that is due then
abbrev pub IsHistoryFrom : Setup → (before later : List Answered) → Type 0
IsHistoryFrom s before later = GoesOnWith (next_call s) before later

abbrev pub IsHistory : Setup → List Answered → Type 0
IsHistory s heard = IsHistoryBy (next_call s) heard
