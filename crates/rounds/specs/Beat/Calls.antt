-- Answers of the code, as the definitions of a beat see them.
use Rattle.std.specs.Prelude.{ℕ, List}
use Rattle.attempt.specs.declared.heard.Heard as code_heard
use Rattle.attempt.specs.DeviceCalls.{device_answer}
use Rattle.rounds.specs.Beat.Answers.{Heard, heard_as}

abbrev pub heard_of : code_heard.Heard (List ℕ) → Heard
heard_of heard = heard_as (device_answer heard)
