-- The number and the name of each refusal of an operation, as they are printed.
use Rattle.std.specs.Prelude.{ℕ, List, codes}
use Rattle.attempt.specs.declared.refusal.Refusal.{Refusal}
use Rattle.attempt.specs.declared.refusal.Refusal.TheVariants.{Outrun, NoMajority, BallotsSpent, LogFull, NotACommand, NotLearned}

-- Each has a number of its own, which no other refusal gets later.
abbrev pub refusal_number : Refusal → ℕ
refusal_number Outrun = 6
refusal_number NoMajority = 7
refusal_number BallotsSpent = 8
refusal_number LogFull = 9
refusal_number NotACommand = 10
refusal_number NotLearned = 30

abbrev pub refusal_name : Refusal → List ℕ
refusal_name Outrun = codes "Outrun"
refusal_name NoMajority = codes "NoMajority"
refusal_name BallotsSpent = codes "BallotsSpent"
refusal_name LogFull = codes "LogFull"
refusal_name NotACommand = codes "NotACommand"
refusal_name NotLearned = codes "NotLearned"
