-- What a migration has heard, and the call that is due by that.
use Rattle.std.specs.Prelude.{◌==◌, ℕ, Bool, true, false, List, [], ◌∷◌, Option, Some, None, if◌then◌else◌}
use Rattle.disk.specs.Disk.{Call, Answer, Booted, Fault}
use Rattle.paxos_block.specs.Image.{Setup}
use Rattle.migration.specs.Plan.{Due, schedule, call_of}

-- the calls that are left, the boot number of each disk as it was attached, and whether the migration has failed
pub record Progress : Type 0 where
  pub rest : List Due
  pub boot : ℕ → ℕ
  pub failed : Bool

abbrev pub at_first : Setup → Progress
at_first s = record { rest = schedule s; boot = λ d. 0; failed = false }

-- ANSWERS

abbrev pub with_boot : (ℕ → ℕ) → ℕ → Answer → ℕ → ℕ
with_boot boots d (Booted boot) e = if e == d then boot else boots e
with_boot boots d other e = boots e

abbrev pub given_up : Progress → Progress
given_up p = record { rest = p.rest; boot = p.boot; failed = true }

-- a good answer is to the first call that is left
abbrev pub answered : Progress → List Due → Answer → Progress
answered p [] answer = p
answered p (due ∷ rest) answer = record { rest = rest; boot = with_boot p.boot due.disk answer; failed = false }

-- any fault ends it
abbrev pub hears : Progress → Answer → Progress
hears p (Fault fault) = given_up p
hears p answer = answered p p.rest answer

-- what it has heard after these answers
abbrev pub heard : Progress → List Answer → Progress
heard p [] = p
heard p (answer ∷ answers) = heard (hears p answer) answers

-- THE CALL THAT IS DUE

abbrev pub next_in : Progress → List Due → Option (ℕ × Call)
next_in p [] = None
next_in p (due ∷ rest) = Some (due.disk, call_of (p.boot due.disk) due.kind)

-- the first one that is left, on its disk; none where the migration has failed
abbrev pub next : Progress → Option (ℕ × Call)
next p = if p.failed then None else next_in p p.rest
