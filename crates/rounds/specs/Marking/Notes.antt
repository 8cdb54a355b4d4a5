-- What a contract sees of a marking.
use Rattle.std.specs.Prelude.{◌<◌, ℕ, List, Option}
use Rattle.std.specs.Option.{option_map}
use Rattle.torn_block.specs.declared.layout.TheConstants.{HOSTS}
use Rattle.rounds.specs.declared.marks.end.End as code_end
use Rattle.rounds.specs.declared.marks.end.End.TheVariants as end
use Rattle.rounds.specs.Kept as rounds
use Rattle.rounds.specs.declared.round.Round.{Round}

-- its host, its slot and what was learned of it, and its round, with its disks and the one that is visited, and how it ended
pub record Notes : Type 0 where
  pub host : ℕ
  pub slot : ℕ
  pub value : List ℕ
  pub round : Round
  pub disks : ℕ
  pub disk : ℕ
  pub end : Option code_end.End

abbrev pub notes_in : (host slot : ℕ) → List ℕ → Round → Notes
notes_in host slot value round =
    record { host = host; slot = slot; value = value; round = round; disks = round.disks; disk = round.disk; end = option_map (rounds.end_by end.Marked end.NoMajority) round.end }

-- so it is at any time
pub record IsSound (host : ℕ) (round : Round) : Type 0 where
  pub is_host : host < HOSTS
  pub sound : rounds.IsSound round
