-- What a contract sees of a beat.
use Rattle.std.specs.Prelude.{◌<◌, ℕ, List, Option}
use Rattle.std.specs.Option.{option_map}
use Rattle.torn_block.specs.declared.layout.TheConstants.{HOSTS}
use Rattle.rounds.specs.declared.beats.end.End as code_end
use Rattle.rounds.specs.declared.beats.end.End.TheVariants as end
use Rattle.rounds.specs.Kept as rounds
use Rattle.rounds.specs.declared.round.Round.{Round}

-- its host and its round, what it read on each disk, the round's disks and the one that is visited, and how it ended
pub record Notes : Type 0 where
  pub host : ℕ
  pub round : Round
  pub readings : List (Option (List ℕ))
  pub disks : ℕ
  pub disk : ℕ
  pub end : Option code_end.End

abbrev pub notes_in : ℕ → Round → List (Option (List ℕ)) → Notes
notes_in host round readings =
    record { host = host; round = round; readings = readings; disks = round.disks; disk = round.disk; end = option_map (rounds.end_by (λ held. end.Beaten) end.NoMajority) round.end }

-- so it is at any time
pub record IsSound (host : ℕ) (round : Round) : Type 0 where
  pub is_host : host < HOSTS
  pub sound : rounds.IsSound round
