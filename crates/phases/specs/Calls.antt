-- Phases and ends of the code, as the definitions of an attempt see them.
use Rattle.std.specs.Prelude.{ℕ, List, Option}
use Rattle.std.specs.Option.{option_map}
use Rattle.attempt.specs.Calls.{Phase, Opening, One, Two}
use Rattle.attempt.specs.Status.{End, Committed, Decided, Empty, Outrun, NoMajority, BallotsSpent}
use Rattle.phases.specs.declared.phase.Phase as code_phase
use Rattle.phases.specs.declared.phase.Phase.TheVariants as phase
use Rattle.phases.specs.declared.end.End as code_end
use Rattle.phases.specs.declared.end.End.TheVariants as end

abbrev pub phase_in : code_phase.Phase → Phase
phase_in phase.Opening = Opening
phase_in phase.One = One
phase_in phase.Two = Two

-- an end, with the bytes of its value
abbrev pub Ending : Type 0
Ending = code_end.End (List ℕ)

-- the same of one whose values have their bytes by a layout
abbrev pub end_as : {V : Type 0} → (V → List ℕ) → code_end.End V → Ending
end_as spelled (end.Committed value) = end.Committed (spelled value)
end_as spelled (end.Decided value) = end.Decided (spelled value)
end_as spelled end.Empty = end.Empty
end_as spelled (end.Outrun mbal) = end.Outrun mbal
end_as spelled end.NoMajority = end.NoMajority
end_as spelled end.BallotsSpent = end.BallotsSpent

abbrev pub end_of : Ending → End
end_of (end.Committed value) = Committed value
end_of (end.Decided value) = Decided value
end_of end.Empty = Empty
end_of (end.Outrun mbal) = Outrun mbal
end_of end.NoMajority = NoMajority
end_of end.BallotsSpent = BallotsSpent

abbrev pub end_in : Option Ending → Option End
end_in end = option_map end_of end
