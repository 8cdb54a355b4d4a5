-- What a handle owns.
use Rattle.std.specs.Prelude.{Option, Some, None}
use mir.Syntax.{Ty}
use base.Fml.{Fml, ftrue}
use denote.RattleType.{RattleType}
use denote.RawPtr.{Ptr}
use Rattle.std.specs.Box.Ownership.{box_owns}

-- nothing, or a value in a box at this place
abbrev pub may_own : (Ty → Ptr → Fml) → (R : RattleType) → Ptr → Option R.Denot → Fml
may_own token R p None = ftrue
may_own token R p (Some x) = box_owns token R p x
