use Rattle.std.proofs.Common.{take}
use Rattle.std.specs.List.{flat_map}
use Rattle.mg_words.specs.Objects.{Adds, member_tokens}
use Rattle.mg_words.proofs.object.put_members.Given as goal

-- the members before this one are written
abbrev pub invariant-loop-member : goal.invariant-loop-member
invariant-loop-member l = Adds l.initial.object l.object (flat_map member_tokens (take l.member-index l.members))
