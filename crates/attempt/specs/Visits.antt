-- Of the headline. Which disk an attempt visits in a phase, and which disks are left.
use Rattle.std.specs.Prelude.{◌*◌, ◌==◌, ◌&&◌, ℕ, Bool, true, not, List, length, nat_lt, nat_le, Option, Some, None}
use Rattle.torn_block.specs.declared.layout.TheConstants.{LAST_SEQUENCE}
use Rattle.attempt.specs.Calls.{Phase, start, goal}
use Rattle.attempt.specs.Answers.{Heard, Answers, all_good, last_row, seen_block}
use Rattle.attempt.specs.Numbers.{count, first_below}
use Rattle.attempt.specs.Setup.{Setup}

-- the phase's write is the next call, and the own block's sequence number is spent
abbrev pub is_stuck : Setup → Phase → List Heard → Bool
is_stuck s p a = (length a == start p) && nat_le LAST_SEQUENCE (seen_block (last_row a) s.host).sequence

-- the disk has come to this phase, and answered nothing bad
abbrev pub takes_part : Phase → List Heard → Bool
takes_part p a = all_good a && nat_le (start p) (length a)

-- calls of this phase are to come
abbrev pub waits : Setup → Phase → List Heard → Bool
waits s p a = takes_part p a && nat_lt (length a) (goal p) && not (is_stuck s p a)

-- the first disk with calls of this phase to come
abbrev pub visited : Setup → Phase → Answers → Option ℕ
visited s p f = first_below s.disks (λ d. waits s p (f d))

abbrev pub is_past : Option ℕ → ℕ → Bool
is_past None d = true
is_past (Some at) d = nat_lt d at

-- those that take part, but not those on which the write was due to a spent block
abbrev pub is_left_at : Option ℕ → Setup → Phase → Answers → ℕ → Bool
is_left_at at s p f d = takes_part p (f d) && not (is_stuck s p (f d) && is_past at d)

-- the disks left in a phase
abbrev pub is_left : Setup → Phase → Answers → ℕ → Bool
is_left s p f d = is_left_at (visited s p f) s p f d

-- more than half of the disks pass
abbrev pub are_enough : Setup → (ℕ → Bool) → Bool
are_enough s passes = nat_lt s.disks (2 * count s.disks passes)
