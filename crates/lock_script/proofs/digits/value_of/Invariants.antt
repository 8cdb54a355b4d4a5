use Rattle.std.proofs.Common.{◌≡◌, ◌*◌, take, drop, length}
use Rattle.lock_script.proofs.GivenLemmas.{IsRead}
use Rattle.lock_script.proofs.digits.value_of.Given as goal

-- the bytes so far
abbrev pub invariant-loop-at : goal.invariant-loop-at
invariant-loop-at l = record {
  read : IsRead l.word (take l.at l.bytes) (drop (2 * l.at) l.word);
  long : length l.bytes ≡ 16;
}
