use Rattle.std.proofs.Common.{◌≡◌, ◌+◌, ◌%◌, length}
use Rattle.disk.specs.Disk.{put_at}
use Rattle.disk.specs.Filling.{spread}
use Rattle.disk.proofs.bytes.put_in_turn.Given as goal

abbrev pub invariant-loop-i : goal.invariant-loop-i
invariant-loop-i l = record {
  turn : l.turn ≡ (l.first + l.i) % length l.given;
  as_many : length l.bytes.items ≡ length l.fn.bytes.items;
  so_far : l.bytes.items ≡ put_at l.fn.bytes.items l.at (spread l.given l.first l.i);
}
