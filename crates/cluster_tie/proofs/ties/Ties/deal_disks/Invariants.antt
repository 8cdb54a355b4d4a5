use Rattle.std.proofs.Common.{◌≡◌, ◌++◌, [], ◌+◌, ◌-◌, ◌≤◌, true, vec_len}
use Rattle.std.specs.Vec.{vec_capacity}
use Rattle.cluster_tie.specs.Parts.{AreFresh}
use Rattle.cluster_tie.specs.View.{keeper, parts_from, host_parts}
use Rattle.cluster_tie.proofs.ties.Ties.deal_disks.Given as goal

abbrev pub invariant-loop-k : goal.invariant-loop-k
invariant-loop-k g l = record {
  same_table : l.seat.table_id ≡ l.initial.seat.table_id;
  left : l.seat.me ≡ (keeper [] (parts_from true l._k (l.disks - l._k) ++ host_parts), []);
  dealt : AreFresh l._k l.tokens.items;
  room : vec_len l.tokens + (l.disks - l._k) ≤ vec_capacity l.tokens;
}
