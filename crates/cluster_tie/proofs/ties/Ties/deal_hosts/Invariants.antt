use Rattle.std.proofs.Common.{◌≡◌, ◌++◌, [], ◌+◌, ◌-◌, ◌≤◌, false, vec_len}
use Rattle.std.specs.Vec.{vec_capacity}
use Rattle.torn_block.specs.declared.layout.TheConstants.{HOSTS}
use Rattle.cluster_tie.specs.Parts.{AreFresh}
use Rattle.cluster_tie.specs.View.{keeper, parts_from}
use Rattle.cluster_tie.proofs.ties.Ties.deal_hosts.Given as goal

abbrev pub invariant-loop-k : goal.invariant-loop-k
invariant-loop-k g l = record {
  same_table : l.seat.table_id ≡ l.initial.seat.table_id;
  left : l.seat.me ≡ (keeper [] (parts_from false l._k (HOSTS - l._k) ++ []), []);
  dealt : AreFresh l._k l.tokens.items;
  room : vec_len l.tokens + (HOSTS - l._k) ≤ vec_capacity l.tokens;
}
