use Rattle.std.proofs.Common.{◌≡◌, ◌<◌, ◌≤◌, ℕ, List, length}
use Rattle.std.specs.List.{HoldsAt}
use Rattle.torn_block.specs.declared.layout.TheConstants.{HOSTS_ROOM}
use Rattle.torn_block.specs.Layout.{Version, hosts_in}
use Rattle.torn_block.specs.Damage.{block_of}
use Rattle.paxos_block.specs.declared.cell.Cell.{Cell}
use Rattle.paxos_block.specs.Row.{IsCell, blank_cell}
use Rattle.paxos_block.proofs.row.read_row.Given as goal

-- the cells of hosts that the layout does not have are blank, up to one
pub record Others (V : Type 0) (v : Version) (cells : List (Cell V)) (end : ℕ) : Type 0 where
  pub count : length cells ≡ HOSTS_ROOM
  pub rest : (k : ℕ) → hosts_in v ≤ k → k < end → HoldsAt (λ cell. cell ≡ blank_cell) cells k

-- the cells so far are those of their hosts
pub record Cells (V : Type 0) (v : Version) (spelled : V → List ℕ) (bytes : List ℕ) (cells : List (Cell V)) (host : ℕ) : Type 0 where
  pub others : Others V v cells HOSTS_ROOM
  pub done : (k : ℕ) → k < host → HoldsAt (IsCell v spelled k (block_of v k bytes)) cells k

abbrev pub invariant-loop-other : goal.invariant-loop-other
invariant-loop-other g l = Others g.row.L-Value.Denot g.L.Layout.version l.row.cells l.other

abbrev pub invariant-loop-host : goal.invariant-loop-host
invariant-loop-host g l = Cells g.row.L-Value.Denot g.L.Layout.version g.L.Layout.spelled l.bytes l.row.cells l.host
