use Rattle.std.proofs.Common.{◌≡◌, ◌<◌, ◌+◌, ◌∙◌, ℕ, List, sym, subst, arith, inl, inr, get_or, set}
use Rattle.std.proofs.lemmas.List.{get_or-set_same, get_or-set_other, length-set}
use Rattle.std.proofs.lemmas.Bool.{cases_lt}
use Rattle.torn_block.specs.declared.layout.TheConstants.{HOSTS_ROOM}
use Rattle.torn_block.specs.Layout.{Version, hosts_in}
use Rattle.torn_block.proofs.LayoutLaws.{few_hosts}
use Rattle.paxos_block.specs.declared.cell.Cell.{Cell}
use Rattle.paxos_block.specs.Row.{IsCell, IsRow, IsDamagedRow, blank_cell}
use Rattle.torn_block.specs.Damage.{block_of}
use Rattle.torn_block.proofs.DamageLaws.{sound_is_not_damaged}
use Rattle.paxos_block.proofs.RowLemmas.{damaged_row, row_is_said, row_is_not_unsaid}
use Rattle.paxos_block.proofs.row.read_row.Invariants.{Cells, Others}
use Rattle.paxos_block.proofs.row.read_row.Given.{Over}
use Rattle.paxos_block.proofs.row.read_row.Goals as goal

module _ (V : Type 0) (v : Version) (spelled : V → List ℕ) (bytes : List ℕ) (cells : List (Cell V)) (host : ℕ) (sofar : Cells V v spelled bytes cells host) (below : host < hosts_in v) where
  next_done : (cell : Cell V) → IsCell v spelled host (block_of v host bytes) cell → Cells V v spelled bytes (set cells host cell) (host + 1)
  next_done cell is =
      record {
        others =
            record {
              count = length-set cells host cell ∙ sofar.others.count;
              rest = λ k from under d. get_or-set_other cells host k cell d (λ same. absurd (omega arith)) ∙ sofar.others.rest k from under d;
            };
        done =
            λ k under d.
            elim (cases_lt k host) [
              | inl lt ↦ subst (IsCell v spelled k (block_of v k bytes)) (sym (get_or-set_other cells host k cell d (λ same. absurd (omega arith)))) (sofar.done k lt d)
              | inr ge ↦
                  (let same : host ≡ k = omega arith in
                  subst (λ (j : ℕ). IsCell v spelled j (block_of v j bytes) (get_or (set cells host cell) j d)) same (subst (IsCell v spelled host (block_of v host bytes)) (sym (get_or-set_same cells host cell d (omega (arith, few_hosts v, sofar.others.count)))) is))
            ];
      }

-- one more cell of a host that the layout does not have
next_other : (V : Type 0) (v : Version) (cells : List (Cell V)) (other : ℕ) → Others V v cells other → other < HOSTS_ROOM → Others V v (set cells other blank_cell) (other + 1)
next_other V v cells other sofar below =
    record {
      count = length-set cells other blank_cell ∙ sofar.count;
      rest =
          λ k from under d.
          elim (cases_lt k other) [
            | inl lt ↦ get_or-set_other cells other k blank_cell d (λ same. absurd (omega arith)) ∙ sofar.rest k from lt d
            | inr ge ↦
                (let same : other ≡ k = omega arith in
                subst (λ (j : ℕ). get_or (set cells other blank_cell) j d ≡ blank_cell) same (get_or-set_same cells other blank_cell d (omega (arith, sofar.count))))
          ];
    }

-- all cells are read
read_all : (V : Type 0) (v : Version) (spelled : V → List ℕ) (bytes : List ℕ) (cells : List (Cell V)) (host : ℕ) → Cells V v spelled bytes cells host → host ≡ hosts_in v → IsRow v spelled bytes (record { cells = cells })
read_all V v spelled bytes cells host sofar is =
    record { cells = λ k below. sofar.done k (omega arith); others = sofar.others.rest }

pub loop-host-init : goal.loop-host-init
loop-host-init g c =
    record {
      others = record { count = c.loop-other.invariant.count; rest = λ k from under d. c.loop-other.invariant.rest k from (let all = c.loop-other-test.false in omega arith) d };
      done = λ k under d. absurd (omega arith);
    }

pub loop-other-init : goal.loop-other-init
loop-other-init g c =
    record { count = omega arith; rest = λ k from under d. absurd (omega (arith, c.HOSTS-other.ensures ∙ g.met.L.Layout.hosts_is)) }

pub loop-other-preserved : goal.loop-other-preserved
loop-other-preserved g c =
    subst (λ (cell : Cell g.row.L-Value.Denot). Others g.row.L-Value.Denot g.L.Layout.version (set c.loop-other.row.cells c.loop-other.other cell) (c.loop-other.other + 1)) (sym c.blank.ensures)
    (next_other g.row.L-Value.Denot g.L.Layout.version c.loop-other.row.cells c.loop-other.other c.loop-other.invariant c.loop-other-test.true)

pub loop-host-preserved : goal.loop-host-preserved
loop-host-preserved g c =
    let v = g.L.Layout.version in
    let spelled = g.L.Layout.spelled in
    let host = c.loop-host.host in
    let below : host < hosts_in v = omega (arith, c.HOSTS-host-end.ensures ∙ g.met.L.Layout.hosts_is, c.loop-host-test.true) in
    let is : IsCell v spelled host (block_of v host c.args.bytes.now) c.in_ok-cell.cell = rw c.block_of-block.ensures.block at c.in_ok-cell.ensures.cell in
    next_done g.row.L-Value.Denot v spelled c.args.bytes.now c.loop-host.row.cells host c.loop-host.invariant below c.in_ok-cell.cell is

pub loop-host-preserved-then-is_blank : goal.loop-host-preserved-then-is_blank
loop-host-preserved-then-is_blank g c =
    let v = g.L.Layout.version in
    let spelled = g.L.Layout.spelled in
    let host = c.loop-host.host in
    let below : host < hosts_in v = omega (arith, c.HOSTS-host-end.ensures ∙ g.met.L.Layout.hosts_is, c.loop-host-test.true) in
    let is : IsCell v spelled host (block_of v host c.args.bytes.now) blank_cell = rw c.block_of-block.ensures.block at (c.is_blank.ensures c.if-is_blank.true host) in
    subst (λ (cell : Cell g.row.L-Value.Denot). Cells g.row.L-Value.Denot v spelled c.args.bytes.now (set c.loop-host.row.cells host cell) (host + 1)) (sym c.blank-then-is_blank.ensures)
    (next_done g.row.L-Value.Denot v spelled c.args.bytes.now c.loop-host.row.cells host c.loop-host.invariant below blank_cell is)

pub offset_bounds-row-host-in-loop-host : goal.offset_bounds-row-host-in-loop-host
offset_bounds-row-host-in-loop-host g c = omega (arith, few_hosts g.L.Layout.version, c.HOSTS-host-end.ensures ∙ g.met.L.Layout.hosts_is, c.loop-host-test.true)

pub bounds-row-host-in-loop-host : goal.bounds-row-host-in-loop-host
bounds-row-host-in-loop-host g c = omega (arith, few_hosts g.L.Layout.version, c.HOSTS-host-end.ensures ∙ g.met.L.Layout.hosts_is, c.loop-host-test.true)

pub listed-in-loop-host : goal.listed-in-loop-host
listed-in-loop-host g c = omega (arith, few_hosts g.L.Layout.version, c.loop-host.invariant.others.count, c.HOSTS-host-end.ensures ∙ g.met.L.Layout.hosts_is, c.loop-host-test.true)

pub returns-clause-row : goal.returns-clause-row
returns-clause-row g c =
    read_all g.row.L-Value.Denot g.L.Layout.version g.L.Layout.spelled c.args.bytes.now c.loop-host.row.cells c.loop-host.host c.loop-host.invariant (omega (arith, c.HOSTS-host-end.ensures ∙ g.met.L.Layout.hosts_is))

pub returns-clause-damaged : goal.returns-clause-damaged
returns-clause-damaged g c =
    let v = g.L.Layout.version in
    let all = read_all g.row.L-Value.Denot v g.L.Layout.spelled c.args.bytes.now c.loop-host.row.cells c.loop-host.host c.loop-host.invariant (omega (arith, c.HOSTS-host-end.ensures ∙ g.met.L.Layout.hosts_is)) in (
      (λ t. absurd cc),
      (λ damage. absurd (sound_is_not_damaged (block_of v damage.0 c.args.bytes.now) (all.cells damage.0 damage.1 blank_cell).sound damage.2)),
    )

damage : (g : Over) (c : goal.After-from_residual g) → IsDamagedRow g.L.Layout.version c.args.bytes.now
damage g c =
    let v = g.L.Layout.version in
    let host = c.loop-host.host in
    (host, omega (arith, c.HOSTS-host-end.ensures ∙ g.met.L.Layout.hosts_is, c.loop-host-test.true), rw c.block_of-block.ensures.block at c.in_err-cell.ensures.damaged)

pub returns-in_err-cell-clause-damaged : goal.returns-in_err-cell-clause-damaged
returns-in_err-cell-clause-damaged g c = ((λ t. damage g c), (λ is. c.from_residual.ensures.0))

pub returns-in_err-cell-clause-unsaid : goal.returns-in_err-cell-clause-unsaid
returns-in_err-cell-clause-unsaid g c =
    let none = damaged_row g.L.Layout.version c.args.bytes.now c.requires (λ i. omega (arith, c.type_inv.bytes i)) (damage g c) in
    ((λ t. none), (λ is. c.from_residual.ensures.0))

pub returns-clause-unsaid : goal.returns-clause-unsaid
returns-clause-unsaid g c =
    let v = g.L.Layout.version in
    let all = read_all g.row.L-Value.Denot v g.L.Layout.spelled c.args.bytes.now c.loop-host.row.cells c.loop-host.host c.loop-host.invariant (omega (arith, c.HOSTS-host-end.ensures ∙ g.met.L.Layout.hosts_is)) in
    ((λ t. absurd cc), (λ none. absurd (row_is_not_unsaid v c.args.bytes.now c.requires g.row.L-Value.Denot g.L.Layout.spelled (record { cells = c.loop-host.row.cells }) all blank_cell none)))

pub returns-clause-said : goal.returns-clause-said
returns-clause-said g c =
    let v = g.L.Layout.version in
    let all = read_all g.row.L-Value.Denot v g.L.Layout.spelled c.args.bytes.now c.loop-host.row.cells c.loop-host.host c.loop-host.invariant (omega (arith, c.HOSTS-host-end.ensures ∙ g.met.L.Layout.hosts_is)) in
    row_is_said v c.args.bytes.now c.requires g.row.L-Value.Denot g.L.Layout.spelled (record { cells = c.loop-host.row.cells }) all blank_cell
