use Rattle.std.proofs.Common.{◌≡◌, ◌+◌, ◌∙◌, ℕ, List, sym, subst, arith}
use Rattle.standings.proofs.Masks.{Done, shown_done, hidden_done, all_done}
use Rattle.standings.proofs.reading.mask.Goals as goal
use Rattle.standings.proofs.reading.mask.Goals.{then-not-shown-host, else-not-shown-host}

pub loop-host-preserved : goal.loop-host-preserved
loop-host-preserved c =
    let shown = c.args.shown.now in
    let old = c.args.row.now in
    let row = c.loop-host.row in
    let host = c.loop-host.host in
    let sofar = c.loop-host.invariant in
    elim c.if-not-shown-host.branch [
      | then-not-shown-host w ↦
          subst (λ (l : List ℕ). Done shown old l (host + 1)) (sym (w.row-is ∙ w.clear_block.ensures)) (hidden_done shown old row host (omega arith) sofar w.if-not-shown-host.true)
      | else-not-shown-host w ↦ subst (λ (l : List ℕ). Done shown old l (host + 1)) (sym w.row-is) (shown_done shown old row host sofar w.if-not-shown-host.false)
    ]

pub returns : goal.returns
returns c =
    let end : c.loop-host.host ≡ 16 = omega arith in
    all_done c.args.shown.now c.args.row.now c.loop-host.row (omega arith) (subst (Done c.args.shown.now c.args.row.now c.loop-host.row) end c.loop-host.invariant)
