use Rattle.std.proofs.Common.{◌+◌, List, ℕ, Option, subst, sym}
use Rattle.std.specs.List.{flat_map, range_with_len}
use Rattle.std.specs.Io.KnownBytes.{Appends}
use Rattle.std.proofs.KnownBytes.{Appends-nil}
use Rattle.folders.specs.Damage.{line_if}
use Rattle.folders.proofs.Damage.{one_text_more, line_is, no_line}
use Rattle.folders.proofs.check.print_lines.Goals as goal
use Rattle.folders.proofs.check.print_lines.Goals.{then-damaged-host+in_ok-print_line, else-damaged-host}

pub loop-host-init : goal.loop-host-init
loop-host-init g c = Appends-nil (g.O.Write.contents c.args.out.now)

pub loop-host-preserved : goal.loop-host-preserved
loop-host-preserved g c =
    let disk = c.args.disk in
    let blocks = c.args.blocks in
    let damaged = c.args.damaged.now in
    let host = c.loop-host.host in
    let text = line_if disk blocks damaged in
    let a = g.O.Write.contents c.args.out.now in
    let b = g.O.Write.contents c.loop-host.out in
    let Printed : Option (List ℕ) → Type 0 = λ now. Appends a now (flat_map text (range_with_len 0 (host + 1))) in
    elim c.if-damaged-host.branch [
      | then-damaged-host+in_ok-print_line w ↦
          (let printed = g.O.Write.contents w.print_line.new.out in
          subst (λ o. Printed (g.O.Write.contents o)) (sym w.out-is)
          (one_text_more text a b printed host c.loop-host.invariant (subst (Appends b printed) (line_is disk blocks damaged host w.if-damaged-host.true) w.in_ok-print_line.ensures)))
      | else-damaged-host w ↦
          subst (λ o. Printed (g.O.Write.contents o)) (sym w.out-is)
          (one_text_more text a b b host c.loop-host.invariant (no_line b disk blocks damaged host w.if-damaged-host.false))
    ]
