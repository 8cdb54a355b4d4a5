use Rattle.std.specs.Prelude.{slice_index_or}
use Rattle.std.proofs.Common.{◌≡◌, ◌+◌, ℕ, Bool, false, List, Option, sym, subst, arith}
use Rattle.log_folders.proofs.Lines.{Lined, all_lined, and_left, and_right, and_true, none_lined, one_lined, one_passed}
use Rattle.log_folders.proofs.print_area.print_lines.Goals as goal
use Rattle.log_folders.proofs.print_area.print_lines.Goals.{then-shown-host+then-damaged-host+in_ok-print_line, else-shown-host, else-shown-host-via-then-shown-host+else-damaged-host, else-shown-host-via-else-shown-host}

pub loop-host-init : goal.loop-host-init
loop-host-init g c = none_lined c.args.area c.args.part c.args.shown.now c.args.damaged.now (g.O.Write.contents c.args.out.now)

pub returns-clause-text : goal.returns-clause-text
returns-clause-text g c =
    let end : c.loop-host.host ≡ 16 = omega arith in
    (all_lined c.args.area c.args.part c.args.shown.now c.args.damaged.now c.loop-host.host (g.O.Write.contents c.args.out.now) (g.O.Write.contents c.loop-host.out) c.loop-host.found end c.loop-host.invariant).0

pub returns-clause-found : goal.returns-clause-found
returns-clause-found g c =
    let end : c.loop-host.host ≡ 16 = omega arith in
    (all_lined c.args.area c.args.part c.args.shown.now c.args.damaged.now c.loop-host.host (g.O.Write.contents c.args.out.now) (g.O.Write.contents c.loop-host.out) c.loop-host.found end c.loop-host.invariant).1

pub loop-host-preserved : goal.loop-host-preserved
loop-host-preserved g c =
    let area = c.args.area in
    let part = c.args.part in
    let shown = c.args.shown.now in
    let damaged = c.args.damaged.now in
    let host = c.loop-host.host in
    let a = g.O.Write.contents c.args.out.now in
    let b = g.O.Write.contents c.loop-host.out in
    let is_shown = slice_index_or shown host false in
    let is_damaged = slice_index_or damaged host false in
    let Next : Option (List ℕ) → Bool → Type 0 = λ now found. Lined area part shown damaged (host + 1) a now found in
    elim c.if-shown-host.branch [
      | then-shown-host+then-damaged-host+in_ok-print_line w ↦
          subst (λ o. Next (g.O.Write.contents o) c.if-shown-host.found) (sym w.out-is)
          (subst (λ (found : Bool). Next (g.O.Write.contents w.print_line.new.out) found) (sym w.found-is)
          (one_lined area part shown damaged host a b (g.O.Write.contents w.print_line.new.out) c.loop-host.found (and_true is_shown is_damaged w.if-shown-host.true w.if-damaged-host.true) c.loop-host.invariant w.in_ok-print_line.ensures))
      | else-shown-host w ↦
          subst (λ o. Next (g.O.Write.contents o) c.if-shown-host.found) (sym w.out-is)
          (subst (λ (found : Bool). Next b found) (sym w.found-is)
          (one_passed area part shown damaged host a b c.loop-host.found
          (elim w.else-shown-host.branch [
            | else-shown-host-via-then-shown-host+else-damaged-host v ↦ and_right is_shown is_damaged v.if-damaged-host.false
            | else-shown-host-via-else-shown-host v ↦ and_left is_shown is_damaged v.if-shown-host.false
          ])
          c.loop-host.invariant))
    ]
