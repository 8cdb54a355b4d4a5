-- Of a stopped host nothing is kept, and so the line says that it is stopped.
use Rattle.std.proofs.Common.{◌≡◌, ℕ, Option, None, slice_index_or, refl, subst}
use Rattle.std.specs.Io.KnownBytes.{Appends}
use Rattle.host.specs.Kept.{Kept}
use Rattle.dlm_tasks.specs.Printed.{IsShowOf, stopped_line}
use Rattle.dlm_tasks.proofs.run.show_host.Goals as goal

pub returns-in_ok-print_stopped-in-None-clause-written : goal.returns-in_ok-print_stopped-in-None-clause-written
returns-in_ok-print_stopped-in-None-clause-written g c =
    let show = c.args.show.now in
    let hosts = c.args.cluster.now.hosts in
    let before = g.O.Write.contents c.args.out.now in
    let after = g.O.Write.contents c.print_stopped.new.out in
    let line = stopped_line show.host in
    let nothing : Option Kept = None in
    let stopped = subst (λ (host : ℕ). nothing ≡ slice_index_or hosts host nothing) c.get-host.ensures.value c.in-None.ensures in (
      line,
      subst (λ (kept : Option Kept). IsShowOf show kept line) stopped refl,
      subst (λ (host : ℕ). Appends before after (stopped_line host)) c.get-host.ensures.value c.in_ok-print_stopped-in-None.ensures,
    )
