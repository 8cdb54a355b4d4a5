use Rattle.std.specs.Prelude.{IfOk, IsTrue, ◌↔◌}
use Rattle.std.proofs.Common.{ℕ, sym, subst}
use Rattle.host.specs.declared.answer.HostAnswer.{HostAnswer}
use Rattle.fault_sweep.specs.Judging.{goes_by, is_shown_after, RepliesAfter}
use Rattle.fault_sweep.proofs.judging.goes_by.Goals as goal

pub returns-in-Ack : goal.returns-in-Ack
returns-in-Ack c =
    let log = c.args.log.now in
    subst (λ (s : HostAnswer). IfOk c.replies.result (λ right. IsTrue right ↔ goes_by log c.args.answer.now.picture s)) (sym c.in-Ack.is)
    (subst (λ (n : ℕ). IfOk c.replies.result (λ right. IsTrue right ↔ RepliesAfter log n c.in-Ack.reply)) c.from.ensures c.replies.ensures)

pub returns-in-Recovered : goal.returns-in-Recovered
returns-in-Recovered c =
    let log = c.args.log.now in
    subst (λ (s : HostAnswer). IfOk c.is_shown.result (λ right. IsTrue right ↔ goes_by log c.args.answer.now.picture s)) (sym c.in-Recovered.is)
    (subst (λ (n : ℕ). IfOk c.is_shown.result (λ right. IsTrue right ↔ is_shown_after log n c.args.answer.now.picture)) c.from-in-Recovered.ensures c.is_shown.ensures)

pub returns-in-Looked : goal.returns-in-Looked
returns-in-Looked c =
    let log = c.args.log.now in
    subst (λ (s : HostAnswer). IfOk c.is_shown-in-Looked.result (λ right. IsTrue right ↔ goes_by log c.args.answer.now.picture s)) (sym c.in-Looked.is)
    (subst (λ (n : ℕ). IfOk c.is_shown-in-Looked.result (λ right. IsTrue right ↔ is_shown_after log n c.args.answer.now.picture)) c.from-in-Looked.ensures c.is_shown-in-Looked.ensures)
