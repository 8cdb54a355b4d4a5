use Rattle.std.proofs.Common.{◌≡◌, ℕ, ap₂, arith}
use Rattle.phases.specs.Notes.{Notes, visit_at}
use Rattle.phases.proofs.one_attempt.Attempt.is_left.Goals as goal

pub returns : goal.returns
returns g c =
    let at : c.from.result ≡ c.args.disk = omega arith in
    ap₂ (λ (n : Notes) (k : ℕ). (visit_at n.visits k).left) c.self.view_is at
