use Rattle.std.proofs.Common.{◌∙◌, ℕ, ap₂, sym, subst}
use Rattle.std.specs.Prelude.{max}
use Rattle.coming.proofs.Asking.{Reaches, newest_reached}
use Rattle.coming.proofs.search.newest_in.Goals as goal

pub returns-clause-reached : goal.returns-clause-reached
returns-clause-reached c =
    subst (Reaches c.args.standings.now) (sym (c.max.ensures ∙ ap₂ (λ (x y : ℕ). max x y) c.unwrap_or-first.ensures c.unwrap_or-second.ensures))
    (newest_reached c.args.standings.now c.newest.result c.newest-2.result c.newest.ensures.newest c.newest-2.ensures.newest)
