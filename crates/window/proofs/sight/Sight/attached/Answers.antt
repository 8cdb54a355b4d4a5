use Rattle.std.specs.Prelude.{IsSome}
use Rattle.std.proofs.Common.{List, Option, false, refl, sym, subst, ℕ}
use Rattle.window.specs.Knows.{AreNumbersOf}
use Rattle.window.proofs.Seeing.{attached_knows, known_under}
use Rattle.window.proofs.Steps.{under_of}
use Rattle.window.proofs.sight.Sight.attached.Goals as goal

pub returns-clause-knows : goal.returns-clause-knows
returns-clause-knows c n host e past is =
    attached_knows n e host past c.args.boot c.numbers_under.result
    (subst (λ (o : Option (List ℕ)). AreNumbersOf n e.area c.args.boot.number o past) (sym c.numbers_under.ensures) (under_of n e host past c.args.boot.number c.args.before.now is))

pub returns-clause-known : goal.returns-clause-known
returns-clause-known c known = known_under (record { boot = c.args.boot; is_synced = false; is_sure = false; numbers = c.numbers_under.result }) c.args.boot.number refl (subst IsSome (sym c.numbers_under.ensures) known)
