use Rattle.std.proofs.Common.{◌≡◌, ◌∙◌, ◌⊎◌, Some, true, inl, inr, subst, eqb-true}
use Rattle.window.specs.Knows.{KnowsOf}
use Rattle.window.proofs.Seeing.{synced_keeps, synced_knows}
use Rattle.window.proofs.sight.Sight.synced.Goals.{then-sight, else-sight}
use Rattle.window.proofs.sight.Sight.synced.Goals as goal

pub returns-clause-knows : goal.returns-clause-knows
returns-clause-knows c n host e past is =
    let s = c.in_ok-sight.sight in
    let some : c.args.before.now ≡ Some s = cc in
    let why : c.if-sight.result ≡ true → (s.is_synced ≡ true) ⊎ (s.boot.number ≡ c.args.boot.number) =
    λ so. elim c.if-sight.branch [ then-sight w ↦ inl w.if-sight.true | else-sight w ↦ inr (eqb-true _ _ (let yes = w.result-is in cc)) ] in
    synced_knows n e host past s c.args.boot.number c.if-sight.result why (subst (KnowsOf n e host past) some is)

pub returns-clause-keeps : goal.returns-clause-keeps
returns-clause-keeps c =
    let s = c.in_ok-sight.sight in
    let some : c.args.before.now ≡ Some s = cc in
    let up : s.is_synced ≡ true → c.if-sight.result ≡ true =
    λ so. elim c.if-sight.branch [ then-sight w ↦ w.result-is ∙ so | else-sight w ↦ absurd (let off = w.if-sight.false in cc) ] in
    synced_keeps c.args.before.now s c.if-sight.result some up
