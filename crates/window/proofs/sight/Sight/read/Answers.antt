use Rattle.std.proofs.Common.{◌≡◌, ◌∙◌, ◌⊎◌, ◌++◌, ◌∷◌, [], ℕ, Some, None, true, inl, inr, refl, subst, sym}
use Rattle.std.proofs.lemmas.Bool.{not-true}
use Rattle.standings.specs.Past.{reading}
use Rattle.standings.specs.Reading.{numbers_in}
use Rattle.window.specs.Knows.{Knows, KnowsOf}
use Rattle.window.proofs.Pasts.{knows_more}
use Rattle.window.proofs.Seeing.{known_under, read_keeps, read_knows}
use Rattle.window.proofs.sight.Sight.read.Goals.{then-sight, else-sight+then-sight-2, else-sight+else-sight-2}
use Rattle.window.proofs.sight.Sight.read.Goals as goal

pub returns-in_err-sight-clause-knows : goal.returns-in_err-sight-clause-knows
returns-in_err-sight-clause-knows c n host e past row says inside is = let none : c.from_residual.result ≡ None = cc in subst (KnowsOf n e host (past ++ reading n e.area c.args.boot.number row ∷ [])) (sym none) tt

pub returns-then-sight-boot-clause-knows : goal.returns-then-sight-boot-clause-knows
returns-then-sight-boot-clause-knows c n host e past row says inside is =
    let s = c.in_ok-sight.sight in
    let some : c.args.before.now ≡ Some s = cc in
    knows_more n e host past (reading n e.area c.args.boot.number row) tt tt s (subst (KnowsOf n e host past) some is)

pub returns-clause-knows : goal.returns-clause-knows
returns-clause-knows c n host e past row says inside is =
    let s = c.in_ok-sight.sight in
    let some : c.args.before.now ≡ Some s = cc in
    let same : s.boot.number ≡ c.args.boot.number = c.if-sight-boot.false in
    let why : c.if-sight.result ≡ true → (s.is_sure ≡ true) ⊎ ((s.is_synced ≡ true) × (numbers_in row host ≡ e.number)) =
    λ so. elim c.if-sight.branch [ then-sight w ↦ inl w.if-sight.true | else-sight+then-sight-2 w ↦ inr (w.if-sight-2.true, inside (not-true c.args.only_looks (sym w.result-is ∙ so))) | else-sight+else-sight-2 w ↦ absurd (let yes = w.result-is in cc) ] in
    subst (λ (b : ℕ). Knows n e host (past ++ reading n e.area b row ∷ []) (record s { is_sure = c.if-sight.result; numbers = Some c.args.numbers.now })) same
    (read_knows n e host past row c.args.numbers.now says s c.if-sight.result why (subst (KnowsOf n e host past) some is))

pub returns-clause-keeps : goal.returns-clause-keeps
returns-clause-keeps c =
    let s = c.in_ok-sight.sight in
    let some : c.args.before.now ≡ Some s = cc in
    let up : s.is_sure ≡ true → c.if-sight.result ≡ true =
    λ so. elim c.if-sight.branch [ then-sight w ↦ w.result-is ∙ so | else-sight+then-sight-2 w ↦ absurd (let off = w.if-sight.false in cc) | else-sight+else-sight-2 w ↦ absurd (let off = w.if-sight.false in cc) ] in
    read_keeps c.args.before.now s c.if-sight.result c.args.numbers.now some up

pub returns-clause-known : goal.returns-clause-known
returns-clause-known c under = known_under (record c.in_ok-sight.sight { is_sure = c.if-sight.result; numbers = Some c.args.numbers.now }) c.args.boot.number c.if-sight-boot.false refl
