use Rattle.std.proofs.Common.{◌≡◌, ◌∙◌, ◌++◌, ◌-◌, ℕ, List, Option, take, sym, subst, ap}
use Rattle.std.proofs.lemmas.List.{take-append-drop}
use Rattle.std.specs.Option.{option_map}
use Rattle.std.specs.Prelude.{IfSome}
use Rattle.torn_block.specs.Plan.{body_in}
use Rattle.paxos_block.specs.Saying.{Said, said_as, MaySay, body_saying, said_by}
use Rattle.paxos_block.proofs.SayingLemmas.{said_found, said_only}
use Rattle.paxos_block.proofs.block.decode.Given.{Over}
use Rattle.paxos_block.proofs.block.decode.Goals as goal

exact : (g : Over) (c : goal.After-said g) → option_map (said_as g.L.Layout.spelled) c.said.result ≡ said_by g.L.Layout.version c.args.host (body_in g.L.Layout.version c.args.body.now)
exact g c =
    let v = g.L.Layout.version in
    let used = ap (λ (n : ℕ). take (n - 9) c.args.body.now.bytes) (c.COPY_LENGTH.ensures ∙ g.met.L.Layout.copy_is) in
    c.said.ensures
    ∙ ap (λ (l : List ℕ). said_by v c.args.host (l ++ c.split_at.result.1.now)) c.split_at.ensures.front
    ∙ ap (λ (l : List ℕ). said_by v c.args.host (take 7 (take (c.COPY_LENGTH.result - 9) c.args.body.now.bytes) ++ l)) c.split_at.ensures.back
    ∙ ap (said_by v c.args.host) (take-append-drop 7 (take (c.COPY_LENGTH.result - 9) c.args.body.now.bytes) ∙ used)

pub returns-clause-found : goal.returns-clause-found
returns-clause-found g c =
    subst (λ (o : Option Said). IfSome o (λ says. MaySay g.L.Layout.version c.args.host says × (body_in g.L.Layout.version c.args.body.now ≡ body_saying g.L.Layout.version says))) (sym (exact g c)) (said_found g.L.Layout.version c.args.host (body_in g.L.Layout.version c.args.body.now))

pub returns-clause-only : goal.returns-clause-only
returns-clause-only g c = λ says may is. exact g c ∙ said_only g.L.Layout.version c.args.host (body_in g.L.Layout.version c.args.body.now) says may is

pub returns-clause-exact : goal.returns-clause-exact
returns-clause-exact g c = exact g c
