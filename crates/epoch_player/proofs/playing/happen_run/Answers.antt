use Rattle.std.specs.Prelude.{replicate}
use Rattle.std.proofs.Common.{ℕ, ◌+◌, ◌-◌, ◌≡◌, [], ◌∷◌, subst, arith}
use Rattle.epoch_player.specs.Playing.{PlaysPart}
use Rattle.epoch_player.proofs.Parts.{nothing, again}
use Rattle.epoch_player.proofs.playing.happen_run.Goals as goal

pub loop-place-init : goal.loop-place-init
loop-place-init g c =
    let none_yet : 0 ≡ c.args.first - c.args.first = omega arith in
    let k = c.args.cluster.now in
    let at = g.O.Write.contents c.args.out.now in
    subst (λ (n : ℕ). PlaysPart c.args.config (replicate n c.args.run.now.event) c.args.first c.args.shows.now c.args.shows.now k k at at) none_yet
    (nothing c.args.config c.args.first c.args.shows.now k at)

pub loop-place-preserved : goal.loop-place-preserved
loop-place-preserved g c =
    let first = c.args.first in
    let at = c.loop-place in
    let e = c.args.run.now.event in
    let start = c.args.cluster.now in
    let new = c.happen_once.new.cluster in
    let shows = c.args.shows.now in
    let left = c.in_ok-shows.shows.now in
    let before = g.O.Write.contents c.args.out.now in
    let mid = g.O.Write.contents at.out in
    let after = g.O.Write.contents c.happen_once.new.out in
    let here : at.place ≡ first + (at.place - first) = omega arith in
    let further : at.place - first + 1 ≡ at.place + 1 - first = omega arith in
    subst (λ (n : ℕ). PlaysPart c.args.config (replicate n e) first shows left start new before after) further
    (again c.args.config e (at.place - first) first shows at.shows.now left start at.cluster new before mid after at.invariant
    (subst (λ (n : ℕ). PlaysPart c.args.config (e ∷ []) n at.shows.now left at.cluster new mid after) here c.in_ok-shows.ensures))

pub returns : goal.returns
returns g c =
    let first = c.args.first in
    let at = c.loop-place in
    let e = c.args.run.now.event in
    let all : at.place - first ≡ c.args.run.now.times = omega arith in
    subst (λ (n : ℕ). PlaysPart c.args.config (replicate n e) first c.args.shows.now at.shows.now c.args.cluster.now at.cluster (g.O.Write.contents c.args.out.now) (g.O.Write.contents at.out)) all
    at.invariant
