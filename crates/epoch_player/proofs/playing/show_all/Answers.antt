use Rattle.std.proofs.Common.{◌+◌, ◌<◌, ◌≡◌, ◌++◌, ◌∷◌, ◌∙◌, List, [], length, take, subst, sym, ap, arith}
use Rattle.std.proofs.lemmas.List.{take_all, take_more}
use Rattle.lock_script.specs.declared.show.Show.{Show}
use Rattle.epoch_player.specs.Playing.{ShowsLeft}
use Rattle.epoch_player.proofs.Parts.{none_left, one_left}
use Rattle.epoch_player.proofs.playing.show_all.Goals as goal

pub loop-show-init : goal.loop-show-init
loop-show-init g c = none_left c.args.cluster.now (g.O.Write.contents c.args.out.now)

pub loop-show-preserved : goal.loop-show-preserved
loop-show-preserved g c =
    let at = c.loop-show in
    let shows = c.args.shows.now in
    let show = c.show-item.result in
    let k = c.args.cluster.now in
    let before = g.O.Write.contents c.args.out.now in
    let now = g.O.Write.contents at.out in
    let after = g.O.Write.contents c.show_host.new.out in
    let shown = c.in_ok-show_host.ensures in
    let within : at.show-index < length shows = omega arith in
    let grown : take at.show-index shows ++ show ∷ [] ≡ take (at.show-index + 1) shows =
    ap (λ (s : Show). take at.show-index shows ++ s ∷ []) c.show-item.is ∙ sym (take_more shows at.show-index show within) in
    subst (λ (l : List Show). ShowsLeft l k before after) grown
    (one_left (take at.show-index shows) show k shown.0 before now after at.invariant shown.1 shown.2)

pub returns : goal.returns
returns g c =
    let at = c.loop-show in
    let shows = c.args.shows.now in
    let all : take at.show-index shows ≡ shows = take_all at.show-index shows (omega arith) in
    subst (λ (l : List Show). ShowsLeft l c.args.cluster.now (g.O.Write.contents c.args.out.now) (g.O.Write.contents at.out)) all at.invariant
