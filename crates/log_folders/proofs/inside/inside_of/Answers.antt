use Rattle.std.proofs.Common.{◌≡◌, ℕ, List, Option, false, subst}
use Rattle.std.specs.Prelude.{◌↔◌, IsTrue, replicate, slice_index, slice_index_or}
use Rattle.std.proofs.lemmas.List.{get_or-replicate}
use Rattle.standings.specs.declared.epoch.Epoch.{Epoch}
use Rattle.log_folders.specs.Areas.{SaysNumbers}
use Rattle.log_folders.proofs.Insiders.{insiders, nobody, none_inside}
use Rattle.log_folders.proofs.inside.inside_of.Goals as goal

pub returns-in_default : goal.returns-in_default
returns-in_default c = λ row says.
    let damaged = subst (λ (o : Option (List ℕ)). SaysNumbers row o) c.in_default.is says in
    nobody c.args.area row (replicate 16 false) (λ host below. get_or-replicate 16 host false false below) (λ host one. one.sound damaged)

pub returns-in-Some-newest : goal.returns-in-Some-newest
returns-in-Some-newest c = λ row says.
    insiders c.args.area row c.in-Some.numbers (subst (λ (o : Option (List ℕ)). SaysNumbers row o) c.in-Some.is says) c.in-Some-newest.order c.in-Some-newest.ensures.newest c.having.result
    (λ host below. subst (λ (e : Epoch). IsTrue (slice_index_or c.having.result host false) ↔ (slice_index c.in-Some.numbers host ≡ e.number)) c.new.ensures (c.having.ensures host below))

pub returns-in-None : goal.returns-in-None
returns-in-None c = λ row says.
    nobody c.args.area row (replicate 16 false) (λ host below. get_or-replicate 16 host false false below)
    (none_inside c.args.area row c.in-Some.numbers (subst (λ (o : Option (List ℕ)). SaysNumbers row o) c.in-Some.is says) c.in-None.ensures.newest)
