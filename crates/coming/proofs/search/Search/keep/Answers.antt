use Rattle.std.proofs.Common.{◌≡◌, ◌∙◌, ◌+◌, ℕ, Some, ap, sym, subst, arith}
use Rattle.std.specs.Prelude.{max, slice_set}
use Rattle.coming.specs.Finding.{IsSoundAfter, Readings, on_disk}
use Rattle.coming.proofs.Asking.{answered_most, others, own, passes, sound_kept}
use Rattle.coming.proofs.search.Search.keep.Goals as goal

pub overflow_add-self : goal.overflow_add-self
overflow_add-self c = (let most = answered_most c.args.self.now c.requires.sound c.requires.going in omega (arith, most))

pub go_on-requires-clause-sound : goal.go_on-requires-clause-sound
go_on-requires-clause-sound c =
    let s = c.args.self.now in
    let standings = c.args.standings.now in
    let at : s.disk ≡ c.from-disk.result = omega arith in
    subst (λ (k : ℕ). IsSoundAfter (record s { readings = slice_set s.readings c.from-disk.result (Some standings); answered = s.answered + 1; newest = k })) (sym c.max-self.ensures)
    (subst (λ (k : ℕ). IsSoundAfter (record s { readings = slice_set s.readings k (Some standings); answered = s.answered + 1; newest = max s.newest c.newest_in.result })) at
    (sound_kept s c.requires.sound c.requires.going standings c.newest_in.result c.newest_in.ensures.above c.newest_in.ensures.reached))

pub returns-clause-keeps : goal.returns-clause-keeps
returns-clause-keeps c pasts m kept are =
    let s = c.args.self.now in
    let standings = c.args.standings.now in
    let at : s.disk ≡ c.from-disk.result = omega arith in
    let readings : c.go_on.new.self.readings ≡ slice_set s.readings s.disk (Some standings) = c.go_on.ensures.kept ∙ ap (λ (k : ℕ). slice_set s.readings k (Some standings)) (sym at) in
    let top = c.newest_in.result in
    let above = c.newest_in.ensures.above in
    let reached = c.newest_in.ensures.reached in
    passes s c.requires.sound c.requires.going pasts kept c.go_on.new.self m (Some standings) c.go_on.ensures.same.slots c.go_on.ensures.asked c.go_on.ensures.begins
    (λ d less. ap (λ (r : Readings). on_disk r d) readings ∙ others s c.requires.sound c.requires.going standings top above reached d (λ same. omega arith))
    (ap (λ (r : Readings). on_disk r s.disk) readings ∙ own s c.requires.sound c.requires.going standings top above reached)
    are
