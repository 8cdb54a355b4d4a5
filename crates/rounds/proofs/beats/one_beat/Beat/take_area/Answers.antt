use Rattle.std.proofs.Common.{◌≡◌, ◌++◌, ◌∷◌, [], ◌∙◌, ℕ, List, Option, Some, None, ap, sym, subst, slice_set, refl, arith}
use Rattle.rounds.specs.Beat.Answers.{Told}
use Rattle.rounds.specs.Beat.Kept.{IsSameBeat, LeadsTo}
use Rattle.rounds.specs.Beat.Notes.{Notes, notes_in}
use Rattle.rounds.specs.Kept.{begins}
use Rattle.rounds.proofs.Beat.Beating.{reads, reads_damage, still_going}
use Rattle.rounds.proofs.beats.one_beat.Beat.take_area.Goals as goal

pub returns-in-Ok-clause-same : goal.returns-in-Ok-clause-same
returns-in-Ok-clause-same c =
    subst (λ (m : Notes). IsSameBeat m (notes_in c.self.inside.host c.write.new.self (slice_set c.self.inside.readings c.from-disk.result (Some c.in-Ok.counters)))) c.self.view_is
    (record { host = refl; disks = c.write.ensures.disks })

pub returns-in-Ok-clause-leads : goal.returns-in-Ok-clause-leads
returns-in-Ok-clause-leads c s answers leads =
    let p = c.self.inside in
    let led = subst (LeadsTo s answers) (sym c.self.view_is) leads in
    let going = still_going p.round.end (ap (λ (m : Notes). m.end) c.self.view_is ∙ c.requires.going) in
    let st = ap (λ (m : Notes). m.round.stage) c.self.view_is ∙ c.requires.stage in
    let at : p.round.disk ≡ c.from-disk.result = omega arith in
    let step = c.write.ensures.step ∙ ap (begins p.round c.own_block.result) c.encode_beat.ensures in
    subst (λ (o : Option (List ℕ)). LeadsTo s (answers ++ record { disk = c.args.self.now.disk; heard = Told o } ∷ []) (notes_in p.host c.write.new.self (slice_set p.readings c.from-disk.result (Some c.in-Ok.counters)))) (sym c.in-Ok.ensures.said)
    (subst (λ (m : Notes). LeadsTo s (answers ++ record { disk = m.disk; heard = Told (Some c.args.area.now) } ∷ []) (notes_in p.host c.write.new.self (slice_set p.readings c.from-disk.result (Some c.in-Ok.counters)))) c.self.view_is
    (subst (λ (k : ℕ). LeadsTo s (answers ++ record { disk = p.round.disk; heard = Told (Some c.args.area.now) } ∷ []) (notes_in p.host c.write.new.self (slice_set p.readings k (Some c.in-Ok.counters)))) at
    (subst (λ (l : List ℕ). LeadsTo s (answers ++ record { disk = p.round.disk; heard = Told (Some c.args.area.now) } ∷ []) (notes_in p.host c.write.new.self (slice_set p.readings p.round.disk (Some l)))) (sym c.in-Ok.ensures.exact)
    (reads p.host p.round p.readings s answers led going c.self.invariant.sound.visits_one st c.args.area.now c.own_block.result c.own_block.ensures c.write.new.self step c.write.ensures.disks))))

pub returns-in-Err-clause-leads : goal.returns-in-Err-clause-leads
returns-in-Err-clause-leads c s answers leads =
    let p = c.self.inside in
    let led = subst (LeadsTo s answers) (sym c.self.view_is) leads in
    let going = still_going p.round.end (ap (λ (m : Notes). m.end) c.self.view_is ∙ c.requires.going) in
    let st = ap (λ (m : Notes). m.round.stage) c.self.view_is ∙ c.requires.stage in
    subst (λ (o : Option (List ℕ)). LeadsTo s (answers ++ record { disk = c.args.self.now.disk; heard = Told o } ∷ []) (notes_in p.host c.drop_disk.new.self p.readings)) (sym (c.in-Err.ensures.unsaid.0 refl))
    (subst (λ (m : Notes). LeadsTo s (answers ++ record { disk = m.disk; heard = Told None } ∷ []) (notes_in p.host c.drop_disk.new.self p.readings)) c.self.view_is
    (reads_damage p.host p.round p.readings s answers led going c.self.invariant.sound.visits_one st c.drop_disk.new.self c.drop_disk.ensures.step c.drop_disk.ensures.disks))
