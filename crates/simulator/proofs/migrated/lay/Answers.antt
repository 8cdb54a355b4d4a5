use Rattle.std.proofs.Common.{ℕ, ◌≡◌, List, [], length, take, get_or, sym, ap, ◌∙◌, subst, arith}
use Rattle.std.proofs.lemmas.List.{length-take-le, take_all, take_more}
use Rattle.disk.specs.Disk.{written, synced}
use Rattle.disk.specs.Simulated.{SimState, fresh_disk}
use Rattle.torn_block.specs.Layout.{cluster_version}
use Rattle.torn_block.specs.declared.layout.TheConstants.{ROW_LENGTH}
use Rattle.paxos_block.specs.Places.{image_length, row_place}
use Rattle.paxos_block.specs.Image.{rows_for}
use Rattle.simulator.specs.Kept.{calm}
use Rattle.simulator.proofs.Moved.{HasRows, TakesRow, no_rows, one_row_more, takes_row}
use Rattle.simulator.proofs.migrated.lay.Goals as goal
use Rattle.simulator.proofs.migrated.lay.Goals.{At-loop-slot}

pub loop-slot-init : goal.loop-slot-init
loop-slot-init c =
    let slots = c.args.config.slots in
    subst (HasRows slots []) (sym c.requires.fresh) (no_rows slots)

-- the disk takes the row of the slot
takes : (c : At-loop-slot) → TakesRow c.args.config.slots (take c.loop-slot.slot c.args.values.now) c.loop-slot.disk
takes c =
    let at = c.loop-slot in
    let many = length-take-le at.slot c.args.values.now (omega (arith, at.auto.slot-end)) in
    takes_row c.args.config.slots (take at.slot c.args.values.now) at.disk (omega (arith, many, at.auto.slot-end, c.requires.fits)) at.invariant

pub write-requires-clause-calm : goal.write-requires-clause-calm
write-requires-clause-calm c = (takes (goal.at.write-requires-clause-calm c).At-loop-slot).calm

pub write-requires-clause-there : goal.write-requires-clause-there
write-requires-clause-there c = let there = (takes (goal.at.write-requires-clause-there c).At-loop-slot).there in (there.0, sym there.1)

pub write-requires-clause-range : goal.write-requires-clause-range
write-requires-clause-range c =
    let room = (takes (goal.at.write-requires-clause-range c).At-loop-slot).room in
    let long : length c.row_for.result ≡ ROW_LENGTH = omega arith in
    omega (arith, room, long, c.row_place.ensures, c.loop-slot-test.true, c.requires.fits)

pub loop-slot-preserved : goal.loop-slot-preserved
loop-slot-preserved c =
    let at = c.loop-slot in
    let slots = c.args.config.slots in
    let values = c.args.values.now in
    let value = get_or values at.slot [] in
    let many = length-take-le at.slot values (omega (arith, at.auto.slot-end)) in
    let long : length c.row_for.result ≡ ROW_LENGTH = omega arith in
    let place : c.row_place.result ≡ row_place cluster_version (length (take at.slot values)) = c.row_place.ensures ∙ ap (row_place cluster_version) (sym many) in
    let wrote = c.write.ensures
    ∙ ap (λ (n : ℕ). record at.disk { disk = written at.disk.disk n c.row_for.result }) place
    ∙ ap (λ (l : List ℕ). record at.disk { disk = written at.disk.disk (row_place cluster_version (length (take at.slot values))) l }) c.row_for.ensures in
    subst (λ (l : List (List ℕ)). HasRows slots l c.write.new.disk) (sym (take_more values at.slot [] c.loop-slot-test.true))
    (one_row_more slots (take at.slot values) value at.disk c.write.new.disk (omega (arith, many, c.loop-slot-test.true, c.requires.fits)) (ap length (sym c.row_for.ensures) ∙ long) at.invariant wrote)

pub sync-requires-clause-calm : goal.sync-requires-clause-calm
sync-requires-clause-calm c = (takes (goal.at.sync-requires-clause-calm c).At-loop-slot).calm

pub sync-requires-clause-there : goal.sync-requires-clause-there
sync-requires-clause-there c = let there = (takes (goal.at.sync-requires-clause-there c).At-loop-slot).there in (there.0, sym there.1)

pub returns : goal.returns
returns c =
    let at = c.loop-slot in
    let values = c.args.values.now in
    c.sync.ensures ∙ ap (λ (s : SimState). record s { disk = synced s.disk }) at.invariant.is
    ∙ ap (λ (l : List (List ℕ)). calm (synced (written (fresh_disk (image_length cluster_version c.args.config.slots)) (row_place cluster_version 0) (rows_for l)))) (take_all at.slot values c.loop-slot-test.false)
