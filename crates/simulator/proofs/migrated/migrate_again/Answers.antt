use Rattle.std.specs.Prelude.{replicate}
use Rattle.std.proofs.Common.{ℕ, ◌<◌, ◌≡◌, ◌≢◌, List, [], ◌∷◌, ◌++◌, length, get_or-set_other, sym, ap, ◌∙◌, arith}
use Rattle.std.proofs.lemmas.List.{length-map, take_all, take_more_set, replicate_more}
use Rattle.disk.specs.Disk.{written, synced}
use Rattle.disk.specs.Simulated.{SimState, fresh_disk}
use Rattle.torn_block.specs.Layout.{cluster_version}
use Rattle.paxos_block.specs.Places.{image_length, row_place}
use Rattle.paxos_block.specs.Image.{rows_for}
use Rattle.lock_command.specs.Command.{spelling}
use Rattle.world.specs.Entry.{migrated_to}
use Rattle.simulator.specs.Kept.{calm}
use Rattle.simulator.proofs.migrated.migrate_again.Goals as goal

pub lay-requires-clause-fits : goal.lay-requires-clause-fits
lay-requires-clause-fits c =
    let spelled = c.deref.ensures.value ∙ c.in_ok-spelled.ensures.values in
    omega (arith, ap length spelled, length-map c.args.log.now spelling, c.requires.fits)

pub lay-requires-clause-fresh : goal.lay-requires-clause-fresh
lay-requires-clause-fresh c =
    let at = c.loop-at in
    let other = c.index-disks-at.result in
    let inside : at.at < c.args.config.disks = omega (arith, c.loop-at-test.true, c.from-many.ensures, c.disks.ensures.value) in
    let as_before = ap (λ (s : SimState). length s.disk.bytes) (at.invariant.rest at.at other (omega arith)) in
    c.renew.ensures.fresh ∙ ap (λ (n : ℕ). calm (fresh_disk n)) (as_before ∙ c.requires.sized at.at other inside)

pub loop-at-preserved : goal.loop-at-preserved
loop-at-preserved c =
    let at = c.loop-at in
    let size = image_length cluster_version c.args.config.slots in
    let left : SimState = calm (migrated_to (fresh_disk size) c.args.log.now) in
    let inside : at.at < length at.disks = omega (arith, c.loop-at-test.true, c.from-many.ensures, c.disks.ensures.value, c.requires.many, at.auto.disks) in
    let laid : c.lay.new.disk ≡ left =
    c.lay.ensures ∙ ap (λ (l : List (List ℕ)). calm (synced (written (fresh_disk size) (row_place cluster_version 0) (rows_for l)))) (c.deref.ensures.value ∙ c.in_ok-spelled.ensures.values) in
    record {
      done =
          take_more_set at.disks at.at c.lay.new.disk inside
          ∙ ap (λ (l : List SimState). l ++ c.lay.new.disk ∷ []) at.invariant.done
          ∙ ap (λ (s : SimState). replicate at.at left ++ s ∷ []) laid
          ∙ replicate_more at.at left;
      rest = λ d other behind.
          let apart : d ≢ at.at = omega (arith, behind) in
          get_or-set_other at.disks at.at d c.lay.new.disk other apart ∙ at.invariant.rest d other (omega (arith, behind));
    }

pub returns : goal.returns
returns c =
    let at = c.loop-at in
    let left : SimState = calm (migrated_to (fresh_disk (image_length cluster_version c.args.config.slots)) c.args.log.now) in
    let all : at.at ≡ c.args.config.disks = omega (arith, c.loop-at-test.false, at.auto.at-end, c.from-many.ensures, c.disks.ensures.value) in
    record {
      disks =
          sym (take_all at.at at.disks (omega (arith, all, c.requires.many, at.auto.disks)))
          ∙ at.invariant.done
          ∙ ap (λ (n : ℕ). replicate n left) all;
      can = record { disk = omega (arith, c.disks.ensures.range, c.disks.ensures.value); slots = c.requires.fits; reads = c.in_ok-spelled.ensures.reads };
      unchanged = tt;
    }
