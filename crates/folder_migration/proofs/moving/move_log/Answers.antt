use Rattle.std.proofs.Common.{◌<◌, Some, ap, arith, refl, ◌∙◌, subst}
use Rattle.torn_block.specs.Layout.{cluster_version}
use Rattle.paxos_block.specs.Places.{image_length}
use Rattle.attempt.specs.DeviceCalls.{IsWithin, call_of_need, device_answer}
use Rattle.paxos_block.specs.Image.{Setup}
use Rattle.migration.specs.Fits.{HasRoom}
use Rattle.migration.specs.Kept.{setup_by, setup_of}
use Rattle.dlm_images.proofs.Driving.{within_more}
use Rattle.folder_migration.proofs.Calling.{moved, moves_first, moves_more, ends_well, all_made}
use Rattle.folder_migration.proofs.moving.move_log.Goals as goal

pub loop-made-init : goal.loop-made-init
loop-made-init g c = record {
  moving = moves_first g.D.Disk.gives (setup_by c.args.config c.args.cluster c.args.log.items) c.args.disks.now c.new-migrator.result c.new-migrator.ensures.leads;
  as_many = refl;
  large = c.requires.large;
}

pub returns-in-Some-clause-moved : goal.returns-in-Some-clause-moved
returns-in-Some-clause-moved g c =
    let s = setup_by c.args.config c.args.cluster c.args.log.items in
    let moving = c.loop-made.invariant.moving in
    let room = subst HasRoom (ap setup_of c.migrator.view_is ∙ moving.leads.of) c.migrator.invariant.room in
    moved g.D.Disk.gives s c.args.disks.now c.loop-made.disks c.loop-made.migrator c.loop-made._made c.in-Some.end room moving
    (c.in-Some.ensures.end s moving.answers moving.leads)

pub returns-in-Some-clause-well : goal.returns-in-Some-clause-well
returns-in-Some-clause-well g c = λ done. ends_well (setup_by c.args.config c.args.cluster c.args.log.items) done.answers c.in-Some.end done.history done.ended

pub returns-in-Some-clause-calls : goal.returns-in-Some-clause-calls
returns-in-Some-clause-calls g c = λ done is. all_made (setup_by c.args.config c.args.cluster c.args.log.items) done.answers done.history (done.ended ∙ ap Some is)

pub answer_among-heard-requires-clause-there : goal.answer_among-heard-requires-clause-there
answer_among-heard-requires-clause-there g c =
    let there = subst (λ (s : Setup). c.call-need.result.disk < s.disks) c.loop-made.invariant.moving.leads.of c.call-need.ensures.disk in
    omega (arith, there, c.requires.as_many, c.loop-made.invariant.as_many)

pub answer_among-heard-requires-clause-range : goal.answer_among-heard-requires-clause-range
answer_among-heard-requires-clause-range g c = λ k d is.
    let lies = subst (λ (s : Setup). IsWithin cluster_version (image_length cluster_version s.slots) c.call-need.result.call) c.loop-made.invariant.moving.leads.of c.call-need.ensures.range in
    within_more (image_length cluster_version c.args.config.slots) _ c.call-need.result.call (c.loop-made.invariant.large k d is) lies

pub loop-made-preserved : goal.loop-made-preserved
loop-made-preserved g c =
    let s = setup_by c.args.config c.args.cluster c.args.log.items in
    let due = call_of_need cluster_version c.call-need.result in record {
      moving = moves_more g.D.Disk.gives s c.args.disks.now c.loop-made.disks c.answer_among-heard.new.disks c.loop-made.migrator c.hear.new.self c.loop-made._made
          (record { disk = due.0; call = due.1; answer = device_answer c.answer_among-heard.result })
          (λ answers leads. c.call-need.ensures.next s answers leads) c.answer_among-heard.ensures.gave
          (λ answers leads. c.hear.ensures.leads s answers leads) (λ answers leads. c.hear.ensures.bound s answers leads) c.loop-made.invariant.moving;
      as_many = c.answer_among-heard.auto.disks ∙ c.loop-made.invariant.as_many;
      large = c.answer_among-heard.ensures.large _ c.loop-made.invariant.large;
    }
