use Rattle.std.proofs.Common.{◌≤◌, ◌<◌, ℕ, arith, sym, ◌∙◌, subst, refl}
use Rattle.disk.specs.Disk as device
use Rattle.torn_block.specs.Layout.{cluster_version}
use Rattle.paxos_block.specs.Places.{image_length}
use Rattle.paxos_block.specs.Shape.{Shape}
use Rattle.attempt.specs.Answers.{Heard, heard_as}
use Rattle.attempt.specs.History.{Fits}
use Rattle.attempt.specs.DeviceCalls.{device_answer, IsWithin, call_of_need}
use Rattle.host.specs.Alone.{IsAnsweredAlone}
use Rattle.host.specs.Host.{hears_from}
use Rattle.host.proofs.Hosts.{heard_same}
use Rattle.dlm_images.specs.Operations.{Made, Standing}
use Rattle.host.specs.Kept.{LeadsTo, due_call}
use Rattle.dlm_images.proofs.Driving.{driven_at_first, driven_more, driven_out, within_more}
use Rattle.dlm_images.proofs.operation.drive.Goals as goal

pub loop-made-init : goal.loop-made-init
loop-made-init g c = record {
  driven = driven_at_first g.D.Disk.gives c.args.disks.now c.args.host.now c.requires.known c.requires.few.1;
  as_many = refl;
  large = c.requires.large;
}

pub answer_among-heard-requires-clause-there : goal.answer_among-heard-requires-clause-there
answer_among-heard-requires-clause-there g c =
    let there = subst (λ (s : Shape). c.call-need.result.disk < s.disks) c.loop-made.invariant.driven.leads.learner.shape c.call-need.ensures.disk in
    omega (arith, there, c.requires.as_many, c.loop-made.invariant.as_many)

pub answer_among-heard-requires-clause-range : goal.answer_among-heard-requires-clause-range
answer_among-heard-requires-clause-range g c = λ k d is.
    let slots = c.args.host.now.learner.shape.slots in
    let lies = subst (λ (s : Shape). IsWithin cluster_version (image_length cluster_version s.slots) c.call-need.result.call) c.loop-made.invariant.driven.leads.learner.shape c.call-need.ensures.range in
    within_more (image_length cluster_version slots) _ c.call-need.result.call (c.loop-made.invariant.large k d is) lies

pub loop-made-preserved : goal.loop-made-preserved
loop-made-preserved g c = record {
  driven =
      let few : c.args.host.now.learner.shape.disks ≤ 7 = omega (arith, c.requires.few.0, c.requires.as_many) in
      let due = call_of_need cluster_version c.call-need.result in
      let y : Made = record { disk = due.0; call = due.1; answer = device_answer c.answer_among-heard.result } in
      let old : Standing g.row.D.Denot = record { core = c.args.host.now; disks = c.args.disks.now } in
      let now : Standing g.row.D.Denot = record { core = c.loop-made.host; disks = c.loop-made.disks } in
      let new : Standing g.row.D.Denot = record { core = c.hear.new.self; disks = c.answer_among-heard.new.disks } in
      driven_more g.D.Disk.gives c.args.host.now.learner.shape old now new y c.loop-made._made few
      (record {
        gave = c.answer_among-heard.ensures.gave;
        due = λ s h m leads. record { next = c.call-need.ensures.next s h m leads; fits = subst (Fits due.1) (heard_same c.answer_among-heard.result) c.answer_among-heard.ensures.fits };
        leads = λ s h m leads. subst (λ (p : ℕ × device.Call). LeadsTo s h (hears_from s h m m.doing p.0 (device_answer c.answer_among-heard.result)) c.hear.new.self) (sym c.call-need.ensures.due) (c.hear.ensures.leads s h m leads);
        busy = λ s h m leads. sym (c.idle.ensures.known s h m leads) ∙ c.if-idle.false;
        alone = λ s h m leads.
            subst (λ (p : ℕ × device.Call). IsAnsweredAlone s h m m.doing (record { disk = p.0; heard = heard_as (device_answer c.answer_among-heard.result) })) (sym c.call-need.ensures.due)
            (subst (λ (y : Heard). IsAnsweredAlone s h m m.doing (record { disk = (due_call c.loop-made.host).0; heard = y })) (heard_same c.answer_among-heard.result)
            (c.hear.ensures.alone s h m leads));
        few = λ s h m leads. c.hear.ensures.few s h m leads;
      })
      c.loop-made.invariant.driven;
  as_many = c.answer_among-heard.auto.disks ∙ c.loop-made.invariant.as_many;
  large = c.answer_among-heard.ensures.large _ c.loop-made.invariant.large;
}

pub returns-clause-ended : goal.returns-clause-ended
returns-clause-ended g c =
    let shape = c.args.host.now.learner.shape in
    let old : Standing g.row.D.Denot = record { core = c.args.host.now; disks = c.args.disks.now } in
    let now : Standing g.row.D.Denot = record { core = c.loop-made.host; disks = c.loop-made.disks } in
    driven_out g.D.Disk.gives shape old now _ (omega (arith, c.loop-made-test.false)) c.loop-made.invariant.driven
