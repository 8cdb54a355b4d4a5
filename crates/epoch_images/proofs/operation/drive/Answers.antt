use Rattle.std.proofs.Common.{◌≡◌, ◌≤◌, ◌++◌, ℕ, [], Option, Some, None, refl, sym, ◌∙◌, subst, arith, ap}
use Rattle.torn_block.specs.Layout.{cluster_version}
use Rattle.paxos_block.specs.Shape.{Shape}
use Rattle.attempt.specs.DeviceCalls.{IsWithin, call_of_need, device_answer}
use Rattle.dlm_images.proofs.Driving.{within_more}
use Rattle.attempt.specs.declared.refusal.Refusal.TheVariants.{Outrun}
use Rattle.epoch_host.specs.declared.answer.EpochAnswer.{EpochAnswer}
use Rattle.epoch_host.specs.declared.answer.EpochAnswer.TheVariants.{Refused}
use Rattle.epoch_host.specs.declared.task.EpochTask.{EpochTask}
use Rattle.epoch_host.specs.Ending.{Ends, TableIsThere}
use Rattle.epoch_host.specs.Leading.{LeadsTo}
use Rattle.epoch_images.specs.Working.{HasWorked, Standing, room_of}
use Rattle.epoch_images.proofs.Anew.{started_anew}
use Rattle.epoch_images.proofs.Doing.{begun, done_and_goes, has_task, has_worked, heard_one, is_busy, is_idle, keeps_then, no_memory, IsOnWay, outrun_ends, refused_way, same_then}
use Rattle.epoch_images.proofs.operation.drive.Goals as goal

pub loop-made-init : goal.loop-made-init
loop-made-init g c = record {
  done = begun g.D.Disk.gives (record { host = c.args.host.now; disks = c.args.disks.now; firsts = c.args.firsts.now }) (record { host = c.begin.new.self; disks = c.args.disks.now; firsts = c.args.firsts.now }) refl refl c.begin.ensures.leads c.begin.ensures.silent;
  same = c.begin.ensures.same;
  keeps = c.begin.ensures.keeps;
  told = c.in_ok-begin.ensures.told;
  ends = c.begin.ensures.ends;
  there = c.begin.ensures.there;
  as_many = refl;
  large = c.requires.large;
}

pub call-need-requires : goal.call-need-requires
call-need-requires g c = record { busy = is_busy c.loop-made.host.task (sym c.idle.ensures ∙ c.if-idle.false) }

pub takes_no_part-lost-requires : goal.takes_no_part-lost-requires
takes_no_part-lost-requires g c =
    let there = c.call-need.ensures.disk in
    let disks = ap (λ (s : Shape). s.disks) c.loop-made.invariant.same.config in
    let asked = ap (λ (s : Shape). s.disks) c.requires.config in
    let value = c.disks-few.ensures.value in
    let few = c.disks-few.ensures.range.1 in
    omega (arith, there, disks, asked, value, few)

pub answer_unless-heard-requires-clause-there : goal.answer_unless-heard-requires-clause-there
answer_unless-heard-requires-clause-there g c =
    let there = c.call-need.ensures.disk in
    let disks = ap (λ (s : Shape). s.disks) c.loop-made.invariant.same.config in
    omega (arith, there, disks, c.requires.as_many, c.loop-made.invariant.as_many)

pub answer_unless-heard-requires-clause-range : goal.answer_unless-heard-requires-clause-range
answer_unless-heard-requires-clause-range g c = λ k d is.
    let lies = subst (λ (s : Shape). IsWithin cluster_version (room_of s) c.call-need.result.call) c.loop-made.invariant.same.config c.call-need.ensures.range in
    within_more (room_of c.args.host.now.config) _ c.call-need.result.call (c.loop-made.invariant.large k d is) lies

pub hear-requires-clause-busy : goal.hear-requires-clause-busy
hear-requires-clause-busy g c = is_busy c.loop-made.host.task (sym c.idle.ensures ∙ c.if-idle.false)

pub answered-requires : goal.answered-requires
answered-requires g c = c.loop-made.invariant.told (is_idle c.loop-made.host.task (sym c.idle.ensures ∙ c.if-idle.true))

pub loop-made-preserved : goal.loop-made-preserved
loop-made-preserved g c =
    let had = has_task c.args.task c.loop-made.host.task c.loop-made.invariant.keeps (sym c.idle.ensures ∙ c.if-idle.false) in record {
      done =
          heard_one g.D.Disk.gives (record { host = c.args.host.now; disks = c.args.disks.now; firsts = c.args.firsts.now }) (record { host = c.loop-made.host; disks = c.loop-made.disks; firsts = c.args.firsts.now })
          (record { host = c.hear.new.self; disks = c.answer_unless-heard.new.disks; firsts = c.args.firsts.now }) (call_of_need cluster_version c.call-need.result) (device_answer c.answer_unless-heard.result)
          c.takes_no_part-lost.result c.call-need.ensures.due c.loop-made.invariant.done refl c.answer_unless-heard.ensures.gave c.answer_unless-heard.ensures.lost c.takes_no_part-lost.ensures.part
          c.takes_no_part-lost.ensures.none c.hear.ensures.makes c.hear.ensures.fresh;
      same = same_then c.args.host.now c.loop-made.host c.hear.new.self c.loop-made.invariant.same c.hear.ensures.same;
      keeps = keeps_then c.args.task c.loop-made.host.task c.hear.new.self.task had c.hear.ensures.keeps;
      told = c.in_ok-hear.ensures.told;
      ends = subst (λ (o : Option EpochTask). Ends o c.hear.new.self) had c.hear.ensures.ends;
      there = c.hear.ensures.there;
      as_many = c.answer_unless-heard.auto.disks ∙ c.loop-made.invariant.as_many;
      large = c.answer_unless-heard.ensures.large _ c.loop-made.invariant.large;
    }

pub returns-in_err-begin-clause-worked : goal.returns-in_err-begin-clause-worked
returns-in_err-begin-clause-worked g c =
    let old : Standing g.row.D.Denot = record { host = c.args.host.now; disks = c.args.disks.now; firsts = c.args.firsts.now } in
    let new : Standing g.row.D.Denot = record { host = c.begin.new.self; disks = c.args.disks.now; firsts = c.args.firsts.now } in
    subst (λ (said : Option EpochAnswer). HasWorked g.D.Disk.gives c.args.task said old new) (sym (no_memory c.from_residual.result c.from_residual.ensures.1))
    (has_worked g.D.Disk.gives c.args.task None c.begin.new.self.said old new (begun g.D.Disk.gives old new refl refl c.begin.ensures.leads c.begin.ensures.silent) c.begin.ensures.rests
    (λ none. absurd none) (λ s h deeds is. tt))

pub returns-in_err-hear-clause-worked : goal.returns-in_err-hear-clause-worked
returns-in_err-hear-clause-worked g c =
    let old : Standing g.row.D.Denot = record { host = c.args.host.now; disks = c.args.disks.now; firsts = c.args.firsts.now } in
    let new : Standing g.row.D.Denot = record { host = c.hear.new.self; disks = c.answer_unless-heard.new.disks; firsts = c.args.firsts.now } in
    subst (λ (said : Option EpochAnswer). HasWorked g.D.Disk.gives c.args.task said old new) (sym (no_memory c.from_residual-in_err-hear.result c.from_residual-in_err-hear.ensures.1))
    (has_worked g.D.Disk.gives c.args.task None c.hear.new.self.said old new
    (heard_one g.D.Disk.gives old (record { host = c.loop-made.host; disks = c.loop-made.disks; firsts = c.args.firsts.now }) new (call_of_need cluster_version c.call-need.result)
    (device_answer c.answer_unless-heard.result) c.takes_no_part-lost.result c.call-need.ensures.due c.loop-made.invariant.done refl c.answer_unless-heard.ensures.gave c.answer_unless-heard.ensures.lost
    c.takes_no_part-lost.ensures.part c.takes_no_part-lost.ensures.none c.hear.ensures.makes c.hear.ensures.fresh)
    c.begin.ensures.rests (λ none. absurd none) (λ s h deeds is. tt))

pub returns-then-idle-clause-worked : goal.returns-then-idle-clause-worked
returns-then-idle-clause-worked g c =
    let old : Standing g.row.D.Denot = record { host = c.args.host.now; disks = c.args.disks.now; firsts = c.args.firsts.now } in
    let new : Standing g.row.D.Denot = record { host = c.loop-made.host; disks = c.loop-made.disks; firsts = c.args.firsts.now } in
    subst (λ (said : Option EpochAnswer). HasWorked g.D.Disk.gives c.args.task said old new) c.answered.ensures
    (has_worked g.D.Disk.gives c.args.task c.loop-made.host.said c.loop-made.host.said old new c.loop-made.invariant.done c.begin.ensures.rests (λ done. done) c.loop-made.invariant.ends)

pub returns-then-idle-clause-there : goal.returns-then-idle-clause-there
returns-then-idle-clause-there g c = subst (λ (said : Option EpochAnswer). TableIsThere c.loop-made.host said) c.answered.ensures c.loop-made.invariant.there

pub returns-in_err-begin-clause-there : goal.returns-in_err-begin-clause-there
returns-in_err-begin-clause-there g c = subst (λ (said : Option EpochAnswer). TableIsThere c.begin.new.self said) (sym (no_memory c.from_residual.result c.from_residual.ensures.1)) tt

pub returns-in_err-hear-clause-there : goal.returns-in_err-hear-clause-there
returns-in_err-hear-clause-there g c = subst (λ (said : Option EpochAnswer). TableIsThere c.hear.new.self said) (sym (no_memory c.from_residual-in_err-hear.result c.from_residual-in_err-hear.ensures.1)) tt

pub returns-in_err-hear-clause-large : goal.returns-in_err-hear-clause-large
returns-in_err-hear-clause-large g c = c.answer_unless-heard.ensures.large _ c.loop-made.invariant.large

pub returns-then-idle-clause-idle : goal.returns-then-idle-clause-idle
returns-then-idle-clause-idle g c = is_idle c.loop-made.host.task (sym c.idle.ensures ∙ c.if-idle.true)

pub returns-clause-worked : goal.returns-clause-worked
returns-clause-worked g c =
    let old : Standing g.row.D.Denot = record { host = c.args.host.now; disks = c.args.disks.now; firsts = c.args.firsts.now } in
    let now : Standing g.row.D.Denot = record { host = c.loop-made.host; disks = c.loop-made.disks; firsts = c.args.firsts.now } in
    let new : Standing g.row.D.Denot = record { host = c.new.result; disks = c.loop-made.disks; firsts = c.args.firsts.now } in
    let config = c.requires.config ∙ sym c.loop-made.invariant.same.config in
    let fresh : LeadsTo c.loop-made.host.config c.loop-made.host.host [] c.new.result =
    subst (λ (k : Shape). LeadsTo k c.loop-made.host.host [] c.new.result) config (subst (λ (n : ℕ). LeadsTo c.args.config n [] c.new.result) c.host-number.ensures c.new.ensures.leads) in
    has_worked g.D.Disk.gives c.args.task (Some (Refused Outrun)) (Some (Refused Outrun)) old new
    (done_and_goes g.D.Disk.gives old now new (IsOnWay now.host now.host.said) (IsOnWay new.host (Some (Refused Outrun))) c.loop-made.invariant.done refl refl
    (λ s h deeds more so. refused_way s h deeds (deeds ++ more) new.host (started_anew now.host new.host fresh s h (deeds ++ more) so.0)))
    c.begin.ensures.rests (λ done. done) (λ s h deeds is. outrun_ends s h deeds c.args.task)
