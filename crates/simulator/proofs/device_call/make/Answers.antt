use Rattle.std.specs.Prelude.{if◌then◌else◌, ◌==◌}
use Rattle.std.proofs.Common.{◌≡◌, Bool, true, false, [], Option, Some, None, refl, sym, ap, ◌∙◌}
use Rattle.disk.specs.declared.fault.DiskFault.{DiskFault}
use Rattle.disk.specs.declared.fault.DiskFault.TheVariants.{Reset, Gone}
use Rattle.disk.specs.Disk.{DiskState, Device, Answer, Call, Attach, Read, Write, Sync, success_of, done_by}
use Rattle.disk.specs.Simulated.{SimState, outcome_by, refusal_of}
use Rattle.torn_block.specs.Layout.{cluster_version}
use Rattle.attempt.specs.DeviceCalls.{device_call_of}
use Rattle.world.specs.Entry.{called_by}
use Rattle.world.specs.Happens.{answer_by}
use Rattle.simulator.proofs.device_call.make.Goals as goal

done : (disk : DiskState) (call : Call) → called_by disk call (success_of disk call) [] ≡ done_by disk call
done disk Attach = refl
done disk (Read boot at len) = refl
done disk (Write boot at from) = refl
done disk (Sync boot) = refl

-- what a disk makes of a call that is refused so, where no failure was asked for
abbrev made : SimState → Call → Option DiskFault → SimState × Answer
made s call refusal = (record s { disk = called_by s.disk call (answer_by s.disk call refusal) [] }, answer_by s.disk call refusal)

refused : (s : SimState) (call : Call) (gone same : Bool) → let refusal = if gone then Some Gone else if same then None else Some Reset in outcome_by s call refusal None ≡ made s call refusal
refused s call true same = refl
refused s call false false = refl
refused s call false true = ap (λ (d : DiskState). (record s { disk = d }, success_of s.disk call)) (sym (done s.disk call))

-- it answers as the disk of the world does, and leaves the same
calm_outcome : (s : SimState) (call : Call) → outcome_by s call (refusal_of s.disk call) None ≡ made s call (refusal_of s.disk call)
calm_outcome s Attach = refused s Attach s.disk.gone (s.disk.boot == s.disk.boot)
calm_outcome s (Read boot at len) = refused s (Read boot at len) s.disk.gone (boot == s.disk.boot)
calm_outcome s (Write boot at from) = refused s (Write boot at from) s.disk.gone (boot == s.disk.boot)
calm_outcome s (Sync boot) = refused s (Sync boot) s.disk.gone (boot == s.disk.boot)

pub returns : goal.returns
returns c =
    let old = c.args.disk.now in
    let call = device_call_of cluster_version c.args.call.now in
    let gave = c.answer_of.ensures.gave ∙ ap (outcome_by old call (refusal_of old.disk call)) c.requires.calm ∙ calm_outcome old call in
    record {
      answer = ap (λ (p : SimState × Answer). p.1) gave;
      fits = c.answer_of.ensures.fits;
      disk = ap (λ (p : SimState × Answer). p.0) gave;
      size = ap (λ (d : Device). d.size) c.answer_of.ensures.device;
    }
