-- The script that is run is that of the bytes, and a flush writes nothing more.
use Rattle.std.proofs.Common.{rules}
use Rattle.std.proofs.lemmas.Result.{on_ok_weaker}
use Rattle.lock_script.specs.Lines.{lines_of}
use Rattle.epoch_script.specs.Scripts.{IsAnyScript}
use Rattle.dlm_tasks.proofs.Shown.{flushed_any, room_of}
use Rattle.script_files.proofs.scripts.run_bytes.Goals as goal

pub returns : goal.returns
returns g c =
    let is_script : IsAnyScript (lines_of c.args.bytes.now) c.in_ok-script.script = search rules in
    on_ok_weaker c.run_any_script-end.result
    (λ written. record { script = c.in_ok-script.script; is_script = is_script; written = flushed_any c.in_ok-script.script _ _ _ written c.flush.ensures.bytes })
    c.run_any_script-end.ensures.written

pub run_any_script-end-requires : goal.run_any_script-end-requires
run_any_script-end-requires g c =
    let is_script : IsAnyScript (lines_of c.args.bytes.now) c.in_ok-script.script = search rules in
    room_of (lines_of c.args.bytes.now) c.in_ok-script.script is_script
