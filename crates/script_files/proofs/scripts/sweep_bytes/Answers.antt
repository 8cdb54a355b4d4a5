-- The script that is swept is that of the bytes.
use Rattle.std.proofs.Common.{rules}
use Rattle.std.proofs.lemmas.Result.{on_ok_weaker}
use Rattle.lock_script.specs.Lines.{lines_of}
use Rattle.epoch_script.specs.Scripts.{IsAnyScript}
use Rattle.dlm_tasks.proofs.Shown.{room_of}
use Rattle.script_files.proofs.scripts.sweep_bytes.Goals as goal

pub returns : goal.returns
returns g c =
    let is_script : IsAnyScript (lines_of c.args.bytes.now) c.in_ok-script.script = search rules in
    on_ok_weaker c.sweep_any_script.result
    (λ written. record { script = c.in_ok-script.script; is_script = is_script; written = written })
    c.sweep_any_script.ensures.written

pub sweep_any_script-requires : goal.sweep_any_script-requires
sweep_any_script-requires g c =
    let is_script : IsAnyScript (lines_of c.args.bytes.now) c.in_ok-script.script = search rules in
    room_of (lines_of c.args.bytes.now) c.in_ok-script.script is_script
