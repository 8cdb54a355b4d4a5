use Rattle.std.proofs.lemmas.Result.{on_ok_weaker}
use Rattle.script_files.proofs.scripts.run_file.Goals as goal

pub returns : goal.returns
returns g c = on_ok_weaker c.run_bytes.result (λ written. (c.as_slice.result.now, written)) c.run_bytes.ensures
