use Rattle.epochs.proofs.Along.{calls_serve, calls_serve_on, read_model_bytes_show, read_file_bytes_show}
use Rattle.epochs.proofs.law.calls_serve.Goals as goal

pub returns : goal.returns
returns c = record { serves = calls_serve; power = calls_serve_on; readings = read_model_bytes_show; readings_on = read_file_bytes_show }
