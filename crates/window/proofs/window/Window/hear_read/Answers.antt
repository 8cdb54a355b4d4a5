use Rattle.std.proofs.Common.{◌∙◌, sym, ap}
use Rattle.attempt.specs.DeviceCalls.{device_answer}
use Rattle.window.proofs.Readings.{read_fault_hears, row_told}
use Rattle.window.proofs.window.Window.hear_read.Goals as goal

pub returns-in_default : goal.returns-in_default
returns-in_default c = read_fault_hears c.args.self.now c.args.disk c.args.at c.args.boot c.args.heard.now c.requires.fits c.in_default.not-Told

pub returns-in-Row : goal.returns-in-Row
returns-in-Row c =
    row_told c.args.self.now c.args.disk c.args.at c.args.boot c.in-Told.bytes.now (device_answer c.args.heard.now) (ap device_answer c.in-Told.is) c.in-Row.first c.in-Row.is_last (sym c.step.ensures ∙ c.in-Row.is)
