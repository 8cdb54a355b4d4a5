use Rattle.std.proofs.Common.{◌≡◌, ◌<◌, ◌^◌}
use Rattle.std.proofs.Math.ListN.{take}
use Rattle.std.specs.Str.Parse.{digits_value}
use Rattle.lock_script.proofs.number.digits_value.Given as goal

abbrev pub invariant-loop-digit : goal.invariant-loop-digit
invariant-loop-digit l = record { read : l.value ≡ digits_value 10 (take l.digit-index l.digits); fits : l.value < 2 ^ 64 }
