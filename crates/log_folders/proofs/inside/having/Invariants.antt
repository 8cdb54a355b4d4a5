use Rattle.log_folders.proofs.Insiders.{Having}
use Rattle.log_folders.proofs.inside.having.Given as goal

abbrev pub invariant-loop-host : goal.invariant-loop-host
invariant-loop-host l = Having l.numbers l.number l.having l.host
