-- What the host said is what it answered.
use Rattle.std.proofs.Common.{sym, ap, ◌∙◌, inl}
use Rattle.epoch_sweep.specs.Judging.{told_by}
use Rattle.epoch_sweep.proofs.ending.found.Goals as goal

pub returns-in-None : goal.returns-in-None
returns-in-None c = λ w is. inl (ap told_by (sym (c.answer.ensures w is)) ∙ sym c.told_by.ensures ∙ c.in-None.is)

pub shown_by-requires : goal.shown_by-requires
shown_by-requires c = λ w is. ap told_by (sym (c.answer.ensures w is)) ∙ sym c.told_by.ensures ∙ c.in-Some.is
