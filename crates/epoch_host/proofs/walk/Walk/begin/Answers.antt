use Rattle.std.proofs.Common.{Some, None, refl}
use Rattle.epoch_host.proofs.Ending.{kept_done, kept_ends, kept_keeps, kept_there, kept_told, rests_idle}
use Rattle.epoch_host.proofs.Moving.{same_place, walks_then}
use Rattle.epoch_host.proofs.walk.Walk.begin.Goals as goal

pub returns-clause-leads : goal.returns-clause-leads
returns-clause-leads c =
    let begun = record c.args.self.now { task = Some c.args.task; moves = 0; said = None } in
    walks_then c.args.self.now c.set_out-went.new.self c.settle.new.self
    (walks_then c.args.self.now begun c.set_out-went.new.self (same_place c.args.self.now begun refl refl refl) c.set_out-went.ensures.leads) c.settle.ensures.leads

pub returns-clause-keeps : goal.returns-clause-keeps
returns-clause-keeps c =
    kept_keeps ⊥ (Some c.args.task) c.set_out-went.result c.settle.result c.set_out-went.new.self c.settle.new.self c.settle.ensures.result c.set_out-went.ensures.task c.settle.ensures.kept c.settle.ensures.given_up

pub returns-clause-told : goal.returns-clause-told
returns-clause-told c =
    kept_told ⊥ (Some c.args.task) c.set_out-went.result c.settle.result c.set_out-went.new.self c.settle.new.self c.settle.ensures.result c.set_out-went.ensures.task c.settle.ensures.kept

pub returns-clause-ends : goal.returns-clause-ends
returns-clause-ends c =
    kept_ends ⊥ (Some c.args.task) c.set_out-went.result c.settle.result c.set_out-went.new.self c.settle.new.self c.settle.ensures.result c.set_out-went.ensures.task c.settle.ensures.kept c.settle.ensures.given_up

pub returns-clause-there : goal.returns-clause-there
returns-clause-there c =
    kept_there ⊥ (Some c.args.task) c.set_out-went.result c.settle.result c.set_out-went.new.self c.settle.new.self c.settle.ensures.result c.set_out-went.ensures.task c.settle.ensures.kept c.settle.ensures.given_up

pub returns-clause-silent : goal.returns-clause-silent
returns-clause-silent c =
    kept_done ⊥ (Some c.args.task) c.set_out-went.result c.settle.result c.set_out-went.new.self c.settle.new.self c.settle.ensures.result c.set_out-went.ensures.task c.settle.ensures.kept c.settle.ensures.given_up

pub returns-clause-rests : goal.returns-clause-rests
returns-clause-rests c = rests_idle c.args.self.now c.requires.sound c.requires.idle
