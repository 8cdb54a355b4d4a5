use Rattle.attempt.specs.DeviceCalls.{device_answer}
use Rattle.epoch_host.specs.Walking.{IsFresh, call_due}
use Rattle.epoch_host.proofs.Ending.{fresh_silent, kept_done, kept_ends, kept_keeps, kept_there, kept_told}
use Rattle.epoch_host.proofs.Moving.{walks_by_then}
use Rattle.epoch_host.proofs.walk.Walk.hear.Goals as goal

pub returns-clause-makes : goal.returns-clause-makes
returns-clause-makes c =
    walks_by_then c.args.self.now c.take-went.new.self c.settle.new.self (call_due c.args.self.now) (device_answer c.args.heard.now) c.take-went.ensures.makes c.settle.ensures.leads

pub returns-clause-keeps : goal.returns-clause-keeps
returns-clause-keeps c =
    kept_keeps (IsFresh c.args.self.now.is) c.args.self.now.task c.take-went.result c.settle.result c.take-went.new.self c.settle.new.self c.settle.ensures.result c.take-went.ensures.task c.settle.ensures.kept c.settle.ensures.given_up

pub returns-clause-told : goal.returns-clause-told
returns-clause-told c =
    kept_told (IsFresh c.args.self.now.is) c.args.self.now.task c.take-went.result c.settle.result c.take-went.new.self c.settle.new.self c.settle.ensures.result c.take-went.ensures.task c.settle.ensures.kept

pub returns-clause-ends : goal.returns-clause-ends
returns-clause-ends c =
    kept_ends (IsFresh c.args.self.now.is) c.args.self.now.task c.take-went.result c.settle.result c.take-went.new.self c.settle.new.self c.settle.ensures.result c.take-went.ensures.task c.settle.ensures.kept c.settle.ensures.given_up

pub returns-clause-there : goal.returns-clause-there
returns-clause-there c =
    kept_there (IsFresh c.args.self.now.is) c.args.self.now.task c.take-went.result c.settle.result c.take-went.new.self c.settle.new.self c.settle.ensures.result c.take-went.ensures.task c.settle.ensures.kept c.settle.ensures.given_up

pub returns-clause-fresh : goal.returns-clause-fresh
returns-clause-fresh c done =
    fresh_silent c.args.self.now
    (kept_done (IsFresh c.args.self.now.is) c.args.self.now.task c.take-went.result c.settle.result c.take-went.new.self c.settle.new.self c.settle.ensures.result c.take-went.ensures.task c.settle.ensures.kept c.settle.ensures.given_up done)
