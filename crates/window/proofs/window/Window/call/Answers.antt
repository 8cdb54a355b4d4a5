use Rattle.window.proofs.Calling.{may_want}
use Rattle.window.proofs.window.Window.call.Goals as goal

pub returns-clause-may : goal.returns-clause-may
returns-clause-may c = may_want c.args.self.now c.args.wanted.now.disk c.args.wanted.now.call c.requires.own
