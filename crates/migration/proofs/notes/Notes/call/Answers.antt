use Rattle.migration.proofs.Going.{header_call}
use Rattle.migration.proofs.notes.Notes.call.Goals as goal

pub returns-in-PuttingHeader-clause-due : goal.returns-in-PuttingHeader-clause-due
returns-in-PuttingHeader-clause-due c = header_call c.args.self.now c.from.result c.from.ensures c.in-PuttingHeader.is c.requires.bytes
