use Rattle.std.proofs.Common.{rules}
use Rattle.cleanup.proofs.purging.Purging.purge.Goals as goal

-- field by field, so that a wrong body is refused soon
pub returns-clause-command : goal.returns-clause-command
returns-clause-command c = record {
  due = c.requires;
  through = search rules;
  client = search rules;
  action = search rules;
  last = c.last_request-last.result;
  is_last = c.last_request-last.ensures;
  next = search rules;
}
