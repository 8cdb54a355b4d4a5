use Rattle.std.proofs.Common.{is_some, sym, ap, ◌∙◌}
use Rattle.lock_index.proofs.Queued.{queued_where_turn}
use Rattle.lock_index.proofs.index.Index.has_queue.Goals as goal

pub returns : goal.returns
returns c = c.is_some.ensures ∙ ap is_some c.head.ensures.head ∙ sym (queued_where_turn c.args.name.now c.args.self.now)
