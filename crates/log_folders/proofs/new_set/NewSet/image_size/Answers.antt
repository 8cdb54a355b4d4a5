use Rattle.std.proofs.Common.{rules, subst, ◌≤◌, ℕ}
use Rattle.torn_block.specs.declared.layout.TheConstants.{HEADER_LENGTH}
use Rattle.log_folders.proofs.NewSets.{room_for_header}
use Rattle.log_folders.proofs.new_set.NewSet.image_size.Goals as goal

pub returns-clause-room : goal.returns-clause-room
returns-clause-room c = subst (λ (n : ℕ). HEADER_LENGTH ≤ n) (search rules) (room_for_header c.args.self.now)
