use Rattle.std.proofs.Common.{◌≡◌, ◌∙◌, sym, subst}
use Rattle.lock_table.specs.Apply.{Plain, applied}
use Rattle.lock_table.specs.Picture.{Shown, values_beside, IsPictureOf, pictured}
use Rattle.lock_table.specs.Stored.{plain_of, shown_of}
use Rattle.lock_table.proofs.Pictures.{picture_applied, pictured_itself, shown_after}
use Rattle.lock_table.proofs.table.Table.apply.Goals as goal

-- the table that the command leaves is shown as the plain table's
next_is : (c : goal.After-apply) → shown_of c.apply.new.self ≡ pictured (applied (plain_of c.self.inside.plain) c.args.command.now).table
unfolding pictured
next_is c = λ i. record {
  locks = c.apply.ensures.locks i;
  values = values_beside (c.apply.ensures.values i) (c.apply.ensures.locks i);
  clients = c.apply.ensures.clients i;
}

shown_inside : (c : goal.After-apply) (plain : Plain) → IsPictureOf c.args.self.now plain → IsPictureOf (pictured (plain_of c.self.inside.plain)) plain
shown_inside c plain shown =
    subst (λ (t : Shown). IsPictureOf t plain) (sym (pictured_itself (plain_of c.self.inside.plain) c.self.invariant ∙ c.self.view_is)) shown

pub invariant_of-self : goal.invariant_of-self
invariant_of-self c = shown_after (plain_of c.self.inside.plain) c.args.command.now (plain_of c.apply.new.self) c.self.invariant c.apply.ensures.locks c.apply.ensures.clients c.apply.ensures.zeros

pub returns-clause-reply : goal.returns-clause-reply
returns-clause-reply c plain shown =
    c.apply.ensures.reply ∙ (picture_applied (plain_of c.self.inside.plain) plain c.args.command.now c.self.invariant.distinct c.self.invariant.unlocked (shown_inside c plain shown)).0

pub returns-clause-table : goal.returns-clause-table
returns-clause-table c plain shown =
    subst (λ (t : Shown). IsPictureOf t (applied plain c.args.command.now).table) (sym (next_is c))
    (picture_applied (plain_of c.self.inside.plain) plain c.args.command.now c.self.invariant.distinct c.self.invariant.unlocked (shown_inside c plain shown)).1
