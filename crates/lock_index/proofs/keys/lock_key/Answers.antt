use Rattle.std.proofs.Common.{ℕ, List, ap, subst, ◌∙◌, arith}
use Rattle.lock_command.specs.Name.{IsName}
use Rattle.lock_index.specs.Printed.{number_among}
use Rattle.lock_index.specs.Keys.{key_of}
use Rattle.lock_index.proofs.keys.lock_key.Goals as goal

pub returns-clause-key : goal.returns-clause-key
returns-clause-key c =
    let r = c.args.record.now in
    c.key.ensures.key ∙ (λ i. key_of (c.requires.named i) (c.rank.ensures i) ((c.number_among.ensures ∙ ap (number_among r.state) c.get-lock.ensures.value) i))

pub returns-clause-fits : goal.returns-clause-fits
returns-clause-fits c = record {
  named = subst (λ (l : List ℕ). IsName l) c.requires.named c.key.ensures.name;
  number = omega (arith, c.get-lock.ensures.value, c.get-lock.type_inv);
}
