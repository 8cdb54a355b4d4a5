use Rattle.std.proofs.Common.{rules, ◌++◌, ◌∙◌, ℕ, List, length, ap}
use Rattle.std.proofs.lemmas.List.{drop-replicate}
use Rattle.c_host.proofs.view.LockView.of.Goals as goal

pub returns : goal.returns
returns c = record {
  number = c.from.ensures ∙ c.get.ensures.value;
  client = c.from-2.ensures ∙ c.get-2.ensures.value;
  host = c.from-3.ensures ∙ c.get-3.ensures.value;
  held = Prim.search rules;
  wanted = Prim.search rules;
  name = rw (c.copy_from_slice.ensures.after, c.as_bytes-bytes.ensures.value)
      (ap (λ (zeros : List ℕ). c.args.lock.now.name ++ zeros) (drop-replicate (length c.args.lock.now.name) 16 0));
}
