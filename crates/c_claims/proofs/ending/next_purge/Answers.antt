use Rattle.std.proofs.Common.{ℤ, inl, rules, subst, sym, w32}
use Rattle.std.proofs.lemmas.Int.{to_z-of_z}
use Rattle.c_claims.specs.Ending.{TellsNextPurge}
use Rattle.c_claims.proofs.ending.next_purge.Goals as goal

pub returns : goal.returns
returns c =
    let tells : TellsNextPurge c.args.numbers.now c.args.host.now c.next_purge.new.lock c.next_purge.result = inl (record {
      purging = c.in-Some.purging;
      is = search rules;
      table = c.in-Ok.table;
      of_host = search rules;
      tells = c.next_purge.ensures;
    }) in
    subst (λ (n : ℤ). TellsNextPurge c.args.numbers.now c.args.host.now c.next_purge.new.lock n) (sym (to_z-of_z w32 c.next_purge.result (search rules))) tells
