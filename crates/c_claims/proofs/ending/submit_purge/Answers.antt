-- No purge is due by the table.
use Rattle.std.proofs.Common.{◌≡◌, None, inr, refl, rules}
use Rattle.c_claims.proofs.ending.submit_purge.Goals as goal

pub returns-in_default-due_purge : goal.returns-in_default-due_purge
returns-in_default-due_purge c =
    let none : c.due_purge.result ≡ None = search rules in
    let its_own : c.args.numbers.now.host ≡ c.args.host.now.core.learner.host = search rules in
    inr (inr (
      search rules,
      inr (inr (inr (
        refl,
        record {
          purging = c.in-Some.purging;
          is = search rules;
          table = c.in-Ok.table;
          of_host = search rules;
          none = c.due_purge.ensures.none none;
        },
        its_own,
      ))),
      refl,
    ))
