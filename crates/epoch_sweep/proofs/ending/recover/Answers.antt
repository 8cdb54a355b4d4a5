use Rattle.std.specs.Prelude.{Option}
use Rattle.std.proofs.Common.{ℕ, subst}
use Rattle.std.proofs.lemmas.Result.{IfOk-weaker}
use Rattle.epoch_sweep.specs.declared.ending.Recovery.{Recovery}
use Rattle.epoch_sweep.specs.Sweeping.{Recovers}
use Rattle.epoch_sweep.proofs.ending.recover.Goals as goal

pub returns : goal.returns
returns c =
    let old = c.args.cluster.now in
    let new = c.work.new.cluster in
    IfOk-weaker c.found.result _ _
    (λ (found : Option Recovery) is.
    subst (λ (h : ℕ). Recovers c.args.config h old new found) c.in-Some.ensures.host.1
    (record {
      anew = c.happen.new.cluster;
      begun = c.happen-2.new.cluster;
      said = (c.in_ok-happen.field-0, c.in_ok-happen-2.field-0);
      halts = c.in_ok-happen.ensures;
      begins = c.in_ok-happen-2.ensures;
      works = c.in_ok-work.ensures;
      is = is;
    }))
    c.found.ensures
