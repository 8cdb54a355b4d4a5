use Rattle.std.proofs.Common.{◌≡◌, ◌+◌, List, drop, sym, ap, subst, ◌∙◌, arith}
use Rattle.std.proofs.lemmas.List.{drop_all}
use Rattle.lock_command.specs.declared.record.LockRecord.{LockRecord}
use Rattle.lock_command.specs.Locks.{settled, settled_all, IsDistinct}
use Rattle.lock_index.proofs.Apart.{IsDistinct-settled}
use Rattle.lock_index.proofs.Shown.{shown, shown_twice, IsDistinct-shown, all_settled_next}
use Rattle.lock_index.proofs.index.Index.settle_all.Goals as goal

pub loop-name-preserved : goal.loop-name-preserved
loop-name-preserved c =
    let now = c.loop-name.self in
    let name = c.name-item.result in
    let next : c.settle.new.self ≡ shown (settled now name) = c.settle.ensures in
    record {
      same = ap (λ l. shown (settled_all l (drop (c.loop-name.name-index + 1) c.args.names.now))) next
          ∙ all_settled_next now c.args.names.now c.loop-name.name-index name c.loop-name.invariant.distinct c.loop-name-test.true c.name-item.is
          ∙ c.loop-name.invariant.same;
      printed = subst (λ (l : List LockRecord). shown l ≡ l) (sym next) (shown_twice (settled now name));
      distinct = subst (λ (l : List LockRecord). IsDistinct l) (sym next) (IsDistinct-shown (settled now name) (IsDistinct-settled name now c.loop-name.invariant.distinct));
    }

pub returns : goal.returns
returns c =
    sym c.loop-name.invariant.printed
    ∙ ap (λ l. shown (settled_all c.loop-name.self l)) (sym (drop_all c.loop-name.name-index c.args.names.now (omega arith)))
    ∙ c.loop-name.invariant.same
