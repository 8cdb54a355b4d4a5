use Rattle.std.proofs.Common.{◌≡◌, ◌<◌, ◌+◌, ◌&&◌, suc, true, false, List, ◌∷◌, [], ◌++◌, length, take, sym, ap, subst, ◌∙◌, arith}
use Rattle.std.specs.List.{list_any}
use Rattle.std.proofs.Math.Seq.{take-suc}
use Rattle.lock_command.specs.declared.record.TheConstants.{LOCKS}
use Rattle.lock_command.specs.declared.record.LockRecord.{LockRecord}
use Rattle.lock_table.specs.declared.values.NamedValue.{NamedValue}
use Rattle.lock_command.specs.Locks.{is_on, is_through}
use Rattle.lock_table.specs.Stored.{value_in, IsValued}
use Rattle.lock_table.specs.Values.{invalid, stored, spoiled, zeros}
use Rattle.lock_command.specs.State.{is_writer}
use Rattle.lock_table.proofs.Stored.{has_at, room_for, put_stores, valued_put, spoil_next, spoil_past, spoil_none}
use Rattle.lock_table.proofs.valued.spoil.Goals as goal
use Rattle.lock_table.proofs.valued.spoil.Goals.{then-is_spoilt, else-is_spoilt}

pub returns-then-not-has_writer-clause-values : goal.returns-then-not-has_writer-clause-values
returns-then-not-has_writer-clause-values c =
    spoil_none (value_in c.args.values.now) c.args.locks.now c.args.host (sym c.has_writer.ensures ∙ c.if-not-has_writer.true)

pub invalidate-requires-clause-room : goal.invalidate-requires-clause-room
invalidate-requires-clause-room c =
    let xs = c.args.locks.now in
    let r = c.get-record.result.now in
    let inside : c.loop-at.at < length xs = omega (arith, c.loop-at-test.true, c.requires.count) in
    let has : list_any (is_on r.name) xs ≡ true = ap (λ (o : LockRecord). list_any (is_on o.name) xs) c.get-record.ensures.lock ∙ has_at xs c.loop-at.at r inside in
    room_for xs c.loop-at.values (record { name = r.name; value = zeros }) LOCKS (omega (arith, c.requires.count, c.requires.few)) c.loop-at.invariant.valued has

pub loop-at-preserved : goal.loop-at-preserved
loop-at-preserved c =
    let xs = c.args.locks.now in
    let at = c.loop-at.at in
    let r = c.get-record.result.now in
    let v = value_in c.args.values.now in
    let host = c.args.host in
    let inside : at < length xs = omega (arith, c.loop-at-test.true, c.requires.count) in
    let has : list_any (is_on r.name) xs ≡ true = ap (λ (o : LockRecord). list_any (is_on o.name) xs) c.get-record.ensures.lock ∙ has_at xs at r inside in
    let next : at + 1 ≡ suc at = omega arith in
    let more : take (at + 1) xs ≡ take at xs ++ r ∷ [] = ap (λ n. take n xs) next ∙ take-suc xs at r inside ∙ ap (λ (o : LockRecord). take at xs ++ o ∷ []) (sym c.get-record.ensures.lock) in
    elim c.if-is_spoilt.branch [
      | then-is_spoilt w ↦
          let e : NamedValue = record { name = r.name; value = invalid (value_in c.loop-at.values r.name) } in
          let is = w.values-is ∙ w.invalidate.ensures in
          let goes : (is_through host r && is_writer r.state) ≡ true = sym c.is_spoilt.ensures ∙ w.if-is_spoilt.true in
          record {
            values = ap value_in is ∙ put_stores c.loop-at.values e
                ∙ (λ i. stored (c.loop-at.invariant.values i) r.name (invalid (c.loop-at.invariant.values i r.name)))
                ∙ spoil_next v (take at xs) r host goes ∙ ap (λ l. spoiled v l host) (sym more);
            valued = subst (λ (l : List NamedValue). IsValued xs l) (sym is) (valued_put xs c.loop-at.values e c.loop-at.invariant.valued has);
          }
      | else-is_spoilt w ↦
          let stays : (is_through host r && is_writer r.state) ≡ false = sym c.is_spoilt.ensures ∙ w.if-is_spoilt.false in
          record {
            values = ap value_in w.values-is ∙ c.loop-at.invariant.values ∙ spoil_past v (take at xs) r host stays ∙ ap (λ l. spoiled v l host) (sym more);
            valued = subst (λ (l : List NamedValue). IsValued xs l) (sym w.values-is) c.loop-at.invariant.valued;
          }
    ]
