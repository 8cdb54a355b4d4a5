use Rattle.std.proofs.Common.{◌≡◌, ◌∙◌, ℕ, List, Some, slice_get, sym, subst}
use Rattle.std.proofs.lemmas.Option.{get_or_from_slice_get}
use Rattle.lock_command.specs.declared.record.LockRecord.{LockRecord}
use Rattle.c_host.specs.Views.{IsAt, ShowsLock}
use Rattle.c_epochs.proofs.open_epochs.OpenEpochs.lock.Goals as goal

pub returns-in-Some-clause-found : goal.returns-in-Some-clause-found
returns-in-Some-clause-found c = λ k h deeds leads.
    let known = c.in_ok-picture.ensures.shown k h deeds leads in
    let is = c.in-Some.ensures in
    let there = subst (λ (them : List LockRecord). IsAt them c.args.lock c.in-Some.place is.0) c.locks.ensures.locks is.1 in
    let same : c.index-locks-place.result ≡ is.0 = c.index-locks-place.is ∙ get_or_from_slice_get c.locks-in-Some.result.now c.in-Some.place is.0 c.index-locks-place.result
    (subst (λ (them : List LockRecord). slice_get them c.in-Some.place ≡ Some is.0) (sym c.locks-in-Some.ensures.locks) there.there) in (
      known.0,
      known.1,
      known.2,
      record { picture = c.in_ok-picture.picture; of_table = known.3; at = c.in-Some.place; found = is.0; is = there; shown = subst (λ (r : LockRecord). ShowsLock c.of.result r) same c.of.ensures },
    )

pub returns-clause-lacks : goal.returns-clause-lacks
returns-clause-lacks c = λ k h deeds leads.
    let known = c.in_ok-picture.ensures.shown k h deeds leads in
    let none = subst (λ (them : List LockRecord). (at : ℕ) (found : LockRecord) → IsAt them c.args.lock at found → ⊥) c.locks.ensures.locks c.in-None.ensures in
    (known.0, known.1, known.2, record { picture = c.in_ok-picture.picture; of_table = known.3; none = none })
