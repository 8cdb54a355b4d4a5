use Rattle.std.specs.Prelude.{MatchOption}
use Rattle.std.proofs.Common.{◌≡◌, ◌∙◌, ℕ, List, length, Option, Some, None, slice_get, refl, ap, subst}
use Rattle.std.proofs.lemmas.Option.{slice_get_past, slice_get_read}
use Rattle.lock_command.specs.declared.record.LockRecord.{LockRecord}
use Rattle.lock_command.specs.declared.reply.LockValue.{LockValue}
use Rattle.lock_table.specs.Apply.{table_after}
use Rattle.c_host.specs.Numbers.{value_of}
use Rattle.c_host.specs.Views.{IsAt}
use Rattle.c_epochs.proofs.Values.{no_value, value_is}
use Rattle.c_epochs.proofs.open_epochs.OpenEpochs.value.Goals as goal

none_match : (A : Type 0) (B : ℕ → Type 0) (o : Option ℕ) → MatchOption o A B → ((x : ℕ) → o ≡ Some x → ⊥) → A
none_match A B None is never = is
none_match A B (Some x) is never = absurd (never x refl)

pub returns-in_default-clause-lacks : goal.returns-in_default-clause-lacks
returns-in_default-clause-lacks c = λ k h deeds leads.
    let known = c.in_ok-picture.ensures.shown k h deeds leads in
    let none =
    none_match ((at : ℕ) (found : LockRecord) → IsAt c.locks.result.now c.args.lock at found → ⊥) (λ at. (found : LockRecord) × IsAt c.locks.result.now c.args.lock at found) c.place_of.result c.place_of.ensures
    c.in_default.not-Some in (
      known.0,
      known.1,
      known.2,
      record {
        picture = c.in_ok-picture.picture;
        of_table = known.3;
        none = subst (λ (them : List LockRecord). (at : ℕ) (found : LockRecord) → IsAt them c.args.lock at found → ⊥) c.locks.ensures.locks none;
      },
    )

pub returns-in_default-get-clause-lacks : goal.returns-in_default-get-clause-lacks
returns-in_default-get-clause-lacks c = λ k h deeds leads.
    let known = c.in_ok-picture.ensures.shown k h deeds leads in
    let found = c.in-Some.ensures in
    let there : slice_get c.in_ok-picture.picture.locks c.in-Some.place ≡ Some found.0 = subst (λ (them : List LockRecord). slice_get them c.in-Some.place ≡ Some found.0) c.locks.ensures.locks found.1.there in
    let past : slice_get c.in_ok-picture.picture.values c.in-Some.place ≡ None = subst (λ (them : List LockValue). slice_get them c.in-Some.place ≡ None) c.values.ensures.values (slice_get_past c.values.result.now c.in-Some.place c.in_default-get.ensures.lookup.3) in
    absurd (no_value c.in_ok-picture.picture (table_after known.1) known.3 c.in-Some.place found.0 there past)

pub returns-clause-found : goal.returns-clause-found
returns-clause-found c = λ k h deeds leads.
    let known = c.in_ok-picture.ensures.shown k h deeds leads in
    let found = c.in-Some.ensures in
    let value : LockValue = c.in-Some-get.value.now in
    let lookup = c.in-Some-get.ensures.lookup in
    let there : slice_get c.in_ok-picture.picture.locks c.in-Some.place ≡ Some found.0 = subst (λ (them : List LockRecord). slice_get them c.in-Some.place ≡ Some found.0) c.locks.ensures.locks found.1.there in
    let has : slice_get c.in_ok-picture.picture.values c.in-Some.place ≡ Some value =
    subst (λ (them : List LockValue). slice_get them c.in-Some.place ≡ Some value) c.values.ensures.values (slice_get_read c.values.result.now (length c.values.result.now) c.in-Some.place value refl lookup.3.0 lookup.1) in (
      known.0,
      known.1,
      known.2,
      record {
        picture = c.in_ok-picture.picture;
        of_table = known.3;
        at = c.in-Some.place;
        found = found.0;
        is = record { there = there; numbered = found.1.numbered };
        shown = c.of.ensures ∙ ap value_of (value_is c.in_ok-picture.picture (table_after known.1) known.3 c.in-Some.place found.0 value there has);
      },
    )
