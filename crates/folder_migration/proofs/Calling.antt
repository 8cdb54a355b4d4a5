-- A migration's calls, one after another, until it ends.
use Rattle.std.proofs.Common.{◌≡◌, ◌≤◌, ◌+◌, ◌*◌, ◌↔◌, ℕ, suc, Bool, true, false, List, [], ◌∷◌, ◌++◌, length, Some, None, refl, sym, ◌∙◌, ap, subst, arith, if◌then◌else◌, true≢false}
use Rattle.std.proofs.lemmas.List.{length-append}
use Rattle.disk.specs.Disk.{Call, Answer, Booted, Told, Done, Fault}
use Rattle.migration.specs.Fits.{HasRoom}
use Rattle.migration.specs.Heard.{Progress, at_first, heard, hears, next, next_in, answered, given_up}
use Rattle.migration.specs.History.{IsHistory, IsAnswerTo}
use Rattle.paxos_block.specs.Image.{Setup}
use Rattle.migration.specs.Kept.{LeadsTo, end_by, end_in}
use Rattle.migration.specs.Plan.{Due}
use Rattle.migration.specs.declared.end.End.{End}
use Rattle.migration.specs.declared.end.End.TheVariants.{Migrated, MigrationFailed}
use Rattle.migration.specs.declared.notes.Notes.{Notes}
use Rattle.migration.proofs.Fitting.{length-schedule}
use Rattle.dlm_images.specs.Operations.{Made, GaveOne}
use Rattle.folder_migration.specs.Moving.{Makes, none, more, HasMoved, AllWell}

-- It came so far, by so many calls.
pub record IsMoving {D : Type 0} (gives : D → Call → Answer → D → Type 0) (s : Setup) (old : List D) (n : Notes) (now : List D) (made : ℕ) : Type 0 where
  pub answers : List Answer
  pub makes : Makes gives s old answers now
  pub leads : LeadsTo s answers n
  pub count : length answers ≡ made
  pub bound : length answers ≤ s.disks * (length s.log + 6)

pub moves_first : {D : Type 0} (gives : D → Call → Answer → D → Type 0) (s : Setup) (disks : List D) (n : Notes) → LeadsTo s [] n → IsMoving gives s disks n disks 0
moves_first gives s disks n leads = record { answers = []; makes = none; leads = leads; count = refl; bound = omega arith }

pub moves_more : {D : Type 0} (gives : D → Call → Answer → D → Type 0) (s : Setup) (old now new : List D) (n after : Notes) (made : ℕ) (x : Made)
    → ((answers : List Answer) → LeadsTo s answers n → next (heard (at_first s) answers) ≡ Some (x.disk, x.call)) → GaveOne gives now x new
    → ((answers : List Answer) → LeadsTo s answers n → LeadsTo s (answers ++ x.answer ∷ []) after) → ((answers : List Answer) → LeadsTo s answers n → length (answers ++ x.answer ∷ []) ≤ s.disks * (length s.log + 6))
    → IsMoving gives s old n now made → IsMoving gives s old after new (made + 1)
moves_more gives s old now new n after made x due gave leads bound w = record {
  answers = w.answers ++ x.answer ∷ [];
  makes = more w.answers now w.makes x (due w.answers w.leads) new gave;
  leads = leads w.answers w.leads;
  count = length-append w.answers (x.answer ∷ []) ∙ ap (λ (k : ℕ). k + 1) w.count;
  bound = bound w.answers w.leads;
}

-- it has ended
pub moved : {D : Type 0} (gives : D → Call → Answer → D → Type 0) (s : Setup) (old now : List D) (n : Notes) (made : ℕ) (end : End) → HasRoom s → (w : IsMoving gives s old n now made) → Some end ≡ end_by (heard (at_first s) w.answers) → HasMoved gives s old now end
moved gives s old now n made end room w is = record { room = room; answers = w.answers; makes = w.makes; history = w.leads.history; ended = sym is }

-- HOW IT ENDED

-- a migration that was given up hears nothing more
nothing_more : (p : Progress) (answers : List Answer) → IsHistory (given_up p) answers → answers ≡ []
nothing_more p [] history = refl
nothing_more p (x ∷ xs) history = absurd history.0

still_failed : (p : Progress) (answers : List Answer) → IsHistory (given_up p) answers → (heard (given_up p) answers).failed ≡ true
still_failed p answers history = ap (λ (xs : List Answer). (heard (given_up p) xs).failed) (nothing_more p answers history)

-- where it has not failed, no call did
none_failed : (p : Progress) (answers : List Answer) → IsHistory p answers → (heard p answers).failed ≡ false → AllWell answers
none_failed p [] history going = tt
none_failed p (Booted boot ∷ xs) history going = (tt, none_failed (hears p (Booted boot)) xs history.1 going)
none_failed p (Told bytes ∷ xs) history going = (tt, none_failed (hears p (Told bytes)) xs history.1 going)
none_failed p (Done ∷ xs) history going = (tt, none_failed (hears p Done) xs history.1 going)
none_failed p (Fault fault ∷ xs) history going = absurd (true≢false (sym (still_failed p xs history.1) ∙ going))

answered_well : (p : Progress) (rest : List Due) (x : Answer) → p.failed ≡ false → (answered p rest x).failed ≡ false
answered_well p [] x going = going
answered_well p (due ∷ rest) x going = refl

-- where no call failed, it has not
goes_on_well : (p : Progress) (answers : List Answer) → AllWell answers → p.failed ≡ false → (heard p answers).failed ≡ false
goes_on_well p [] well going = going
goes_on_well p (Booted boot ∷ xs) well going = goes_on_well (hears p (Booted boot)) xs well.1 (answered_well p p.rest (Booted boot) going)
goes_on_well p (Told bytes ∷ xs) well going = goes_on_well (hears p (Told bytes)) xs well.1 (answered_well p p.rest (Told bytes) going)
goes_on_well p (Done ∷ xs) well going = goes_on_well (hears p Done) xs well.1 (answered_well p p.rest Done going)
goes_on_well p (Fault fault ∷ xs) well going = absurd well.0

not_failed : (b : Bool) (rest : List Due) → (if b then Some MigrationFailed else end_in rest) ≡ Some Migrated → b ≡ false
not_failed true rest is = absurd (cc)
not_failed false rest is = refl

only_migrated : (rest : List Due) (end : End) → end_in rest ≡ Some end → end ≡ Migrated
only_migrated [] end is = cc
only_migrated (due ∷ rest) end is = absurd (cc)

-- It ends well exactly when no call failed.
pub ends_well : (s : Setup) (answers : List Answer) (end : End) → IsHistory (at_first s) answers → end_by (heard (at_first s) answers) ≡ Some end → (end ≡ Migrated) ↔ AllWell answers
ends_well s answers end history ended = (there, back)
  where
    there : end ≡ Migrated → AllWell answers
    there is = none_failed (at_first s) answers history (not_failed (heard (at_first s) answers).failed (heard (at_first s) answers).rest (ended ∙ ap Some is))

    back : AllWell answers → end ≡ Migrated
    back well =
        let going = goes_on_well (at_first s) answers well refl in
        only_migrated (heard (at_first s) answers).rest end (subst (λ (b : Bool). (if b then Some MigrationFailed else end_in (heard (at_first s) answers).rest) ≡ Some end) going ended)

-- each answer is to the first call that is left
answers_rest : (p : Progress) (rest : List Due) (x : Answer) (b : Bool) → p.failed ≡ b → p.rest ≡ rest → IsAnswerTo (if b then None else next_in p rest) x → suc (length (answered p rest x).rest) ≡ length rest
answers_rest p rest x true failed is answer = absurd answer
answers_rest p [] x false failed is answer = absurd answer
answers_rest p (due ∷ rest) x false failed is answer = refl

one_by_one : (p : Progress) (answers : List Answer) → IsHistory p answers → (heard p answers).failed ≡ false → length answers + length (heard p answers).rest ≡ length p.rest
one_by_one p [] history going = omega arith
one_by_one p (Booted boot ∷ xs) history going =
    let one = answers_rest p p.rest (Booted boot) p.failed refl refl history.0 in
    let others = one_by_one (hears p (Booted boot)) xs history.1 going in omega (arith, one, others)
one_by_one p (Told bytes ∷ xs) history going =
    let one = answers_rest p p.rest (Told bytes) p.failed refl refl history.0 in
    let others = one_by_one (hears p (Told bytes)) xs history.1 going in omega (arith, one, others)
one_by_one p (Done ∷ xs) history going =
    let one = answers_rest p p.rest Done p.failed refl refl history.0 in
    let others = one_by_one (hears p Done) xs history.1 going in omega (arith, one, others)
one_by_one p (Fault fault ∷ xs) history going = absurd (true≢false (sym (still_failed p xs history.1) ∙ going))

none_left : (rest : List Due) → end_in rest ≡ Some Migrated → length rest ≡ 0
none_left [] is = refl
none_left (due ∷ rest) is = absurd (cc)

-- all calls were made
pub all_made : (s : Setup) (answers : List Answer) → IsHistory (at_first s) answers → end_by (heard (at_first s) answers) ≡ Some Migrated → length answers ≡ s.disks * (length s.log + 6)
all_made s answers history ended =
    let p = heard (at_first s) answers in
    let going : p.failed ≡ false = not_failed p.failed p.rest ended in
    let none : length p.rest ≡ 0 = none_left p.rest (subst (λ (b : Bool). (if b then Some MigrationFailed else end_in p.rest) ≡ Some Migrated) going ended) in
    let all = one_by_one (at_first s) answers history going in
    let long : length (at_first s).rest ≡ s.disks * (length s.log + 6) = length-schedule s in
    omega (arith, none, all, long)
