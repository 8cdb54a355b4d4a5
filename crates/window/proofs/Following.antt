-- With a call more on a disk, what is kept goes on as it is so by the pasts.
use Rattle.std.proofs.Common.{ℕ, zero, suc, ◌≡◌, ◌≢◌, ◌∙◌, ◌⊎◌, ◌*◌, ◌+◌, ◌≤◌, ◌<◌, Bool, true, List, [], ◌∷◌, ◌++◌, length, Option, Some, None, sym, ap, subst, inl, inr, arith, slice_set}
use Rattle.std.proofs.lemmas.List.{get_or-set_same, get_or-set_other}
use Rattle.std.proofs.lemmas.Bool.{cases_eq}
use Rattle.disk.specs.Disk.{Write}
use Rattle.torn_block.specs.declared.layout.TheConstants.{ROW_LENGTH, BLOCK_LENGTH, HOSTS}
use Rattle.standings.specs.declared.epoch.Epoch.{Epoch}
use Rattle.standings.specs.Epochs.{base_of, number_place}
use Rattle.standings.specs.Reading.{moved}
use Rattle.standings.specs.Past.{Made, Past, Spares, IsRow}
use Rattle.window.specs.declared.sight.Sight.{Sight}
use Rattle.window.specs.declared.step.Reading.{Reading}
use Rattle.window.specs.Knows.{Pasts, AddsCall, AddsCalls, KnowsOf, HasRead, ShowsLater, AllKnow, sight_in}
use Rattle.window.proofs.Pasts.{later_more}

module _ (n : ℕ) (e : Epoch) (host : ℕ) (before after : Pasts) (disk : ℕ) where
  module _ (m : Made) (adds : AddsCall before after disk m) where
    -- whoever was seen to have left is still seen so
    later_on : (d : ℕ) → ShowsLater n e (before d) → ShowsLater n e (after d)
    later_on d is = elim (cases_eq d disk) [
      | inl same ↦
          subst (λ (k : ℕ). ShowsLater n e (after k)) (sym same)
          (subst (ShowsLater n e) (sym adds.here) (later_more n e (before disk) (subst (λ (k : ℕ). ShowsLater n e (before k)) same is) (m ∷ [])))
      | inr off ↦ subst (ShowsLater n e) (sym (adds.others d off)) is
    ]

    pub all_go_on : (sights sights' : List (Option Sight)) (under_way under_way' : Option Reading) (row row' : List ℕ) (has_passed has_passed' : Bool)
        → AllKnow n e host sights under_way row has_passed before
        → (KnowsOf n e host (before disk) (sight_in sights disk) → KnowsOf n e host (before disk ++ m ∷ []) (sight_in sights' disk))
        → ((other : ℕ) → other ≢ disk → sight_in sights' other ≡ sight_in sights other)
        → ((r : Reading) → under_way' ≡ Some r → HasRead n e r.boot.number r.at row' (after r.disk) r.step)
        → (has_passed' ≡ true → (has_passed ≡ true) ⊎ ShowsLater n e (before disk ++ m ∷ []))
        → AllKnow n e host sights' under_way' row' has_passed' after
    all_go_on sights sights' under_way under_way' row row' has_passed has_passed' is here others reads passes =
        record {
          sights =
              λ d.
              elim (cases_eq d disk) [
                | inl same ↦
                    subst (λ (k : ℕ). KnowsOf n e host (after k) (sight_in sights' k)) (sym same)
                    (subst (λ (p : Past). KnowsOf n e host p (sight_in sights' disk)) (sym adds.here) (here (is.sights disk)))
                | inr off ↦
                    subst (λ (p : Past). KnowsOf n e host p (sight_in sights' d)) (sym (adds.others d off))
                    (subst (KnowsOf n e host (before d)) (sym (others d off)) (is.sights d))
              ];
          reading = reads;
          passed =
              λ so.
              elim (passes so) [
                | inl sofar ↦ (let shown = is.passed sofar in (shown.0, later_on shown.0 shown.1))
                | inr now ↦ (disk, subst (ShowsLater n e) (sym adds.here) now)
              ];
        }

module _ (n : ℕ) (e : Epoch) (host : ℕ) (before after : Pasts) (disk : ℕ) (adds : AddsCalls before after disk) where
  left_on : (d : ℕ) → ShowsLater n e (before d) → ShowsLater n e (after d)
  left_on d is = elim (cases_eq d disk) [
    | inl same ↦
        subst (λ (k : ℕ). ShowsLater n e (after k)) (sym same)
        (subst (ShowsLater n e) (sym adds.here) (later_more n e (before disk) (subst (λ (k : ℕ). ShowsLater n e (before k)) same is) adds.more))
    | inr off ↦ subst (ShowsLater n e) (sym (adds.others d off)) is
  ]

  -- so it is with whatever was done on a disk of which nothing is kept
  pub all_forget : (seen seen' : List (Option Sight)) (under_way : Option Reading) (row : List ℕ) (has_passed : Bool)
      → AllKnow n e host seen under_way row has_passed before → sight_in seen' disk ≡ None
      → ((other : ℕ) → other ≢ disk → sight_in seen' other ≡ sight_in seen other) → AllKnow n e host seen' None row has_passed after
  all_forget seen seen' under_way row has_passed is none others =
      record {
        sights =
            λ d.
            elim (cases_eq d disk) [
              | inl same ↦ subst (λ (k : ℕ). KnowsOf n e host (after k) (sight_in seen' k)) (sym same) (subst (KnowsOf n e host (after disk)) (sym none) tt)
              | inr off ↦
                  subst (λ (p : Past). KnowsOf n e host p (sight_in seen' d)) (sym (adds.others d off))
                  (subst (KnowsOf n e host (before d)) (sym (others d off)) (is.sights d))
            ];
        reading = λ r some. absurd cc;
        passed = λ so. (let shown = is.passed so in (shown.0, left_on shown.0 shown.1));
      }

-- what was seen of one disk is changed
module _ (seen : List (Option Sight)) (disk i : ℕ) (s : Option Sight) (same : i ≡ disk) where
  abbrev pub changed : List (Option Sight)
  changed = slice_set seen i s

  pub changed_here : i < length seen → sight_in changed disk ≡ s
  changed_here room = ap (sight_in changed) (sym same) ∙ get_or-set_same seen i s None room

  pub changed_others : (other : ℕ) → other ≢ disk → sight_in changed other ≡ sight_in seen other
  changed_others other off = get_or-set_other seen i other s None (λ e. off (e ∙ same))

-- a write of the core is beside the rows of standings
pub write_spares : (n area host row at : ℕ) (bytes : List ℕ) (boot : ℕ) → area < 2 → host < HOSTS → IsRow n row →
    ROW_LENGTH * row + BLOCK_LENGTH * host ≤ at → at + length bytes ≤ ROW_LENGTH * row + BLOCK_LENGTH * host + BLOCK_LENGTH →
    Spares (number_place n area host) BLOCK_LENGTH (moved (base_of n area) (Write boot at bytes))
write_spares n area host row at bytes boot is_area is_host is_row from to = spares area is_area
  where
    spares : (area : ℕ) → area < 2 → Spares (number_place n area host) BLOCK_LENGTH (moved (base_of n area) (Write boot at bytes))
    spares zero below = inl (let a = is_row.0 in let b = is_row.1 in omega arith)
    spares (suc area) below = inr (let a = is_row.0 in let b = is_row.1 in omega arith)
