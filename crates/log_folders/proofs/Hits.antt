-- The damage of an area, from that of its parts.
use Rattle.std.specs.Prelude.{◌⊎◌, ◌↔◌, IfSome, IsNone, IsTrue, is_none, is_some, not, slice_index, slice_index_or}
use Rattle.std.proofs.Common.{◌≡◌, ◌≤◌, ◌<◌, ◌+◌, ◌∙◌, ◌||◌, ℕ, zero, suc, Bool, true, false, List, [], ◌++◌, Option, Some, None, refl, sym, ap, ap₂, subst, arith, inl, inr}
use Rattle.std.proofs.KnownBytes.{Appends-nil}
use Rattle.std.proofs.lemmas.Bool.{or_cases, or_left, or_right, cases_lt, false≢true}
use Rattle.disk.specs.Disk.{Device, DiskState}
use Rattle.torn_block.specs.declared.layout.TheConstants.{HOSTS, ROW_LENGTH}
use Rattle.heartbeat.specs.Beat.{IsDamagedArea}
use Rattle.standings.specs.Reading.{numbers_in}
use Rattle.endless_image.specs.Sizes.{size_of}
use Rattle.log_folders.specs.declared.area.Area.{Area}
use Rattle.log_folders.specs.declared.area.Part.{Part}
use Rattle.log_folders.specs.declared.area.Part.TheVariants.{Standings, Heartbeats, Slot}
use Rattle.log_folders.specs.Areas.{AreInside, IsDamagedAt, IsDamagedIn, IsHit, IsHitBelow, IsHitIn, SaysNumbers, Writes, part_in, part_place, part_text, slots_text, standings_in}
use Rattle.log_folders.specs.Steps.{Keeps, Prints}
use Rattle.log_folders.proofs.Steps.{IsBoth, kept_as, kept_on, printed_as, printed_on, texts_more}

-- THE PARTS ARE ON THE DISK

pub standings_fit : (slots area : ℕ) → area < 2 → part_place slots area Standings + ROW_LENGTH ≤ size_of slots
standings_fit slots area below = omega (arith, below)

pub heartbeats_fit : (slots area : ℕ) → area < 2 → part_place slots area Heartbeats + ROW_LENGTH ≤ size_of slots
heartbeats_fit slots zero below = omega arith
heartbeats_fit slots (suc area) below = omega (arith, below)

pub slot_fits : (slots area slot : ℕ) → area < 2 → slot < slots → part_place slots area (Slot slot) + ROW_LENGTH ≤ size_of slots
slot_fits slots zero slot below within = omega (arith, within)
slot_fits slots (suc area) slot below within = omega (arith, below, within)

-- and stay so
pub still_fits : (old new : Device) (n : ℕ) → new ≡ old → n ≤ old.size → n ≤ new.size
still_fits old new n same fits = subst (λ (d : Device). n ≤ d.size) (sym same) fits

-- A PART

-- a hit among the bytes of a part is one in it
pub hits_are : (slots area : ℕ) (part : Part) (shown damaged : List Bool) (row bytes : List ℕ) → row ≡ part_in slots area part bytes
    → ((host : ℕ) → host < HOSTS → IsTrue (slice_index_or damaged host false) ↔ IsDamagedAt part host row) → IsHit shown damaged ↔ IsHitIn slots area part shown bytes
hits_are slots area part shown damaged row bytes is each = (
  (λ hit. (hit.0, hit.1, hit.2.0, subst (IsDamagedAt part hit.0) is ((each hit.0 hit.1).0 hit.2.1))),
  (λ hit. (hit.0, hit.1, (hit.2, (each hit.0 hit.1).1 (subst (IsDamagedAt part hit.0) (sym is) hit.3)))),
)

-- what is told of it
pub told_of : (first found : Bool) {P Q : Type 0} → (IsTrue found ↔ P) → (P ↔ Q) → (IsTrue (first || found) → IsTrue first ⊎ Q) × (IsTrue first ⊎ Q → IsTrue (first || found))
told_of first found by is = (
  (λ told. elim (or_cases first found told) [ inl before ↦ inl before | inr hit ↦ inr (is.0 (by.0 hit)) ]),
  (λ some. elim some [ inl before ↦ or_left first found before | inr damage ↦ or_right first found (by.1 (is.1 damage)) ]),
)

-- SLOT BY SLOT

pub hits_more : (slots area : ℕ) (shown : List Bool) (n : ℕ) (bytes : List ℕ) → IsHitBelow slots area shown n bytes ⊎ IsHitIn slots area (Slot n) shown bytes → IsHitBelow slots area shown (n + 1) bytes
hits_more slots area shown n bytes hit =
    elim hit [
      | inl before ↦ (let below = before.1 in (before.0, omega (arith, below), before.2))
      | inr here ↦ (n, omega arith, here)
    ]

pub hits_less : (slots area : ℕ) (shown : List Bool) (n : ℕ) (bytes : List ℕ) → IsHitBelow slots area shown (n + 1) bytes → IsHitBelow slots area shown n bytes ⊎ IsHitIn slots area (Slot n) shown bytes
hits_less slots area shown n bytes hit =
    let k = hit.0 in
    let below = hit.1 in
    elim (cases_lt k n) [
      | inl lt ↦ inl (k, lt, hit.2)
      | inr ge ↦ (let same : k ≡ n = omega (arith, below, ge) in inr (subst (λ (j : ℕ). IsHitIn slots area (Slot j) shown bytes) same hit.2))
    ]

pub no_hits : (slots area : ℕ) (shown : List Bool) (bytes : List ℕ) → IsHitBelow slots area shown 0 bytes → ⊥
no_hits slots area shown bytes hit = let below = hit.1 in omega (arith, below)

-- THE AREA

module _ (slots area : ℕ) (inside : List Bool) (bytes : List ℕ) (are : AreInside area (standings_in slots area bytes) inside) where
  pub heartbeat_hit : IsHitIn slots area Heartbeats inside bytes → IsDamagedIn slots area bytes
  heartbeat_hit hit = inr (hit.0, hit.1, (are hit.0 hit.1).0 hit.2, inl hit.3)

  pub slot_hit : IsHitBelow slots area inside slots bytes → IsDamagedIn slots area bytes
  slot_hit hit = (let vote = hit.2 in inr (vote.0, vote.1, (are vote.0 vote.1).0 vote.2, inr (hit.0, hit.1, vote.3)))

  pub all_hits : IsDamagedIn slots area bytes → (IsDamagedArea (standings_in slots area bytes) ⊎ IsHitIn slots area Heartbeats inside bytes) ⊎ IsHitBelow slots area inside slots bytes
  all_hits damaged =
      elim damaged [
        | inl standings ↦ inl (inl standings)
        | inr some ↦
            (let shown = (are some.0 some.1).1 some.2 in
            elim some.3 [ inl beat ↦ inl (inr (some.0, some.1, shown, beat)) | inr vote ↦ inr (vote.0, vote.1, (some.0, some.1, shown, vote.2)) ])
      ]

-- THE ROW OF STANDINGS

none_as : (numbers : Option (List ℕ)) (none : Bool) → is_some numbers ≡ not none → none ≡ is_none numbers
none_as numbers true is = sym (ap not is)
none_as numbers false is = sym (ap not is)

no_numbers : (row : List ℕ) (numbers : Option (List ℕ)) → is_none numbers ≡ true → SaysNumbers row numbers → IsDamagedArea row
no_numbers row None is says = says
no_numbers row (Some numbers) is says = absurd (false≢true is)

numbers_none : (row : List ℕ) (numbers : Option (List ℕ)) → SaysNumbers row numbers → IsDamagedArea row → is_none numbers ≡ true
numbers_none row None says damaged = refl
numbers_none row (Some numbers) says damaged = absurd (says.0 damaged)

-- what it says
pub says_numbers : (row : List ℕ) (numbers : Option (List ℕ)) → (IsNone numbers ↔ IsDamagedArea row) → IfSome numbers (λ own. (host : ℕ) → host < HOSTS → slice_index own host ≡ numbers_in row host) → SaysNumbers row numbers
says_numbers row None damaged each = damaged.0 refl
says_numbers row (Some numbers) damaged each = ((λ is. false≢true (sym (damaged.1 is))), each)

-- it is told damaged where it says no numbers
pub none_is_damage : (row : List ℕ) (numbers : Option (List ℕ)) (none : Bool) → is_some numbers ≡ not none → SaysNumbers row numbers → IsTrue none ↔ IsDamagedArea row
none_is_damage row numbers none some says =
    let is = none_as numbers none some in
    ((λ t. no_numbers row numbers (sym is ∙ t) says), (λ damaged. is ∙ numbers_none row numbers says damaged))

-- A STEP

-- a part of the device was read, and its lines were printed
module _ (slots area : ℕ) (part : Part) (shown damaged : List Bool) (row : List ℕ) (d0 d1 : Device) (s0 s1 : DiskState) (first found : Bool)
    (is : IsTrue d0.tells → row ≡ part_in slots area part s0.bytes)
    (each : (host : ℕ) → host < HOSTS → IsTrue (slice_index_or damaged host false) ↔ IsDamagedAt part host row)
    (told : IsTrue found ↔ IsHit shown damaged) where
  both_ways : IsTrue d0.tells → (IsTrue (first || found) → IsTrue first ⊎ IsHitIn slots area part shown s0.bytes) × (IsTrue first ⊎ IsHitIn slots area part shown s0.bytes → IsTrue (first || found))
  both_ways t = told_of first found told (hits_are slots area part shown damaged row s0.bytes (is t) each)

  pub part_kept : d1 ≡ d0 → (IsTrue d0.tells → s1 ≡ s0) → Keeps d0 d1 s0 s1 first (first || found) (IsHitIn slots area part shown)
  part_kept device same = record { device = device; unchanged = same; cause = λ t. (both_ways t).0 }

  pub part_printed : (a b : Option (List ℕ)) (IsText : List ℕ → List ℕ → Type 0) → (IsTrue d0.tells → Writes (IsText s0.bytes) a b) → Prints d0 s0 a b first (first || found) IsText (IsHitIn slots area part shown)
  part_printed a b IsText text = record { text = text; found = λ t. (both_ways t).1 }

-- so was the row of standings
module _ (slots area : ℕ) (numbers : Option (List ℕ)) (d0 d1 : Device) (s0 s1 : DiskState) (first none : Bool) (is : is_some numbers ≡ not none) (says : IsTrue d0.tells → SaysNumbers (standings_in slots area s0.bytes) numbers) where
  damage_told : IsTrue d0.tells → (IsTrue (first || none) → IsTrue first ⊎ IsDamagedArea (standings_in slots area s0.bytes)) × (IsTrue first ⊎ IsDamagedArea (standings_in slots area s0.bytes) → IsTrue (first || none))
  damage_told t = told_of first none (none_is_damage (standings_in slots area s0.bytes) numbers none is (says t)) ((λ damage. damage), (λ damage. damage))

  pub standings_kept : d1 ≡ d0 → (IsTrue d0.tells → s1 ≡ s0) → Keeps d0 d1 s0 s1 first (first || none) (λ bytes. IsDamagedArea (standings_in slots area bytes))
  standings_kept device same = record { device = device; unchanged = same; cause = λ t. (damage_told t).0 }

  pub standings_printed : (a b : Option (List ℕ)) (IsText : List ℕ → List ℕ → Type 0) → (IsTrue d0.tells → Writes (IsText s0.bytes) a b) → Prints d0 s0 a b first (first || none) IsText (λ bytes. IsDamagedArea (standings_in slots area bytes))
  standings_printed a b IsText text = record { text = text; found = λ t. (damage_told t).1 }

-- SLOT BY SLOT, AND WHAT IS PRINTED

module _ (area : Area) (shown : List Bool) where
  abbrev IsTextBelow : ℕ → List ℕ → List ℕ → Type 0
  IsTextBelow n bytes text = text ≡ slots_text area shown n bytes

  abbrev IsTextAt : ℕ → List ℕ → List ℕ → Type 0
  IsTextAt n bytes text = text ≡ part_text area (Slot n) shown bytes

  abbrev Below : ℕ → List ℕ → Type 0
  Below n = IsHitBelow area.slots area.area shown n

  abbrev At : ℕ → List ℕ → Type 0
  At n = IsHitIn area.slots area.area (Slot n) shown

  -- before the first one
  pub none_printed : (d : Device) (s : DiskState) (a : Option (List ℕ)) (any : Bool) → Prints d s a a any any (IsTextBelow 0) (Below 0)
  none_printed d s a any =
      record {
        text = λ t. ([], refl, Appends-nil a);
        found = λ t some. elim some [ inl first ↦ first | inr hit ↦ absurd (no_hits area.slots area.area shown s.bytes hit) ];
      }

  module _ (d0 d1 d2 : Device) (s0 s1 s2 : DiskState) (f g h : Bool) (n : ℕ) (one : Keeps d0 d1 s0 s1 f g (Below n)) where
    -- one more
    pub slot_kept : Keeps d1 d2 s1 s2 g h (At n) → Keeps d0 d2 s0 s2 f h (Below (n + 1))
    slot_kept other =
        kept_as d0 d2 s0 s2 f h (λ bytes. Below n bytes ⊎ At n bytes) (Below (n + 1)) (λ t. hits_more area.slots area.area shown n s0.bytes)
        (kept_on d0 d1 d2 s0 s1 s2 f g h (Below n) (At n) one other)

    -- or it was the last, which the device did not give
    pub slot_stopped : (slots : ℕ) → n < slots → Keeps d1 d2 s1 s2 g h (At n) → Keeps d0 d2 s0 s2 f h (Below slots)
    slot_stopped slots below other =
        kept_as d0 d2 s0 s2 f h (Below (n + 1)) (Below slots) (λ t hit. (let lower = hit.1 in (hit.0, omega (arith, lower, below), hit.2))) (slot_kept other)

    pub slot_printed : (a b e : Option (List ℕ)) → Prints d0 s0 a b f g (IsTextBelow n) (Below n) → Prints d1 s1 b e g h (IsTextAt n) (At n) → Prints d0 s0 a e f h (IsTextBelow (n + 1)) (Below (n + 1))
    slot_printed a b e first second =
        printed_as d0 s0 a e f h (λ bytes text. IsBoth (IsTextBelow n bytes) (IsTextAt n bytes) text) (IsTextBelow (n + 1)) (λ bytes. Below n bytes ⊎ At n bytes) (Below (n + 1))
        (λ t text both.
        both.is ∙ ap₂ (λ (x y : List ℕ). x ++ y) both.is_first both.is_second ∙ texts_more (λ slot. part_text area (Slot slot) shown s0.bytes) n)
        (λ t. hits_less area.slots area.area shown n s0.bytes)
        (printed_on d0 d1 d2 s0 s1 s2 f g h (Below n) (At n) one a b e (IsTextBelow n) (IsTextAt n) first second)

-- THE NEWEST EPOCH

-- where the numbers of an area are not known
pub no_epoch : (one other : List ℕ) (first second : Option (List ℕ)) → ((a b : List ℕ) → first ≡ Some a → second ≡ Some b → ⊥) → SaysNumbers one first → SaysNumbers other second → IsDamagedArea one ⊎ IsDamagedArea other
no_epoch one other None second none says_one says_other = inl says_one
no_epoch one other (Some a) None none says_one says_other = inr says_other
no_epoch one other (Some a) (Some b) none says_one says_other = absurd (none a b refl refl)
