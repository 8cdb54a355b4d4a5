-- An area is looked at part by part, and an image area by area.
use Rattle.std.specs.Prelude.{◌⊎◌, IsTrue}
use Rattle.std.proofs.Common.{◌≡◌, ◌∙◌, ◌++◌, ℕ, Bool, List, Option, ap, ap₂, append_assoc, inl, inr}
use Rattle.disk.specs.Disk.{Device, DiskState}
use Rattle.heartbeat.specs.Beat.{IsDamagedArea}
use Rattle.log_folders.specs.declared.area.Area.{Area}
use Rattle.log_folders.specs.declared.area.Part.TheVariants.{Standings, Heartbeats}
use Rattle.log_folders.specs.Areas.{AreInside, IsAreaText, IsDamagedImage, IsDamagedIn, IsEpochText, IsHitBelow, IsHitIn, IsImageText, Writes, everybody, part_text, slots_text, standings_in}
use Rattle.log_folders.specs.Steps.{Keeps, Prints}
use Rattle.log_folders.proofs.Hits.{all_hits, heartbeat_hit, slot_hit}
use Rattle.log_folders.proofs.Steps.{IsBoth, kept_as, kept_from, kept_on, printed_as, printed_from, printed_more, printed_on}

-- the texts of the three kinds of parts are that of the area
in_order : (x y z : List ℕ) → (x ++ y) ++ z ≡ x ++ (y ++ z)
in_order x y z = append_assoc x y z

module _ (area : Area) (inside : List Bool) where
  abbrev InStandings : List ℕ → Type 0
  InStandings bytes = IsDamagedArea (standings_in area.slots area.area bytes)

  abbrev InHeartbeats : List ℕ → Type 0
  InHeartbeats = IsHitIn area.slots area.area Heartbeats inside

  abbrev InSlots : List ℕ → Type 0
  InSlots = IsHitBelow area.slots area.area inside area.slots

  abbrev InArea : List ℕ → Type 0
  InArea = IsDamagedIn area.slots area.area

  abbrev OfStandings : List ℕ → List ℕ → Type 0
  OfStandings bytes text = text ≡ part_text area Standings everybody bytes

  abbrev OfHeartbeats : List ℕ → List ℕ → Type 0
  OfHeartbeats bytes text = text ≡ part_text area Heartbeats inside bytes

  abbrev OfSlots : List ℕ → List ℕ → Type 0
  OfSlots bytes text = text ≡ slots_text area inside area.slots bytes

  module _ (d0 d1 d2 d3 : Device) (s0 s1 s2 s3 : DiskState) (f g h i : Bool) (are : IsTrue d0.tells → AreInside area.area (standings_in area.slots area.area s0.bytes) inside) (one : Keeps d0 d1 s0 s1 f g InStandings) where
    first_two : Keeps d1 d2 s1 s2 g h InHeartbeats → Keeps d0 d2 s0 s2 f h (λ bytes. InStandings bytes ⊎ InHeartbeats bytes)
    first_two two = kept_on d0 d1 d2 s0 s1 s2 f g h InStandings InHeartbeats one two

    -- the slots were not looked at
    pub heartbeats_kept : Keeps d1 d2 s1 s2 g h InHeartbeats → Keeps d0 d2 s0 s2 f h InArea
    heartbeats_kept two =
        kept_as d0 d2 s0 s2 f h (λ bytes. InStandings bytes ⊎ InHeartbeats bytes) InArea
        (λ t damage. elim damage [ inl row ↦ inl row | inr beat ↦ heartbeat_hit area.slots area.area inside s0.bytes (are t) beat ]) (first_two two)

    module _ (two : Keeps d1 d2 s1 s2 g h InHeartbeats) where
      pub area_kept : Keeps d2 d3 s2 s3 h i InSlots → Keeps d0 d3 s0 s3 f i InArea
      area_kept three =
          kept_as d0 d3 s0 s3 f i (λ bytes. (InStandings bytes ⊎ InHeartbeats bytes) ⊎ InSlots bytes) InArea
          (λ t damage.
          elim damage [
            | inl before ↦ elim before [ inl row ↦ inl row | inr beat ↦ heartbeat_hit area.slots area.area inside s0.bytes (are t) beat ]
            | inr vote ↦ slot_hit area.slots area.area inside s0.bytes (are t) vote
          ])
          (kept_on d0 d2 d3 s0 s2 s3 f h i (λ bytes. InStandings bytes ⊎ InHeartbeats bytes) InSlots (first_two two) three)

      pub area_printed : (a b e z : Option (List ℕ)) → Prints d0 s0 a b f g OfStandings InStandings → Prints d1 s1 b e g h OfHeartbeats InHeartbeats → Prints d2 s2 e z h i OfSlots InSlots → Prints d0 s0 a z f i (IsAreaText area) InArea
      area_printed a b e z first second third =
          printed_as d0 s0 a z f i (λ bytes text. IsBoth (λ begin. IsBoth (OfStandings bytes) (OfHeartbeats bytes) begin) (OfSlots bytes) text) (IsAreaText area)
          (λ bytes. (InStandings bytes ⊎ InHeartbeats bytes) ⊎ InSlots bytes) InArea
          (λ t text both.
          let begin = both.is_first in (
            inside,
            are t,
            both.is ∙ ap₂ (λ (x y : List ℕ). x ++ y) (begin.is ∙ ap₂ (λ (x y : List ℕ). x ++ y) begin.is_first begin.is_second) both.is_second
                ∙ in_order (part_text area Standings everybody s0.bytes) (part_text area Heartbeats inside s0.bytes) (slots_text area inside area.slots s0.bytes),
          ))
          (λ t. all_hits area.slots area.area inside s0.bytes (are t))
          (printed_on d0 d2 d3 s0 s2 s3 f h i (λ bytes. InStandings bytes ⊎ InHeartbeats bytes) InSlots (first_two two) a e z (λ bytes text. IsBoth (OfStandings bytes) (OfHeartbeats bytes) text) OfSlots
          (printed_on d0 d1 d2 s0 s1 s2 f g h InStandings InHeartbeats one a b e OfStandings OfHeartbeats first second) third)

-- THE IMAGE

module _ (disk slots : ℕ) where
  abbrev first_area : Area
  first_area = record { disk = disk; slots = slots; area = 0 }

  abbrev second_area : Area
  second_area = record { disk = disk; slots = slots; area = 1 }

  abbrev OfEpoch : List ℕ → List ℕ → Type 0
  OfEpoch bytes text = IsEpochText disk (standings_in slots 0 bytes) (standings_in slots 1 bytes) text

  module _ (d0 d1 d2 d3 : Device) (s0 s1 s2 s3 : DiskState) (f g h : Bool) (attached : d1 ≡ d0) (same : IsTrue d0.tells → s1 ≡ s0) (one : Keeps d1 d2 s1 s2 f g (IsDamagedIn slots 0)) where
    first_kept : Keeps d0 d2 s0 s2 f g (IsDamagedIn slots 0)
    first_kept = kept_from d0 d1 s0 s1 attached same f g (IsDamagedIn slots 0) d2 s2 one

    -- the second area was not looked at
    pub image_kept_first : Keeps d0 d2 s0 s2 f g (IsDamagedImage slots)
    image_kept_first = kept_as d0 d2 s0 s2 f g (IsDamagedIn slots 0) (IsDamagedImage slots) (λ t damage. inl damage) first_kept

    pub image_kept : Keeps d2 d3 s2 s3 g h (IsDamagedIn slots 1) → Keeps d0 d3 s0 s3 f h (IsDamagedImage slots)
    image_kept two = kept_on d0 d2 d3 s0 s2 s3 f g h (IsDamagedIn slots 0) (IsDamagedIn slots 1) first_kept two

    pub image_printed : (a b e z : Option (List ℕ)) → Prints d1 s1 a b f g (IsAreaText first_area) (IsDamagedIn slots 0) → Prints d2 s2 b e g h (IsAreaText second_area) (IsDamagedIn slots 1)
        → (IsTrue d0.tells → Writes (OfEpoch s0.bytes) e z) → Prints d0 s0 a z f h (IsImageText disk slots) (IsDamagedImage slots)
    image_printed a b e z first second last =
        printed_as d0 s0 a z f h (λ bytes text. IsBoth (λ begin. IsBoth (IsAreaText first_area bytes) (IsAreaText second_area bytes) begin) (OfEpoch bytes) text) (IsImageText disk slots)
        (IsDamagedImage slots) (IsDamagedImage slots)
        (λ t text both.
        let begin = both.is_first in
        record {
          first = begin.first;
          second = begin.second;
          last = both.second;
          of_first = begin.is_first;
          of_second = begin.is_second;
          of_epoch = both.is_second;
          is = both.is ∙ ap (λ (x : List ℕ). x ++ both.second) begin.is ∙ in_order begin.first begin.second both.second;
        })
        (λ t damage. damage)
        (printed_more d0 s0 a e z f h (λ bytes text. IsBoth (IsAreaText first_area bytes) (IsAreaText second_area bytes) text) OfEpoch (IsDamagedImage slots)
        (printed_on d0 d2 d2 s0 s2 s2 f g h (IsDamagedIn slots 0) (IsDamagedIn slots 1) first_kept a b e (IsAreaText first_area) (IsAreaText second_area)
        (printed_from d0 d1 s0 s1 attached same f g (IsDamagedIn slots 0) a b (IsAreaText first_area) first) second) last)
