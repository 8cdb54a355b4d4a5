-- Sectors at different spots have no byte in common, and an image's places lead to theirs.
use Rattle.std.specs.Prelude.{◌≡◌, ◌≢◌, ◌⊎◌, ◌+◌, ◌-◌, ◌*◌, ◌/◌, ◌%◌, ◌≤◌, ◌<◌, ℕ}
use Rattle.std.proofs.Common.{◌∙◌, ap, arith, inl, inr}
use Rattle.std.proofs.lemmas.Bool.{cases_order, cases_eq}
use Rattle.std.proofs.Math.Nat.{mul_assoc, mul-add}
use Rattle.torn_block.specs.Layout.{cluster_version}
use Rattle.paxos_block.specs.Places as images
use Rattle.paxos_block.specs.Places.{Spot, BeatOf, VoteOf}
use Rattle.sectors.specs.declared.geometry.Geometry.{Geometry}
use Rattle.endless_image.specs.Kinds.{size_by}
use Rattle.endless_image.specs.declared.kind.Kind.{Kind}
use Rattle.endless_image.specs.declared.kind.Kind.TheVariants.{Ending, Endless}
use Rattle.sectors.specs.Geometry.{IsGeometry, row_size, rows_by, slot_rows, device_size}
use Rattle.sectors.specs.Places.{place_of, IsSpot, RowOf, BeatsRow, SlotRow, IsRow, image_row, device_row, IsRowAt, IsRangeAt, HasNoRangeAt}
use Rattle.sectors.proofs.Shapes.{they_follow, one_more, header_sectors}

-- the image is as long as its kind says
pub rows_are_long : (kind : Kind) (slots : ℕ) → images.image_length cluster_version (rows_by kind slots) ≡ size_by kind slots
rows_are_long Ending slots = omega arith
rows_are_long Endless slots = omega arith

abbrev Apart : Geometry → Spot → Spot → Type 0
Apart g a b = (place_of g a + g.sector_size ≤ place_of g b) ⊎ (place_of g b + g.sector_size ≤ place_of g a)

pub same_or_not : (a b : Spot) → (a ≡ b) ⊎ (a ≢ b)
same_or_not (BeatOf h) (BeatOf k) = elim (cases_eq h k) [ inl same ↦ inl (ap BeatOf same) | inr differ ↦ inr (λ e. differ (cc e)) ]
same_or_not (BeatOf h) (VoteOf t k) = inr (λ e. cc e)
same_or_not (VoteOf s h) (BeatOf k) = inr (λ e. cc e)
same_or_not (VoteOf s h) (VoteOf t k) =
    elim (cases_eq s t) [
      | inl slot ↦ elim (cases_eq h k) [ inl host ↦ inl (λ i. VoteOf (slot i) (host i)) | inr differ ↦ inr (λ e. differ (cc e)) ]
      | inr differ ↦ inr (λ e. differ (cc e))
    ]

module _ (g : Geometry) where
  votes_apart : (s h t k : ℕ) → h < g.hosts → k < g.hosts → (s ≡ t → h ≢ k) → Apart g (VoteOf s h) (VoteOf t k)
  votes_apart s h t k is_a is_b differ =
      elim (cases_order s t) [
        | inl same ↦
            (let rows : row_size g * s ≡ row_size g * t = ap (λ (n : ℕ). row_size g * n) same in
            elim (cases_order h k) [
              | inl equal ↦ absurd (differ same equal)
              | inr (inl below) ↦ inl (omega (arith, rows, they_follow g.sector_size h k below))
              | inr (inr above) ↦ inr (omega (arith, rows, they_follow g.sector_size k h above))
            ])
        | inr (inl below) ↦ inl (omega (arith, they_follow (row_size g) s t below, they_follow g.sector_size h g.hosts is_a))
        | inr (inr above) ↦ inr (omega (arith, they_follow (row_size g) t s above, they_follow g.sector_size k g.hosts is_b))
      ]

  pub spots_apart : (a b : Spot) → IsSpot g a → IsSpot g b → a ≢ b → Apart g a b
  spots_apart (BeatOf h) (BeatOf k) is_a is_b differ =
      elim (cases_order h k) [
        | inl equal ↦ absurd (differ (ap BeatOf equal))
        | inr (inl below) ↦ inl (omega (arith, they_follow g.sector_size h k below))
        | inr (inr above) ↦ inr (omega (arith, they_follow g.sector_size k h above))
      ]
  spots_apart (BeatOf h) (VoteOf t k) is_a is_b differ = inl (omega (arith, they_follow g.sector_size h g.hosts is_a))
  spots_apart (VoteOf s h) (BeatOf k) is_a is_b differ = inr (omega (arith, they_follow g.sector_size k g.hosts is_b))
  spots_apart (VoteOf s h) (VoteOf t k) is_a is_b differ = votes_apart s h t k is_a.1 is_b.1 (λ same equal. differ (λ i. VoteOf (same i) (equal i)))

  pub spot_behind : (a : Spot) → 4096 ≤ place_of g a
  spot_behind (BeatOf h) = omega arith
  spot_behind (VoteOf s h) = omega arith

  pub spot_fits : (a : Spot) → IsSpot g a → place_of g a + g.sector_size ≤ device_size g
  spot_fits (BeatOf h) is = omega (arith, they_follow g.sector_size h g.hosts is)
  spot_fits (VoteOf s h) is = omega (arith, they_follow (row_size g) s (slot_rows g) is.0, they_follow g.sector_size h g.hosts is.1)

  pub spot_aligned : (a : Spot) → IsGeometry g → (n : ℕ) × (place_of g a ≡ g.sector_size * n)
  spot_aligned (BeatOf h) is =
      let header = header_sectors g.sector_size is.sector_size in
      (header.0 + h, omega (arith, header.1, mul-add g.sector_size header.0 h))
  spot_aligned (VoteOf s h) is =
      let header = header_sectors g.sector_size is.sector_size in
      let size = g.sector_size in (
        header.0 + g.hosts + g.hosts * s + h,
        omega (arith, header.1, mul_assoc size g.hosts s, mul-add size header.0 g.hosts, mul-add size (header.0 + g.hosts) (g.hosts * s), mul-add size (header.0 + g.hosts + g.hosts * s) h),
      )

  -- the image has the spot, too
  pub image_spot : IsGeometry g → (a : Spot) → IsSpot g a → images.IsSpot cluster_version (slot_rows g) a
  image_spot is (BeatOf h) spot = omega (arith, is.hosts.1)
  image_spot is (VoteOf s h) spot = (spot.0, omega (arith, is.hosts.1, spot.1))

  -- ---- from an image's places

  pub row_found : (at size : ℕ) → size ≡ row_size g → at % 4096 ≡ 0 → (at / 4096 ≡ 0 → ⊥) → at / 4096 ≤ slot_rows g + 1 → IsRowAt g at (4096 + size * (at / 4096 - 1))
  row_found at size is whole some below =
      elim (cases_eq (at / 4096) 1) [
        | inl first ↦
            (let none : at / 4096 - 1 ≡ 0 = omega (arith, first) in
            record {
              row = BeatsRow;
              is_row = tt;
              here = omega (arith, first, whole);
              there = ap (λ (n : ℕ). 4096 + size * n) none ∙ omega arith;
            })
        | inr later ↦
            (let slot = at / 4096 - 2 in
            let next : at / 4096 - 1 ≡ slot + 1 = omega (arith, some, later) in
            record {
              row = SlotRow slot;
              is_row = omega (arith, some, later, below);
              here = omega (arith, whole, some, later);
              there =
                  ap (λ (n : ℕ). 4096 + size * n) next
                  ∙ ap (λ (m : ℕ). 4096 + m * (slot + 1)) is
                  ∙ omega (arith, one_more (row_size g) slot);
            })
      ]

  range_in : (row : RowOf) (at long place : ℕ) → IsRow g row → at - at % 4096 ≡ image_row row → place ≡ device_row g row → at % 4096 / 256 < g.hosts → long ≤ 256 - at % 4096 % 256 →
      IsRangeAt g at long (record { place = place + g.sector_size * (at % 4096 / 256); offset = at % 4096 % 256 })
  range_in BeatsRow at long place is_row here there below fits =
      record {
        spot = BeatOf (at % 4096 / 256);
        is_spot = below;
        within = record { here = omega (arith, here); begins = omega arith; ends = omega (arith, fits) };
        there = ap (λ (p : ℕ). p + g.sector_size * (at % 4096 / 256)) there;
      }
  range_in (SlotRow slot) at long place is_row here there below fits =
      record {
        spot = VoteOf slot (at % 4096 / 256);
        is_spot = (is_row, below);
        within = record { here = omega (arith, here); begins = omega arith; ends = omega (arith, fits) };
        there = ap (λ (p : ℕ). p + g.sector_size * (at % 4096 / 256)) there;
      }

  pub range_found : (at long place : ℕ) → IsRowAt g (at - at % 4096) place → at % 4096 / 256 < g.hosts → long ≤ 256 - at % 4096 % 256 →
      IsRangeAt g at long (record { place = place + g.sector_size * (at % 4096 / 256); offset = at % 4096 % 256 })
  range_found at long place found below fits = range_in found.row at long place found.is_row found.here found.there below fits

  pub no_range : (at long : ℕ) → IsGeometry g → ((row : RowOf) → IsRow g row → at - at % 4096 ≢ image_row row) → HasNoRangeAt g at long
  no_range at long is none (BeatOf h) offset spot within = none BeatsRow tt (omega (arith, within.here, within.begins, is.hosts.1, spot))
  no_range at long is none (VoteOf s h) offset spot within =
      none (SlotRow s) spot.0 (omega (arith, within.here, within.begins, is.hosts.1, spot.1))
