-- A test that decides which copies are sound decides of each host's block in a row whether it is damaged, and so of the row.
use Rattle.std.specs.Prelude.{◌≡◌, ◌↔◌, ◌*◌, ◌+◌, ◌<◌, ℕ, Bool, true, false, List, length, drop, slice_index_or, Contains}
use Rattle.std.specs.List.{list_any, range_with_len}
use Rattle.std.proofs.Common.{sym, ap, subst, ◌∙◌, arith, inl, inr, set}
use Rattle.std.proofs.lemmas.Bool.{cases_lt, both_ways, false_from_ne_true}
use Rattle.std.proofs.lemmas.List.{get_or_default, get_or-set_same, get_or-set_other, length-set}
use Rattle.std.proofs.lemmas.List.Folds.{Any-from_list_any, list_any_at}
use Rattle.std.proofs.lemmas.List.FromFn.{fill_by_all, get_or-range_with_len, get_or-map-range_with_len, length-range_with_len, length-map-range_with_len}
use Rattle.torn_block.specs.Layout.{Version, hosts_in, block_length, row_length}
use Rattle.torn_block.specs.Damage.{IsSoundBlock, IsDamagedBlock, IsDamaged, AreDamaged, block_of, is_damaged_block, has_damage, damaged_in}
use Rattle.torn_block.specs.Numbers.{AreBytes}
use Rattle.torn_block.proofs.NumberLaws.{AreBytes-drop, AreBytes-take}
use Rattle.torn_block.proofs.LayoutLaws.{row_holds}
use Rattle.torn_block.proofs.PlaceLaws.{length-block_in}
use Rattle.torn_block.proofs.DamageLaws.{Decides, damaged_tells, sound_is_undamaged, damage_is_found}

pub length-block_of : (v : Version) (host : ℕ) (row : List ℕ) → host < hosts_in v → length row ≡ row_length v → length (block_of v host row) ≡ block_length v
length-block_of v host row below long = length-block_in v (block_length v * host) row (omega (arith, long, row_holds v host below))

AreBytes-block_of : (v : Version) (host : ℕ) (row : List ℕ) → AreBytes row → AreBytes (block_of v host row)
AreBytes-block_of v host row fits = AreBytes-take _ (drop (block_length v * host) row) (AreBytes-drop (block_length v * host) row fits)

-- ---- a test of each number of a range

module _ (p : ℕ → Bool) (n : ℕ) where
  at_range : (k : ℕ) → k < n → p (slice_index_or (range_with_len 0 n) k 0) ≡ p k
  at_range k below = let same : 0 + k ≡ k = omega arith in ap p (get_or-range_with_len 0 n k 0 below ∙ same)

  any_at : (k : ℕ) → k < n → p k ≡ true → list_any p (range_with_len 0 n) ≡ true
  any_at k below found = list_any_at p (range_with_len 0 n) k 0 (omega (arith, length-range_with_len 0 n)) (at_range k below ∙ found)

  any_tells : list_any p (range_with_len 0 n) ≡ true → (k : ℕ) × (k < n) × (p k ≡ true)
  any_tells t =
      let found = Any-from_list_any p (range_with_len 0 n) t in
      let below = found.2 in
      let within : found.0 < n = omega (arith, length-range_with_len 0 n) in
      (found.0, within, sym (at_range found.0 within) ∙ ap p (get_or_default (range_with_len 0 n) found.0 0 found.1 below ∙ found.3) ∙ found.4)

  none_in : ((k : ℕ) → k < n → p k ≡ false) → list_any p (range_with_len 0 n) ≡ false
  none_in none = false_from_ne_true (list_any p (range_with_len 0 n)) (λ t. let found = any_tells t in both_ways (p found.0) (none found.0 found.1) found.2)

-- ---- the test of a row

abbrev is_damaged_at : (v : Version) (is_sound : ℕ → List ℕ → Bool) (row : List ℕ) → ℕ → Bool
is_damaged_at v is_sound row host = is_damaged_block v (is_sound host) (block_of v host row)

module _ (v : Version) (is_sound : ℕ → List ℕ → Bool) (row : List ℕ) where
  pub none_damaged : has_damage v is_sound row ≡ false → (host : ℕ) → host < hosts_in v → is_damaged_at v is_sound row host ≡ false
  none_damaged none host below =
      false_from_ne_true (is_damaged_at v is_sound row host) (λ t. both_ways (has_damage v is_sound row) none (any_at (is_damaged_at v is_sound row) (hosts_in v) host below t))

  -- the tests of each host, in a list, are the row's
  pub damaged_are : (damaged : List Bool) → length damaged ≡ hosts_in v → ((host : ℕ) → host < hosts_in v → slice_index_or damaged host false ≡ is_damaged_at v is_sound row host) → damaged ≡ damaged_in v is_sound row
  damaged_are damaged count tests = fill_by_all (is_damaged_at v is_sound row) damaged (hosts_in v) false count tests

  -- the hosts so far have been looked at
  pub record Looked (damaged : List Bool) (host : ℕ) : Type 0 where
    pub count : length damaged ≡ hosts_in v
    pub tests : (k : ℕ) → k < host → slice_index_or damaged k false ≡ is_damaged_at v is_sound row k

  pub one_more : (damaged : List Bool) (host : ℕ) (is : Bool) → Looked damaged host → host < hosts_in v → is ≡ is_damaged_at v is_sound row host → Looked (set damaged host is) (host + 1)
  one_more damaged host is sofar below tested =
      record {
        count = length-set damaged host is ∙ sofar.count;
        tests =
            λ k under.
            elim (cases_lt k host) [
              | inl lt ↦ get_or-set_other damaged host k is false (λ same. absurd (omega arith)) ∙ sofar.tests k lt
              | inr ge ↦
                  (let same : host ≡ k = omega arith in
                  subst (λ (j : ℕ). slice_index_or (set damaged host is) j false ≡ is_damaged_at v is_sound row j) same
                  (get_or-set_same damaged host is false (omega (arith, sofar.count)) ∙ tested))
            ];
      }

-- one of the blocks is damaged where the row is
pub some_damaged : {v : Version} {IsSound : ℕ → List ℕ → Type 0} {row : List ℕ} → (damaged : List Bool) → AreDamaged v IsSound row damaged → Contains damaged true ↔ IsDamaged v IsSound row
some_damaged {v = v} damaged told = (
  (λ some.
      let below : some.0 < length damaged = some.1 in
      let within : some.0 < hosts_in v = omega (arith, told.count, below) in
      (some.0, within, (told.each some.0 within).0 (get_or_default damaged some.0 false true below ∙ some.2))),
  (λ damage.
      let within : damage.0 < hosts_in v = damage.1 in
      let below : damage.0 < length damaged = omega (arith, told.count, within) in
      (damage.0, below, get_or_default damaged damage.0 true false below ∙ (told.each damage.0 within).1 damage.2)),
)

module _ {v : Version} {IsSound : ℕ → List ℕ → Type 0} {is_sound : ℕ → List ℕ → Bool} (decides : (host : ℕ) → Decides v (IsSound host) (is_sound host)) (row : List ℕ) (long : length row ≡ row_length v) where
  -- a row of sound blocks has no damage
  pub sound_has_none : ((host : ℕ) → host < hosts_in v → IsSoundBlock v (IsSound host) (block_of v host row)) → has_damage v is_sound row ≡ false
  sound_has_none sound =
      none_in (is_damaged_at v is_sound row) (hosts_in v) (λ host below. sound_is_undamaged (decides host) (block_of v host row) (length-block_of v host row below long) (sound host below))

  damage_found_at : AreBytes row → (host : ℕ) → host < hosts_in v → IsDamagedBlock v (IsSound host) (block_of v host row) → is_damaged_at v is_sound row host ≡ true
  damage_found_at fits host below damage =
      damage_is_found (decides host) (block_of v host row) (length-block_of v host row below long) (AreBytes-block_of v host row fits) damage

  damage_told_at : (host : ℕ) → host < hosts_in v → is_damaged_at v is_sound row host ≡ true → IsDamagedBlock v (IsSound host) (block_of v host row)
  damage_told_at host below t = damaged_tells (decides host) (block_of v host row) (length-block_of v host row below long) t

  -- the test finds a damaged block
  pub damaged_has_some : AreBytes row → IsDamaged v IsSound row → has_damage v is_sound row ≡ true
  damaged_has_some fits damage = any_at (is_damaged_at v is_sound row) (hosts_in v) damage.0 damage.1 (damage_found_at fits damage.0 damage.1 damage.2)

  -- and is right where it finds one
  pub has_damage_tells : has_damage v is_sound row ≡ true → IsDamaged v IsSound row
  has_damage_tells t =
      let found = any_tells (is_damaged_at v is_sound row) (hosts_in v) t in
      (found.0, found.1, damage_told_at found.0 found.1 found.2)

  -- the tests of each host tell which blocks are damaged
  pub damaged_in_tells : AreBytes row → AreDamaged v IsSound row (damaged_in v is_sound row)
  damaged_in_tells fits =
      record {
        count = length-map-range_with_len (is_damaged_at v is_sound row) 0 (hosts_in v);
        each =
            λ host below.
            let is = get_or-map-range_with_len (is_damaged_at v is_sound row) 0 (hosts_in v) host host false below (omega arith) in
            ((λ t. damage_told_at host below (sym is ∙ t)), (λ damage. is ∙ damage_found_at fits host below damage));
      }
