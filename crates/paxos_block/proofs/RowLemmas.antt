-- The tests of a row decide when it is damaged.
use Rattle.std.specs.Prelude.{◌≡◌, ◌≢◌, ◌&&◌, ◌||◌, ◌-◌, ◌≤◌, ◌<◌, ◌⊎◌, ℕ, Bool, true, false, not, nat_lt, List, [], ◌∷◌, length, drop, slice_index_or, Option, Some, None, unwrap_or}
use Rattle.std.specs.List.{HoldsAt}
use Rattle.std.specs.Option.{IsSomeAnd}
use Rattle.std.proofs.Common.{refl, sym, ap, ◌∙◌, subst, arith, inl, inr, length-drop}
use Rattle.std.proofs.lemmas.List.{length-take-le, get_or_past}
use Rattle.std.proofs.lemmas.List.FromFn.{get_or-map-range_with_len, length-map-range_with_len}
use Rattle.std.proofs.lemmas.Bool.{cases_lt, and_parts, and_from, or_parts, not-false, true≢false, cases_Bool, cond-true, cond-false}
use Rattle.torn_block.specs.declared.block.Half.{Half}
use Rattle.torn_block.specs.declared.block.Half.TheVariants.{First, Second}
use Rattle.torn_block.specs.declared.block.Block128.{Block128}
use Rattle.torn_block.specs.Block.{is_open, sequence_of, body_of, tail_with, value_of, value_at, choice, copy_of, current_of, target_at, number_in}
use Rattle.torn_block.specs.Damage.{IsSoundBlock, block_of, first_of, second_of, is_sequence, has_fault, has_twins, is_damaged_block, has_damage}
use Rattle.torn_block.proofs.DamageLaws.{Decides, is_sequence_tells, is_sequence_since, open_copy_spelled, long_body}
use Rattle.torn_block.proofs.DamagedRows.{none_damaged, sound_has_none, damaged_has_some, has_damage_tells}
use Rattle.torn_block.specs.Numbers.{AreBytes}
use Rattle.torn_block.proofs.PlaceLaws.{reads_sequence, reads_body}
use Rattle.torn_block.specs.Plan.{IsReading}
use Rattle.torn_block.specs.declared.block.TheConstants.{OPEN_GATE}
use Rattle.paxos_block.specs.Saying.{Said, zeros, body_saying, claim_of, is_said}
use Rattle.paxos_block.specs.declared.cell.Cell.{Cell}
use Rattle.paxos_block.specs.declared.row.Row.{Row}
use Rattle.paxos_block.proofs.SayingLemmas.{said_back, said_spelled}
use Rattle.paxos_block.specs.Row.{copy_saying, Says, IsSound, is_sound, blank, says_of, IsSaid, IsDamagedRow, IsCell, IsRow, blank_cell, DecodedBlock, number_or_zero, seen_in, seen_at, row_seen, decoded_row, blank_seen, IsSeenAs, AreSeenAs}
use Rattle.torn_block.specs.declared.layout.TheConstants.{HOSTS_ROOM}
use Rattle.torn_block.specs.Layout.{Version, Version1, Version2, hosts_in, copy_length, block_length, body_length, row_length}

sound_tells : (v : Version) → (host : ℕ) (copy : List ℕ) → length copy ≡ copy_length v → AreBytes copy → is_open copy ≡ true → is_sound v host copy ≡ true → IsSound v host copy
sound_tells v host copy long fits opened t =
    let sequence = sequence_of copy in
    let a = and_parts (is_sequence sequence) (is_said v host (body_of copy)) t in
    let said = said_spelled v host (body_of copy) a.1 in
    let whole : copy ≡ copy_saying v sequence (claim_of v (body_of copy)) =
    open_copy_spelled v copy long fits opened ∙ ap (λ (body : List ℕ). OPEN_GATE ∷ tail_with sequence body) said.1 in
    record {
      sequence = sequence;
      says = claim_of v (body_of copy);
      so = record { is_sequence = is_sequence_tells sequence a.0; may_say = said.0; spelled = whole };
    }

-- a copy that says something reads so
module _ (v : Version) (host : ℕ) (copy : List ℕ) (long : length copy ≡ copy_length v) (sequence : ℕ) (says : Said) (so : Says v host copy sequence says) where
  tail_is : drop 1 copy ≡ tail_with sequence (body_saying v says)
  tail_is = ap (drop 1) so.spelled

  as_long : length (body_saying v says) ≡ body_length v
  as_long = long_body v sequence (body_saying v says) (ap length (sym tail_is) ∙ length-drop 1 copy ∙ ap (λ (n : ℕ). n - 1) long)

  pub says_sequence : sequence_of copy ≡ sequence
  says_sequence = reads_sequence v sequence (body_saying v says) as_long copy (let most = so.is_sequence.within in omega arith) tail_is

  pub says_body : body_of copy ≡ body_saying v says
  says_body = reads_body v sequence (body_saying v says) as_long copy tail_is

  pub sound_copy_since : is_sound v host copy ≡ true
  sound_copy_since =
      and_from (is_sequence (sequence_of copy)) (is_said v host (body_of copy))
      (ap is_sequence says_sequence ∙ is_sequence_since sequence so.is_sequence)
      (ap (is_said v host) says_body ∙ said_back v host says so.may_say)

sound_since : (v : Version) → (host : ℕ) (copy : List ℕ) → length copy ≡ copy_length v → IsSound v host copy → is_sound v host copy ≡ true
sound_since v host copy long sound = sound_copy_since v host copy long sound.sequence sound.says sound.so

pub sound_decides : (v : Version) (host : ℕ) → Decides v (IsSound v host) (is_sound v host)
sound_decides v host = record { since = sound_since v host; tells = sound_tells v host }

-- ---- cells

module _ (v : Version) (block : List ℕ) (read : Block128) (is : IsReading v block read) where
  pub blank_says : read.current ≡ None → blank ≡ says_of v (value_of v block)
  blank_says none = ap (λ (o : Option Half). says_of v (value_at o (first_of v block) (second_of v block))) (sym none ∙ is.current)

  says_at : (half : Half) → claim_of v (body_of (copy_of v half block)) ≡ says_of v (value_at (Some half) (first_of v block) (second_of v block))
  says_at First = refl
  says_at Second = refl

  pub current_says : (half : Half) → read.current ≡ Some half → claim_of v (body_of (copy_of v half block)) ≡ says_of v (value_of v block)
  current_says half some =
      says_at half ∙ ap (λ (o : Option Half). says_of v (value_at o (first_of v block) (second_of v block))) (sym some ∙ is.current)

-- a block whose gates are both shut is a blank cell, whoever owns it
pub shut_is_blank : {V : Type 0} (v : Version) (spelled : V → List ℕ) (host : ℕ) (block : List ℕ) → is_open (first_of v block) ≡ false → is_open (second_of v block) ≡ false → IsCell v spelled host block blank_cell
shut_is_blank v spelled host block first second =
    let later = nat_lt (sequence_of (first_of v block)) (sequence_of (second_of v block)) in
    let none : None ≡ current_of v block =
    sym (ap (λ (b : Bool). choice b (is_open (second_of v block)) later) first ∙ ap (λ (b : Bool). choice false b later) second) in
    record {
      sound = record { copies = copies; apart = λ o. absurd (true≢false (sym o ∙ first)) };
      read = record {
        current = none;
        number = ap (λ (o : Option Half). number_in (value_at o (first_of v block) (second_of v block))) none;
        next_is_open = sym first ∙ ap (λ (o : Option Half). is_open (copy_of v (target_at o) block)) none;
        blank = λ t. refl;
      };
      says = ap (λ (o : Option Half). says_of v (value_at o (first_of v block) (second_of v block))) none;
    }
  where
    copies : (half : Half) → is_open (copy_of v half block) ≡ true → IsSound v host (copy_of v half block)
    copies First o = absurd (true≢false (sym o ∙ first))
    copies Second o = absurd (true≢false (sym o ∙ second))

-- ---- what a sound block says

said_value : (v : Version) → (host : ℕ) (copy : List ℕ) → is_sound v host copy ≡ true → IsSaid v host (Some (sequence_of copy, body_of copy)) (claim_of v (body_of copy))
said_value v host copy t =
    let a = and_parts (is_sequence (sequence_of copy)) (is_said v host (body_of copy)) t in
    let said = said_spelled v host (body_of copy) a.1 in
    (is_sequence_tells (sequence_of copy) a.0, said.0, said.1)

said_by_choice : (v : Version) → (host : ℕ) (first second : List ℕ) (a b later : Bool) → (a ≡ true → is_sound v host first ≡ true) → (b ≡ true → is_sound v host second ≡ true) → IsSaid v host (value_at (choice a b later) first second) (says_of v (value_at (choice a b later) first second))
said_by_choice v host first second true true true f s = said_value v host second (s refl)
said_by_choice v host first second true true false f s = said_value v host first (f refl)
said_by_choice v host first second true false later f s = said_value v host first (f refl)
said_by_choice v host first second false true later f s = said_value v host second (s refl)
said_by_choice v host first second false false later f s = refl

abbrev SaidIn : (v : Version) → ℕ → List ℕ → Type 0
SaidIn v host block = IsSaid v host (value_of v block) (says_of v (value_of v block))

said_by_test : (v : Version) → (host : ℕ) (block : List ℕ) → (is_open (first_of v block) ≡ true → is_sound v host (first_of v block) ≡ true) → (is_open (second_of v block) ≡ true → is_sound v host (second_of v block) ≡ true) → SaidIn v host block
said_by_test v host block f s =
    said_by_choice v host (first_of v block) (second_of v block) (is_open (first_of v block)) (is_open (second_of v block)) (nat_lt (sequence_of (first_of v block)) (sequence_of (second_of v block))) f s

pub sound_says : (v : Version) → (host : ℕ) (block : List ℕ) → length block ≡ block_length v → IsSoundBlock v (IsSound v host) block → SaidIn v host block
sound_says v host block long sound =
    said_by_test v host block
    (λ o. sound_since v host (first_of v block) (length-take-le (copy_length v) block (omega arith)) (sound.copies First o))
    (λ o. sound_since v host (second_of v block) (omega (arith, length-drop (copy_length v) block)) (sound.copies Second o))

no_fault : (v : Version) → (host : ℕ) (copy : List ℕ) → has_fault (is_sound v host) copy ≡ false → is_open copy ≡ true → is_sound v host copy ≡ true
no_fault v host copy t opened =
    not-false (is_sound v host copy) (ap (λ (b : Bool). b && not (is_sound v host copy)) (sym opened) ∙ t)

-- also of numbers that are no bytes
undamaged_says : (v : Version) → (host : ℕ) (block : List ℕ) → is_damaged_block v (is_sound v host) block ≡ false → SaidIn v host block
undamaged_says v host block t =
    let a = or_parts (has_fault (is_sound v host) (first_of v block) || has_fault (is_sound v host) (second_of v block)) (has_twins (first_of v block) (second_of v block)) t in
    let b = or_parts (has_fault (is_sound v host) (first_of v block)) (has_fault (is_sound v host) (second_of v block)) a.0 in
    said_by_test v host block (no_fault v host (first_of v block) b.0) (no_fault v host (second_of v block) b.1)

-- among zeros both copies are closed
closed_zeros : (v : Version) (half : Half) → is_open (copy_of v half blank_seen.bytes) ≡ false
unfolding zeros
closed_zeros Version1 First = refl
closed_zeros Version1 Second = refl
closed_zeros Version2 First = refl
closed_zeros Version2 Second = refl

-- so zeros read as a blank block
pub blank_reads : (v : Version) → IsReading v blank_seen.bytes (record { current = None; sequence = 0; next_is_open = false })
blank_reads v = (shut_is_blank v (λ (value : List ℕ). value) 0 blank_seen.bytes (closed_zeros v First) (closed_zeros v Second)).read

-- ---- what a row says

module _ (v : Version) (row : List ℕ) where
  said_if_none : has_damage v (is_sound v) row ≡ false → decoded_row v row ≡ Some (row_seen v row)
  unfolding decoded_row
  said_if_none t = cond-false (has_damage v (is_sound v) row) None (Some (row_seen v row)) t

  unsaid_if_any : has_damage v (is_sound v) row ≡ true → decoded_row v row ≡ None
  unfolding decoded_row
  unsaid_if_any t = cond-true (has_damage v (is_sound v) row) None (Some (row_seen v row)) t

  some_is_seen : (seen : List DecodedBlock) → decoded_row v row ≡ Some seen → (has_damage v (is_sound v) row ≡ false) × (seen ≡ row_seen v row)
  some_is_seen seen is =
      elim (cases_Bool (has_damage v (is_sound v) row)) [
        | inl t ↦ (let none = unsaid_if_any t in absurd cc)
        | inr f ↦ (f, ap (λ (o : Option (List DecodedBlock)). unwrap_or o []) (sym is ∙ said_if_none f))
      ]

  pub seen_at-row_seen : (host : ℕ) → host < (hosts_in v) → seen_at (row_seen v row) host ≡ seen_in v (block_of v host row)
  seen_at-row_seen host below = get_or-map-range_with_len (λ h. seen_in v (block_of v h row)) 0 (hosts_in v) host host blank_seen below (omega arith)

  -- a row that says anything says what each of its blocks says
  pub said_sees : (seen : List DecodedBlock) (host : ℕ) → host < (hosts_in v) → decoded_row v row ≡ Some seen → seen_at seen host ≡ seen_in v (block_of v host row)
  said_sees seen host below is = ap (λ (l : List DecodedBlock). seen_at l host) (some_is_seen seen is).1 ∙ seen_at-row_seen host below

  -- and each of them is spelled as it says
  pub said_is_said : (seen : List DecodedBlock) (host : ℕ) → host < (hosts_in v) → decoded_row v row ≡ Some seen → IsSaid v host (value_of v (seen_at seen host).bytes) (seen_at seen host).says
  said_is_said seen host below is =
      subst (λ (s : DecodedBlock). IsSaid v host (value_of v s.bytes) s.says) (sym (said_sees seen host below is)) (undamaged_says v host (block_of v host row) (none_damaged v (is_sound v) row (some_is_seen seen is).0 host below))

  module _ (long : length row ≡ row_length v) where
    -- a row of sound blocks says them
    pub sound_row : ((host : ℕ) → host < (hosts_in v) → IsSoundBlock v (IsSound v host) (block_of v host row)) → decoded_row v row ≡ Some (row_seen v row)
    sound_row sound = said_if_none (sound_has_none (sound_decides v) row long sound)

    -- a row with a damaged block says nothing
    pub damaged_row : AreBytes row → IsDamagedRow v row → decoded_row v row ≡ None
    damaged_row fits damaged = unsaid_if_any (damaged_has_some (sound_decides v) row long fits damaged)

    -- a row that says nothing has a damaged block
    pub unsaid_row : decoded_row v row ≡ None → IsDamagedRow v row
    unsaid_row is =
        elim (cases_Bool (has_damage v (is_sound v) row)) [
          | inl t ↦ has_damage_tells (sound_decides v) row long t
          | inr f ↦ (let some = said_if_none f in absurd cc)
        ]

    module _ (V : Type 0) (spelled : V → List ℕ) (read : Row V) (is : IsRow v spelled row read) (some_cell : Cell V) where
      sound_blocks : (host : ℕ) → host < (hosts_in v) → IsSoundBlock v (IsSound v host) (block_of v host row)
      sound_blocks host below = (is.cells host below some_cell).sound

      seen_cell : (host : ℕ) (cell : Cell V) → IsCell v spelled host (block_of v host row) cell → IsSeenAs v spelled (seen_in v (block_of v host row)) cell
      seen_cell host cell c = record { read = c.read; sequence = ap number_or_zero c.read.number; says = c.says }

      -- a host that there is not is seen as blank
      seen_other : (host : ℕ) → hosts_in v ≤ host → seen_at (row_seen v row) host ≡ blank_seen
      seen_other host from = get_or_past (row_seen v row) host blank_seen (omega (arith, from, length-map-range_with_len (λ h. seen_in v (block_of v h row)) 0 (hosts_in v)))

      blank_is_blank : IsSeenAs v spelled blank_seen blank_cell
      blank_is_blank =
          let blank_block = shut_is_blank v spelled 0 blank_seen.bytes (closed_zeros v First) (closed_zeros v Second) in
          record { read = blank_block.read; sequence = refl; says = refl }

      cell_seen : (host : ℕ) → (host < hosts_in v) ⊎ (hosts_in v ≤ host) → host < HOSTS_ROOM → HoldsAt (IsSeenAs v spelled (seen_at (row_seen v row) host)) read.cells host
      cell_seen host (inl below) few d =
          subst (λ (s : DecodedBlock). IsSeenAs v spelled s (slice_index_or read.cells host d)) (sym (seen_at-row_seen host below)) (seen_cell host (slice_index_or read.cells host d) (is.cells host below d))
      cell_seen host (inr from) few d =
          subst (λ (s : DecodedBlock). IsSeenAs v spelled s (slice_index_or read.cells host d)) (sym (seen_other host from)) (subst (λ (c : Cell V). IsSeenAs v spelled blank_seen c) (sym (is.others host from few d)) blank_is_blank)

      -- the cells of a row that is read are those that it says
      pub row_is_said : IsSomeAnd (decoded_row v row) (λ seen. AreSeenAs v spelled seen read)
      row_is_said =
          subst (λ (o : Option (List DecodedBlock)). IsSomeAnd o (λ seen. AreSeenAs v spelled seen read)) (sym (sound_row sound_blocks)) (record {
            count = length-map-range_with_len (λ h. seen_in v (block_of v h row)) 0 (hosts_in v);
            cells = λ host few. cell_seen host (cases_lt host (hosts_in v)) few;
          })

      pub row_is_not_unsaid : decoded_row v row ≢ None
      row_is_not_unsaid none = let some = sound_row sound_blocks in absurd cc
