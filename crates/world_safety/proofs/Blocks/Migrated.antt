-- What each block stands for, and what its mark tells, on a disk that begins as a migration left it.
use Rattle.std.specs.Prelude.{All, map, slice_get, cond}
use Rattle.std.proofs.Common.{ℕ, zero, suc, ◌<◌, ◌≤◌, ◌≡◌, ◌≢◌, ◌==◌, ◌⊎◌, inl, inr, Bool, true, false, true≢false, Option, Some, None, List, [], ◌∷◌, length, replicate, get_or, refl, sym, subst, ap, ◌∙◌, arith}
use Rattle.std.proofs.lemmas.Bool.{cases_Bool, eqb-true, eq-eqb}
use Rattle.std.proofs.lemmas.List.{take_at, drop_at, length-replicate, length-map}
use Rattle.std.proofs.lemmas.Option.{slice_get_within, slice_get-get_or}
use Rattle.disk.specs.Crash.{MayLeave}
use Rattle.disk.specs.Disk.{DiskState, written}
use Rattle.disk.specs.Simulated.{fresh_disk}
use Rattle.disk.proofs.CrashLemmas.{length-put, may_leave_synced}
use Rattle.torn_block.specs.declared.block.Half.{Half}
use Rattle.torn_block.specs.declared.block.Half.TheVariants.{First, Second}
use Rattle.torn_block.specs.declared.layout.TheConstants.{HOSTS, BLOCK_LENGTH, COPY_LENGTH, VALUE_LENGTH}
use Rattle.torn_block.specs.Layout.{cluster_version}
use Rattle.torn_block.specs.Block.{is_open, copy_of, value_by, value_of}
use Rattle.torn_block.specs.Damage.{IsSoundBlock}
use Rattle.torn_block.specs.Place.{block_in}
use Rattle.torn_block.proofs.PlaceLaws.{length-tail_with, reads_sequence, reads_body}
use Rattle.paxos_block.specs.Places.{VoteOf, IsImage, place_of, row_place, image_length}
use Rattle.paxos_block.specs.Row.{IsSound, copy_saying, says_of}
use Rattle.paxos_block.specs.Saying.{MaySay, body_saying, zeros}
use Rattle.paxos_block.proofs.SayingLemmas.{claims_back}
use Rattle.paxos_block.specs.Image.{vote_for, block_for, rows_for}
use Rattle.migration.proofs.Lengths.{length-body}
use Rattle.migration.proofs.Reading.{length-rows}
use Rattle.migration.proofs.Rows.{with_rows, rows_hold, rows_hold_no_more}
use Rattle.lock_command.specs.declared.command.Command.{Command}
use Rattle.lock_command.specs.Command.{spelling}
use Rattle.lock_command.proofs.Lengths.{spelling_long}
use Rattle.paxos_block.specs.Shape.{Shape}
use Rattle.world.specs.Entry.{migrated_to}
use Rattle.world.specs.World.{CanMigrate, opening_disk, ReadsBack}
use Rattle.agreement.specs.State.{Cell}
use Rattle.agreement.specs.Placed.{voted}
use Rattle.world_safety.specs.Blocks.{said, Stands}
use Rattle.world_safety.specs.Marks.{IsMarkTrue, AllSay}
use Rattle.world_safety.proofs.Blocks.Standing.{blank_sound}

-- A BLOCK OF THE LOG

module _ (value : List ℕ) (long : length value ≡ VALUE_LENGTH) where
  first_copy : List ℕ
  first_copy = copy_saying cluster_version 1 (vote_for value)

  may_say : MaySay cluster_version 0 (vote_for value)
  may_say = record {
    mbal = record { positive = omega arith; within = omega arith; owned = refl };
    vote = (record { positive = omega arith; within = omega arith; owned = refl }, omega arith);
    mark = refl;
  }

  length-copy : length first_copy ≡ COPY_LENGTH
  unfolding first_copy
  length-copy = omega (arith, length-tail_with cluster_version 1 (body_saying cluster_version (vote_for value)) (length-body value long))

  first_is : copy_of cluster_version First (block_for value) ≡ first_copy
  unfolding first_copy
  first_is = take_at first_copy (zeros COPY_LENGTH) COPY_LENGTH length-copy

  second_is : copy_of cluster_version Second (block_for value) ≡ zeros COPY_LENGTH
  unfolding first_copy
  second_is = drop_at first_copy (zeros COPY_LENGTH) COPY_LENGTH length-copy

  second_closed : is_open (copy_of cluster_version Second (block_for value)) ≡ false
  unfolding zeros
  second_closed = ap is_open second_is

  -- its first copy is open, and it is its value
  block_value : value_of cluster_version (block_for value) ≡ Some (1, body_saying cluster_version (vote_for value))
  unfolding first_copy zeros
  block_value =
      let body = body_saying cluster_version (vote_for value) in
      let big : 1 < 18446744073709551616 = omega arith in
      ap (λ (copy : List ℕ). value_by copy (copy_of cluster_version Second (block_for value))) first_is
      ∙ ap (value_by first_copy) second_is
      ∙ (λ i. Some (reads_sequence cluster_version 1 body (length-body value long) first_copy big refl i, reads_body cluster_version 1 body (length-body value long) first_copy refl i))

  block_says : says_of cluster_version (value_of cluster_version (block_for value)) ≡ vote_for value
  block_says = ap (says_of cluster_version) block_value ∙ claims_back cluster_version (vote_for value) 0 may_say

  block_sound : IsSoundBlock cluster_version (IsSound cluster_version 0) (block_for value)
  unfolding first_copy
  block_sound = record {
    copies = sound;
    apart = λ first second. absurd (true≢false (sym second ∙ second_closed));
  }
    where
      sound : (half : Half) → is_open (copy_of cluster_version half (block_for value)) ≡ true → IsSound cluster_version 0 (copy_of cluster_version half (block_for value))
      sound First opened = subst (IsSound cluster_version 0) (sym first_is) (record { sequence = 1; says = vote_for value; so = record { is_sequence = record { from_one = omega arith; within = omega arith }; may_say = may_say; spelled = refl } })
      sound Second opened = absurd (true≢false (sym opened ∙ second_closed))

-- A BLOCK, OF THE LOG OR NOT

abbrev block_at : Option (List ℕ) → List ℕ
block_at None = zeros BLOCK_LENGTH
block_at (Some value) = block_for value

-- each value is as long as a value is
abbrev IsLong : Option (List ℕ) → Type 0
IsLong None = Unit {0}
IsLong (Some value) = length value ≡ VALUE_LENGTH

blank_value : value_of cluster_version (zeros BLOCK_LENGTH) ≡ None
unfolding zeros
blank_value = refl

at_says : (o : Option (List ℕ)) → IsLong o → said (value_of cluster_version (block_at o)) ≡ voted o
at_says None long = ap said blank_value
at_says (Some value) long = λ i. record { mbal = (block_says value long i).mbal; bal = (block_says value long i).bal; inp = (block_says value long i).inp }

at_sound : (host : ℕ) (o : Option (List ℕ)) → IsLong o → (host ≡ 0) ⊎ (o ≡ None) → IsSoundBlock cluster_version (IsSound cluster_version host) (block_at o)
at_sound host None long is = blank_sound host (zeros BLOCK_LENGTH) blank_value
at_sound host (Some value) long (inl zero_is) = subst (λ (h : ℕ). IsSoundBlock cluster_version (IsSound cluster_version h) (block_for value)) (sym zero_is) (block_sound value long)
at_sound host (Some value) long (inr none) = absurd (cc)

at_marked : (Known : List ℕ → Type 0) (o : Option (List ℕ)) → IsLong o → ((value : List ℕ) → o ≡ Some value → Known value)
    → IsMarkTrue Known (says_of cluster_version (value_of cluster_version (block_at o)))
at_marked Known None long known marked = absurd (true≢false (sym marked ∙ ap (λ v. (says_of cluster_version v).mark) blank_value))
at_marked Known (Some value) long known marked = (value, ap (λ s. s.inp) (block_says value long), known value refl)

-- A DISK

module _ (c : Shape) (log : List Command) (can : CanMigrate c log) where
  abbrev pub values : List (List ℕ)
  values = map spelling log

  abbrev pub disk : DiskState
  disk = migrated_to (opening_disk c) log

  few : length values ≤ c.slots
  few = let fits = can.slots in omega (arith, length-map log spelling)

  reads_long : (command : Command) → ReadsBack command → length (spelling command) ≡ VALUE_LENGTH
  reads_long command reads = spelling_long command reads

  all_long : (commands : List Command) → ((k : ℕ) (command : Command) → slice_get commands k ≡ Some command → ReadsBack command) → All (λ value. length value ≡ VALUE_LENGTH) (map spelling commands)
  all_long [] reads k d inside = absurd (omega arith)
  all_long (command ∷ commands) reads zero d inside = reads_long command (reads zero command refl)
  all_long (command ∷ commands) reads (suc k) d inside = all_long commands (λ j found is. reads (suc j) found is) k d (omega arith)

  long_values : All (λ value. length value ≡ VALUE_LENGTH) values
  long_values = all_long log can.reads

  bytes_are : disk.bytes ≡ with_rows c.slots values few long_values
  unfolding fresh_disk zeros
  bytes_are = refl

  pub image : IsImage cluster_version c.slots disk
  unfolding fresh_disk
  image = let nil : ℕ = 0 in record {
    whole = length-replicate (length disk.bytes) false;
    long = length-put (replicate (image_length cluster_version c.slots) nil) (row_place cluster_version 0) (rows_for values) (omega (arith, length-replicate (image_length cluster_version c.slots) nil, length-rows values long_values, few)) nil ∙ length-replicate (image_length cluster_version c.slots) nil;
  }

  -- a crash now leaves it
  leaves : (bytes : List ℕ) → MayLeave disk bytes → bytes ≡ disk.bytes
  leaves bytes left = may_leave_synced (written (opening_disk c) (row_place cluster_version 0) (rows_for values)) bytes left

  -- the value of a slot, in host 0's block
  abbrev pub value_in : ℕ → ℕ → Option (List ℕ)
  value_in slot host = cond (host == 0) (slice_get values slot) None

  long_in_log : (slot : ℕ) (value : List ℕ) → slice_get values slot ≡ Some value → length value ≡ VALUE_LENGTH
  long_in_log slot value is =
      let within = slice_get_within values slot value is in
      let both : Some (get_or values slot value) ≡ Some value = sym (slice_get-get_or values slot value within) ∙ is in
      let same : get_or values slot value ≡ value = cc in
      subst (λ (v : List ℕ). length v ≡ VALUE_LENGTH) same (long_values slot value within)

  long_in : (slot host : ℕ) → IsLong (value_in slot host)
  long_in slot host = go (host == 0) (slice_get values slot) refl
    where
      go : (b : Bool) (o : Option (List ℕ)) → slice_get values slot ≡ o → IsLong (cond b o None)
      go false o is = tt
      go true None is = tt
      go true (Some value) is = long_in_log slot value is

  holds : (slot host : ℕ) → slot < c.slots → host < HOSTS → block_in cluster_version (place_of cluster_version (VoteOf slot host)) disk.bytes ≡ block_at (value_in slot host)
  holds slot host slot_below below = by (cases_Bool (host == 0)) (slice_get values slot) refl
    where
      blank_there : ((k : ℕ) → k < length values → VoteOf slot host ≢ VoteOf k 0) → block_in cluster_version (place_of cluster_version (VoteOf slot host)) disk.bytes ≡ zeros BLOCK_LENGTH
      blank_there other = ap (block_in cluster_version (place_of cluster_version (VoteOf slot host))) bytes_are ∙ rows_hold_no_more c.slots values few long_values (VoteOf slot host) (slot_below, below) other

      by : ((host == 0) ≡ true) ⊎ ((host == 0) ≡ false) → (o : Option (List ℕ)) → slice_get values slot ≡ o → block_in cluster_version (place_of cluster_version (VoteOf slot host)) disk.bytes ≡ block_at (value_in slot host)
      by (inr off) o is =
          blank_there (λ k within same. (let zero_is : host ≡ 0 = cc in true≢false (sym (eq-eqb host 0 zero_is) ∙ off)))
          ∙ ap (λ (b : Bool). block_at (cond b (slice_get values slot) None)) (sym off)
      by (inl on) (Some value) is =
          let zero_is : host ≡ 0 = eqb-true host 0 on in
          ap (λ (h : ℕ). block_in cluster_version (place_of cluster_version (VoteOf slot h)) disk.bytes) zero_is
          ∙ ap (block_in cluster_version (place_of cluster_version (VoteOf slot 0))) bytes_are
          ∙ rows_hold c.slots values few long_values slot value is
          ∙ ap block_at (sym is)
          ∙ ap (λ (b : Bool). block_at (cond b (slice_get values slot) None)) (sym on)
      by (inl on) None is =
          blank_there (λ k within same. (let here : slot ≡ k = cc in let some = slice_get-get_or values k [] within in let both : None ≡ Some (get_or values k []) = sym is ∙ ap (slice_get values) here ∙ some in absurd (cc)))
          ∙ ap block_at (sym is)
          ∙ ap (λ (b : Bool). block_at (cond b (slice_get values slot) None)) (sym on)

  of_zero : (slot host : ℕ) → (host ≡ 0) ⊎ (value_in slot host ≡ None)
  of_zero slot host = elim (cases_Bool (host == 0)) [
    | inl on ↦ inl (eqb-true host 0 on)
    | inr off ↦ inr (ap (λ (b : Bool). cond b (slice_get values slot) None) off)
  ]

  pub stands_migrated : (slot host : ℕ) (cell : Cell (List ℕ)) → slot < c.slots → host < HOSTS → cell.confirmed ≡ voted (value_in slot host) → Stands disk slot host cell
  stands_migrated slot host cell slot_below below confirmed =
      let there : (bytes : List ℕ) → MayLeave disk bytes → block_in cluster_version (place_of cluster_version (VoteOf slot host)) bytes ≡ block_at (value_in slot host) =
      λ bytes left. ap (block_in cluster_version (place_of cluster_version (VoteOf slot host))) (leaves bytes left) ∙ holds slot host slot_below below in
      record {
        reads = λ bytes left. inl (ap (λ (block : List ℕ). said (value_of cluster_version block)) (there bytes left) ∙ at_says (value_in slot host) (long_in slot host) ∙ sym confirmed);
        sound = λ bytes left. subst (IsSoundBlock cluster_version (IsSound cluster_version host)) (sym (there bytes left)) (at_sound host (value_in slot host) (long_in slot host) (of_zero slot host));
      }

  -- host 0's block of a slot of the log is marked
  pub marked_migrated : (slot : ℕ) (value : List ℕ) → slot < c.slots → slice_get values slot ≡ Some value → AllSay (λ says. says.mark ≡ true) (place_of cluster_version (VoteOf slot 0)) disk
  marked_migrated slot value slot_below is bytes left =
      let there : block_in cluster_version (place_of cluster_version (VoteOf slot 0)) bytes ≡ block_for value = ap (block_in cluster_version (place_of cluster_version (VoteOf slot 0))) (leaves bytes left) ∙ holds slot 0 slot_below (omega arith) ∙ ap block_at is in
      ap (λ (block : List ℕ). (says_of cluster_version (value_of cluster_version block)).mark) there ∙ ap (λ s. s.mark) (block_says value (long_in_log slot value is))

  -- and what is marked is of the log
  pub marks_migrated : (Known : List ℕ → Type 0) (slot host : ℕ) → slot < c.slots → host < HOSTS → ((value : List ℕ) → slice_get values slot ≡ Some value → Known value) → AllSay (IsMarkTrue Known) (place_of cluster_version (VoteOf slot host)) disk
  marks_migrated Known slot host slot_below below known bytes left =
      let there : block_in cluster_version (place_of cluster_version (VoteOf slot host)) bytes ≡ block_at (value_in slot host) = ap (block_in cluster_version (place_of cluster_version (VoteOf slot host))) (leaves bytes left) ∙ holds slot host slot_below below in
      subst (λ (block : List ℕ). IsMarkTrue Known (says_of cluster_version (value_of cluster_version block))) (sym there) (at_marked Known (value_in slot host) (long_in slot host) known_in)
    where
      known_in : (value : List ℕ) → value_in slot host ≡ Some value → Known value
      known_in value is = elim (cases_Bool (host == 0)) [
        | inl on ↦ known value (ap (λ (b : Bool). cond b (slice_get values slot) None) (sym on) ∙ is)
        | inr off ↦ absurd (let none : None ≡ Some value = ap (λ (b : Bool). cond b (slice_get values slot) None) (sym off) ∙ is in cc)
      ]
