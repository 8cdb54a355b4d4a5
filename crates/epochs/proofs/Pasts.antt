-- What a host's past on a disk tells of the disk, whatever others did in between.
use Rattle.std.specs.Prelude.{◌⊎◌, ◌-◌, ◌*◌, ◌/◌, ◌%◌, map, take, drop, replicate, slice_range, Option, Some}
use Rattle.std.proofs.Common.{ℕ, zero, suc, ◌≡◌, ◌+◌, ◌≤◌, ◌<◌, Bool, true, false, List, [], ◌∷◌, ◌++◌, length, get_or, refl, sym, ◌∙◌, ap, subst, inl, inr, arith}
use Rattle.std.proofs.lemmas.Bool.{cases_lt}
use Rattle.std.proofs.lemmas.List.{ext_get_or, get_or-take, get_or-drop, get_or-replicate, get_or_past, length-replicate}
use Rattle.disk.specs.Disk.{DiskState, Call, Attach, Read, Sync, Answer, Booted, Told, Done, Step, KeepsSynced, written, synced, lost}
use Rattle.disk.specs.Crash.{IsWhole, MayLeave}
use Rattle.disk.specs.Steps.{WritesOn}
use Rattle.disk.proofs.CrashLemmas.{put-below, put-inside, put-above, may_leave_now, may_leave_synced, may_leave_written}
use Rattle.disk.proofs.StepLemmas.{step_keeps}
use Rattle.torn_block.specs.Layout.{cluster_version}
use Rattle.torn_block.specs.declared.layout.TheConstants.{LAST_SEQUENCE}
use Rattle.torn_block.specs.declared.write_steps.WriteCall.{WriteCall}
use Rattle.torn_block.specs.declared.write_steps.WriteCall.TheVariants.{CloseGate, SyncClosed, PutBody, SyncBody, OpenGate, SyncOpened}
use Rattle.torn_block.specs.Block.{other, copy_of, target_of, next_sequence}
use Rattle.torn_block.specs.Damage.{block_of}
use Rattle.torn_block.specs.Place.{block_in, copy_in}
use Rattle.torn_block.specs.Stage.{Write128, call_of, next_call, MayBe, IsNow, Copies, IsPlaced, IsDue, Stands}
use Rattle.torn_block.proofs.DamagedRows.{length-block_of}
use Rattle.torn_block.proofs.PlaceLaws.{length-block_in, block_read}
use Rattle.torn_block.proofs.RegisterLaws.{known_synced}
use Rattle.torn_block.proofs.StageLaws.{done_leads_on, settled_begins}
use Rattle.heartbeat.specs.Beat.{counter_of}
use Rattle.standings.specs.Epochs.{base_of, number_place, standings_place, number_of}
use Rattle.standings.specs.Reading.{zero_block, numbers_in}
use Rattle.standings.specs.Past.{Made, Past, made, Spares, AllSpare, reading, IsSureOf, block_at, IsRow, IsZeros, HasCleared, calls_before, number_write, IsBeating}
use Rattle.epochs.specs.Showing.{host_at, IsCleared}
use Rattle.epochs.specs.Bytes.{IsSurely}
use Rattle.epochs.proofs.Showing.{part_is, length-part}
use Rattle.epochs.proofs.Blocks.{body_fits}

-- WHAT LEAVES A RANGE

-- Nobody wrote there. What is there now was there, as long as the boot number is the same; what was synced is as it was; and a crash can leave there what it could have left.
pub record Leaves (at len : ℕ) (old new : DiskState) : Type 0 where
  now : new.boot ≡ old.boot → (p : ℕ) → at ≤ p → p < at + len → get_or new.bytes p 0 ≡ get_or old.bytes p 0
  stays : (p : ℕ) → at ≤ p → p < at + len → get_or old.unsynced p false ≡ false → (get_or new.unsynced p false ≡ false) × (get_or new.bytes p 0 ≡ get_or old.bytes p 0)
  left : (bytes : List ℕ) → MayLeave new bytes → (before : List ℕ) × MayLeave old before × ((p : ℕ) → at ≤ p → p < at + len → get_or bytes p 0 ≡ get_or before p 0)

leaves_same : (at len : ℕ) (disk : DiskState) → Leaves at len disk disk
leaves_same at len disk = record { now = λ same p low high. refl; stays = λ p low high flag. (flag, refl); left = λ bytes may. (bytes, may, λ p low high. refl) }

leaves_on : (at len : ℕ) (old mid new : DiskState) → old.boot ≤ mid.boot → mid.boot ≤ new.boot → Leaves at len old mid → Leaves at len mid new → Leaves at len old new
leaves_on at len old mid new up on early late =
    record {
      now = λ same p low high. late.now (omega (arith, up, on, same)) p low high ∙ early.now (omega (arith, up, on, same)) p low high;
      stays = λ p low high flag. (let a = early.stays p low high flag in let b = late.stays p low high a.0 in (b.0, b.1 ∙ a.1));
      left = λ bytes may. (let b = late.left bytes may in let a = early.left b.0 b.1 in (a.0, a.1, λ p low high. b.2 p low high ∙ a.2 p low high));
    }

-- where nothing is unsynced
no_flag : (n p : ℕ) → get_or (replicate n false) p false ≡ false
no_flag n p =
    elim (cases_lt p n) [
      | inl within ↦ get_or-replicate n p false false within
      | inr behind ↦ get_or_past (replicate n false) p false (let size = length-replicate n false in omega (arith, size, behind))
    ]

module _ (at len : ℕ) (old : DiskState) (marked : IsWhole old) where
  leaves_written : (to : ℕ) (from : List ℕ) → to + length from ≤ length old.bytes → (to + length from ≤ at) ⊎ (at + len ≤ to) → Leaves at len old (written old to from)
  leaves_written to from fits off =
      let flags = replicate (length from) true in
      let many : length flags ≡ length from = length-replicate (length from) true in
      let flags_fit : to + length flags ≤ length old.unsynced = omega (arith, fits, many, marked) in
      record {
        now = λ same p low high. elim off [
          | inl before ↦ put-above old.bytes to from fits 0 p (omega (arith, before, low))
          | inr behind ↦ put-below old.bytes to from fits 0 p (omega (arith, behind, high))
        ];
        stays = λ p low high flag. elim off [
          | inl before ↦ (put-above old.unsynced to flags flags_fit false p (omega (arith, before, low, many)) ∙ flag, put-above old.bytes to from fits 0 p (omega (arith, before, low)))
          | inr behind ↦ (put-below old.unsynced to flags flags_fit false p (omega (arith, behind, high)) ∙ flag, put-below old.bytes to from fits 0 p (omega (arith, behind, high)))
        ];
        left = λ bytes may.
            (let a = may_leave_written old to from bytes marked fits may in (
              a.0,
              a.1,
              λ p low high. elim off [ inl before ↦ a.2.above p (omega (arith, before, low)) | inr behind ↦ a.2.below p (omega (arith, behind, high)) ],
            ));
      }

  leaves_synced : Leaves at len old (synced old)
  leaves_synced =
      record {
        now = λ same p low high. refl;
        stays = λ p low high flag. (no_flag (length old.bytes) p, refl);
        left = λ bytes may. (old.bytes, may_leave_now old, λ p low high. ap (λ (l : List ℕ). get_or l p 0) (may_leave_synced old bytes may));
      }

  -- any call that writes elsewhere
  pub leaves_step : (call : Call) (answer : Answer) (new : DiskState) → WritesOn old call → Spares at len call → Step old call answer new → Leaves at len old new
  leaves_step call answer new fits spares step =
      step_keeps (Leaves at len old) old new call answer
      (record {
        writes = λ boot to from left is as_many.
            (let room : to + length from ≤ length old.bytes = subst (WritesOn old) is fits in
            let off : (to + length from ≤ at) ⊎ (at + len ≤ to) = subst (Spares at len) is spares in
            leaves_written to left (omega (arith, room, as_many)) (elim off [ inl before ↦ inl (omega (arith, before, as_many)) | inr behind ↦ inr behind ]));
        syncs = leaves_synced;
        stays = leaves_same at len old;
      })
      step

  pub leaves_crashed : (new : DiskState) → KeepsSynced old.unsynced old.bytes new.bytes → new.unsynced ≡ replicate (length old.bytes) false → new.boot ≡ old.boot + 1 → Leaves at len old new
  leaves_crashed new keeps flags next =
      let none : (p : ℕ) → get_or new.unsynced p false ≡ false = (λ p. ap (λ (l : List Bool). get_or l p false) flags ∙ no_flag (length old.bytes) p) in
      record {
        now = λ same p low high. absurd (omega (arith, next, same));
        stays = λ p low high flag. (none p, keeps.same p flag);
        left = λ bytes may. (new.bytes, keeps, λ p low high. may.same p (none p));
      }

  pub leaves_lost : Leaves at len old (lost old)
  leaves_lost =
      record { now = λ same p low high. refl; stays = λ p low high flag. (flag, refl); left = λ bytes may. (bytes, record { as_many = may.as_many; same = may.same }, λ p low high. refl) }

-- FROM ONE MOMENT TO A LATER ONE

-- as many bytes, boot numbers do not fall, and as long as the boot number is the same numbers do not
pub record Later (n : ℕ) (old new : DiskState) : Type 0 where
  pub many : length new.bytes ≡ length old.bytes
  pub flags : length new.unsynced ≡ length old.unsynced
  pub boots : old.boot ≤ new.boot
  pub rises : new.boot ≡ old.boot → (area host : ℕ) → area < 2 → host < 16 → number_of n area host old.bytes ≤ number_of n area host new.bytes

pub later_same : (n : ℕ) (disk : DiskState) → Later n disk disk
later_same n disk = record { many = refl; flags = refl; boots = omega arith; rises = λ same area host is_area is_host. omega arith }

pub later_on : (n : ℕ) (old mid new : DiskState) → Later n old mid → Later n mid new → Later n old new
later_on n old mid new early late =
    let up = early.boots in
    let on = late.boots in
    record {
      many = late.many ∙ early.many;
      flags = late.flags ∙ early.flags;
      boots = omega (arith, up, on);
      rises = λ same area host is_area is_host.
          (let a = early.rises (omega (arith, up, on, same)) area host is_area is_host in let b = late.rises (omega (arith, up, on, same)) area host is_area is_host in omega (arith, a, b));
    }

-- what others do leaves the host's blocks in all rows of the disk
pub record Passes (n host : ℕ) (old new : DiskState) : Type 0 where
  pub later : Later n old new
  pub leaves : (q : ℕ) → Leaves (4096 * q + 256 * host) 256 old new

passes_same : (n host : ℕ) (disk : DiskState) → Passes n host disk disk
passes_same n host disk = record { later = later_same n disk; leaves = λ q. leaves_same (4096 * q + 256 * host) 256 disk }

passes_on : (n host : ℕ) (old mid new : DiskState) → Passes n host old mid → Passes n host mid new → Passes n host old new
passes_on n host old mid new early late =
    record {
      later = later_on n old mid new early.later late.later;
      leaves = λ q. leaves_on (4096 * q + 256 * host) 256 old mid new early.later.boots late.later.boots (early.leaves q) (late.leaves q);
    }

-- its own call leaves what it does not write
pub record Does (n : ℕ) (m : Made) (old new : DiskState) : Type 0 where
  pub step : Step old m.call m.answer new
  pub later : Later n old new
  pub leaves : (at len : ℕ) → Spares at len m.call → Leaves at len old new

-- the host made these calls one after the other, with what others did before each and behind the last
pub Lives : (n host : ℕ) → DiskState → Past → DiskState → Type 0
Lives n host first [] last = Passes n host first last
Lives n host first (m ∷ past) last = (old : DiskState) × (new : DiskState) × Passes n host first old × Does n m old new × Lives n host new past last

module _ (n host : ℕ) where
  pub lives_first : (disk : DiskState) → Lives n host disk [] disk
  unfolding Lives
  lives_first disk = passes_same n host disk

  pub lives_passes : (past : Past) (first old new : DiskState) → Lives n host first past old → Passes n host old new → Lives n host first past new
  unfolding Lives
  lives_passes [] first old new lives passes = passes_on n host first old new lives passes
  lives_passes (m ∷ past) first old new lives passes = (lives.0, lives.1, lives.2, lives.3, lives_passes past lives.1 old new lives.4 passes)

  pub lives_does : (past : Past) (m : Made) (first old new : DiskState) → Lives n host first past old → Does n m old new → Lives n host first (past ++ m ∷ []) new
  unfolding Lives
  lives_does [] m first old new lives does = (old, new, lives, does, passes_same n host new)
  lives_does (l ∷ past) m first old new lives does = (lives.0, lives.1, lives.2, lives.3, lives_does past m lives.1 old new lives.4 does)

  lives_split : (one other : Past) (first last : DiskState) → Lives n host first (one ++ other) last → (mid : DiskState) × Lives n host first one mid × Lives n host mid other last
  unfolding Lives
  lives_split [] other first last lives = (first, passes_same n host first, lives)
  lives_split (m ∷ one) other first last lives = (let by = lives_split one other lives.1 last lives.4 in (by.0, (lives.0, lives.1, lives.2, lives.3, by.1), by.2))

  lives_later : (past : Past) (first last : DiskState) → Lives n host first past last → Later n first last
  unfolding Lives
  lives_later [] first last lives = lives.later
  lives_later (m ∷ past) first last lives =
      later_on n first lives.0 last lives.2.later (later_on n lives.0 lives.1 last lives.3.later (lives_later past lives.1 last lives.4))

  -- a block of the host that it did not write itself
  lives_leaves : (past : Past) (first last : DiskState) (q place : ℕ) → place ≡ 4096 * q + 256 * host → AllSpare place 256 past → Lives n host first past last → Leaves place 256 first last
  unfolding Lives
  lives_leaves [] first last q place is spare lives = subst (λ (x : ℕ). Leaves x 256 first last) (sym is) (lives.leaves q)
  lives_leaves (m ∷ past) first last q place is spare lives =
      let on = lives_later past lives.1 last lives.4 in
      let up = lives.3.later.boots in
      let rest = on.boots in
      leaves_on place 256 first lives.0 last lives.2.later.boots (omega (arith, up, rest)) (subst (λ (x : ℕ). Leaves x 256 first lives.0) (sym is) (lives.2.leaves q))
      (leaves_on place 256 lives.0 lives.1 last up rest (lives.3.leaves place 256 spare.0) (lives_leaves past lives.1 last q place is spare.1 lives.4))

-- these calls and those spare it
spare_parts : (at len : ℕ) (one other : Past) → AllSpare at len (one ++ other) → AllSpare at len one × AllSpare at len other
spare_parts at len [] other spare = (tt, spare)
spare_parts at len (m ∷ one) other spare = (let by = spare_parts at len one other spare.1 in ((spare.0, by.0), by.1))

-- BLOCKS

-- what a part of a list has at a place
range_at : (items : List ℕ) (from n j : ℕ) → j < n → get_or (slice_range items from (from + n)) j 0 ≡ get_or items (from + j) 0
range_at items from n j below =
    let many : (from + n) - from ≡ n = omega arith in
    ap (λ (k : ℕ). get_or (take k (drop from items)) j 0) many ∙ get_or-take n (drop from items) j 0 below ∙ get_or-drop from items j 0

same_block : (place : ℕ) (one other : List ℕ) → place + 256 ≤ length one → place + 256 ≤ length other → ((p : ℕ) → place ≤ p → p < place + 256 → get_or one p 0 ≡ get_or other p 0) → block_in cluster_version place one ≡ block_in cluster_version place other
same_block place one other fits_one fits_other same =
    let long = length-block_in cluster_version place one fits_one in
    let as_long = length-block_in cluster_version place other fits_other in
    ext_get_or 0 (block_in cluster_version place one) (block_in cluster_version place other) (long ∙ sym as_long) (λ k within.
    (let below : k < 256 = omega (arith, within, long) in
    range_at one place 256 k below ∙ same (place + k) (omega arith) (omega (arith, below)) ∙ sym (range_at other place 256 k below)))

-- it is this block, whatever a crash leaves now
IsHeld : ℕ → List ℕ → DiskState → Type 0
IsHeld place block disk = (bytes : List ℕ) → MayLeave disk bytes → block_in cluster_version place bytes ≡ block

held_synced : (place boot : ℕ) (old new : DiskState) → Step old (Sync boot) Done new → IsHeld place (block_in cluster_version place new.bytes) new
unfolding IsHeld
held_synced place boot old new step = (known_synced cluster_version place old new boot step).0

held_on : (place : ℕ) (block : List ℕ) (old new : DiskState) → place + 256 ≤ length old.bytes → length new.bytes ≡ length old.bytes → Leaves place 256 old new → IsHeld place block old → IsHeld place block new
unfolding IsHeld
held_on place block old new fits many leaves held bytes may =
    let a = leaves.left bytes may in
    let long = may.as_many in
    let as_long = a.1.as_many in
    same_block place bytes a.0 (omega (arith, fits, many, long)) (omega (arith, fits, as_long)) a.2 ∙ held a.0 a.1

-- PLACES

-- of a host's blocks, in a disk of whole rows
pub number_row : (n area host : ℕ) → n % 4096 ≡ 0 → number_place n area host ≡ 4096 * (n / 4096 + area) + 256 * host
number_row n area host rows = omega (arith, rows)

pub block_row : (n area row : ℕ) → ℕ
block_row n zero row = row
block_row n (suc area) row = 1 + n / 4096 + row

pub block_is : (n area host row : ℕ) → n % 4096 ≡ 0 → block_at n area host row ≡ 4096 * block_row n area row + 256 * host
unfolding block_row
block_is n zero host row rows = omega arith
block_is n (suc area) host row rows = omega (arith, rows)

pub block_fits : (n area host row size : ℕ) → area < 2 → host < 16 → IsRow n row → 4096 + n + n ≤ size → block_at n area host row + 256 ≤ size
block_fits n zero host row size is_area is_host is_row room = let ends = is_row.1 in omega (arith, is_host, ends, room)
block_fits n (suc area) host row size is_area is_host is_row room = let ends = is_row.1 in omega (arith, is_host, ends, room)

-- WHAT A PAST TELLS

module _ (n : ℕ) (row_fits : 4096 ≤ n) (rows : n % 4096 ≡ 0) where
  -- what a reading of a row of standings shows of each host
  module _ (area boot : ℕ) (row : List ℕ) (old new : DiskState) (is_area : area < 2) (room : 4096 + n + n ≤ length old.bytes) (step : Step old (Read boot (standings_place n area) 4096) (Told row) new) where
    told : row ≡ slice_range old.bytes (standings_place n area) (standings_place n area + 4096)
    told = cc

    ends : standings_place n area + 4096 ≤ length old.bytes
    ends = omega (arith, is_area, row_fits, room)

    long_row : length row ≡ 4096
    long_row = ap (λ (l : List ℕ). length l) (told ∙ part_is (standings_place n area) 4096 old.bytes) ∙ length-part (standings_place n area) 4096 old.bytes ends

    read_block : (g : ℕ) → g < 16 → block_of cluster_version g row ≡ block_in cluster_version (number_place n area g) old.bytes
    read_block g is_g =
        ap (block_of cluster_version g) told ∙ block_read cluster_version (standings_place n area) (256 * g) 4096 old.bytes (omega (arith, is_g)) ends

    pub read_number : (g : ℕ) → g < 16 → numbers_in row g ≡ number_of n area g old.bytes
    read_number g is_g = ap counter_of (read_block g is_g)

  module _ (host : ℕ) (is_host : host < 16) where
    -- a block that the host leaves is held
    held_lives : (q place : ℕ) (block : List ℕ) (past : Past) (first last : DiskState) → place ≡ 4096 * q + 256 * host → place + 256 ≤ length last.bytes → AllSpare place 256 past → Lives n host first past last → IsHeld place block first → IsHeld place block last
    held_lives q place block past first last is fits spare lives held =
        let many = (lives_later n host past first last lives).many in
        held_on place block first last (omega (arith, fits, many)) many (lives_leaves n host past first last q place is spare lives) held

    -- THE OWN NUMBER

    module _ (area : ℕ) (is_area : area < 2) (last : DiskState) (room : 4096 + n + n ≤ length last.bytes) where
      abbrev place : ℕ
      place = number_place n area host

      abbrev at_row : ℕ
      at_row = n / 4096 + area

      fits : place + 256 ≤ length last.bytes
      fits = omega (arith, is_area, is_host, row_fits, room)

      -- a sync, and then a reading of the row
      module _ (boot : ℕ) (row : List ℕ) (between behind : Past) (synced_old synced_new read_old read_new : DiskState) (syncs : Step synced_old (Sync boot) Done synced_new) (lives_between : Lives n host synced_new between read_old)
          (reads : Does n (reading n area boot row) read_old read_new) (lives_behind : Lives n host read_new behind last) (spare_between : AllSpare place 256 between) where
        many_new : length last.bytes ≡ length read_new.bytes
        many_new = (lives_later n host behind read_new last lives_behind).many

        many_old : length read_new.bytes ≡ length read_old.bytes
        many_old = reads.later.many

        held_old : IsHeld place (block_in cluster_version place synced_new.bytes) read_old
        held_old =
            held_lives at_row place (block_in cluster_version place synced_new.bytes) between synced_new read_old (number_row n area host rows) (let many = many_new in let more = many_old in let within = fits in omega (arith, many, more, within))
            spare_between lives_between (held_synced place boot synced_old synced_new syncs)

        -- the block that was read
        is_read : block_in cluster_version place synced_new.bytes ≡ block_of cluster_version host row
        unfolding IsHeld
        is_read =
            sym (read_block area boot row read_old read_new is_area (let many = many_new in let more = many_old in omega (arith, many, more, room)) reads.step host is_host
            ∙ held_old read_old.bytes (may_leave_now read_old))

        held_new : IsHeld place (block_of cluster_version host row) read_new
        held_new =
            subst (λ (b : List ℕ). IsHeld place b read_new) is_read
            (held_on place (block_in cluster_version place synced_new.bytes) read_old read_new (let many = many_new in let more = many_old in let within = fits in omega (arith, many, more, within)) many_old
            (reads.leaves place 256 tt) held_old)

        held_last : AllSpare place 256 behind → IsHeld place (block_of cluster_version host row) last
        held_last spare_behind = held_lives at_row place (block_of cluster_version host row) behind read_new last (number_row n area host rows) fits spare_behind lives_behind held_new

      pub sure_is : (number : ℕ) (past : Past) (first : DiskState) → IsSureOf n area host number past → Lives n host first past last → IsSurely n area host number last
      unfolding Lives IsHeld
      sure_is number past first sure lives bytes may =
          let one = lives_split n host (sure.before ++ made (Sync sure.boot) Done ∷ sure.between) (reading n area sure.boot sure.row ∷ sure.behind) first last (subst (λ (p : Past). Lives n host first p last) sure.is lives) in
          let two = lives_split n host sure.before (made (Sync sure.boot) Done ∷ sure.between) first one.0 one.1 in
          let spare = spare_parts place 256 sure.between sure.behind sure.still in
          let held =
          held_last sure.boot sure.row sure.between sure.behind two.2.0 two.2.1 one.2.0 one.2.1 two.2.3.step (lives_passes n host sure.between two.2.1 one.0 one.2.0 two.2.4 one.2.2) one.2.3 one.2.4 spare.0 spare.1 in
          ap counter_of (held bytes may) ∙ sure.read

      -- A BEAT

      module _ (boot : ℕ) (row : List ℕ) (few : next_sequence cluster_version (block_of cluster_version host row) ≤ LAST_SEQUENCE) (long : length row ≡ 4096) (marked : IsWhole last) (under : last.boot ≡ boot) where
        abbrev w : Write128
        w = number_write n area host row

        placed_in : (disk : DiskState) → Later n disk last → IsPlaced w disk
        placed_in disk on =
            let many = on.many in
            let within = fits in
            record {
              whole = sym on.flags ∙ marked ∙ on.many;
              within = omega (arith, many, within);
              block = length-block_of cluster_version host row is_host long;
              body = body_fits;
              fits = omega (arith, few);
            }

        -- the same call is due as long as nobody wrote the block
        copies_same : (P : List ℕ → Type 0) (old new : List ℕ) → block_in cluster_version place new ≡ block_in cluster_version place old → Copies w P old → Copies w P new
        unfolding copy_in
        copies_same P old new same copies =
            record {
              kept = ap (copy_of cluster_version (other (target_of cluster_version w.block))) same ∙ copies.kept;
              target = subst P (sym (ap (copy_of cluster_version (target_of cluster_version w.block)) same)) copies.target;
            }

        due_on : (due : WriteCall) (old new : DiskState) → place + 256 ≤ length old.bytes → length new.bytes ≡ length old.bytes → new.boot ≡ old.boot → Leaves place 256 old new → IsDue due w old → IsDue due w new
        due_on due old new within many same leaves is =
            record {
              now = copies_same (IsNow due w) old.bytes new.bytes (same_block place new.bytes old.bytes (omega (arith, within, many)) within (leaves.now same)) is.now;
              left = λ bytes may.
                  (let a = leaves.left bytes may in
                  let size = may.as_many in
                  let as_long = a.1.as_many in
                  copies_same (MayBe due w) a.0 bytes (same_block place bytes a.0 (omega (arith, within, many, size)) (omega (arith, within, as_long)) a.2) (is.left a.0 a.1));
            }

        -- the moment from which these calls are made
        Moment : Option WriteCall → Past → Type 0
        Moment next past = (disk : DiskState) × (disk.boot ≡ boot) × Stands next w disk × Lives n host disk past last

        step_on : (call : WriteCall) (past : Past) → Moment (Some call) (made (call_of call w boot) Done ∷ past) → Moment (next_call call) past
        unfolding Moment Lives
        step_on call past moment =
            let lives = moment.3 in
            let rest = lives_later n host past lives.1 last lives.4 in
            let on = later_on n lives.0 lives.1 last lives.3.later rest in
            let up = lives.2.later.boots in
            let there = lives.3.later.boots in
            let most = rest.boots in
            let at_first = moment.1 in
            let long_old = on.many in
            let many = lives.2.later.many in
            let within = fits in
            let due =
            due_on call moment.0 lives.0 (omega (arith, long_old, many, within)) many (omega (arith, up, there, most, at_first, under))
            (subst (λ (x : ℕ). Leaves x 256 moment.0 lives.0) (sym (number_row n area host rows)) (lives.2.leaves at_row)) moment.2 in
            (lives.1, omega (arith, up, there, most, at_first, under), done_leads_on w lives.0 (placed_in lives.0 on) call boot lives.1 due lives.3.step, lives.4)

        closes : (due : WriteCall) → Moment (Some due) [] → IsDue due w last
        unfolding Moment Lives
        closes due moment =
            let many = moment.3.later.many in
            let within = fits in
            due_on due moment.0 last (omega (arith, many, within)) many (under ∙ sym moment.1) (subst (λ (x : ℕ). Leaves x 256 moment.0 last) (sym (number_row n area host rows)) (moment.3.leaves at_row)) moment.2

        abbrev did : WriteCall → Made
        did call = made (call_of call w boot) Done

        due_by : (due : WriteCall) → Moment (Some CloseGate) (map (λ call. made (call_of call w boot) Done) (calls_before due)) → IsDue due w last
        due_by CloseGate moment = closes CloseGate moment
        due_by SyncClosed moment = closes SyncClosed (step_on CloseGate [] moment)
        due_by PutBody moment = closes PutBody (step_on SyncClosed [] (step_on CloseGate (did SyncClosed ∷ []) moment))
        due_by SyncBody moment = closes SyncBody (step_on PutBody [] (step_on SyncClosed (did PutBody ∷ []) (step_on CloseGate (did SyncClosed ∷ did PutBody ∷ []) moment)))
        due_by OpenGate moment =
            closes OpenGate
            (step_on SyncBody []
            (step_on PutBody (did SyncBody ∷ [])
            (step_on SyncClosed (did PutBody ∷ did SyncBody ∷ []) (step_on CloseGate (did SyncClosed ∷ did PutBody ∷ did SyncBody ∷ []) moment))))
        due_by SyncOpened moment =
            closes SyncOpened
            (step_on OpenGate []
            (step_on SyncBody (did OpenGate ∷ [])
            (step_on PutBody (did SyncBody ∷ did OpenGate ∷ [])
            (step_on SyncClosed (did PutBody ∷ did SyncBody ∷ did OpenGate ∷ [])
            (step_on CloseGate (did SyncClosed ∷ did PutBody ∷ did SyncBody ∷ did OpenGate ∷ []) moment)))))

      pub due_is : (boot : ℕ) (row : List ℕ) (due : WriteCall) (past : Past) (first : DiskState) → IsBeating n area host boot row due past → IsWhole last → Lives n host first past last → boot ≡ last.boot →
          IsPlaced (number_write n area host row) last × IsDue due (number_write n area host row) last
      unfolding Lives IsHeld Moment
      due_is boot row due past first beats marked lives under =
          let calls : Past = map (λ call. made (call_of call (number_write n area host row) boot) Done) (calls_before due) in
          let all = lives_split n host beats.before (made Attach (Booted boot) ∷ made (Sync boot) Done ∷ reading n area boot row ∷ calls) first last (subst (λ (p : Past). Lives n host first p last) beats.is lives) in
          let sync = all.2.4 in
          let read = sync.4 in
          let rest = lives_later n host calls read.1 last read.4 in
          let many = rest.many in
          let more = read.3.later.many in
          let up = read.3.later.boots in
          let most = rest.boots in
          let step = read.3.step in
          let is_boot : boot ≡ read.0.boot = step.1 in
          let long = long_row area boot row read.0 read.1 is_area (omega (arith, many, more, room)) step in
          let held = held_new boot row [] calls sync.0 sync.1 read.0 read.1 sync.3.step read.2 read.3 read.4 tt in
          let placed = placed_in boot row beats.room long marked (sym under) read.1 rest in (
            placed_in boot row beats.room long marked (sym under) last (later_same n last),
            due_by boot row beats.room long marked (sym under) due (read.1, omega (arith, up, most, is_boot, under), settled_begins (number_write n area host row) read.1 placed held, read.4),
          )

    -- ZEROS

    -- a block was zeros, and still is, under that boot number
    zeros_are : (q boot place : ℕ) (past : Past) (first last : DiskState) → place ≡ 4096 * q + 256 * host → place + 256 ≤ length last.bytes → IsZeros boot place past → Lives n host first past last → last.boot ≡ boot → (j : ℕ) → j < 256 → get_or last.bytes (place + j) 0 ≡ 0
    unfolding Lives
    zeros_are q boot place past first last is fits zeros lives under j below =
        let all = lives_split n host zeros.before (zeros.last ∷ zeros.behind) first last (subst (λ (p : Past). Lives n host first p last) zeros.is lives) in
        let own = all.2 in
        let rest = lives_later n host zeros.behind own.1 last own.4 in
        let leaves = lives_leaves n host zeros.behind own.1 last q place is zeros.still own.4 in
        let there = own.3.later.boots in
        let most = rest.boots in
        let many = rest.many in
        let more = own.3.later.many in
        let long_old : place + 256 ≤ length own.0.bytes = omega (arith, fits, many, more) in
        elim zeros.shows [
          | inl read ↦
              (let step = subst (λ (x : Made). Step own.0 x.call x.answer own.1) read.2 own.3.step in
              let under_old : boot ≡ own.0.boot = step.1 in
              let answered : Told read.1 ≡ Told (slice_range own.0.bytes read.0 (read.0 + 4096)) = step.2.0 in
              let told_row : read.1 ≡ slice_range own.0.bytes read.0 (read.0 + 4096) = cc in
              let low = read.3 in
              let high = read.4 in
              let from = place - read.0 in
              let at_from : read.0 + from ≡ place = omega (arith, low) in
              let same : read.0 + (from + j) ≡ place + j = omega (arith, at_from) in
              leaves.now (omega (arith, there, most, under, under_old)) (place + j) (omega arith) (omega (arith, below))
              ∙ ap (λ (d : DiskState). get_or d.bytes (place + j) 0) step.2.1
              ∙ ap (λ (p : ℕ). get_or own.0.bytes p 0) (sym same)
              ∙ sym (range_at own.0.bytes read.0 4096 (from + j) (omega (arith, at_from, high, below)))
              ∙ ap (λ (l : List ℕ). get_or l (from + j) 0) (sym told_row)
              ∙ sym (range_at read.1 from 256 j below)
              ∙ ap (λ (l : List ℕ). get_or l j 0) (read.5 from at_from)
              ∙ get_or-replicate 256 j 0 0 below)
          | inr wrote ↦
              (let step = subst (λ (x : Made). Step own.0 x.call x.answer own.1) wrote own.3.step in
              let under_old : boot ≡ own.0.boot = step.1 in
              let long = length-replicate {A = ℕ} 256 0 in
              leaves.now (omega (arith, there, most, under, under_old)) (place + j) (omega arith) (omega (arith, below))
              ∙ ap (λ (d : DiskState). get_or d.bytes (place + j) 0) step.2.1
              ∙ put-inside own.0.bytes place zero_block (omega (arith, long, long_old)) 0 j (omega (arith, long, below))
              ∙ get_or-replicate 256 j 0 0 below)
        ]

    pub cleared_is : (area : ℕ) (past : Past) (first last : DiskState) → area < 2 → 4096 + n + n ≤ length last.bytes → HasCleared n area host past → Lives n host first past last → IsCleared n (base_of n area) host last
    unfolding Lives
    cleared_is area past first last is_area room cleared lives =
        let all = lives_split n host cleared.before (made (Sync cleared.boot) Done ∷ cleared.behind) first last (subst (λ (p : Past). Lives n host first p last) cleared.is lives) in
        let own = all.2 in
        let rest = lives_later n host cleared.behind own.1 last own.4 in
        let many = rest.many in
        let more = own.3.later.many in
        let step = own.3.step in
        let under : own.0.boot ≡ cleared.boot = sym step.1 in
        let early = lives_passes n host cleared.before first all.0 own.0 all.1 own.2 in
        let at_row : (p : ℕ) → 4096 ≤ p → p < n → IsRow n (p / 4096) = (λ p high below. (omega (arith, high), omega (arith, below, rows))) in
        let at_place : (p : ℕ) → host_at p ≡ host → block_at n area host (p / 4096) + p % 256 ≡ base_of n area + p = (λ p own. omega (arith, own)) in
        let leaves : (p : ℕ) → 4096 ≤ p → p < n → Leaves (block_at n area host (p / 4096)) 256 own.1 last = (λ p high below.
        lives_leaves n host cleared.behind own.1 last (block_row n area (p / 4096)) (block_at n area host (p / 4096)) (block_is n area host (p / 4096) rows) (cleared.still (p / 4096) (at_row p high below)) own.4) in
        let zero : (p : ℕ) → 4096 ≤ p → p < n → host_at p ≡ host → get_or own.0.bytes (base_of n area + p) 0 ≡ 0 = (λ p high below is.
        ap (λ (x : ℕ). get_or own.0.bytes x 0) (sym (at_place p is))
        ∙ zeros_are (block_row n area (p / 4096)) cleared.boot (block_at n area host (p / 4096)) cleared.before first own.0 (block_is n area host (p / 4096) rows)
        (block_fits n area host (p / 4096) (length own.0.bytes) is_area is_host (at_row p high below) (omega (arith, room, many, more)))
        (cleared.zeros (p / 4096) (at_row p high below)) early under (p % 256) (omega arith)) in
        let flag : (p : ℕ) → get_or own.1.unsynced p false ≡ false = (λ p. ap (λ (d : DiskState). get_or d.unsynced p false) step.2.1 ∙ no_flag (length own.0.bytes) p) in
        let stays : (p : ℕ) → 4096 ≤ p → p < n → host_at p ≡ host → (get_or last.unsynced (base_of n area + p) false ≡ false) × (get_or last.bytes (base_of n area + p) 0 ≡ get_or own.1.bytes (base_of n area + p) 0) = (λ p high below is.
        (let same = at_place p is in (leaves p high below).stays (base_of n area + p) (omega (arith, same)) (omega (arith, same)) (flag (base_of n area + p)))) in
        record {
          bytes = λ p high below is. (stays p high below is).1 ∙ ap (λ (d : DiskState). get_or d.bytes (base_of n area + p) 0) step.2.1 ∙ zero p high below is;
          flags = λ p high below is. (stays p high below is).0;
        }

  -- READINGS

  -- while the boot number is the same, what was read of any host's number is not above what it is
  pub read_below : (host area boot : ℕ) (row : List ℕ) (past early before : Past) (first last : DiskState) → area < 2 → 4096 + n + n ≤ length last.bytes → past ≡ early ++ reading n area boot row ∷ before → Lives n host first past last → boot ≡ last.boot → (g : ℕ) → g < 16 →
      numbers_in row g ≤ number_of n area g last.bytes
  unfolding Lives
  read_below host area boot row past early before first last is_area room is lives under g is_g =
      let all = lives_split n host early (reading n area boot row ∷ before) first last (subst (λ (p : Past). Lives n host first p last) is lives) in
      let own = all.2 in
      let rest = lives_later n host before own.1 last own.4 in
      let on = later_on n own.0 own.1 last own.3.later rest in
      let many = on.many in
      let step = own.3.step in
      let under_old : boot ≡ own.0.boot = step.1 in
      let number = read_number area boot row own.0 own.1 is_area (omega (arith, room, many)) step g is_g in
      let more = on.rises (omega (arith, under, under_old)) area g is_area is_g in
      omega (arith, number, more)
