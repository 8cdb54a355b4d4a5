-- What stays so of a past with one call more.
use Rattle.std.proofs.Common.{ℕ, zero, suc, ◌+◌, ◌<◌, ◌≤◌, ◌≡◌, ◌⊎◌, Bool, true, false, List, [], ◌∷◌, ◌++◌, length, inl, inr, subst, ap, ◌∙◌, arith, append_assoc}
use Rattle.std.specs.Prelude.{if◌then◌else◌}
use Rattle.disk.specs.Disk.{Call, Attach, Read, Write, Sync, Done}
use Rattle.torn_block.specs.Layout.{cluster_version}
use Rattle.torn_block.specs.declared.layout.TheConstants.{BLOCK_LENGTH}
use Rattle.torn_block.specs.declared.write_steps.WriteCall.{WriteCall}
use Rattle.torn_block.specs.declared.write_steps.WriteCall.TheVariants.{CloseGate, SyncClosed, PutBody, SyncBody, OpenGate, SyncOpened}
use Rattle.torn_block.specs.Block.{is_open, copy_of, target_of, next_sequence}
use Rattle.torn_block.specs.Damage.{block_of}
use Rattle.torn_block.specs.Place.{offset_of}
use Rattle.torn_block.specs.Stage.{call_of}
use Rattle.torn_block.proofs.PlaceLaws.{offset_fits, length-tail_with}
use Rattle.heartbeat.specs.Beat.{beat_body}
use Rattle.heartbeat.proofs.BeatLaws.{length-beat_body}
use Rattle.standings.specs.Epochs.{number_place}
use Rattle.standings.specs.Reading.{zero_block}
use Rattle.standings.specs.Past.{Made, Past, made, reading, Spares, AllSpare, block_at, IsRow, number_write, IsSureOf, IsZeros, HasCleared}

pub all_spare_more : (at len : ℕ) (past : Past) (m : Made) → AllSpare at len past → Spares at len m.call → AllSpare at len (past ++ m ∷ [])
all_spare_more at len [] m all one = (one, tt)
all_spare_more at len (x ∷ past) m all one = (all.0, all_spare_more at len past m all.1 one)

-- one call more, behind a call that is found in a past
more_behind : (past before : Past) (x : Made) (behind : Past) (m : Made) → past ≡ before ++ x ∷ behind → past ++ m ∷ [] ≡ before ++ x ∷ (behind ++ m ∷ [])
more_behind past before x behind m is = ap (λ (p : Past). p ++ m ∷ []) is ∙ append_assoc before (x ∷ behind) (m ∷ [])

-- a sure number stays sure
pub sure_more : (n area host number : ℕ) (past : Past) (m : Made) → IsSureOf n area host number past → Spares (number_place n area host) BLOCK_LENGTH m.call → IsSureOf n area host number (past ++ m ∷ [])
sure_more n area host number past m is one =
    let place = number_place n area host in
    record {
      boot = is.boot;
      row = is.row;
      before = is.before;
      between = is.between;
      behind = is.behind ++ m ∷ [];
      is = more_behind past (is.before ++ made (Sync is.boot) Done ∷ is.between) (reading n area is.boot is.row) is.behind m is.is;
      read = is.read;
      still = subst (AllSpare place BLOCK_LENGTH) (append_assoc is.between is.behind (m ∷ [])) (all_spare_more place BLOCK_LENGTH (is.between ++ is.behind) m is.still one);
    }

-- zeros stay zeros
pub zeros_more : (boot place : ℕ) (past : Past) (m : Made) → IsZeros boot place past → Spares place BLOCK_LENGTH m.call → IsZeros boot place (past ++ m ∷ [])
zeros_more boot place past m is one =
    record {
      before = is.before;
      last = is.last;
      behind = is.behind ++ m ∷ [];
      is = more_behind past is.before is.last is.behind m is.is;
      shows = is.shows;
      still = all_spare_more place BLOCK_LENGTH is.behind m is.still one;
    }

-- and so do blocks that are cleared
pub cleared_more : (n area host : ℕ) (past : Past) (m : Made) → HasCleared n area host past → ((row : ℕ) → IsRow n row → Spares (block_at n area host row) BLOCK_LENGTH m.call) → HasCleared n area host (past ++ m ∷ [])
cleared_more n area host past m is one =
    record {
      boot = is.boot;
      before = is.before;
      behind = is.behind ++ m ∷ [];
      is = more_behind past is.before (made (Sync is.boot) Done) is.behind m is.is;
      zeros = is.zeros;
      still = λ row is_row. all_spare_more (block_at n area host row) BLOCK_LENGTH is.behind m (is.still row is_row) (one row is_row);
    }

-- WHERE CALLS WRITE

-- it writes in these bytes alone
IsInside : (at len : ℕ) → Call → Type 0
IsInside at len Attach = Unit {0}
IsInside at len (Read boot from many) = Unit {0}
IsInside at len (Write boot from bytes) = (at ≤ from) × (from + length bytes ≤ at + len)
IsInside at len (Sync boot) = Unit {0}

-- so it spares those that are apart from them
spares_apart : (at len other many : ℕ) (call : Call) → IsInside at len call → (at + len ≤ other) ⊎ (other + many ≤ at) → Spares other many call
unfolding IsInside
spares_apart at len other many Attach inside apart = tt
spares_apart at len other many (Read boot from long) inside apart = tt
spares_apart at len other many (Write boot from bytes) inside (inl below) = (let high = inside.1 in inl (omega arith))
spares_apart at len other many (Write boot from bytes) inside (inr above) = (let low = inside.0 in inr (omega arith))
spares_apart at len other many (Sync boot) inside apart = tt

-- a row of standings is apart from each row of its area
pub number_apart : (n area host row : ℕ) → area < 2 → host < 16 → IsRow n row → (number_place n area host + BLOCK_LENGTH ≤ block_at n area host row) ⊎ (block_at n area host row + BLOCK_LENGTH ≤ number_place n area host)
number_apart n zero host row is_area is_host is_row = (let from = is_row.0 in let to = is_row.1 in inr (omega arith))
number_apart n (suc zero) host row is_area is_host is_row = (let from = is_row.0 in let to = is_row.1 in inl (omega arith))
number_apart n (suc (suc area)) host row is_area is_host is_row = absurd (omega arith)

pub closing_length : (opened : Bool) → length {A = ℕ} (if opened then 0 ∷ [] else []) ≤ 1
closing_length true = omega arith
closing_length false = omega arith

-- the six calls of a beat write in the host's block of standings alone
write_inside : (n area host : ℕ) (row : List ℕ) (boot : ℕ) (due : WriteCall) → IsInside (number_place n area host) BLOCK_LENGTH (call_of due (number_write n area host row) boot)
unfolding IsInside
write_inside n area host row boot CloseGate =
    let block = block_of cluster_version host row in
    let short = closing_length (is_open (copy_of cluster_version (target_of cluster_version block) block)) in
    let within : offset_of cluster_version (target_of cluster_version block) + 128 ≤ 256 = offset_fits cluster_version (target_of cluster_version block) in (omega arith, omega (arith, short, within))
write_inside n area host row boot SyncClosed = tt
write_inside n area host row boot PutBody =
    let block = block_of cluster_version host row in
    let long = length-tail_with cluster_version (next_sequence cluster_version block) beat_body length-beat_body in
    let within : offset_of cluster_version (target_of cluster_version block) + 128 ≤ 256 = offset_fits cluster_version (target_of cluster_version block) in (omega arith, omega (arith, long, within))
write_inside n area host row boot SyncBody = tt
write_inside n area host row boot OpenGate =
    let block = block_of cluster_version host row in
    let within : offset_of cluster_version (target_of cluster_version block) + 128 ≤ 256 = offset_fits cluster_version (target_of cluster_version block) in (omega arith, omega (arith, within))
write_inside n area host row boot SyncOpened = tt

-- so they spare its blocks in the area
pub beat_spares : (n area host row : ℕ) (read : List ℕ) (boot : ℕ) (due : WriteCall) → area < 2 → host < 16 → IsRow n row → Spares (block_at n area host row) BLOCK_LENGTH (call_of due (number_write n area host read) boot)
beat_spares n area host row read boot due is_area is_host is_row =
    spares_apart (number_place n area host) BLOCK_LENGTH (block_at n area host row) BLOCK_LENGTH (call_of due (number_write n area host read) boot) (write_inside n area host read boot due) (number_apart n area host row is_area is_host is_row)

-- a block that is cleared is apart from the host's number
pub clearing_spares_number : (n area host row boot : ℕ) → area < 2 → host < 16 → IsRow n row → Spares (number_place n area host) BLOCK_LENGTH (Write boot (block_at n area host row) zero_block)
clearing_spares_number n area host row boot is_area is_host is_row =
    elim (number_apart n area host row is_area is_host is_row) [
      | inl below ↦ inr below
      | inr above ↦ inl above
    ]

-- and from its blocks in the rows below
pub clearing_spares_rows : (n area host row below boot : ℕ) → below < row → Spares (block_at n area host below) BLOCK_LENGTH (Write boot (block_at n area host row) zero_block)
clearing_spares_rows n area host row below boot less = inr (omega arith)
