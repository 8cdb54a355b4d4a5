-- What a block on a disk stands for, through every step of a disk that does not write it.
use Rattle.std.specs.Prelude.{nat_lt}
use Rattle.std.proofs.Common.{ℕ, ◌≡◌, Bool, true, false, true≢false, None, List, inl, inr, refl, sym, subst, ap, ◌∙◌}
use Rattle.disk.specs.Disk.{DiskState, Crashes, lost}
use Rattle.disk.specs.Simulated.{fresh_disk}
use Rattle.torn_block.specs.Layout.{cluster_version}
use Rattle.torn_block.specs.declared.block.Half.{Half}
use Rattle.torn_block.specs.declared.block.Half.TheVariants.{First, Second}
use Rattle.torn_block.specs.Block.{is_open, sequence_of, copy_of, choice, value_at, value_of}
use Rattle.torn_block.specs.Damage.{IsSoundBlock}
use Rattle.torn_block.specs.Place.{block_in}
use Rattle.torn_block.specs.Register.{Value, Reads, at_rest, IsAtRest}
use Rattle.torn_block.proofs.RegisterLaws.{rests_crashed, fresh_rests}
use Rattle.paxos_block.specs.Places.{VoteOf, place_of}
use Rattle.paxos_block.specs.Row.{IsSound, says_of}
use Rattle.paxos_block.proofs.Outcomes.{Outcomes}
use Rattle.agreement.specs.State.{Block, Cell, blank, away}
use Rattle.agreement.specs.Event.{IsReading}
use Rattle.attempt_safety.specs.Leads.{IsSameBlock}
use Rattle.world_safety.specs.Blocks.{said, Stands}
use Rattle.world_safety.specs.Marks.{AllSay}

-- WHAT A BLOCK STANDS FOR

-- it stays, where there are no other outcomes
pub stands_by : (disk new : DiskState) (slot host : ℕ) (cell : Cell (List ℕ)) → Outcomes cluster_version disk (place_of cluster_version (VoteOf slot host)) new → Stands disk slot host cell
    → Stands new slot host cell
stands_by disk new slot host cell o is =
    record {
      reads = λ bytes may. (let b = o bytes may in subst (λ (block : List ℕ). IsReading cell (said (value_of cluster_version block))) (sym b.2) (is.reads b.0 b.1));
      sound = λ bytes may. (let b = o bytes may in subst (IsSoundBlock cluster_version (IsSound cluster_version host)) (sym b.2) (is.sound b.0 b.1));
    }

-- a cell of the same block will do
reads_same : (old new : Cell (List ℕ)) (x : Block (List ℕ)) → IsSameBlock old new → IsReading old x → IsReading new x
reads_same old new x same (inl e) = inl (e ∙ sym same.confirmed)
reads_same old new x same (inr e) = inr (same.writing ∙ e)

pub stands_same : (disk : DiskState) (slot host : ℕ) (old new : Cell (List ℕ)) → IsSameBlock old new → Stands disk slot host old → Stands disk slot host new
stands_same disk slot host old new same is =
    record { reads = λ bytes may. reads_same old new (said (value_of cluster_version (block_in cluster_version (place_of cluster_version (VoteOf slot host)) bytes))) same (is.reads bytes may); sound = is.sound }

-- a block at rest stands for what it is now
pub stands_resting : (disk : DiskState) (slot host : ℕ) (old new : Cell (List ℕ)) → Stands disk slot host old → IsAtRest cluster_version (place_of cluster_version (VoteOf slot host)) disk
    → new.confirmed ≡ said (value_of cluster_version (block_in cluster_version (place_of cluster_version (VoteOf slot host)) disk.bytes)) → Stands disk slot host new
stands_resting disk slot host old new is rests confirmed =
    record { reads = λ bytes may. inl (ap (λ (block : List ℕ). said (value_of cluster_version block)) (rests bytes may) ∙ sym confirmed); sound = is.sound }

-- after a crash it is at rest
pub stands_crashed : (disk new : DiskState) (slot host : ℕ) (old cell : Cell (List ℕ)) → Crashes disk new → Stands disk slot host old
    → cell.confirmed ≡ said (value_of cluster_version (block_in cluster_version (place_of cluster_version (VoteOf slot host)) new.bytes)) → Stands new slot host cell
stands_crashed disk new slot host old cell crash is confirmed =
    let place = place_of cluster_version (VoteOf slot host) in
    record {
      reads = λ bytes may. inl (ap (λ (block : List ℕ). said (value_of cluster_version block)) (rests_crashed cluster_version place disk new crash bytes may) ∙ sym confirmed);
      sound = λ bytes may. subst (IsSoundBlock cluster_version (IsSound cluster_version host)) (sym (rests_crashed cluster_version place disk new crash bytes may)) (is.sound new.bytes crash.bytes);
    }

-- a lost disk has the same bytes
pub stands_lost : (disk : DiskState) (slot host : ℕ) (cell : Cell (List ℕ)) → Stands disk slot host cell → Stands (lost disk) slot host cell
stands_lost disk slot host cell is =
    record { reads = λ bytes may. is.reads bytes (record { as_many = may.as_many; same = may.same }); sound = is.sound }

-- A FRESH DISK

-- where a block reads as blank, both its copies are closed
both_closed : (a b c : Bool) (first second : List ℕ) → value_at (choice a b c) first second ≡ None → (a ≡ false) × (b ≡ false)
both_closed true true true first second is = absurd (cc)
both_closed true true false first second is = absurd (cc)
both_closed true false c first second is = absurd (cc)
both_closed false true c first second is = absurd (cc)
both_closed false false c first second is = (refl, refl)

blank_closed : (block : List ℕ) → value_of cluster_version block ≡ None → (half : Half) → is_open (copy_of cluster_version half block) ≡ false
blank_closed block is First =
    (both_closed (is_open (copy_of cluster_version First block)) (is_open (copy_of cluster_version Second block)) (nat_lt (sequence_of (copy_of cluster_version First block)) (sequence_of (copy_of cluster_version Second block))) (copy_of cluster_version First block) (copy_of cluster_version Second block) is).0
blank_closed block is Second =
    (both_closed (is_open (copy_of cluster_version First block)) (is_open (copy_of cluster_version Second block)) (nat_lt (sequence_of (copy_of cluster_version First block)) (sequence_of (copy_of cluster_version Second block))) (copy_of cluster_version First block) (copy_of cluster_version Second block) is).1

-- so it is sound
pub blank_sound : (host : ℕ) (block : List ℕ) → value_of cluster_version block ≡ None → IsSoundBlock cluster_version (IsSound cluster_version host) block
blank_sound host block is =
    record {
      copies = λ half opened. absurd (true≢false (sym opened ∙ blank_closed block is half));
      apart = λ first second. absurd (true≢false (sym first ∙ blank_closed block is First));
    }

reads_blank : (value : Value) → Reads (at_rest None) value → value ≡ None
reads_blank value (inl e) = e
reads_blank value (inr e) = absurd (cc)

-- every block of a fresh disk is blank
pub stands_fresh : (size slot host : ℕ) → Stands (fresh_disk size) slot host (record { confirmed = blank; writing = None; stage = away })
stands_fresh size slot host =
    let place = place_of cluster_version (VoteOf slot host) in
    let rests = fresh_rests cluster_version place size in
    record {
      reads = λ bytes may. inl (ap said (reads_blank (value_of cluster_version (block_in cluster_version place bytes)) (rests.0 bytes may)));
      sound = λ bytes may. blank_sound host (block_in cluster_version place bytes) (reads_blank (value_of cluster_version (block_in cluster_version place bytes)) (rests.0 bytes may));
    }

-- so none is marked
pub fresh_unmarked : (size slot host : ℕ) → AllSay (λ says. says.mark ≡ true → ⊥) (place_of cluster_version (VoteOf slot host)) (fresh_disk size)
fresh_unmarked size slot host bytes may marked =
    let blank_value = reads_blank (value_of cluster_version (block_in cluster_version (place_of cluster_version (VoteOf slot host)) bytes)) ((fresh_rests cluster_version (place_of cluster_version (VoteOf slot host)) size).0 bytes may) in
    true≢false (sym marked ∙ ap (λ (v : Value). (says_of cluster_version v).mark) blank_value)
