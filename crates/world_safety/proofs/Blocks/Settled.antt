-- Before a row is told, the own block settles to what is read of it; then the registers allow the answer.
use Rattle.world_safety.specs.Cluster.{at_cluster}
use Rattle.std.specs.Prelude.{IsSome}
use Rattle.std.proofs.Common.{ℕ, ◌<◌, ◌≡◌, ◌≢◌, ◌⊎◌, inl, inr, true, Option, Some, None, List, refl, sym, subst, ap, ◌∙◌}
use Rattle.disk.specs.Disk.{DiskState, Answer, Step}
use Rattle.disk.proofs.CrashLemmas.{may_leave_now}
use Rattle.torn_block.specs.Layout.{cluster_version}
use Rattle.torn_block.specs.declared.layout.TheConstants.{HOSTS}
use Rattle.torn_block.specs.declared.write_steps.WriteCall.TheVariants.{SyncOpened}
use Rattle.torn_block.specs.Block.{value_of}
use Rattle.torn_block.specs.Place.{block_in}
use Rattle.torn_block.specs.Register.{Value}
use Rattle.paxos_block.specs.Places.{VoteOf, place_of, row_of}
use Rattle.paxos_block.specs.Row.{DecodedBlock, seen_in, seen_at, decoded_row}
use Rattle.paxos_block.proofs.PlaceLemmas.{block_of-row_of}
use Rattle.paxos_block.proofs.RowLemmas.{said_sees}
use Rattle.attempt.specs.Calls.{Phase, Kind, Reading, Putting}
use Rattle.attempt.specs.Answers as answers
use Rattle.attempt.specs.Answers.{Heard, Answers, heard_as, is_bad, all_good, boot_of, told}
use Rattle.attempt.specs.History.{Fits}
use Rattle.attempt.specs.Setup.{Setup}
use Rattle.attempt.specs.NextCall.{call_by}
use Rattle.agreement.specs.State.{Block, Cell}
use Rattle.agreement.specs.Event.{IsReading}
use Rattle.attempt_safety.specs.Machine.{Machine, block_said, blocks_said}
use Rattle.attempt_safety.specs.Registers.{IsNext, RegistersAllow}
use Rattle.world_safety.specs.Blocks.{said, Stands}
use Rattle.world_safety.specs.Knows.{own_place, IsCurrent, Knows}
use Rattle.world_safety.proofs.Blocks.Owning.{row_told, under}
use Rattle.world_safety.proofs.Blocks.Within.{reading_kind}

-- a row or none is told
pub told_or_not : (x : Heard) → ((row : List DecodedBlock) × (x ≡ answers.Told (Some row))) ⊎ ((row : List DecodedBlock) → x ≡ answers.Told (Some row) → ⊥)
told_or_not (answers.Told (Some row)) = inl (row, refl)
told_or_not (answers.Told None) = inr (λ row is. absurd (cc))
told_or_not answers.Done = inr (λ row is. absurd (cc))
told_or_not (answers.Booted boot) = inr (λ row is. absurd (cc))
told_or_not (answers.Fault fault) = inr (λ row is. absurd (cc))

some_writing : (o : Option (Block (List ℕ))) (x : Block (List ℕ)) → o ≡ Some x → IsSome o
some_writing None x is = absurd (cc)
some_writing (Some y) x is = refl

module _ (any : Setup) (f : Answers) (k : ℕ) (disk new : DiskState) (answer : Answer) (kind : Kind) (good : all_good (f k) ≡ true) (is : IsNext (f k) kind) (fits : Fits (call_by (at_cluster any) k f kind) (heard_as answer))
    (step : Step disk (call_by (at_cluster any) k f kind) answer new) where
  abbrev s : Setup
  s = at_cluster any

  -- WHERE NO ROW IS TOLD

  module _ (m : Machine) (none : (row : List DecodedBlock) → heard_as answer ≡ answers.Told (Some row) → ⊥) (knows : Knows disk s f k (m.cell s.host k)) where
    step_as : (other : Kind) → kind ≡ other → Step disk (call_by s k f other) answer new
    step_as other same = subst (λ (q : Kind). Step disk (call_by s k f q) answer new) same step

    one_kind : (other : Kind) → IsNext (f k) other → kind ≡ other
    one_kind other there = let both : Some kind ≡ Some other = sym is ∙ there in cc

    still_written : (p : Phase) → IsNext (f k) (Putting p SyncOpened) → heard_as answer ≡ answers.Done → IsSome (m.cell s.host k).writing
    still_written p there done =
        let now = under disk new (call_by s k f (Putting p SyncOpened)) answer (step_as (Putting p SyncOpened) (one_kind (Putting p SyncOpened) there)) (ap is_bad done) in
        let writes = knows.next (record { good = good; boot = now }) (Putting p SyncOpened) there in
        some_writing (m.cell s.host k).writing _ writes.writing

    pub allows_none : RegistersAllow s.host k (f k) (heard_as answer) m
    allows_none =
        record {
          others = λ row told g below off. absurd (none row told);
          own_rests = λ row read. absurd (none row read.1);
          own_read = λ row read. absurd (none row read.1);
          still_writing = still_written;
        }

  -- WHERE A ROW IS TOLD

  module _ (row : List DecodedBlock) (tells : heard_as answer ≡ answers.Told (Some row)) (host_below : s.host < HOSTS) where
    is_read : kind ≡ Reading
    is_read = reading_kind s f k kind row (subst (Fits (call_by s k f kind)) tells fits)

    read_step : Step disk (call_by s k f Reading) answer new
    read_step = subst (λ (q : Kind). Step disk (call_by s k f q) answer new) is_read step

    pub current : IsCurrent disk (f k)
    current = record { good = good; boot = under disk new (call_by s k f Reading) answer read_step (ap is_bad tells) }

    pub is_next_read : IsNext (f k) Reading
    is_next_read = subst (IsNext (f k)) is_read is

    pub row_is : decoded_row cluster_version (row_of cluster_version s.slot disk.bytes) ≡ Some row
    row_is = row_told disk new (boot_of (f k)) s.slot answer row read_step tells

    -- what is read of the own block
    abbrev pub value_read : Value
    value_read = value_of cluster_version (block_in cluster_version (own_place s) disk.bytes)

    pub seen_is : (g : ℕ) → g < HOSTS → seen_at row g ≡ seen_in cluster_version (block_in cluster_version (place_of cluster_version (VoteOf s.slot g)) disk.bytes)
    seen_is g below = said_sees cluster_version (row_of cluster_version s.slot disk.bytes) row g below row_is ∙ ap (seen_in cluster_version) (block_of-row_of cluster_version s.slot g disk.bytes below)

    other_reads : (g : ℕ) (cell : Cell (List ℕ)) → g < HOSTS → Stands disk s.slot g cell → IsReading cell (blocks_said row g)
    other_reads g cell below stands = subst (IsReading cell) (ap (λ (b : DecodedBlock). block_said b.says) (sym (seen_is g below))) (stands.reads disk.bytes (may_leave_now disk))

    pub allows_row : (m : Machine) → ((g : ℕ) → g < HOSTS → g ≢ s.host → Stands disk s.slot g (m.cell g k)) → (m.cell s.host k).confirmed ≡ said value_read → (m.cell s.host k).writing ≡ None → RegistersAllow s.host k (f k) (heard_as answer) m
    allows_row m stands confirmed rests =
        record {
          others = λ seen told g below off.
              (let both : Some row ≡ Some seen = ap told_row (sym tells ∙ told) in
              let same : row ≡ seen = cc in
              subst (λ (r : List DecodedBlock). IsReading (m.cell g k) (blocks_said r g)) same (other_reads g (m.cell g k) below (stands g below off)));
          own_rests = λ seen read. rests;
          own_read = λ seen read.
              (let both : Some row ≡ Some seen = ap told_row (sym tells ∙ read.1) in
              let same : row ≡ seen = cc in
              subst (λ (r : List DecodedBlock). blocks_said r s.host ≡ (m.cell s.host k).confirmed) same (ap (λ (b : DecodedBlock). block_said b.says) (seen_is s.host host_below) ∙ sym confirmed));
          still_writing = λ p there done. absurd (let both : answers.Told (Some row) ≡ answers.Done = sym tells ∙ done in cc);
        }
      where
        told_row : Heard → Option (List DecodedBlock)
        told_row x = told x
