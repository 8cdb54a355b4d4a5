-- Each call of an attempt is within its own block.
use Rattle.world_safety.specs.Cluster.{at_cluster}
use Rattle.std.specs.Prelude.{if◌then◌else◌}
use Rattle.std.proofs.Common.{ℕ, ◌<◌, ◌≤◌, ◌≡◌, Bool, true, false, Some, List, [], ◌∷◌, length, arith}
use Rattle.torn_block.specs.Layout.{cluster_version}
use Rattle.torn_block.specs.declared.layout.TheConstants.{HOSTS, BODY_LENGTH}
use Rattle.torn_block.specs.declared.write_steps.WriteCall.{WriteCall}
use Rattle.torn_block.specs.declared.write_steps.WriteCall.TheVariants.{CloseGate, SyncClosed, PutBody, SyncBody, OpenGate, SyncOpened}
use Rattle.torn_block.specs.Block.{is_open, copy_of, target_of, next_sequence}
use Rattle.torn_block.proofs.PlaceLaws.{offset_fits, length-tail_with}
use Rattle.torn_block.specs.Stage.{call_of}
use Rattle.paxos_block.specs.Places.{VoteOf, IsWithin}
use Rattle.paxos_block.specs.Row.{DecodedBlock}
use Rattle.paxos_block.specs.Saying.{body_saying}
use Rattle.attempt.specs.Calls.{Phase, Opening, One, Two, Kind, Attaching, Syncing, Reading, Putting}
use Rattle.attempt.specs.Answers.{Told, Answers}
use Rattle.attempt.specs.History.{Fits}
use Rattle.attempt.specs.Setup.{Setup}
use Rattle.attempt.specs.NextCall.{says_for, write_on, call_by}
use Rattle.attempt.specs.Standing.{IsIn}
use Rattle.attempt_safety.specs.Registers.{IsNext}
use Rattle.attempt_safety.proofs.Stages.{writing}
use Rattle.attempt.specs.Votes.{IsLong, TellsVotes}
use Rattle.attempt.proofs.Votes.{MayWrite, may_write_one, may_write_two}

closing_short : (opened : Bool) → length {A = ℕ} (if opened then 0 ∷ [] else []) ≤ 1
closing_short true = omega arith
closing_short false = omega arith

put_within : (any : Setup) (p : Phase) (d boot : ℕ) (f : Answers) (call : WriteCall) → length (body_saying cluster_version (says_for (at_cluster any) p f)) ≡ BODY_LENGTH → IsWithin cluster_version (VoteOf (at_cluster any).slot (at_cluster any).host) (call_of call (write_on (at_cluster any) p d f) boot)
put_within s p d boot f CloseGate full =
    let w = write_on (at_cluster s) p d f in
    let a = offset_fits cluster_version (target_of cluster_version w.block) in
    let b = closing_short (is_open (copy_of cluster_version (target_of cluster_version w.block) w.block)) in
    (omega arith, omega (arith, a, b))
put_within s p d boot f SyncClosed full = tt
put_within s p d boot f PutBody full =
    let w = write_on (at_cluster s) p d f in
    let a = offset_fits cluster_version (target_of cluster_version w.block) in
    let b = length-tail_with cluster_version (next_sequence cluster_version w.block) w.body full in
    (omega arith, omega (arith, a, b))
put_within s p d boot f SyncBody full = tt
put_within s p d boot f OpenGate full =
    let w = write_on (at_cluster s) p d f in
    let a = offset_fits cluster_version (target_of cluster_version w.block) in
    (omega arith, omega (arith, a))
put_within s p d boot f SyncOpened full = tt

pub within : (any : Setup) (d : ℕ) (f : Answers) (kind : Kind) → ((p : Phase) (call : WriteCall) → kind ≡ Putting p call → length (body_saying cluster_version (says_for (at_cluster any) p f)) ≡ BODY_LENGTH) → IsWithin cluster_version (VoteOf (at_cluster any).slot (at_cluster any).host) (call_by (at_cluster any) d f kind)
within s d f Attaching full = tt
within s d f Syncing full = tt
within s d f Reading full = tt
within s d f (Putting p call) full = put_within (at_cluster s) p d _ f call (full p call (λ i. Putting p call))

-- in a phase with a write the attempt may write
pub may_write : (any : Setup) (f : Answers) (host_below : (at_cluster any).host < HOSTS) (votes : (d : ℕ) → TellsVotes cluster_version (f d)) (p : Phase) (d : ℕ) (call : WriteCall) → IsLong cluster_version (at_cluster any).input → IsIn (at_cluster any) p f → IsNext (f d) (Putting p call) → MayWrite (at_cluster any) f host_below votes p
may_write s f host_below votes Opening d call input come is = absurd (writing Opening call (length (f d)) is).0
may_write s f host_below votes One d call input come is = may_write_one (at_cluster s) f host_below votes come
may_write s f host_below votes Two d call input come is = may_write_two (at_cluster s) f host_below votes input come

-- a row is told only to a read
pub reading_kind : (any : Setup) (f : Answers) (d : ℕ) (kind : Kind) (row : List DecodedBlock) → Fits (call_by (at_cluster any) d f kind) (Told (Some row)) → kind ≡ Reading
reading_kind s f d Attaching row fits = absurd fits
reading_kind s f d Syncing row fits = absurd fits
reading_kind s f d Reading row fits = λ i. Reading
reading_kind s f d (Putting p CloseGate) row fits = absurd fits
reading_kind s f d (Putting p SyncClosed) row fits = absurd fits
reading_kind s f d (Putting p PutBody) row fits = absurd fits
reading_kind s f d (Putting p SyncBody) row fits = absurd fits
reading_kind s f d (Putting p OpenGate) row fits = absurd fits
reading_kind s f d (Putting p SyncOpened) row fits = absurd fits
