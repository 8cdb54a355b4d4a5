-- What an attempt knows of its block on a disk stays, whatever others do there, and whatever the attempt does elsewhere.
use Rattle.world_safety.specs.Cluster.{at_cluster}
use Rattle.std.proofs.Common.{ℕ, ◌<◌, ◌≤◌, ◌≡◌, ◌≢◌, true, List, length, refl, sym, subst, ap, ap₂, ◌∙◌, arith}
use Rattle.disk.specs.Disk.{DiskState, Call, Answer, Step, Crashes, lost}
use Rattle.disk.specs.Crash.{MayLeave}
use Rattle.torn_block.specs.Layout.{cluster_version}
use Rattle.torn_block.specs.declared.layout.TheConstants.{HOSTS}
use Rattle.torn_block.specs.declared.write_steps.WriteCall.{WriteCall}
use Rattle.torn_block.specs.declared.write_steps.WriteCall.TheVariants.{CloseGate, SyncClosed, PutBody, SyncBody, OpenGate, SyncOpened}
use Rattle.torn_block.specs.Place.{block_in}
use Rattle.torn_block.specs.Register.{IsAtRest}
use Rattle.torn_block.specs.Stage.{Write128, IsDue, IsPlaced}
use Rattle.paxos_block.specs.Saying.{Said as PBlock, body_saying}
use Rattle.paxos_block.specs.Places.{Spot, place_of, IsSpot, IsImage, IsWithin}
use Rattle.paxos_block.specs.Row.{seen_in}
use Rattle.paxos_block.proofs.Outcomes.{Outcomes, rests_by, same_outcomes}
use Rattle.paxos_block.proofs.PlaceLemmas.{others_outcomes, others_stay_due}
use Rattle.attempt.specs.Calls.{Phase, Opening, One, Two, Kind, Attaching, Syncing, Reading, Putting, start, goal}
use Rattle.attempt.specs.Answers.{Heard, Answers, all_good, boot_of, last_row, more, seen_block}
use Rattle.attempt.specs.Setup.{Setup}
use Rattle.attempt.specs.NextCall.{says_for, write_on}
use Rattle.attempt.proofs.More.{more_there}
use Rattle.attempt.proofs.Rows.{rows_kept}
use Rattle.agreement.specs.State.{Cell}
use Rattle.attempt_safety.specs.Registers.{IsNext}
use Rattle.attempt_safety.specs.Leads.{IsSameBlock}
use Rattle.world_safety.specs.Knows.{own_place, IsWriting, Writes, KnowsFor, Knows}
use Rattle.attempt.proofs.Calls.{later_number}
use Rattle.world_safety.proofs.Blocks.Owning.{placed, boot_kept}
use Rattle.attempt.proofs.Votes.{says_same}

-- BY THE CALL THAT IS NEXT

module _ (any : Setup) (f g : Answers) (d : ℕ) (disk new : DiskState) (old cell : Cell (List ℕ))
    (rests : IsAtRest cluster_version (own_place (at_cluster any)) disk → IsAtRest cluster_version (own_place (at_cluster any)) new)
    (settled : ((bytes : List ℕ) → MayLeave disk bytes → seen_in cluster_version (block_in cluster_version (own_place (at_cluster any)) bytes) ≡ seen_block (last_row (f d)) (at_cluster any).host) → (bytes : List ℕ) → MayLeave new bytes → seen_in cluster_version (block_in cluster_version (own_place (at_cluster any)) bytes) ≡ seen_block (last_row (g d)) (at_cluster any).host)
    (writes : (p : Phase) (call : WriteCall) → call ≢ CloseGate → IsNext (f d) (Putting p call) → Writes (at_cluster any) p d f call disk old → Writes (at_cluster any) p d g call new cell) where
  abbrev s : Setup
  s = at_cluster any

  pub knows_for : (kind : Kind) → IsNext (f d) kind → KnowsFor kind disk s f d old → KnowsFor kind new s g d cell
  knows_for Attaching is known = tt
  knows_for Syncing is known = tt
  knows_for Reading is known = rests known
  knows_for (Putting p CloseGate) is known = settled known
  knows_for (Putting p SyncClosed) is known = writes p SyncClosed (λ e. absurd (cc)) is known
  knows_for (Putting p PutBody) is known = writes p PutBody (λ e. absurd (cc)) is known
  knows_for (Putting p SyncBody) is known = writes p SyncBody (λ e. absurd (cc)) is known
  knows_for (Putting p OpenGate) is known = writes p OpenGate (λ e. absurd (cc)) is known
  knows_for (Putting p SyncOpened) is known = writes p SyncOpened (λ e. absurd (cc)) is known

writing_same : (host : ℕ) (says : PBlock) (w : Write128) (call : WriteCall) (disk new : DiskState) (old cell : Cell (List ℕ)) → IsSameBlock old cell → (IsDue call w disk → IsDue call w new) → IsWriting host says w call disk old → IsWriting host says w call new cell
writing_same host says w call disk new old cell same due is =
    record { due = due is.due; can = is.can; confirmed = same.confirmed ∙ is.confirmed; writing = same.writing ∙ is.writing }

-- A DISK ON WHICH THE BLOCK WAS SPARED

-- whatever happened there, it was not to this block
pub record Spares (place : ℕ) (disk new : DiskState) : Type 0 where
  pub boot : new.boot ≡ disk.boot
  pub outcomes : Outcomes cluster_version disk place new
  pub due : (w : Write128) (call : WriteCall) → w.version ≡ cluster_version → w.place ≡ place → IsPlaced w disk → IsDue call w disk → IsDue call w new

-- a call within another block
pub spares_others : (slots : ℕ) (mine other : Spot) (disk new : DiskState) (call : Call) (answer : Answer) → IsSpot cluster_version slots mine → IsSpot cluster_version slots other → mine ≢ other → IsImage cluster_version slots disk → IsWithin cluster_version mine call → Step disk call answer new
    → Spares (place_of cluster_version other) disk new
spares_others slots mine other disk new call answer is_mine is_other differ image within step =
    record {
      boot = boot_kept disk new call answer step;
      outcomes = others_outcomes cluster_version slots mine is_mine disk image other is_other differ call answer new within step;
      due = λ w due_call by at_other placed due. others_stay_due cluster_version slots mine is_mine disk image other is_other differ w due_call call answer new by at_other placed within step due;
    }

-- nothing
pub spares_same : (place : ℕ) (disk : DiskState) → Spares place disk disk
spares_same place disk = record { boot = refl; outcomes = same_outcomes cluster_version disk disk place refl; due = λ w call by at placed due. due }

-- the loss of a disk
pub spares_lost : (place : ℕ) (disk : DiskState) → Spares place disk (lost disk)
spares_lost place disk =
    record { boot = refl; outcomes = λ bytes may. (bytes, record { as_many = may.as_many; same = may.same }, refl); due = λ w call by at placed due. record { now = due.now; left = due.left } }

pub knows_spared : (slots : ℕ) (any : Setup) (f : Answers) (d : ℕ) (disk new : DiskState) (old cell : Cell (List ℕ)) → IsImage cluster_version slots disk → (at_cluster any).slot < slots → (at_cluster any).host < HOSTS → Spares (own_place (at_cluster any)) disk new → IsSameBlock old cell
    → Knows disk (at_cluster any) f d old → Knows new (at_cluster any) f d cell
knows_spared slots s f d disk new old cell image slot_below host_below spares same known =
    record {
      boot = (let kept = spares.boot in let before = known.boot in omega arith);
      next = λ current kind is.
          knows_for (at_cluster s) f f d disk new old cell
          (rests_by cluster_version disk new (own_place (at_cluster s)) spares.outcomes)
          (λ settled bytes may. (let b = spares.outcomes bytes may in ap (seen_in cluster_version) b.2 ∙ settled b.0 b.1))
          (λ p call later at writes. writing_same (at_cluster s).host (says_for (at_cluster s) p f) (write_on (at_cluster s) p d f) call disk new old cell same
          (spares.due (write_on (at_cluster s) p d f) call refl refl (placed slots (at_cluster s) p d f disk image slot_below host_below writes.can)) writes)
          kind is
          (known.next (record { good = current.good; boot = current.boot ∙ spares.boot }) kind is);
    }

-- A crash ends what was known.
pub knows_crashed : (any : Setup) (f : Answers) (d : ℕ) (disk new : DiskState) (old cell : Cell (List ℕ)) → Crashes disk new → Knows disk (at_cluster any) f d old → Knows new (at_cluster any) f d cell
knows_crashed s f d disk new old cell crash known =
    record {
      boot = (let rises = crash.boot in let before = known.boot in omega arith);
      next = λ current kind is. absurd (let rises = crash.boot in let before = known.boot in let now = current.boot in omega arith);
    }

-- AN ANSWER OF ANOTHER DISK

not_before : (q p : Phase) → start q < goal p → start q ≤ start p
not_before Opening Opening l = omega arith
not_before Opening One l = omega arith
not_before Opening Two l = omega arith
not_before One Opening l = absurd (omega arith)
not_before One One l = omega arith
not_before One Two l = omega arith
not_before Two Opening l = absurd (omega arith)
not_before Two One l = absurd (omega arith)
not_before Two Two l = omega arith

module _ (any : Setup) (f : Answers) (k : ℕ) (x : Heard) (p : Phase) (come : start p ≤ length (f k)) (d : ℕ) (off : d ≢ k) (behind : length (f d) ≤ goal p) where
  abbrev there_s : Setup
  there_s = at_cluster any

  abbrev g : Answers
  g = more f k x

  there : g d ≡ f d
  there = more_there f k x d off

  -- what is written on the disk is as before
  writes_there : (q : Phase) → start q < length (f d) → (says_for there_s q g ≡ says_for there_s q f) × (write_on there_s q d g ≡ write_on there_s q d f)
  writes_there q begun =
      let first = not_before q p (omega arith) in
      let says : says_for there_s q g ≡ says_for there_s q f = says_same there_s g f q (λ r before. rows_kept f k x r (omega (arith, before, come, first))) in (
        says,
        ap₂ (λ (a : List Heard) (b : PBlock). record { version = cluster_version; place = own_place there_s; block = (seen_block (last_row a) there_s.host).bytes; body = body_saying cluster_version b }) there says,
      )

  pub knows_elsewhere : (disk : DiskState) (old cell : Cell (List ℕ)) → IsSameBlock old cell → Knows disk there_s f d old → Knows disk there_s g d cell
  knows_elsewhere disk old cell same known =
      record {
        boot = (let is = ap boot_of there in let before = known.boot in omega arith);
        next = λ current kind is.
            (let is_then : IsNext (f d) kind = subst (λ (a : List Heard). IsNext a kind) there is in
            knows_for there_s f g d disk disk old cell (λ rests. rests)
            (λ settled bytes may. settled bytes may ∙ ap (λ (a : List Heard). seen_block (last_row a) there_s.host) (sym there))
            (λ q call later at writes.
            (let both = writes_there q (later_number q call (length (f d)) later at) in
            subst (λ (says : PBlock). IsWriting there_s.host says (write_on there_s q d g) call disk cell) (sym both.0)
            (subst (λ (w : Write128). IsWriting there_s.host (says_for there_s q f) w call disk cell) (sym both.1)
            (writing_same there_s.host (says_for there_s q f) (write_on there_s q d f) call disk disk old cell same (λ due. due) writes))))
            kind is_then
            (known.next (record { good = subst (λ (a : List Heard). all_good a ≡ true) there current.good; boot = ap boot_of (sym there) ∙ current.boot }) kind is_then));
      }
