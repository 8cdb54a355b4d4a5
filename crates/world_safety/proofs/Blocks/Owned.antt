-- A call of an attempt is answered: what its own block there stands for then, and what it knows of it, where the call writes nothing.
use Rattle.world_safety.specs.Cluster.{at_cluster}
use Rattle.std.proofs.Common.{ℕ, ◌<◌, ◌≤◌, ◌≡◌, ◌≢◌, true, false, true≢false, Bool, not, Option, Some, None, List, length, refl, sym, subst, ap, ap₂, ◌∙◌, arith}
use Rattle.std.proofs.lemmas.Bool.{and_parts}
use Rattle.disk.specs.declared.fault.DiskFault.TheVariants.{Reset, Failed, Gone}
use Rattle.disk.specs.Disk.{DiskState, Call, Attach, Read, Sync, Answer, Booted, Told, Done, Fault, Step}
use Rattle.disk.specs.Crash.{MayLeave}
use Rattle.torn_block.specs.Layout.{cluster_version}
use Rattle.torn_block.specs.declared.layout.TheConstants.{HOSTS, ROW_LENGTH}
use Rattle.torn_block.specs.Place.{block_in}
use Rattle.torn_block.specs.Register.{IsAtRest}
use Rattle.torn_block.proofs.RegisterLaws.{known_synced}
use Rattle.paxos_block.specs.Saying.{Said as PBlock, body_saying}
use Rattle.paxos_block.specs.Places.{row_place, row_of, IsImage}
use Rattle.paxos_block.specs.Row.{DecodedBlock, seen_in}
use Rattle.paxos_block.proofs.Outcomes.{IsCalm, calm_outcomes}
use Rattle.paxos_block.proofs.PlaceLemmas.{block_of-row_of}
use Rattle.paxos_block.proofs.RowLemmas.{said_sees}
use Rattle.attempt.specs.Calls.{Phase, Kind, Attaching, Syncing, Reading, start}
use Rattle.attempt.specs.Answers as answers
use Rattle.attempt.specs.Answers.{Heard, Answers, heard_as, is_bad, all_good, told, later_row, last_row, boot_of, more, seen_block}
use Rattle.attempt.specs.Setup.{Setup}
use Rattle.attempt.specs.History.{Fits}
use Rattle.attempt.specs.NextCall.{says_for, write_on, call_by}
use Rattle.attempt.proofs.Lists.{good_more, last_more, boot_more}
use Rattle.attempt.proofs.More.{more_here}
use Rattle.attempt.proofs.OneDisk.{IsDisk}
use Rattle.attempt.proofs.Replies.{reading_tells}
use Rattle.attempt.proofs.Rows.{rows_kept}
use Rattle.agreement.specs.State.{Cell}
use Rattle.attempt_safety.specs.Registers.{IsNext}
use Rattle.attempt_safety.specs.Leads.{IsSameBlock}
use Rattle.world_safety.specs.Blocks.{Stands}
use Rattle.world_safety.specs.Knows.{own_place, KnowsFor, IsCurrent, Knows}
use Rattle.attempt.proofs.Calls.{Then, next_kind, has_answered}
use Rattle.world_safety.proofs.Blocks.Standing.{stands_by, stands_same}
use Rattle.attempt.proofs.Votes.{says_same}
use Rattle.world_safety.proofs.Blocks.Owning.{boot_kept, booted_is, boot_at_most, row_told}

-- WHAT AN ANSWER LEAVES

pub record After (s : Setup) (d : ℕ) (g : Answers) (new : DiskState) (cell : Cell (List ℕ)) : Type 0 where
  pub stands : Stands new s.slot s.host cell
  pub knows : Knows new s g d cell

pub not_bad : (b : Bool) → not b ≡ true → b ≡ false
not_bad true is = absurd (true≢false (sym is))
not_bad false is = refl

pub read_leaves : (disk new : DiskState) (boot at len : ℕ) (answer : Answer) → Step disk (Read boot at len) answer new → new ≡ disk
read_leaves disk new boot at len (Booted number) step = step.2.1
read_leaves disk new boot at len (Told bytes) step = step.2.1
read_leaves disk new boot at len Done step = step.2.1
read_leaves disk new boot at len (Fault Reset) step = step.2
read_leaves disk new boot at len (Fault Failed) step = step.2
read_leaves disk new boot at len (Fault Gone) step = step.1

pub sync_rests : (place : ℕ) (disk new : DiskState) (boot : ℕ) (answer : Answer) → Step disk (Sync boot) answer new → is_bad (heard_as answer) ≡ false → IsAtRest cluster_version place new
sync_rests place disk new boot (Booted number) step good = absurd (let all = step.2.0 in cc)
sync_rests place disk new boot (Told bytes) step good = absurd (let all = step.2.0 in cc)
sync_rests place disk new boot Done step good = (known_synced cluster_version place disk new boot step).0
sync_rests place disk new boot (Fault fault) step good = absurd (true≢false good)

-- A call of a phase of the attempt, on a disk: what holds before it, and that the disk is an image then.
pub record IsOwnCall (slots : ℕ) (s : Setup) (p : Phase) (d : ℕ) (f : Answers) (disk new : DiskState) (old : Cell (List ℕ)) : Type 0 where
  pub image : IsImage cluster_version slots disk
  pub image_then : IsImage cluster_version slots new
  pub slot_below : s.slot < slots
  pub host_below : s.host < HOSTS
  pub is_disk : IsDisk (f d)
  pub good : all_good (f d) ≡ true
  pub come : start p ≤ length (f d)
  pub stands : Stands disk s.slot s.host old
  pub knows : Knows disk s f d old

module _ (slots : ℕ) (any : Setup) (p : Phase) (d : ℕ) (f : Answers) (disk new : DiskState) (answer : Answer) (old cell : Cell (List ℕ)) (own : IsOwnCall slots (at_cluster any) p d f disk new old) where
  abbrev s : Setup
  s = at_cluster any

  open own use {host_below, is_disk, good, come, stands, knows}

  abbrev x : Heard
  x = heard_as answer

  abbrev g : Answers
  g = more f d x

  pub boot_then : (call : Call) → Step disk call answer new → boot_of (g d) ≤ new.boot
  boot_then call step =
      let same = boot_kept disk new call answer step in
      let most = boot_at_most (f d) x disk.boot knows.boot (λ b is. booted_is disk new call answer b step is) in
      let here = ap boot_of (more_here f d x) in
      omega (arith, same, most, here)

  pub good_then : IsCurrent new (g d) → is_bad x ≡ false
  good_then current = not_bad (is_bad x) (and_parts (all_good (f d)) (not (is_bad x)) (sym (good_more (f d) x) ∙ ap all_good (sym (more_here f d x)) ∙ current.good)).1

  current_before : (kind : Kind) (call : Call) → kind ≢ Attaching → IsNext (f d) kind → Step disk call answer new → IsCurrent new (g d) → IsCurrent disk (f d)
  current_before kind call later is step current =
      let booted = is_disk.booted good (has_answered (f d) kind later is) in
      record { good = good; boot = sym (boot_more (f d) x booted.0 booted.1) ∙ ap boot_of (sym (more_here f d x)) ∙ current.boot ∙ boot_kept disk new call answer step }

  pub then_is : (kind next : Kind) → IsNext (f d) kind → IsNext (g d) next → Then kind next
  then_is kind next is then = next_kind (f d) x kind next is (subst (λ (a : List Heard). IsNext a next) (more_here f d x) then)

  pub says_then : says_for s p g ≡ says_for s p f
  says_then = says_same s g f p (λ q before. rows_kept f d x q (omega (arith, before, come)))

  pub last_then : (row : Option (List DecodedBlock)) → told x ≡ row → last_row (g d) ≡ later_row (last_row (f d)) row
  last_then row is = ap last_row (more_here f d x) ∙ last_more (f d) x ∙ ap (later_row (last_row (f d))) is

  pub write_then : told x ≡ None → write_on s p d g ≡ write_on s p d f
  write_then none =
      ap₂ (λ (r : Option (List DecodedBlock)) (b : PBlock). record { version = cluster_version; place = own_place s; block = (seen_block r s.host).bytes; body = body_saying cluster_version b }) (last_then None none) says_then

  -- a bad answer leaves nothing to know
  pub knows_none : (call : Call) → Step disk call answer new → is_bad x ≡ true → Knows new s g d cell
  knows_none call step bad = record { boot = boot_then call step; next = λ current. absurd (true≢false (sym bad ∙ good_then current)) }

  -- CALLS THAT WRITE NOTHING

  pub calm_stands : (call : Call) → IsCalm call → Step disk call answer new → IsSameBlock old cell → Stands new s.slot s.host cell
  calm_stands call calm step same =
      stands_same new s.slot s.host old cell same (stands_by disk new s.slot s.host old (calm_outcomes cluster_version disk new (own_place s) call answer calm step) stands)

  pub attached : IsNext (f d) Attaching → Step disk Attach answer new → IsSameBlock old cell → After s d g new cell
  attached is step same =
      record {
        stands = calm_stands Attach tt step same;
        knows = record {
          boot = boot_then Attach step;
          next = λ current next then. subst (λ (k : Kind). KnowsFor k new s g d cell) (sym (then_is Attaching next is then)) tt;
        };
      }

  pub synced : (boot : ℕ) → IsNext (f d) Syncing → Step disk (Sync boot) answer new → IsSameBlock old cell → After s d g new cell
  synced boot is step same =
      record {
        stands = calm_stands (Sync boot) tt step same;
        knows = record {
          boot = boot_then (Sync boot) step;
          next = λ current next then. subst (λ (k : Kind). KnowsFor k new s g d cell) (sym (then_is Syncing next is then)) (sync_rests (own_place s) disk new boot answer step (good_then current));
        };
      }

  -- the row that was read is of the block at rest
  row_settles : (boot : ℕ) (row : List DecodedBlock) → Step disk (Read boot (row_place cluster_version s.slot) ROW_LENGTH) answer new → x ≡ answers.Told (Some row) → IsAtRest cluster_version (own_place s) disk
      → (bytes : List ℕ) → MayLeave new bytes → seen_in cluster_version (block_in cluster_version (own_place s) bytes) ≡ seen_block (last_row (g d)) s.host
  row_settles boot row step is rests bytes left =
      let before : MayLeave disk bytes = subst (λ (k : DiskState). MayLeave k bytes) (read_leaves disk new boot (row_place cluster_version s.slot) ROW_LENGTH answer step) left in
      let said_so = row_told disk new boot s.slot answer row step is in
      ap (seen_in cluster_version) (rests bytes before)
      ∙ ap (seen_in cluster_version) (sym (block_of-row_of cluster_version s.slot s.host disk.bytes host_below))
      ∙ sym (said_sees cluster_version (row_of cluster_version s.slot disk.bytes) row s.host host_below said_so)
      ∙ ap (λ (r : Option (List DecodedBlock)). seen_block r s.host) (sym (last_then (Some row) (ap told is)))

  pub read : IsNext (f d) Reading → Fits (call_by s d f Reading) x → Step disk (call_by s d f Reading) answer new → IsSameBlock old cell → After s d g new cell
  read is fits step same =
      record {
        stands = calm_stands (call_by s d f Reading) tt step same;
        knows = record {
          boot = boot_then (call_by s d f Reading) step;
          next = λ current next then.
              (let told_row = reading_tells (boot_of (f d)) (row_place cluster_version s.slot) ROW_LENGTH x fits (good_then current) in
              let before = current_before Reading (call_by s d f Reading) (λ e. absurd (cc)) is step current in
              let behind = then_is Reading next is then in
              subst (λ (k : Kind). KnowsFor k new s g d cell) (sym behind.1)
              (row_settles (boot_of (f d)) told_row.0 step told_row.1 (knows.next before Reading is)));
        };
      }
