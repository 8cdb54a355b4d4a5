-- A disk that crashes is one move, and one that is lost none.
use Rattle.std.specs.Prelude.{nat_lt, ◌&&◌}
use Rattle.std.proofs.Common.{ℕ, ◌<◌, ◌≡◌, ◌≢◌, ◌==◌, inl, inr, Bool, true, false, cond, List, [], ◌∷◌, ◌++◌, length, append-nil, refl, sym, subst, ap, ◌∙◌}
use Rattle.std.proofs.lemmas.Bool.{ltb-true, lt-ltb, and_from, and_parts, cond-true}
use Rattle.std.proofs.lemmas.List.{length-replicate}
use Rattle.disk.specs.Disk.{DiskState, Crashes, lost}
use Rattle.torn_block.specs.Layout.{cluster_version}
use Rattle.torn_block.specs.declared.layout.TheConstants.{HOSTS}
use Rattle.torn_block.specs.Block.{value_of}
use Rattle.torn_block.specs.Place.{block_in}
use Rattle.torn_block.specs.Register.{Value}
use Rattle.paxos_block.specs.Places.{VoteOf, place_of, IsImage}
use Rattle.attempt.proofs.Lists.{by_eq}
use Rattle.paxos_block.specs.Shape.{Shape}
use Rattle.host.specs.Host.{setup_of}
use Rattle.world.specs.Entry.{Crashed, Lost, disk_step, crashed_to}
use Rattle.world.specs.World.{World}
use Rattle.agreement.specs.State.{Block, Cell}
use Rattle.agreement.specs.Event.{IsReading, at_rest, after}
use Rattle.agreement.specs.Event.Event.{Crashes as CrashesAt}
use Rattle.agreement.specs.Log.{Move, IsHistory}
use Rattle.agreement.specs.Log.Move.{Crash}
use Rattle.agreement.proofs.Puts.{put_same, put_other}
use Rattle.attempt_safety.specs.Machine.{Machine}
use Rattle.attempt_safety.proofs.Cells.{block_same, block_by}
use Rattle.attempt_safety.proofs.Leaving.{by_crashing}
use Rattle.world_safety.specs.Blocks.{said, Stands}
use Rattle.world_safety.specs.Goes.{Goes}
use Rattle.world_safety.specs.Knows.{Knows}
use Rattle.world_safety.specs.Next.{next_world}
use Rattle.world_safety.specs.Tied.{Moves, machine, Tied}
use Rattle.world_safety.proofs.Moves.Hosts.{SameHosts, KeepsKnown, KeepsMarking, host_kept, same_host, host_by}
use Rattle.torn_block.proofs.RegisterLaws.{rests_crashed}
use Rattle.paxos_block.proofs.Outcomes.{Outcomes, same_outcomes}
use Rattle.world_safety.specs.Marking.{KnowsMark}
use Rattle.world_safety.proofs.Blocks.Marked.{mark_spared, mark_crashed}
use Rattle.world_safety.proofs.Moves.Moving.{marks_by}
use Rattle.world_safety.proofs.Blocks.Keeping.{Spares, spares_same, spares_lost, knows_spared, knows_crashed}
use Rattle.world_safety.proofs.Moves.Machines.{machine_is, machine_crash, history_more, learned_more}
use Rattle.world_safety.proofs.Moves.OneBlock.{with_disks}
use Rattle.world_safety.proofs.Blocks.Standing.{stands_same, stands_crashed, stands_lost}

module _ (c : Shape) (w : World) (ms : Moves) (tied : Tied c w ms) where
  -- A DISK CRASHES

  module _ (k : ℕ) (left : List ℕ) (crash : Crashes (w.disk k) (disk_step (w.disk k) (Crashed k left))) where
    abbrev crashed : DiskState
    crashed = crashed_to (w.disk k) left

    abbrev crash_disks : ℕ → DiskState
    crash_disks d = cond (k == d) (crashed_to (w.disk d) left) (w.disk d)

    at_crash : (P : ℕ → DiskState → Type 0) → P k crashed → ((d : ℕ) → d ≢ k → P d (w.disk d)) → (d : ℕ) → P d (crash_disks d)
    at_crash P here there d = by_eq (λ b. P d (cond b (crashed_to (w.disk d) left) (w.disk d))) k d
        (λ same. subst (λ (j : ℕ). P j (crashed_to (w.disk j) left)) same here)
        (λ off. there d (λ same. off (sym same)))

    -- what a block reads as then
    abbrev value_left : ℕ → ℕ → Value
    value_left j g = value_of cluster_version (block_in cluster_version (place_of cluster_version (VoteOf j g)) left)

    -- of the blocks that there are
    abbrev blocks_left : ℕ → ℕ → Block (List ℕ)
    blocks_left j g = cond (nat_lt j c.slots && nat_lt g HOSTS) (said (value_left j g)) ((machine ms j).cell g k).confirmed

    left_is : (j g : ℕ) → j < c.slots → g < HOSTS → blocks_left j g ≡ said (value_left j g)
    left_is j g slot below =
        cond-true (nat_lt j c.slots && nat_lt g HOSTS) (said (value_left j g)) ((machine ms j).cell g k).confirmed (and_from (nat_lt j c.slots) (nat_lt g HOSTS) (lt-ltb j c.slots slot) (lt-ltb g HOSTS below))

    left_reads : (j g : ℕ) → IsReading ((machine ms j).cell g k) (blocks_left j g)
    left_reads j g = go (nat_lt j c.slots && nat_lt g HOSTS) refl
      where
        go : (b : Bool) → (nat_lt j c.slots && nat_lt g HOSTS) ≡ b → IsReading ((machine ms j).cell g k) (cond b (said (value_left j g)) ((machine ms j).cell g k).confirmed)
        go true both =
            let parts = and_parts (nat_lt j c.slots) (nat_lt g HOSTS) both in
            let stands = tied.stands j g k (ltb-true j c.slots parts.0) (ltb-true g HOSTS parts.1) in
            stands.reads left crash.bytes
        go false both = inl refl

    abbrev crash_move : Move (List ℕ)
    crash_move = Crash k blocks_left

    abbrev behind : Moves
    behind = ms ++ crash_move ∷ []

    crash_history : IsHistory c.disks behind
    crash_history = history_more c.disks ms crash_move tied.history (λ j g. subst (λ (n : Machine). IsReading (n.cell g k) (blocks_left j g)) (sym (machine_is ms j)) (left_reads j g))

    cell_there : (j g d : ℕ) → d ≢ k → (machine behind j).cell g d ≡ (machine ms j).cell g d
    cell_there j g d off = ap (λ (n : Machine). n.cell g d) (machine_crash ms k blocks_left j) ∙ put_other ((machine ms j).cell g) k _ d off

    cell_here : (j g : ℕ) → (machine behind j).cell g k ≡ at_rest (blocks_left j g) ((machine ms j).cell g k).stage
    cell_here j g = ap (λ (n : Machine). n.cell g k) (machine_crash ms k blocks_left j) ∙ put_same ((machine ms j).cell g) k _

    crash_stands : (j g : ℕ) → j < c.slots → g < HOSTS → Stands crashed j g ((machine behind j).cell g k)
    crash_stands j g slot below =
        stands_crashed (w.disk k) crashed j g ((machine ms j).cell g k) ((machine behind j).cell g k) crash (tied.stands j g k slot below)
        (ap (λ (cell : Cell (List ℕ)). cell.confirmed) (cell_here j g) ∙ left_is j g slot below)

    image_crashed : IsImage cluster_version c.slots crashed
    image_crashed =
        record { whole = length-replicate (length (w.disk k).bytes) false ∙ sym crash.bytes.as_many; long = crash.bytes.as_many ∙ (tied.images k).long }

    -- what a crash left, it might have left before
    outcomes_then : (place d : ℕ) → Outcomes cluster_version (w.disk d) place (crash_disks d)
    outcomes_then place d = at_crash (λ i disk. Outcomes cluster_version (w.disk i) place disk) (λ bytes may. (left, crash.bytes, rests_crashed cluster_version place (w.disk k) crashed crash bytes may)) (λ i off. same_outcomes cluster_version (w.disk i) (w.disk i) place refl) d

    marking_then : (g : ℕ) → KeepsMarking c w (with_disks w crash_disks) g
    marking_then g s a d is_host slot_below below known = at_crash (λ i disk. KnowsMark (w.disk i) s a → KnowsMark disk s a) (mark_crashed s a (w.disk k) crashed crash) (λ i off now. now) d known

    same_then : (g : ℕ) → SameHosts ms behind g
    same_then g j = host_by g (machine ms j) (machine behind j) (after (machine ms j) (CrashesAt k (blocks_left j))) (machine_crash ms k blocks_left j) (by_crashing g k (blocks_left j) (machine ms j))

    keeps_then : (g : ℕ) → KeepsKnown c w (with_disks w crash_disks) ms behind g
    keeps_then g m operation f d slot_below below =
        at_crash (λ i disk. Knows (w.disk i) (setup_of c g m operation) f i ((machine ms (length m.learned)).cell g i) → Knows disk (setup_of c g m operation) f i ((machine behind (length m.learned)).cell g i))
        (λ known. knows_crashed (setup_of c g m operation) f k (w.disk k) crashed ((machine ms (length m.learned)).cell g k) ((machine behind (length m.learned)).cell g k) crash known)
        (λ i off known. knows_spared c.slots (setup_of c g m operation) f i (w.disk i) (w.disk i) ((machine ms (length m.learned)).cell g i) ((machine behind (length m.learned)).cell g i) (tied.images i) slot_below below
        (spares_same (place_of cluster_version (VoteOf (length m.learned) g)) (w.disk i)) (block_by ((machine ms (length m.learned)).cell g i) ((machine behind (length m.learned)).cell g i) (cell_there (length m.learned) g i off)) known)
        d

    pub crash_goes : Goes c w (Crashed k left) ms
    crash_goes =
        record {
          more = crash_move ∷ [];
          tied = record {
            history = crash_history;
            images = at_crash (λ d disk. IsImage cluster_version c.slots disk) image_crashed (λ d off. tied.images d);
            stands = λ j g d slot below.
                at_crash (λ i disk. Stands disk j g ((machine behind j).cell g i)) (crash_stands j g slot below)
                (λ i off. stands_same (w.disk i) j g ((machine ms j).cell g i) ((machine behind j).cell g i) (block_by ((machine ms j).cell g i) ((machine behind j).cell g i) (cell_there j g i off)) (tied.stands j g i slot below))
                d;
            hosts = λ g. host_kept c w (with_disks w crash_disks) ms behind g (same_then g) (ap (λ (l : ℕ → List (List ℕ)). l g) (learned_more ms crash_move)) (keeps_then g) (marking_then g) (w.host g) (tied.hosts g);
          };
          inputs = λ j v input. absurd (elim input [ inl puts ↦ puts | inr rest ↦ rest ]);
          host = λ g of. absurd (cc);
          carries = tt;
          marks = λ slot host d slot_below below. marks_by w slot host (w.disk d) (crash_disks d) (outcomes_then (place_of cluster_version (VoteOf slot host)) d);
        }

  -- A DISK IS LOST

  module _ (k : ℕ) where
    abbrev lost_disks : ℕ → DiskState
    lost_disks d = cond (k == d) (lost (w.disk d)) (w.disk d)

    at_lost : (P : ℕ → DiskState → Type 0) → ((d : ℕ) → P d (lost (w.disk d))) → ((d : ℕ) → P d (w.disk d)) → (d : ℕ) → P d (lost_disks d)
    at_lost P here there d = by_eq (λ b. P d (cond b (lost (w.disk d)) (w.disk d))) k d (λ same. here d) (λ off. there d)

    lost_keeps : (g : ℕ) → KeepsKnown c w (with_disks w lost_disks) ms ms g
    lost_keeps g m operation f d slot_below below known =
        knows_spared c.slots (setup_of c g m operation) f d (w.disk d) (lost_disks d) ((machine ms (length m.learned)).cell g d) ((machine ms (length m.learned)).cell g d) (tied.images d) slot_below below
        (at_lost (λ i disk. Spares (place_of cluster_version (VoteOf (length m.learned) g)) (w.disk i) disk) (λ i. spares_lost (place_of cluster_version (VoteOf (length m.learned) g)) (w.disk i)) (λ i. spares_same (place_of cluster_version (VoteOf (length m.learned) g)) (w.disk i)) d)
        (block_same ((machine ms (length m.learned)).cell g d)) known

    lost_spares : (place d : ℕ) → Spares place (w.disk d) (lost_disks d)
    lost_spares place d = at_lost (λ i disk. Spares place (w.disk i) disk) (λ i. spares_lost place (w.disk i)) (λ i. spares_same place (w.disk i)) d

    lost_marking : (g : ℕ) → KeepsMarking c w (with_disks w lost_disks) g
    lost_marking g s a d is_host slot_below below known =
        mark_spared c.slots s a (w.disk d) (lost_disks d) (tied.images d) slot_below (subst (λ (j : ℕ). j < HOSTS) (sym is_host) below) (lost_spares (place_of cluster_version (VoteOf s.slot s.host)) d) known

    lost_tied : Tied c (next_world c w (Lost k)) ms
    lost_tied =
        record {
          history = tied.history;
          images = at_lost (λ d disk. IsImage cluster_version c.slots disk) (λ d. record { whole = (tied.images d).whole; long = (tied.images d).long }) tied.images;
          stands = λ j g d slot below.
              at_lost (λ i disk. Stands disk j g ((machine ms j).cell g i)) (λ i. stands_lost (w.disk i) j g ((machine ms j).cell g i) (tied.stands j g i slot below)) (λ i. tied.stands j g i slot below) d;
          hosts = λ g. host_kept c w (with_disks w lost_disks) ms ms g (λ j. same_host g (machine ms j)) refl (lost_keeps g) (lost_marking g) (w.host g) (tied.hosts g);
        }

    pub lost_goes : Goes c w (Lost k) ms
    lost_goes =
        record {
          more = [];
          tied = subst (λ (l : Moves). Tied c (next_world c w (Lost k)) l) (sym (append-nil ms)) lost_tied;
          inputs = λ j v input. absurd input;
          host = λ g of. absurd (cc);
          carries = tt;
          marks = λ slot host d slot_below below. marks_by w slot host (w.disk d) (lost_disks d) (lost_spares (place_of cluster_version (VoteOf slot host)) d).outcomes;
        }
