-- What others do, and what becomes of blocks, leaves an attempt where the machine follows it.
use Rattle.std.proofs.Common.{ℕ, ◌≡◌, ◌≢◌, ◌==◌, List, refl, ap, ◌∙◌, arith}
use Rattle.attempt.specs.Answers.{Answered, Answers, on}
use Rattle.attempt.specs.Setup.{Setup}
use Rattle.attempt.specs.Status.{Status, Due, Ended, Committed, Decided, Empty, Outrun, NoMajority, BallotsSpent, status}
use Rattle.agreement.specs.Majority.{IsMajority}
use Rattle.agreement.specs.State.{Block, Cell, put, Mind, none_opened}
use Rattle.agreement.specs.State.Mind.{Idle, Opening}
use Rattle.agreement.specs.Event.{is_at, at_rest, with_host, all_away, after}
use Rattle.agreement.specs.Event.Event.{Settles, Crashes, Stops, Starts}
use Rattle.agreement.proofs.Majorities.{count_le}
use Rattle.agreement.proofs.Puts.{put_other, all_put}
use Rattle.attempt_safety.specs.Machine.{Machine}
use Rattle.attempt_safety.specs.Follows.{Agrees, Follows, IsSameHost}
use Rattle.attempt_safety.specs.Leads.{IsSameBlock, LeavesOthers}
use Rattle.attempt_safety.proofs.Cells.{block_same}

-- THE SAME HOST

module _ (s : Setup) (old new : Machine) (same : IsSameHost s.host old new) where
  majority_same : (stage : ℕ) → IsMajority s.disks (is_at stage (old.cell s.host)) → IsMajority s.disks (is_at stage (new.cell s.host))
  majority_same stage most =
      let more = count_le s.disks (is_at stage (old.cell s.host)) (is_at stage (new.cell s.host)) (λ d is. ap (λ (n : ℕ). n == stage) (same.stages d) ∙ is) in
      omega arith

  agrees_same : (f : Answers) (st : Status) → Agrees s f old st → Agrees s f new st
  agrees_same f (Due p d) k = record { mind = same.mind ∙ k.mind; stages = λ e takes. same.stages e ∙ k.stages e takes }
  agrees_same f (Ended (Committed value)) k = record { proposing = same.mind ∙ k.proposing; majority = majority_same _ k.majority }
  agrees_same f (Ended (Decided value)) k = tt
  agrees_same f (Ended Empty) k =
      record { asking = k.asking; prepared = record { asking = same.mind ∙ k.prepared.asking; majority = majority_same _ k.prepared.majority }; no_input = k.no_input }
  agrees_same f (Ended (Outrun mbal)) k = tt
  agrees_same f (Ended NoMajority) k = tt
  agrees_same f (Ended BallotsSpent) k = tt

  pub follows_same : (heard : List Answered) → Follows s heard old → Follows s heard new
  follows_same heard k = record { history = k.history; agrees = agrees_same (on heard) (status s (on heard)) k.agrees }

-- WHAT LEAVES A HOST THE SAME

-- another host's answers
pub by_others : (h g d : ℕ) (old new : Machine) → h ≢ g → LeavesOthers g d old new → IsSameHost h old new
by_others h g d old new off leaves = record { mind = leaves.minds h off; stages = λ e. ap (λ (c : Cell (List ℕ)). c.stage) (leaves.cells h e off) }

-- a block that settles
pub by_settling : (h g d : ℕ) (x : Block (List ℕ)) (m : Machine) → IsSameHost h m (after m (Settles g d x))
by_settling h g d x m =
    record {
      mind = refl;
      stages = λ e. all_put (λ k (row : ℕ → Cell (List ℕ)). (row e).stage ≡ (m.cell k e).stage) m.cell g (put (m.cell g) d (at_rest x (m.cell g d).stage))
          (all_put (λ k (c : Cell (List ℕ)). c.stage ≡ (m.cell g k).stage) (m.cell g) d (at_rest x (m.cell g d).stage) refl (λ k off. refl) e)
          (λ k off. refl)
          h;
    }

-- a disk that crashes
pub by_crashing : (h d : ℕ) (left : ℕ → Block (List ℕ)) (m : Machine) → IsSameHost h m (after m (Crashes d left))
by_crashing h d left m =
    record { mind = refl; stages = all_put (λ e (c : Cell (List ℕ)). c.stage ≡ (m.cell h e).stage) (m.cell h) d (at_rest (left h) (m.cell h d).stage) refl (λ e off. refl) }

-- a host that stops or starts: its cells are on no disk
away_elsewhere : (h g : ℕ) (m : Machine) (mind : Mind (List ℕ)) → h ≢ g → IsSameHost h m (with_host m g mind (all_away (m.cell g)))
away_elsewhere h g m mind off =
    record {
      mind = put_other m.mind g mind h off;
      stages = λ e. ap (λ (row : ℕ → Cell (List ℕ)). (row e).stage) (put_other m.cell g (all_away (m.cell g)) h off);
    }

-- and its blocks as they were
away_blocks : (h g d : ℕ) (m : Machine) (mind : Mind (List ℕ)) → IsSameBlock (m.cell h d) ((with_host m g mind (all_away (m.cell g))).cell h d)
away_blocks h g d m mind =
    all_put (λ k (row : ℕ → Cell (List ℕ)). IsSameBlock (m.cell k d) (row d)) m.cell g (all_away (m.cell g))
    (record { confirmed = refl; writing = refl }) (λ k off. block_same (m.cell k d))
    h

-- another host that stops
pub by_stopping : (h g : ℕ) (m : Machine) → h ≢ g → IsSameHost h m (after m (Stops g))
by_stopping h g m off = away_elsewhere h g m Idle off

-- or starts
pub by_starting : (h g : ℕ) (m : Machine) → h ≢ g → IsSameHost h m (after m (Starts g))
by_starting h g m off = away_elsewhere h g m (Opening none_opened) off

-- blocks stay
pub blocks_stopping : (h g d : ℕ) (m : Machine) → IsSameBlock (m.cell h d) ((after m (Stops g)).cell h d)
blocks_stopping h g d m = away_blocks h g d m Idle

pub blocks_starting : (h g d : ℕ) (m : Machine) → IsSameBlock (m.cell h d) ((after m (Starts g)).cell h d)
blocks_starting h g d m = away_blocks h g d m (Opening none_opened)
