-- What changes with one cell of a machine, and what does not.
use Rattle.std.proofs.Common.{ℕ, ◌≡◌, ◌≢◌, List, refl, sym, subst, ap, ◌∙◌}
use Rattle.agreement.specs.State.{Cell, put}
use Rattle.agreement.proofs.Puts.{put_same, put_other}
use Rattle.attempt_safety.specs.Machine.{Machine}
use Rattle.attempt_safety.specs.Leads.{IsSameBlock, LeavesOthers}

-- a block is as it was
pub block_same : (c : Cell (List ℕ)) → IsSameBlock c c
block_same c = record { confirmed = refl; writing = refl }

-- so it is in the same cell
pub block_by : (old new : Cell (List ℕ)) → new ≡ old → IsSameBlock old new
block_by old new same = record { confirmed = ap (λ (c : Cell (List ℕ)). c.confirmed) same; writing = ap (λ (c : Cell (List ℕ)). c.writing) same }

-- and after that in the same cell
block_then : (first second third : Cell (List ℕ)) → IsSameBlock first second → third ≡ second → IsSameBlock first third
block_then first second third one same = subst (λ (c : Cell (List ℕ)). IsSameBlock first c) (sym same) one

-- nothing changes
pub leaves_same : (h d : ℕ) (m : Machine) → LeavesOthers h d m m
leaves_same h d m = record { minds = λ g off. refl; cells = λ g e off. refl; blocks = λ e off. block_same (m.cell h e) }

-- then no cell changes, and no other host's mind
pub leaves_then : (h d : ℕ) (m n o : Machine) → LeavesOthers h d m n → ((g : ℕ) → g ≢ h → o.mind g ≡ n.mind g) → ((g e : ℕ) → o.cell g e ≡ n.cell g e) → LeavesOthers h d m o
leaves_then h d m n o leaves minds cells =
    record {
      minds = λ g off. minds g off ∙ leaves.minds g off;
      cells = λ g e off. cells g e ∙ leaves.cells g e off;
      blocks = λ e off. block_then (m.cell h e) (n.cell h e) (o.cell h e) (leaves.blocks e off) (cells h e);
    }

-- A host has another cell on one disk.
module _ (m : Machine) (h d : ℕ) (c : Cell (List ℕ)) where
  abbrev pub changed : ℕ → ℕ → Cell (List ℕ)
  changed = put m.cell h (put (m.cell h) d c)

  pub changed_here : changed h d ≡ c
  changed_here = ap (λ (row : ℕ → Cell (List ℕ)). row d) (put_same m.cell h (put (m.cell h) d c)) ∙ put_same (m.cell h) d c

  pub changed_there : (e : ℕ) → e ≢ d → changed h e ≡ m.cell h e
  changed_there e off = ap (λ (row : ℕ → Cell (List ℕ)). row e) (put_same m.cell h (put (m.cell h) d c)) ∙ put_other (m.cell h) d c e off

  pub changed_leaves : (new : Machine) → new.cell ≡ changed → ((g : ℕ) → g ≢ h → new.mind g ≡ m.mind g) → LeavesOthers h d m new
  changed_leaves new is minds =
      record {
        minds = minds;
        cells = λ g e off. ap (λ (cells : ℕ → ℕ → Cell (List ℕ)). cells g e) is ∙ ap (λ (row : ℕ → Cell (List ℕ)). row e) (put_other m.cell h (put (m.cell h) d c) g off);
        blocks = λ e off. block_by (m.cell h e) (new.cell h e) (ap (λ (cells : ℕ → ℕ → Cell (List ℕ)). cells h e) is ∙ changed_there e off);
      }
