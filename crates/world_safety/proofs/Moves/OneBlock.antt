-- Where one block of one disk has changed, all else stands as before.
use Rattle.std.proofs.Common.{ℕ, ◌<◌, ◌≡◌, ◌≢◌, inl, inr, length, refl, sym, subst}
use Rattle.std.proofs.lemmas.Bool.{cases_eq}
use Rattle.disk.specs.Disk.{DiskState}
use Rattle.torn_block.specs.Layout.{cluster_version}
use Rattle.torn_block.specs.declared.layout.TheConstants.{HOSTS}
use Rattle.paxos_block.specs.Places.{VoteOf, place_of, IsImage}
use Rattle.paxos_block.specs.Shape.{Shape}
use Rattle.host.specs.Host.{setup_of}
use Rattle.world.specs.World.{World}
use Rattle.agreement.specs.Log.{IsHistory, slots_after}
use Rattle.attempt_safety.specs.Follows.{IsSameHost}
use Rattle.attempt_safety.specs.Leads.{IsSameBlock, LeavesOthers}
use Rattle.attempt_safety.proofs.Cells.{block_same, block_by}
use Rattle.attempt_safety.proofs.Leaving.{by_others}
use Rattle.world_safety.specs.Blocks.{Stands}
use Rattle.world_safety.specs.Tied.{Moves, machine, TiedBut}
use Rattle.world_safety.proofs.Moves.Hosts.{SameHosts, host_kept, same_host, host_by, blocks_by}
use Rattle.world_safety.proofs.Blocks.Keeping.{Spares, knows_spared}
use Rattle.world_safety.proofs.Blocks.Marked.{mark_spared}
use Rattle.world_safety.proofs.Blocks.Standing.{stands_by, stands_same}

-- the disks have changed, and no host
abbrev pub with_disks : World → (ℕ → DiskState) → World
with_disks w disks = record { disk = disks; host = w.host }

module _ (slot h k : ℕ) where
  -- it is another block
  abbrev pub IsOther : ℕ → ℕ → ℕ → Type 0
  IsOther j g d = j ≡ slot → g ≡ h → d ≡ k → ⊥

  -- this block, or another
  pub by_block : (P : ℕ → ℕ → ℕ → Type 0) → P slot h k → ((j g d : ℕ) → IsOther j g d → P j g d) → (j g d : ℕ) → P j g d
  by_block P own others j g d = elim (cases_eq j slot) [
    | inr off ↦ others j g d (λ a b e. off a)
    | inl a ↦ elim (cases_eq g h) [
      | inr off ↦ others j g d (λ a b e. off b)
      | inl b ↦ elim (cases_eq d k) [
        | inr off ↦ others j g d (λ a b e. off e)
        | inl e ↦ subst (λ (i : ℕ). P i g d) (sym a) (subst (λ (i : ℕ). P slot i d) (sym b) (subst (P slot h) (sym e) own))
      ]
    ]
  ]

  -- so it is where a slot's machine leaves the others, and those of other slots are as before
  module _ (ms ms' : Moves) (leaves : LeavesOthers h k (machine ms slot) (machine ms' slot)) (there : (j : ℕ) → j ≢ slot → machine ms' j ≡ machine ms j) where
    in_slot_blocks : (g d : ℕ) → IsOther slot g d → IsSameBlock ((machine ms slot).cell g d) ((machine ms' slot).cell g d)
    in_slot_blocks g d other = elim (cases_eq g h) [
      | inl own ↦ subst (λ (i : ℕ). IsSameBlock ((machine ms slot).cell i d) ((machine ms' slot).cell i d)) (sym own) (leaves.blocks d (λ e. other refl own e))
      | inr off ↦ block_by ((machine ms slot).cell g d) ((machine ms' slot).cell g d) (leaves.cells g d off)
    ]

    pub other_blocks : (j g d : ℕ) → IsOther j g d → IsSameBlock ((machine ms j).cell g d) ((machine ms' j).cell g d)
    other_blocks j g d other = elim (cases_eq j slot) [
      | inl same ↦ subst (λ (i : ℕ). IsSameBlock ((machine ms i).cell g d) ((machine ms' i).cell g d)) (sym same) (in_slot_blocks g d (λ a b e. other same b e))
      | inr off ↦ blocks_by g d (machine ms j) (machine ms' j) (machine ms j) (there j off) (block_same ((machine ms j).cell g d))
    ]

    pub other_hosts : (g : ℕ) → g ≢ h → SameHosts ms ms' g
    other_hosts g off j = elim (cases_eq j slot) [
      | inl same ↦ subst (λ (i : ℕ). IsSameHost g (machine ms i) (machine ms' i)) (sym same) (by_others g h k (machine ms slot) (machine ms' slot) off leaves)
      | inr away ↦ host_by g (machine ms j) (machine ms' j) (machine ms j) (there j away) (same_host g (machine ms j))
    ]

module _ (c : Shape) (w : World) (disks : ℕ → DiskState) (ms ms' : Moves) (slot h k : ℕ) (is : TiedBut c w ms h) (history : IsHistory c.disks ms') (images : (d : ℕ) → IsImage cluster_version c.slots (disks d))
    (learned : (g : ℕ) → (slots_after ms').learned g ≡ (slots_after ms).learned g) (hosts : (g : ℕ) → g ≢ h → SameHosts ms ms' g)
    (blocks : (j g d : ℕ) → IsOther slot h k j g d → IsSameBlock ((machine ms j).cell g d) ((machine ms' j).cell g d))
    (spares : (j g d : ℕ) → j < c.slots → g < HOSTS → IsOther slot h k j g d → Spares (place_of cluster_version (VoteOf j g)) (w.disk d) (disks d))
    (own : slot < c.slots → h < HOSTS → Stands (disks k) slot h ((machine ms' slot).cell h k)) where
  abbrev w' : World
  w' = with_disks w disks

  pub but_one : TiedBut c w' ms' h
  but_one =
      record {
        history = history;
        images = images;
        stands = by_block slot h k (λ j g d. j < c.slots → g < HOSTS → Stands (disks d) j g ((machine ms' j).cell g d)) own
            (λ j g d other j_below g_below. stands_same (disks d) j g ((machine ms j).cell g d) ((machine ms' j).cell g d) (blocks j g d other)
            (stands_by (w.disk d) (disks d) j g ((machine ms j).cell g d) (spares j g d j_below g_below other).outcomes (is.stands j g d j_below g_below)));
        others = λ g off. host_kept c w w' ms ms' g (hosts g off) (learned g)
            (λ m operation f d fits below known. (let other : IsOther slot h k (length m.learned) g d = λ a b e. off b in
            knows_spared c.slots (setup_of c g m operation) f d (w.disk d) (disks d) ((machine ms (length m.learned)).cell g d) ((machine ms' (length m.learned)).cell g d) (is.images d) fits below
            (spares (length m.learned) g d fits below other) (blocks (length m.learned) g d other) known))
            (λ s a d is_host fits below known. (let other : IsOther slot h k s.slot g d = λ a b e. off b in
            mark_spared c.slots s a (w.disk d) (disks d) (is.images d) fits (subst (λ (j : ℕ). j < HOSTS) (sym is_host) below)
            (subst (λ (j : ℕ). Spares (place_of cluster_version (VoteOf s.slot j)) (w.disk d) (disks d)) (sym is_host) (spares s.slot g d fits below other)) known))
            (w.host g) (is.others g off);
      }
