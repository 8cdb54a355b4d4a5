-- The world after one entry more is the next one.
use Rattle.std.proofs.Common.{ℕ, ◌≡◌, Bool, true, false, cond, List, [], ◌∷◌, ◌++◌, refl}
use Rattle.paxos_block.specs.Shape.{Shape}
use Rattle.world.specs.Entry.{Filled, is_on, is_of, disk_step, host_step}
use Rattle.world.specs.World.{world}
use Rattle.world.proofs.Projections.{disk_here, disk_there, host_here, host_there}
use Rattle.world_safety.specs.Next.{next_world}

module _ (c : Shape) (log : List Filled) (e : Filled) where
  disk_next : (k : ℕ) → (world c (log ++ e ∷ [])).disk k ≡ (next_world c (world c log) e).disk k
  disk_next k = go (is_on k e) refl
    where
      go : (b : Bool) → is_on k e ≡ b → (world c (log ++ e ∷ [])).disk k ≡ cond b (disk_step ((world c log).disk k) e) ((world c log).disk k)
      go true is = disk_here c log e k is
      go false is = disk_there c log e k is

  host_next : (h : ℕ) → (world c (log ++ e ∷ [])).host h ≡ (next_world c (world c log) e).host h
  host_next h = go (is_of h e) refl
    where
      go : (b : Bool) → is_of h e ≡ b → (world c (log ++ e ∷ [])).host h ≡ cond b (host_step c h ((world c log).host h) e) ((world c log).host h)
      go true is = host_here c log e h is
      go false is = host_there c log e h is

  pub world_next : world c (log ++ e ∷ []) ≡ next_world c (world c log) e
  world_next = λ i. record { disk = λ k. (disk_next k) i; host = λ h. (host_next h) i }
