-- In a run each host does what it may, and each disk serves it.
use Rattle.std.proofs.Common.{ℕ, ◌≡◌, ◌==◌, Bool, true, true≢false, cond, List, [], ◌∷◌, ◌++◌, refl, sym, subst, inl, inr}
use Rattle.std.proofs.lemmas.Bool.{cases_Bool, eqb-true}
use Rattle.disk.specs.Disk.{DiskState}
use Rattle.paxos_block.specs.Shape.{Shape}
use Rattle.host.specs.Host.{Host}
use Rattle.world.specs.Entry.{Filled, Start, Stop, Begin, Called, Torn, Crashed, Lost, Migrated, is_on, is_of, on_disk, of_host, disk_step}
use Rattle.world.specs.World.{World, opening_disk, world, MayFollow, IsRunFrom, IsFreshRun}
use Rattle.world.proofs.Projections.{disk_here, disk_there, host_here, host_there}
use Rattle.at_once.proofs.Headless.{zeros_hold_nothing}
use Rattle.at_once.specs.AtOnce.{MayDo, Does, Goes, Serves, IsDeed, AreDeeds, IsAtOnce}

module _ (c : Shape) (w : World) where
  at_own : (e : Filled) (g h : ℕ) → (g == h) ≡ true → MayDo c g (w.host g) e → MayDo c h (w.host h) e
  at_own e g h is m = subst (λ (n : ℕ). MayDo c n (w.host n) e) (eqb-true g h is) m

  may_do : (e : Filled) → MayFollow c w e → (h : ℕ) → is_of h e ≡ true → MayDo c h (w.host h) e
  may_do (Start g) m h is = at_own (Start g) g h is m
  may_do (Stop g) m h is = at_own (Stop g) g h is m
  may_do (Begin g task) m h is = at_own (Begin g task) g h is m
  may_do (Called g k call answer left) m h is = at_own (Called g k call answer left) g h is m.0
  may_do (Torn g k call left) m h is = at_own (Torn g k call left) g h is m.0
  may_do other m h is = absurd (true≢false (sym is))

  on_own : (e : Filled) (d k : ℕ) → (d == k) ≡ true → Goes c d (w.disk d) e (disk_step (w.disk d) e) → Goes c k (w.disk k) e (disk_step (w.disk k) e)
  on_own e d k is m = subst (λ (n : ℕ). Goes c n (w.disk n) e (disk_step (w.disk n) e)) (eqb-true d k is) m

  goes : (e : Filled) → MayFollow c w e → (k : ℕ) → is_on k e ≡ true → Goes c k (w.disk k) e (disk_step (w.disk k) e)
  goes (Called g d call answer left) m k is = on_own (Called g d call answer left) d k is m.1
  goes (Torn g d call left) m k is = on_own (Torn g d call left) d k is m.1
  goes (Crashed d left) m k is = on_own (Crashed d left) d k is (m.0.0, m.0.1, m.1, m.2)
  goes (Lost d) m k is = on_own (Lost d) d k is (m.0, m.1, refl)
  goes (Migrated disks commands) m k is = absurd m
  goes other m k is = absurd (true≢false (sym is))

module _ (c : Shape) where
  does_from : (before es : List Filled) → IsRunFrom c before es → (h : ℕ) → Does c h ((world c before).host h) (of_host h es)
  does_from before [] r h = tt
  does_from before (e ∷ es) r h =
      let old = (world c before).host h in
      let rest = does_from (before ++ e ∷ []) es r.1 h in
      elim (cases_Bool (is_of h e)) [
        | inl is ↦ subst (λ (b : Bool). Does c h old (cond b (e ∷ of_host h es) (of_host h es))) (sym is)
            (may_do c (world c before) e r.0 h is, subst (λ (host : Host). Does c h host (of_host h es)) (host_here c before e h is) rest)
        | inr is ↦ subst (λ (b : Bool). Does c h old (cond b (e ∷ of_host h es) (of_host h es))) (sym is)
            (subst (λ (host : Host). Does c h host (of_host h es)) (host_there c before e h is) rest)
      ]

  serves_from : (before es : List Filled) → IsRunFrom c before es → (k : ℕ) → Serves c k ((world c before).disk k) (on_disk k es)
  serves_from before [] r k = tt
  serves_from before (e ∷ es) r k =
      let old = (world c before).disk k in
      let rest = serves_from (before ++ e ∷ []) es r.1 k in
      elim (cases_Bool (is_on k e)) [
        | inl is ↦ subst (λ (b : Bool). Serves c k old (cond b (e ∷ on_disk k es) (on_disk k es))) (sym is)
            (disk_step old e, goes c (world c before) e r.0 k is, subst (λ (disk : DiskState). Serves c k disk (on_disk k es)) (disk_here c before e k is) rest)
        | inr is ↦ subst (λ (b : Bool). Serves c k old (cond b (e ∷ on_disk k es) (on_disk k es))) (sym is)
            (subst (λ (disk : DiskState). Serves c k disk (on_disk k es)) (disk_there c before e k is) rest)
      ]

-- no entry that follows is a migration
deed_by : (c : Shape) (w : World) (e : Filled) → MayFollow c w e → IsDeed e
deed_by c w (Migrated disks commands) m = absurd m
deed_by c w other m = tt

deeds_from : (c : Shape) (before es : List Filled) → IsRunFrom c before es → AreDeeds es
deeds_from c before [] r = tt
deeds_from c before (e ∷ es) r = (deed_by c (world c before) e r.0, deeds_from c (before ++ e ∷ []) es r.1)

pub runs_are_at_once : (c : Shape) (log : List Filled) → IsFreshRun c log → IsAtOnce c (λ k. opening_disk c) log
runs_are_at_once c log r = record { hosts = does_from c [] log r; deeds = deeds_from c [] log r; held = λ k. zeros_hold_nothing c.slots; disks = serves_from c [] log r }
