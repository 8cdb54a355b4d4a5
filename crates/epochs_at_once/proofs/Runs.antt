-- Of one epoch, as a run: where a host said what it says now, and where a recovery of it began.
use Rattle.std.specs.Prelude.{slice_get, ◌-◌}
use Rattle.std.proofs.Common.{ℕ, zero, suc, ◌≡◌, ◌==◌, ◌+◌, ◌<◌, ◌≤◌, Bool, true, false, true≢false, cond, Option, Some, None, List, [], ◌∷◌, refl, sym, ◌∙◌, ap, subst, inl, inr, arith}
use Rattle.std.proofs.lemmas.Bool.{cases_lt, eqb-true}
use Rattle.disk.specs.Disk.{Call}
use Rattle.paxos_block.specs.Shape.{Shape}
use Rattle.host.specs.declared.answer.HostAnswer.{HostAnswer}
use Rattle.host.specs.Host.{Host, Stopped, Running, said_of, Doing, due_doing, due_of}
use Rattle.world.specs.Entry.{Filled, Called, Crashed, Lost, is_of}
use Rattle.world.specs.World.{World, IsRun}
use Rattle.world.specs.Chosen.{at, SaysAt, IsRecovery}
use Rattle.world.proofs.Runs.{each}
use Rattle.world_safety.proofs.Runs.Places.{at_end, host_stays}
use Rattle.endless.specs.Lived.{Lived, In, Crash, Loss, part, now}

-- nothing is under way
abbrev pub IsIdle : Host → Type 0
IsIdle Stopped = Unit {0}
IsIdle (Running m) = m.doing ≡ None

-- so no call is due
idle_calls : (c : Shape) (h : ℕ) (host : Host) (k : ℕ) → IsIdle host → due_of c h host k ≡ None
idle_calls c h Stopped k idle = refl
idle_calls c h (Running m) k idle = ap (λ (o : Option Doing). due_doing c h m o k) idle

module _ (c : Shape) (log : List Filled) (h : ℕ) where
  abbrev host_at : ℕ → Host
  host_at i = (at c log i).host h

  -- WHERE IT SAID SO

  -- the host said this by entry j, and has stayed as it was then
  pub record SaidAt (k : ℕ) (said : HostAnswer) : Type 0 where
    pub place : ℕ
    pub before : place < k
    pub says : SaysAt c log place h said
    pub still : (i : ℕ) → place < i → i ≤ k → host_at i ≡ host_at k

  said_now : (k : ℕ) (e : Filled) (said : HostAnswer) → slice_get log k ≡ Some e → is_of h e ≡ true → said_of (host_at (suc k)) ≡ Some said → SaidAt (suc k) said
  said_now k e said found own is =
      record {
        place = k;
        before = omega arith;
        says = record {
          entry = e;
          is = found;
          of_host = own;
          says = ap (λ (n : ℕ). said_of (host_at n)) (let same : k + 1 ≡ suc k = omega arith in same) ∙ is;
        };
        still = λ i above upto. ap host_at (let same : i ≡ suc k = omega (arith, above, upto) in same);
      }

  -- where the host stays as it was
  said_on : (k : ℕ) (said : HostAnswer) → host_at (suc k) ≡ host_at k → SaidAt k said → SaidAt (suc k) said
  said_on k said same earlier =
      record {
        place = earlier.place;
        before = (let low = earlier.before in omega (arith, low));
        says = earlier.says;
        still = λ i above upto.
            elim (cases_lt k i) [
              | inl last ↦ ap host_at (let is : i ≡ suc k = omega (arith, last, upto) in is)
              | inr within ↦ earlier.still i above within ∙ sym same
            ];
      }

  pub said_before : (k : ℕ) (said : HostAnswer) → said_of (host_at k) ≡ Some said → SaidAt k said
  said_before zero said is = absurd (cc)
  said_before (suc k) said is = by_entry (slice_get log k) refl (λ earlier. said_before k said earlier)
    where
      -- the host stays as it was
      stays : host_at (suc k) ≡ host_at k → (said_of (host_at k) ≡ Some said → SaidAt k said) → SaidAt (suc k) said
      stays same rest = said_on k said same (rest (sym (ap said_of same) ∙ is))

      by_owner : (e : Filled) → slice_get log k ≡ Some e → (b : Bool) → is_of h e ≡ b → (said_of (host_at k) ≡ Some said → SaidAt k said) → SaidAt (suc k) said
      by_owner e found true own rest = said_now k e said found own is
      by_owner e found false other rest = stays (host_stays c log k e h found other) rest

      by_entry : (o : Option Filled) → slice_get log k ≡ o → (said_of (host_at k) ≡ Some said → SaidAt k said) → SaidAt (suc k) said
      by_entry None ended rest = stays (ap (λ (w : World). w.host h) (at_end c log k ended)) rest
      by_entry (Some e) found rest = by_owner e found (is_of h e) refl rest

  -- WHERE A RECOVERY BEGAN

  module _ (run : IsRun c log) (i j n : ℕ) (recovery : IsRecovery c log i j h n) where
    -- an idle host makes no call
    not_called : (k : ℕ) (e : Filled) → i < k → k ≤ j → slice_get log k ≡ Some e → IsIdle (host_at k) → is_of h e ≡ true → ⊥
    not_called k e above upto found idle own =
        let call = recovery.calls k e above upto found own in
        let may = each c log k (Called h call.disk call.call call.answer call.left) run (found ∙ ap (λ (x : Filled). Some x) call.is) in
        let clash : None ≡ Some call.call = sym (idle_calls c h (host_at k) call.disk idle) ∙ may.0 in
        absurd (cc)

    -- so it stays so
    stays_idle : (k : ℕ) → i < k → k ≤ j → IsIdle (host_at k) → IsIdle (host_at (suc k))
    stays_idle k above upto idle = by_entry (slice_get log k) refl
      where
        by_owner : (e : Filled) → slice_get log k ≡ Some e → (b : Bool) → is_of h e ≡ b → IsIdle (host_at (suc k))
        by_owner e found true own = absurd (not_called k e above upto found idle own)
        by_owner e found false other = subst IsIdle (sym (host_stays c log k e h found other)) idle

        by_entry : (o : Option Filled) → slice_get log k ≡ o → IsIdle (host_at (suc k))
        by_entry None ended = subst IsIdle (sym (ap (λ (w : World). w.host h) (at_end c log k ended))) idle
        by_entry (Some e) found = by_owner e found (is_of h e) refl

    idle_later : (more k : ℕ) → i < k → k + more ≤ j → IsIdle (host_at k) → IsIdle (host_at (k + more))
    idle_later zero k above upto idle = subst (λ (m : ℕ). IsIdle (host_at m)) (let same : k ≡ k + 0 = omega arith in same) idle
    idle_later (suc more) k above upto idle =
        subst (λ (m : ℕ). IsIdle (host_at m)) (let same : suc k + more ≡ k + suc more = omega arith in same)
        (idle_later more (suc k) (omega (arith, above)) (omega (arith, upto)) (stays_idle k above (omega (arith, upto)) idle))

    -- a host that was idle before it said that it has recovered had not begun to
    pub began_after : (k : ℕ) → k ≤ j → IsIdle (host_at k) → k ≤ i
    began_after k upto idle =
        elim (cases_lt i k) [
          | inr not_before ↦ not_before
          | inl before ↦
              (let at_last = idle_later (j - k) k before (omega (arith, upto)) idle in
              let is : k + (j - k) ≡ j = omega (arith, upto) in
              absurd (not_called j recovery.says.entry (omega (arith, before, upto)) (omega arith) recovery.says.is (subst (λ (m : ℕ). IsIdle (host_at m)) is at_last) recovery.says.of_host))
        ]

-- PLACES OF ALL EPOCHS

-- an entry of a host in an epoch has its place among all that is lived
pub place_at : (e h i : ℕ) (entry : Filled) (lived : List Lived) → slice_get (part e lived) i ≡ Some entry → is_of h entry ≡ true → (p : ℕ) × (slice_get lived p ≡ Some (In e entry)) × (now e p lived ≡ i)
place_at e h i entry [] found own = absurd (cc)
place_at e h zero entry (Crash disk left ∷ lived) found own = absurd (let is : Crashed disk (left e) ≡ entry = cc in true≢false (sym own ∙ sym (ap (is_of h) is)))
place_at e h (suc i) entry (Crash disk left ∷ lived) found own = let rest = place_at e h i entry lived found own in (suc rest.0, rest.1, ap suc rest.2)
place_at e h zero entry (Loss disk ∷ lived) found own = absurd (let is : Lost disk ≡ entry = cc in true≢false (sym own ∙ sym (ap (is_of h) is)))
place_at e h (suc i) entry (Loss disk ∷ lived) found own = let rest = place_at e h i entry lived found own in (suc rest.0, rest.1, ap suc rest.2)
place_at e h i entry (In epoch first ∷ lived) found own = either (epoch == e) refl i found (λ j there. place_at e h j entry lived there own)
  where
    either : (b : Bool) → (epoch == e) ≡ b → (j : ℕ) → slice_get (cond b (first ∷ part e lived) (part e lived)) j ≡ Some entry
        → ((k : ℕ) → slice_get (part e lived) k ≡ Some entry → (p : ℕ) × (slice_get lived p ≡ Some (In e entry)) × (now e p lived ≡ k))
        → (p : ℕ) × (slice_get (In epoch first ∷ lived) p ≡ Some (In e entry)) × (now e p (In epoch first ∷ lived) ≡ j)
    either true is zero there rest =
        let same : first ≡ entry = cc in
        (0, ap (λ (x : Filled). Some (In epoch x)) same ∙ ap (λ (n : ℕ). Some (In n entry)) (eqb-true epoch e is), refl)
    either true is (suc j) there rest =
        let later = rest j there in
        (suc later.0, later.1, ap (λ (b : Bool). cond b (suc (now e later.0 lived)) (now e later.0 lived)) is ∙ ap suc later.2)
    either false is j there rest =
        let later = rest j there in
        (suc later.0, later.1, ap (λ (b : Bool). cond b (suc (now e later.0 lived)) (now e later.0 lived)) is ∙ later.2)
