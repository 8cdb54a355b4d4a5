-- A recovery of a host misses nothing that any host had learned when it began.
use Rattle.std.specs.Prelude.{map, slice_get}
use Rattle.std.proofs.Common.{ℕ, zero, suc, ◌+◌, ◌<◌, ◌≤◌, ◌≡◌, Some, List, [], ◌∷◌, length, true, refl, sym, subst, ap, ◌∙◌, arith}
use Rattle.disk.specs.Disk.{Call, Answer}
use Rattle.lock_command.specs.declared.command.Command.{Command}
use Rattle.lock_command.specs.Command.{spelling}
use Rattle.paxos_block.specs.Shape.{Shape}
use Rattle.host.specs.declared.answer.HostAnswer.TheVariants.{Recovered}
use Rattle.host.specs.Host.{said_of}
use Rattle.host.specs.Kept.{Kept}
use Rattle.host.specs.declared.task.Task.{Task}
use Rattle.host.specs.declared.task.Task.TheVariants.{Recover}
use Rattle.world.specs.Entry.{Filled, Begin, Called, Migrated, is_of}
use Rattle.world.specs.Chosen.{at, migrated, SaysAt, IsCallOf, IsRecovery}
use Rattle.world.specs.Headline.{prefix_at}
use Rattle.world_safety.specs.Tracks.{AreChosen}
use Rattle.world_safety.proofs.Claims.Recovering.{misses_nothing}
use Rattle.world_safety.proofs.Claims.Safety.{learned_true}
use Rattle.world_safety.proofs.Runs.Knowing.{chosen_upto}
use Rattle.world_safety.proofs.Runs.Tracks.{all_true}
use Rattle.at_once.specs.AtOnce.{bare, IsRunOf}
use Rattle.at_once.specs.Joined.{HasRecovered}

-- PLACES

record Maps {A B : Type 0} (f : A → B) (xs : List A) (k : ℕ) (y : B) : Type 0 where
  item : A
  here : slice_get xs k ≡ Some item
  is : f item ≡ y

module _ {A B : Type 0} (f : A → B) where
  at_map : (xs : List A) (k : ℕ) (x : A) → slice_get xs k ≡ Some x → slice_get (map f xs) k ≡ Some (f x)
  at_map [] k x is = absurd (cc)
  at_map (y ∷ xs) zero x is = let same : y ≡ x = cc in ap (λ (a : A). Some (f a)) same
  at_map (y ∷ xs) (suc k) x is = at_map xs k x is

  of_map : (xs : List A) (k : ℕ) (y : B) → slice_get (map f xs) k ≡ Some y → Maps f xs k y
  of_map [] k y is = absurd (cc)
  of_map (x ∷ xs) zero y is = record { item = x; here = refl; is = let same : f x ≡ y = cc in same }
  of_map (x ∷ xs) (suc k) y is = let rest = of_map xs k y is in record { item = rest.item; here = rest.here; is = rest.is }

record HasItem {A : Type 0} (l : List A) (k : ℕ) : Type 0 where
  item : A
  is : slice_get l k ≡ Some item

last_item : {A : Type 0} (x : A) (xs : List A) → HasItem (x ∷ xs) (length xs)
last_item x [] = record { item = x; is = refl }
last_item x (y ∷ xs) = let rest = last_item y xs in record { item = rest.item; is = rest.is }

all_below : {A : Type 0} (l : List A) (n : ℕ) → ((k : ℕ) (x : A) → slice_get l k ≡ Some x → k < n) → length l ≤ n
all_below [] n below = omega arith
all_below (x ∷ xs) n below = let last = last_item x xs in omega (arith, below (length xs) last.item last.is)

-- WITHOUT THE BYTES LEFT

bare_of : (h : ℕ) (x : Filled) → is_of h (bare x) ≡ is_of h x
bare_of h (Called g k call answer left) = refl
bare_of h other = refl

bare_begins : (x : Filled) (h : ℕ) (task : Task) → bare x ≡ Begin h task → x ≡ Begin h task
bare_begins (Begin g given) h task is = is
bare_begins other h task is = absurd (cc)

bare_called : (x : Filled) (h d : ℕ) (call : Call) (answer : Answer) → bare x ≡ Called h d call answer [] → IsCallOf h x
bare_called (Called g k made told left) h d call answer is =
    let same : g ≡ h = cc in
    record { disk = k; call = made; answer = told; left = left; is = ap (λ (n : ℕ). Called n k made told left) same }
bare_called other h d call answer is = absurd (cc)

bare_migrated : (xs : List Filled) → migrated (map bare xs) ≡ migrated xs
bare_migrated [] = refl
bare_migrated (Migrated disks commands ∷ xs) = refl
bare_migrated (other ∷ xs) = refl

module _ (c : Shape) (log : List Filled) (of : IsRunOf c log) where
  -- the run begins with the same migration
  pub begins_alike : migrated of.run ≡ migrated log
  begins_alike = sym (bare_migrated of.run) ∙ ap migrated of.same ∙ bare_migrated log

  -- what stands in the run where this stands in the list
  in_run : (k : ℕ) (e : Filled) → slice_get log k ≡ Some e → Maps bare of.run k (bare e)
  in_run k e is = of_map bare of.run k (bare e) (ap (λ (l : List Filled). slice_get l k) of.same ∙ at_map bare log k e is)

  in_log : (k : ℕ) (x : Filled) → slice_get of.run k ≡ Some x → Maps bare log k (bare x)
  in_log k x is = of_map bare log k (bare x) (ap (λ (l : List Filled). slice_get l k) (sym of.same) ∙ at_map bare of.run k x is)

  module _ (i j h n : ℕ) (kept : Kept) (r : HasRecovered c log i j h n kept) where
    begins : slice_get of.run i ≡ Some (Begin h (Recover r.tries))
    begins =
        let first = in_run i (Begin h (Recover r.tries)) r.begins in
        first.here ∙ ap (λ (e : Filled). Some e) (bare_begins first.item h (Recover r.tries) first.is)

    calls : (k : ℕ) (x : Filled) → i < k → k ≤ j → slice_get of.run k ≡ Some x → is_of h x ≡ true → IsCallOf h x
    calls k x after before here own =
        let there = in_log k x here in
        let call = r.calls k there.item after before there.here (sym (bare_of h there.item) ∙ ap (is_of h) there.is ∙ bare_of h x ∙ own) in
        bare_called x h call.disk call.call call.answer (sym there.is ∙ ap bare call.is)

    pub says : SaysAt c of.run j h (Recovered n)
    says =
        let there = in_run j r.entry r.last in
        record {
          entry = there.item;
          is = there.here;
          of_host = sym (bare_of h there.item) ∙ ap (is_of h) there.is ∙ bare_of h r.entry ∙ r.own;
          says = ap said_of (of.hosts (j + 1) h ∙ r.come.knows) ∙ sym r.come.leads.said ∙ r.said;
        }

    recovery : IsRecovery c of.run i j h n
    recovery = record { tries = r.tries; begins = begins; order = r.order; calls = calls; says = says }

    pub holds : (k g : ℕ) (other : Kept) → k ≤ i → prefix_at c of.run k g ≡ other.prefix → length other.prefix ≤ n
    holds k g other by same =
        let chosen : AreChosen c of.run k (prefix_at c of.run k g) = learned_true c of.run of.is k ((at c of.run k).host g) g (all_true c of.run of.is k g) in
        subst (λ (l : List Command). length l ≤ n) same
        (all_below (prefix_at c of.run k g) n (λ m command found.
        let known = chosen m command found in
        misses_nothing c of.run of.is i j h n m (spelling command) recovery (chosen_upto c of.run k i m (spelling command) by known.1)))
