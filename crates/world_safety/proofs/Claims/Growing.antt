-- The log so far begins the log of the whole; and no recovery is shorter than one before.
use Rattle.std.specs.Prelude.{slice_get, take}
use Rattle.std.proofs.Common.{ℕ, zero, suc, ◌+◌, ◌<◌, ◌≡◌, inl, inr, Some, List, [], ◌∷◌, sym, subst, ap, ◌∙◌, arith}
use Rattle.std.proofs.lemmas.Bool.{cases_lt}
use Rattle.std.proofs.lemmas.List.{take-take}
use Rattle.lock_command.specs.Command.{spelling}
use Rattle.paxos_block.specs.Shape.{Shape}
use Rattle.host.specs.declared.answer.HostAnswer.TheVariants.{Recovered}
use Rattle.host.specs.Host.{learned_of}
use Rattle.world.specs.Entry.{Filled, Migrated}
use Rattle.world.specs.World.{World, world, IsRun}
use Rattle.world.specs.Chosen.{at, IsChosenAt, IsMigrated, IsChosen, SaysAt}
use Rattle.world.proofs.Safe.{its_log}
use Rattle.agreement.proofs.Slots.{value_below}
use Rattle.world_safety.specs.Claims.{LogGrows, NoneShorter}
use Rattle.world_safety.specs.Tracks.{IsChosenBefore}
use Rattle.world_safety.proofs.Runs.Commands.{begins_by}
use Rattle.world_safety.proofs.Runs.Knowing.{chosen_upto}
use Rattle.world_safety.proofs.Runs.Tracks.{all_true}
use Rattle.world_safety.proofs.Claims.Recovering.{misses_nothing}
use Rattle.world_safety.proofs.Claims.Safety.{commands, is_safe, as_many, learned_true}

-- an item of a beginning is one of the whole
get_taken : {A : Type 0} (l : List A) (i k : ℕ) (x : A) → slice_get (take i l) k ≡ Some x → (k < i) × (slice_get l k ≡ Some x)
get_taken l zero k x is = absurd (cc)
get_taken [] (suc i) k x is = absurd (cc)
get_taken (y ∷ l) (suc i) zero x is = (omega arith, is)
get_taken (y ∷ l) (suc i) (suc k) x is = let rest = get_taken l i k x is in (omega (arith, rest.0), rest.1)

-- what was migrated in a beginning was in the whole
of_beginning : (log : List Filled) (i slot : ℕ) (v : List ℕ) → IsMigrated (take i log) slot v → IsMigrated log slot v
of_beginning log zero slot v is = absurd (cc)
of_beginning [] (suc i) slot v is = is
of_beginning (Migrated disks moved ∷ es) (suc i) slot v is = is
of_beginning (other ∷ es) (suc i) slot v is = is

module _ (c : Shape) (log : List Filled) (run : IsRun c log) where
  -- what is chosen in a beginning is chosen in the whole
  chosen_whole : (i j slot : ℕ) (v : List ℕ) → IsChosenAt c (take i log) j slot v → IsChosenAt c log j slot v
  chosen_whole i j slot v is =
      let hears = is.hears in
      let found = get_taken log i j _ hears.entry in
      let same : at c (take i log) j ≡ at c log j = ap (world c) (take-take j i log (let below = found.0 in omega arith)) in
      record {
        setup = is.setup;
        heard = is.heard;
        hears = record {
          host = hears.host;
          disk = hears.disk;
          call = hears.call;
          answer = hears.answer;
          left = hears.left;
          entry = found.1;
          memory = hears.memory;
          running = ap (λ (w : World). w.host hears.host) (sym same) ∙ hears.running;
          doing = hears.doing;
          does = hears.does;
          is_setup = hears.is_setup;
          is_heard = hears.is_heard;
        };
        on_slot = is.on_slot;
        chooses = is.chooses;
      }

  chosen_in : (i slot : ℕ) (v : List ℕ) → IsChosen c (take i log) slot v → IsChosen c log slot v
  chosen_in i slot v (inl chosen) = inl (chosen.0, chosen_whole i chosen.0 slot v chosen.1)
  chosen_in i slot v (inr is) = inr (of_beginning log i slot v is)

  pub log_grows : LogGrows c log
  log_grows i values longer is whole =
      let safe = is_safe c log run in
      let same = its_log c log (commands c log run) safe longer whole in
      begins_by values longer (λ k v found. subst (λ (l : List (List ℕ)). slice_get l k ≡ Some v) (sym same) (safe.one k v (chosen_in i k v (is.chosen k v found))))

  -- RECOVERIES

  -- all that a recovery has learned was chosen by then
  recovered_chosen : (i host n k : ℕ) → SaysAt c log i host (Recovered n) → k < n → (v : List ℕ) × IsChosenBefore c log (i + 1) k v
  recovered_chosen i host n k says below =
      let learned = learned_of ((at c log (i + 1)).host host) in
      let many = as_many c log run i host n says in
      let found = value_below learned k (omega arith) in
      (spelling found.0, (learned_true c log run (i + 1) ((at c log (i + 1)).host host) host (all_true c log run (i + 1) host) k found.0 found.1).1)

  pub none_shorter : NoneShorter c log
  none_shorter i j k l host other n m first second before = elim (cases_lt m n) [
    | inr not_less ↦ not_less
    | inl shorter ↦ (let chosen = recovered_chosen j host n m first.says shorter in
        absurd (let below = misses_nothing c log run k l other m m chosen.0 second (chosen_upto c log (j + 1) k m chosen.0 (omega arith) chosen.1) in omega arith))
  ]
