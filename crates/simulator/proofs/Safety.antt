-- What is proved of every run, as a report needs it. No other file here cites why it is so.
use Rattle.std.specs.Prelude.{map, slice_get}
use Rattle.std.proofs.Common.{ℕ, zero, suc, ◌+◌, ◌<◌, ◌≤◌, ◌≡◌, Some, inl, inr, true, List, [], ◌∷◌, length, refl, arith}
use Rattle.std.proofs.lemmas.Bool.{cases_lt}
use Rattle.lock_command.specs.declared.command.Command.{Command}
use Rattle.lock_command.specs.Command.{spelling}
use Rattle.lock_command.specs.declared.reply.Reply.{Reply}
use Rattle.paxos_block.specs.Shape.{Shape}
use Rattle.host.specs.declared.answer.HostAnswer.{HostAnswer}
use Rattle.host.specs.declared.answer.HostAnswer.TheVariants.{Ack, Recovered}
use Rattle.host.specs.Host.{idles}
use Rattle.world.specs.Entry.{Filled}
use Rattle.world.specs.World.{IsRun}
use Rattle.world.specs.Chosen.{at, IsLog, SaysAt}
use Rattle.world.specs.Headline.{IsPrefix, prefix_at, IsSafe}
use Rattle.world.proofs.Safe.{one_log}
use Rattle.world_safety.specs.Tracks.{IsChosenBefore, Counts}
use Rattle.world_safety.proofs.Runs.Knowing.{chosen_upto}
use Rattle.world_safety.proofs.Runs.Tracks.{all_true}
use Rattle.world_safety.proofs.Claims.Recovering.{idle_before, empty_shows}
use Rattle.world_safety.proofs.Claims.Safety.{commands, is_safe, prefix, acked_chosen, counts_all, learned_true}

-- something stands at each place of a list
value_below : {A : Type 0} (l : List A) (k : ℕ) → k < length l → (x : A) × (slice_get l k ≡ Some x)
value_below [] k below = absurd (omega (arith, below))
value_below (x ∷ l) zero below = (x, refl)
value_below (x ∷ l) (suc k) below = value_below l k (omega (arith, below))

module _ (c : Shape) (log : List Filled) (run : IsRun c log) where
  -- the log, and that all goes by it
  abbrev pub logged : List Command
  logged = commands c log run

  pub safe : IsSafe c log logged
  safe = is_safe c log run

  pub no_other : (values : List (List ℕ)) → IsLog c log values → values ≡ map spelling logged
  no_other values is = one_log c log logged safe values (map spelling logged) is safe.is_log

  pub begins : (i host : ℕ) → IsPrefix (prefix_at c log i host) logged
  begins i host = prefix c log run i host

  -- a recovery holds what was acknowledged before a place where its host was idle
  pub misses_nothing : (i j host n place other slot : ℕ) (reply : Reply) → idles ((at c log i).host host) ≡ true → i ≤ j → SaysAt c log j host (Recovered n)
      → place < i → SaysAt c log place other (Ack slot reply) → slot < n
  misses_nothing i j host n place other slot reply idle le says before acked =
      let chosen = acked_chosen c log run place other slot reply acked in
      empty_shows c log run i j host n slot chosen.0
      (λ trying. absurd (idle_before c log run ((at c log i).host host) trying.memory trying.doing idle trying.running trying.does)) le says (chosen_upto c log (place + 1) i slot chosen.0 (omega arith) chosen.1)

  -- all that a host has learned was chosen by then
  learned_chosen : (place host slot : ℕ) → slot < length (prefix_at c log place host) → (v : List ℕ) × IsChosenBefore c log place slot v
  learned_chosen place host slot below =
      let learned = prefix_at c log place host in
      let found = value_below learned slot below in
      (spelling found.0, (learned_true c log run place ((at c log place).host host) host (all_true c log run place host) slot found.0 found.1).1)

  -- so a recovery that began later has learned as much
  pub holds_learned : (i j host n place other : ℕ) → idles ((at c log i).host host) ≡ true → i ≤ j → SaysAt c log j host (Recovered n)
      → place ≤ i → length (prefix_at c log place other) ≤ n
  holds_learned i j host n place other idle le says before = elim (cases_lt n (length (prefix_at c log place other))) [
    | inr not_less ↦ not_less
    | inl shorter ↦ (let chosen = learned_chosen place other n shorter in
        absurd (let below = empty_shows c log run i j host n n chosen.0
        (λ trying. absurd (idle_before c log run ((at c log i).host host) trying.memory trying.doing idle trying.running trying.does)) le says (chosen_upto c log place i n chosen.0 before chosen.1) in omega arith))
  ]

  -- whoever counts what it has learned counts all
  pub counts : (i host : ℕ) (said : HostAnswer) → SaysAt c log i host said → Counts (Some said) (length (prefix_at c log (i + 1) host))
  counts i host said says = counts_all c log run i host said says
