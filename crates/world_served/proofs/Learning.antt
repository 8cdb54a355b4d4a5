-- A submission that is left alone hears an answer: it goes on, is served, or learns another command for a slot that is marked.
use Rattle.std.specs.Prelude.{slice_get, map, cond, bytes_eq}
use Rattle.std.proofs.Common.{ℕ, suc, ◌+◌, ◌*◌, ◌<◌, ◌≤◌, ◌≡◌, inl, inr, Bool, true, false, Option, Some, None, List, [], ◌∷◌, ◌++◌, length, length-append, refl, sym, subst, ap, ◌∙◌, arith}
use Rattle.std.proofs.lemmas.Bool.{cases_order, both_ways, eq-eqb, eqb-true}
use Rattle.std.proofs.lemmas.List.{length-map}
use Rattle.std.proofs.lemmas.Option.{slice_get_within}
use Rattle.std.proofs.lemmas.Slice.Eq.{bytes_eq-Decides}
use Rattle.disk.specs.Disk.{Call, Answer}
use Rattle.attempt.specs.Answers.{Answered, on, heard_as}
use Rattle.attempt.specs.History.{IsHistory}
use Rattle.attempt.specs.Laws.{IsServed}
use Rattle.attempt.specs.Numbers.{count}
use Rattle.attempt.specs.Proposal.{ballot, best, or_else}
use Rattle.attempt.specs.Setup.{Setup}
use Rattle.attempt.specs.Status as attempt
use Rattle.attempt.specs.Status.{Status, Due, Ended, status, taken}
use Rattle.attempt.proofs.Ends.{bound}
use Rattle.attempt.proofs.Statuses.{HasNone, told_by}
use Rattle.lock_command.specs.declared.command.Command.{Command}
use Rattle.lock_command.specs.Command.{spelling}
use Rattle.lock_command.specs.Reading.{decoded}
use Rattle.paxos_block.specs.Shape.{Shape}
use Rattle.host.specs.Host.{Operation, Submitting, Attempt, Doing, Attempts, Memory, Host, Running, setup_of, input_of, learned_of, does, learns, is_submitted, after_learning, takes, by_status, hears_from}
use Rattle.host.specs.declared.task.Task.TheVariants.{Submit}
use Rattle.world.specs.Entry.{Filled, Begin, Called, is_of, host_step}
use Rattle.world.specs.World.{World, MayFollow, IsRun}
use Rattle.world.specs.Chosen.{at, migrated, Hears}
use Rattle.world.proofs.Histories.{heard_then, committed, hears_with}
use Rattle.world.proofs.Runs.{each, submits_reads}
use Rattle.world_safety.specs.Goes.{ProposesWith}
use Rattle.world_safety.specs.Next.{next_world}
use Rattle.world_safety.proofs.Runs.Knowing.{later_chosen}
use Rattle.world_safety.proofs.Runs.Tracks.{moves_at, tied_at, all_submitted_before, IsPutBefore, put_by_then, decided_at}
use Rattle.world_safety.specs.Tracks.{IsChosenBefore}
use Rattle.world_served.specs.Alone.{TriesNone}
use Rattle.world_served.specs.Served.{IsLeftAlone}
use Rattle.world_served.proofs.Answered.{served}
use Rattle.world_served.proofs.Counting.{one_past}
use Rattle.world_served.proofs.Hearing.{rests_then}
use Rattle.world_served.proofs.Resting.{Rests}
use Rattle.world_served.proofs.Serving as serving

-- a submission has a value to propose
has_value : (found : Option (List ℕ)) (value : List ℕ) → or_else found (Some value) ≡ None → ⊥
has_value None value is = absurd (cc)
has_value (Some other) value is = absurd (cc)

module _ (c : Shape) (log : List Filled) (run : IsRun c log) (some : 1 ≤ c.disks) (i j host tries : ℕ) (command : Command) (marks : ℕ → Bool) (alone : IsLeftAlone c log i j host tries command marks) where
  abbrev base : ℕ
  base = length (learned_of ((at c log i).host host))

  abbrev width : ℕ
  width = 17 * c.disks

  abbrev most : ℕ
  most = 17 * c.disks * (count c.slots marks + 1)

  abbrev SoFar : ℕ → World → Memory → Option Doing → Type 0
  SoFar calls w m o = serving.SoFar c log i host command marks calls w m o

  abbrev Serves : ℕ → World → Type 0
  Serves calls w = serving.Serves c log i host command marks calls w

  abbrev IsOwn : World → Type 0
  IsOwn w = serving.IsOwn c log i host command marks w

  module _ (k : ℕ) (behind : i < k) (before : k < j) (d : ℕ) (call : Call) (answer : Answer) (left : List ℕ) (entry : slice_get log k ≡ Some (Called host d call answer left)) (calls : ℕ)
      (earlier : (p : ℕ) → i < p → p ≤ k → IsOwn (at c log p)) (m : Memory) (running : (at c log k).host host ≡ Running m) (t : Attempt) (doing : m.doing ≡ Some (Attempts t)) (is : serving.IsServing c log i host command marks calls (at c log k) m t) where
    abbrev w : World
    w = at c log k

    abbrev e : Filled
    e = Called host d call answer left

    abbrev x : Answered
    x = record { disk = d; heard = heard_as answer }

    abbrev s : Setup
    s = setup_of c host m t.operation

    abbrev heard : List Answered
    heard = t.heard ++ x ∷ []

    abbrev going : Attempt
    going = record { operation = t.operation; tries = t.tries; heard = heard }

    abbrev after : World
    after = next_world c w e

    -- the attempt's rows rest, so with the answer it is served
    hears_it : Hears c log k s heard
    hears_it = hears_with c log k host d call answer left entry m running t doing

    history : IsHistory s heard
    history = heard_then c log k s heard run hears_it

    may : MayFollow c w e
    may = each c log k e run entry

    rests : Rests host (length m.learned) after.disk (on heard)
    rests = rests_then c w (moves_at c log run k) (tied_at c log run k) host m t running doing d call answer left may.0 may.1 is.rests

    ends : IsServed s heard (status s (on heard))
    unfolding hears_it
    ends = served s heard history (λ p e host first later one two off. (rests e).among p host first later one two off) (alone.answered k s heard hears_it behind before refl)

    longer : length heard ≡ length t.heard + 1
    longer = length-append t.heard (x ∷ [])

    -- the calls with this one
    counted : calls + 1 ≤ is.past * width + length heard
    counted = let so_many = is.bound in let one = longer in omega arith

    -- and with those of one attempt at most
    at_most : calls + 1 ≤ is.past * width + width
    at_most = let so_many = counted in let all = bound s heard history in omega arith

    -- so they are within the bound
    bounded : calls + 1 ≤ most
    bounded = let fits = is.fits in let learned = is.learned in let all = serving.enough c log i host command marks is.past (omega arith) is.marked in omega (arith, at_most, all)

    -- A VALUE WAS COMMITTED, OR DECIDED

    module _ (value : List ℕ) (chosen : IsChosenBefore c log (suc k) (length m.learned) value) where
      -- it spells a command that was submitted
      reads : (found : Command) × (decoded value ≡ Some found)
      reads =
          let by = all_submitted_before c log run (suc k) (length m.learned) value chosen in
          (by.command, ap decoded by.spelled ∙ submits_reads c (at c log by.place) by.entry by.command (each c log by.place by.entry run by.is) by.submits)

      -- where it is not this one, and some host put it in by then, the slot had a proposal
      module _ (other : bytes_eq (spelling command) value ≡ false) (by : IsPutBefore c log run (suc k) (length m.learned) value) where
        -- not this host behind the submission, which puts in its own
        put_own : (h : ℕ) → h ≡ host → (q : Memory) (u : Attempt) → (at c log by.place).host h ≡ Running q → q.doing ≡ Some (Attempts u) → input_of u.operation ≡ Some value → i < by.place → ⊥
        put_own h same q u runs does input late =
            let here = subst (λ (g : ℕ). (at c log by.place).host g ≡ Running q) same runs in
            let own : u.operation ≡ Submitting command = earlier by.place late (let b = by.before in omega arith) q u here does in
            let both : Some (spelling command) ≡ Some value = sym (ap input_of own) ∙ input in
            let equal : spelling command ≡ value = cc in
            both_ways (bytes_eq (spelling command) value) other ((bytes_eq-Decides (spelling command) value).1 equal)

        -- so nobody did behind it
        put_late : (o : Filled) → slice_get log by.place ≡ Some o → is_of by.put.host o ≡ true → ProposesWith c by.put.host by.put.memory by.put.doing o value → i < by.place → ⊥
        put_late (Called g n other_call other_answer bytes) found of votes late =
            elim (alone.alone.calls by.place g n other_call other_answer bytes late (let b = by.before in omega arith) found) [
              | inl its ↦ put_own by.put.host (sym (eqb-true g by.put.host of) ∙ its) by.put.memory by.put.doing by.put.running by.put.does by.put.input late
              | inr rests ↦ subst (TriesNone c log by.place) (eqb-true g by.put.host of) rests by.put.memory by.put.doing by.put.running by.put.does
            ]
        put_late other_entry found of votes late = votes

        -- nor with it
        put_now : i ≡ by.place → ⊥
        put_now same =
            let both : Some (Begin host (Submit command tries)) ≡ Some by.entry = sym alone.submitted ∙ ap (slice_get log) same ∙ by.is in
            let one : by.entry ≡ Begin host (Submit command tries) = cc in
            subst (λ (o : Filled). ProposesWith c by.put.host by.put.memory by.put.doing o value) one by.put.proposes

        -- and whoever did before it had a proposal for the slot
        put_early : (o : Filled) → slice_get log by.place ≡ Some o → is_of by.put.host o ≡ true → ProposesWith c by.put.host by.put.memory by.put.doing o value → by.place < i → marks (length m.learned) ≡ true
        put_early (Called g n other_call other_answer bytes) found of votes early =
            let put = by.put in
            alone.marked.proposed (length m.learned) by.place (ballot (setup_of c put.host put.memory put.doing.operation) (on (put.doing.heard ++ record { disk = n; heard = heard_as other_answer } ∷ []))) value early
            (record {
              setup = setup_of c put.host put.memory put.doing.operation;
              heard = put.doing.heard ++ record { disk = n; heard = heard_as other_answer } ∷ [];
              hears = hears_with c log by.place put.host n other_call other_answer bytes (found ∙ ap (λ (q : ℕ). Some (Called q n other_call other_answer bytes)) (eqb-true g put.host of))
                  put.memory put.running put.doing put.does;
              on_slot = sym put.on_slot;
              proposes = votes;
              in_ballot = refl;
            })
            (let learned = is.learned in omega arith)
        put_early other_entry found of votes early = absurd votes

        put_marked : marks (length m.learned) ≡ true
        put_marked = elim (cases_order by.place i) [
          | inl same ↦ absurd (put_now (sym same))
          | inr (inl early) ↦ put_early by.entry by.is by.put.of by.put.proposes early
          | inr (inr late) ↦ absurd (put_late by.entry by.is by.put.of by.put.proposes late)
        ]

      -- or it was migrated: so its slot is marked
      is_marked : bytes_eq (spelling command) value ≡ false → marks (length m.learned) ≡ true
      is_marked other = elim (put_by_then c log run (suc k) (length m.learned) value chosen) [
        | inl by ↦ put_marked other by
        | inr migrated_so ↦
            (let within = slice_get_within (map spelling (migrated log)) (length m.learned) value migrated_so in
            let size = length-map (migrated log) spelling in
            alone.marked.migrated (length m.learned) (omega arith) (let learned = is.learned in omega arith))
      ]

      -- as are all that were learned meanwhile
      all_marked : bytes_eq (spelling command) value ≡ false → (slot : ℕ) → base ≤ slot → slot < base + suc is.past → marks slot ≡ true
      all_marked other slot above below = elim (cases_order slot (length m.learned)) [
        | inl same ↦ ap marks same ∙ is_marked other
        | inr (inl less) ↦ is.marked slot above (let learned = is.learned in omega arith)
        | inr (inr more) ↦ absurd (let learned = is.learned in omega arith)
      ]

      -- its own command is acknowledged, with another the next slot is tried
      learned_so : (found : Command) (own : Bool) → bytes_eq (spelling command) value ≡ own → SoFar (calls + 1) after (after_learning c m going found own) (after_learning c m going found own).doing
      learned_so found true same = bounded
      learned_so found false other =
          serving.goes_on_so c log i host command marks some (calls + 1) after (learns m found) t.operation t.tries (suc is.past) is.operation
          (let learned = is.learned in omega (arith, length-append m.learned (found ∷ [])))
          (all_marked other) (let all = at_most in let next = one_past is.past width in omega arith) bounded

      -- whether it is its own
      owned : is_submitted t.operation value ≡ bytes_eq (spelling command) value
      owned = ap (λ (o : Operation). is_submitted o value) is.operation

      -- so it is with what was committed
      taken_so : (b : ℕ) → SoFar (calls + 1) after (takes c m going b value (decoded value)) (takes c m going b value (decoded value)).doing
      taken_so b =
          let found = reads in
          subst (λ (o : Option Command). SoFar (calls + 1) after (takes c m going b value o) (takes c m going b value o).doing) (sym found.1)
          (learned_so found.0 (is_submitted t.operation value) (sym owned))

    -- and however the attempt stands
    status_so : (b : ℕ) (st : Status) → status s (on heard) ≡ st → IsServed s heard st → SoFar (calls + 1) after (by_status c m going b st) (by_status c m going b st).doing
    status_so b (Due p n) so serves =
        record { quiet = refl; operation = is.operation; past = is.past; learned = is.learned; marked = is.marked; fits = is.fits; short = serves; bound = counted; rests = rests }
    status_so b (Ended (attempt.Committed value)) so serves = taken_so value (inl (record { place = k; before = omega arith; is = committed c log k s heard value run hears_it so })) b
    status_so b (Ended (attempt.Decided value)) so serves =
        taken_so value (later_chosen c log k (length m.learned) value (decided_at c log run k host d call answer left entry m t value running doing so)) b
    status_so b (Ended attempt.Empty) so serves =
        let none : HasNone s (on heard) = told_by s (on heard) (Ended attempt.Empty) so in
        absurd (has_value (best s (on heard)).inp (spelling command) (subst (λ (o : Operation). or_else (best s (on heard)).inp (input_of o) ≡ None) is.operation none.none))
    status_so b (Ended (attempt.Outrun mbal)) so serves = absurd serves
    status_so b (Ended attempt.NoMajority) so serves = absurd serves
    status_so b (Ended attempt.BallotsSpent) so serves = bounded

    abbrev new : Memory
    new = by_status c m going (taken s (on heard)) (status s (on heard))

    -- the host behind the entry
    now : host_step c host (w.host host) e ≡ Running new
    now = ap (λ (old : Host). host_step c host old e) running ∙ ap (λ (o : Option Doing). Running (hears_from c host m o d answer)) doing

    -- with its answer what holds goes on
    pub answered_so : Serves (calls + 1) after
    answered_so =
        record {
          memory = new;
          running = ap (λ (b : Bool). cond b (host_step c host (w.host host) e) (w.host host)) (eq-eqb host host refl) ∙ now;
          so_far = status_so (taken s (on heard)) (status s (on heard)) refl ends;
        }
