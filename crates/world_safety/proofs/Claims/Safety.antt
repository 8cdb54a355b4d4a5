-- Every run has a log, by which all that hosts choose, learn and say goes.
use Rattle.std.specs.Prelude.{slice_get, map, take}
use Rattle.std.proofs.Common.{ℕ, ◌+◌, ◌<◌, ◌≤◌, ◌≡◌, inl, inr, Option, Some, List, [], ◌∷◌, ◌++◌, length, refl, sym, subst, ap, ◌∙◌, arith}
use Rattle.std.proofs.lemmas.Bool.{cases_lt, cases_eq}
use Rattle.std.proofs.lemmas.List.{length-take}
use Rattle.agreement.proofs.Slots.{value_below}
use Rattle.lock_command.specs.declared.command.Command.{Command}
use Rattle.lock_command.specs.Command.{spelling}
use Rattle.lock_command.specs.declared.reply.Reply.{Reply}
use Rattle.lock_table.specs.Apply.{table_after}
use Rattle.paxos_block.specs.Shape.{Shape}
use Rattle.host.specs.declared.answer.HostAnswer.{HostAnswer}
use Rattle.host.specs.declared.answer.HostAnswer.TheVariants.{Ack, Recovered, Looked}
use Rattle.host.specs.Host.{Submitting, Attempt, Attempts, Memory, Host, Stopped, Running, learned_of, reply_after, said_of}
use Rattle.host.specs.declared.task.Task.TheVariants.{Recover}
use Rattle.world.specs.Entry.{Filled, Begin, Migrated}
use Rattle.world.specs.World.{IsRun}
use Rattle.world.specs.Happens.{run as happened, run_after}
use Rattle.world.specs.Chosen.{at, migrated, IsChosen, IsLog, SaysAt, IsAcknowledgedAt, IsRecovery}
use Rattle.world.specs.Headline.{IsPrefix, prefix_at, IsAcknowledgedBefore, IsSafe, Headline, HeadlineOfEvents, HeadlineOfMigrated}
use Rattle.world.proofs.Runs.{each, run_is_run, run_after_is_run, begins_migrated, migrated_reads, submits_reads}
use Rattle.world.proofs.Safe.{one_log, one_begins_other}
use Rattle.world_safety.specs.Acks.{AcksAt}
use Rattle.world_safety.specs.Log.{IsLogBefore}
use Rattle.world_safety.specs.Tracks.{IsChosenBefore, AreChosen, Counts, IsTrueDoing, IsTrue, IsTrueOf}
use Rattle.world_safety.proofs.Claims.Acknowledging.{acks_at}
use Rattle.world_safety.proofs.Runs.Commands.{IsSpelling, AreSpelled, commands_of, one_command, map_there, stands_where, begins_by}
use Rattle.world_safety.proofs.Runs.Tracks.{all_true}
use Rattle.world_safety.proofs.Runs.OneLog.{get_last, log_before, is_chosen, log_is, log_one}
use Rattle.world_safety.proofs.Claims.Begun.{all_begun}
use Rattle.world_safety.proofs.Claims.Recovering.{misses_nothing}
use Rattle.world_safety.proofs.Runs.Knowing.{chosen_upto}
use Rattle.world_safety.proofs.Runs.Tracks.{submitted_before, all_submitted_before}

module _ (c : Shape) (log : List Filled) (run : IsRun c log) where
  -- THE COMMANDS OF THE LOG

  abbrev pub values : List (List ℕ)
  values = (log_before c log run (length log)).0

  abbrev logged : IsLogBefore c log (length log) values
  logged = (log_before c log run (length log)).1

  -- each value is the spelling of a command that was submitted
  value_spells : (k : ℕ) (v : List ℕ) → slice_get values k ≡ Some v → IsSpelling v
  value_spells k v found =
      let submitted = all_submitted_before c log run (length log) k v (logged.chosen k v found) in
      record {
        command = submitted.command;
        reads = submits_reads c (at c log submitted.place) submitted.entry submitted.command (each c log submitted.place submitted.entry run submitted.is) submitted.submits;
        is = submitted.spelled;
      }

  pub spelled : AreSpelled values
  spelled = commands_of values value_spells

  abbrev pub commands : List Command
  commands = spelled.commands

  is_log : IsLog c log (map spelling commands)
  is_log = subst (IsLog c log) (sym spelled.spelled) (log_is c log run values logged)

  one : (slot : ℕ) (value : List ℕ) → IsChosen c log slot value → slice_get (map spelling commands) slot ≡ Some value
  one slot value chosen = subst (λ (l : List (List ℕ)). slice_get l slot ≡ Some value) (sym spelled.spelled) (log_one c log run values logged slot value chosen)

  -- what was migrated begins it
  begun : IsPrefix (migrated log) commands
  begun = begins_by (migrated log) commands (λ k command found. stands_where commands spelled.reads k command (migrated_reads c log run k command found) (one k (spelling command) (inr (map_there (migrated log) k command found))))

  -- WHAT HOSTS LEARN

  -- what was chosen before, of a command, is that command
  stands : (i : ℕ) (learned : List Command) → AreChosen c log i learned → (k : ℕ) (command : Command) → slice_get learned k ≡ Some command → slice_get commands k ≡ Some command
  stands i learned are k command found =
      let known = are k command found in
      stands_where commands spelled.reads k command known.0 (one k (spelling command) (is_chosen c log run i k (spelling command) known.1))

  pub learned_true : (i : ℕ) (host : Host) (h : ℕ) → IsTrueOf c log i h host → AreChosen c log i (learned_of host)
  learned_true i Stopped h is = λ k command found. absurd (cc)
  learned_true i (Running m) h is = is.learned

  pub prefix : (i host : ℕ) → IsPrefix (prefix_at c log i host) commands
  prefix i host = begins_by (prefix_at c log i host) commands (stands i (prefix_at c log i host) (learned_true i ((at c log i).host host) host (all_true c log run i host)))

  -- WHAT THEY ACKNOWLEDGE

  placed : (i host slot : ℕ) (reply : Reply) → SaysAt c log i host (Ack slot reply) → (command : Command) × IsAcknowledgedAt c log i host slot command reply
  placed i host slot reply says =
      let is = acks_at c log i host slot reply run says in
      (is.acks.command, record { says = says; memory = is.memory; running = is.running; doing = is.doing; does = is.does; submitting = is.acks.submitting })

  module _ (i host slot : ℕ) (command : Command) (reply : Reply) (acked : IsAcknowledgedAt c log i host slot command reply) where
    is : AcksAt c log i host slot reply
    is = acks_at c log i host slot reply run acked.says

    -- it is what the host was submitting
    same_memory : acked.memory ≡ is.memory
    same_memory = let both : Running acked.memory ≡ Running is.memory = sym acked.running ∙ is.running in cc

    same_command : is.acks.command ≡ command
    same_command =
        let doing : Some (Attempts acked.doing) ≡ Some (Attempts is.doing) = sym acked.does ∙ ap (λ (m : Memory). m.doing) same_memory ∙ is.does in
        let one_doing : acked.doing ≡ is.doing = cc in
        let both : Submitting is.acks.command ≡ Submitting command = sym is.acks.submitting ∙ ap (λ (t : Attempt). t.operation) (sym one_doing) ∙ acked.submitting in
        cc

    known : IsTrue c log i host is.memory
    known = subst (IsTrueOf c log i host) is.running (all_true c log run i host)

    -- and so what it has learned
    read_is : is.acks.read ≡ command
    read_is =
        let under_way : IsTrueDoing c log i host (length is.memory.learned) (Some (Attempts is.doing)) = subst (IsTrueDoing c log i host (length is.memory.learned)) is.does known.doing in
        let begun = under_way.0 is.acks.command is.acks.submitting in
        sym (one_command is.acks.command is.acks.read begun.reads is.acks.reads is.acks.same) ∙ same_command

    learned_then : learned_of ((at c log (i + 1)).host host) ≡ is.memory.learned ++ is.acks.read ∷ []
    learned_then = ap learned_of is.runs_on ∙ is.acks.learned

    acknowledged : slice_get commands slot ≡ Some command
    acknowledged =
        let last : slice_get (learned_of ((at c log (i + 1)).host host)) slot ≡ Some is.acks.read =
        ap (λ (l : List Command). slice_get l slot) learned_then ∙ ap (slice_get (is.memory.learned ++ is.acks.read ∷ [])) is.acks.slot_is ∙ get_last is.memory.learned is.acks.read in
        stands (i + 1) (learned_of ((at c log (i + 1)).host host)) (learned_true (i + 1) ((at c log (i + 1)).host host) host (all_true c log run (i + 1) host)) slot is.acks.read last ∙ ap Some read_is

    reply_is : reply ≡ reply_after (take slot commands) command
    reply_is =
        let before : is.memory.learned ≡ take (length is.memory.learned) commands =
        subst (λ (h : Host). learned_of h ≡ take (length (learned_of h)) commands) is.running (prefix i host) in
        is.acks.reply_is ∙ ap (λ (l : List Command). reply_after l is.acks.read) (before ∙ ap (λ (n : ℕ). take n commands) (sym is.acks.slot_is)) ∙ ap (reply_after (take slot commands)) read_is

  -- WHAT THEY RECOVER

  said_by : (host : Host) (said : HostAnswer) → said_of host ≡ Some said → (m : Memory) × (host ≡ Running m) × (m.said ≡ Some said)
  said_by Stopped said is = absurd (cc)
  said_by (Running m) said is = (m, refl, is)

  -- whoever counts what it has learned counts all
  pub counts_all : (i host : ℕ) (said : HostAnswer) → SaysAt c log i host said → Counts (Some said) (length (prefix_at c log (i + 1) host))
  counts_all i host said says =
      let who = said_by ((at c log (i + 1)).host host) said says.says in
      let known : IsTrue c log (i + 1) host who.0 = subst (IsTrueOf c log (i + 1) host) who.1 (all_true c log run (i + 1) host) in
      let here : Counts (Some said) (length who.0.learned) = subst (λ (o : Option HostAnswer). Counts o (length who.0.learned)) who.2 known.counts in
      subst (λ (h : Host). Counts (Some said) (length (learned_of h))) (sym who.1) here

  pub as_many : (i host n : ℕ) → SaysAt c log i host (Recovered n) → n ≡ length (prefix_at c log (i + 1) host)
  as_many i host n says = counts_all i host (Recovered n) says

  -- so many commands of the log
  first_of_log : (i host n : ℕ) → n ≡ length (prefix_at c log (i + 1) host) → (n ≤ length commands) × (prefix_at c log (i + 1) host ≡ take n commands)
  first_of_log i host n many =
      let begins = prefix (i + 1) host in
      let size = ap length begins in
      (omega (arith, many, size, length-take (length (prefix_at c log (i + 1) host)) commands), begins ∙ ap (λ (k : ℕ). take k commands) (sym many))

  recovered : (i host n : ℕ) → SaysAt c log i host (Recovered n) → (n ≤ length commands) × (prefix_at c log (i + 1) host ≡ take n commands)
  recovered i host n says = first_of_log i host n (as_many i host n says)

  looked : (i host n : ℕ) → SaysAt c log i host (Looked n) → (n ≤ length commands) × (prefix_at c log (i + 1) host ≡ take n commands)
  looked i host n says = first_of_log i host n (counts_all i host (Looked n) says)

  -- what was acknowledged was chosen then
  pub acked_chosen : (place host slot : ℕ) (reply : Reply) → SaysAt c log place host (Ack slot reply) → (value : List ℕ) × IsChosenBefore c log (place + 1) slot value
  acked_chosen place host slot reply says =
      let by = acks_at c log place host slot reply run says in
      let learned = learned_of ((at c log (place + 1)).host host) in
      let known = learned_true (place + 1) ((at c log (place + 1)).host host) host (all_true c log run (place + 1) host) in
      let last : slice_get learned slot ≡ Some by.acks.read =
      ap (λ (h : Host). slice_get (learned_of h) slot) by.runs_on ∙ ap (λ (l : List Command). slice_get l slot) by.acks.learned
      ∙ ap (slice_get (by.memory.learned ++ by.acks.read ∷ [])) by.acks.slot_is ∙ get_last by.memory.learned by.acks.read in
      (spelling by.acks.read, (known slot by.acks.read last).1)

  holds : (i j host n slot : ℕ) (command : Command) → IsRecovery c log i j host n → IsAcknowledgedBefore c log i slot command → slot < n
  holds i j host n slot command recovery acked =
      let chosen = acked_chosen acked.place acked.host slot acked.reply acked.is.says in
      let before = acked.before in
      misses_nothing c log run i j host n slot chosen.0 recovery (chosen_upto c log (acked.place + 1) i slot chosen.0 (omega arith) chosen.1)

  -- so is each command that was migrated: a recovery does not begin with the first entry
  keeps : (i host n : ℕ) → SaysAt c log i host (Recovered n) → length (migrated log) ≤ n
  keeps i host n says = elim (cases_lt n (length (migrated log))) [
    | inr not_less ↦ not_less
    | inl less ↦
        (let recovery = all_begun c log run i host n says in
        let found = value_below (migrated log) n less in
        let is = map_there (migrated log) n found.0 found.1 in
        let first = begins_migrated log n (spelling found.0) is in
        let behind : 0 < recovery.0 = elim (cases_eq recovery.0 0) [
          | inr other ↦ omega arith
          | inl zero_is ↦ absurd (let both : Some (Migrated first.disks first.commands) ≡ Some (Begin host (Recover recovery.1.tries)) = sym first.first ∙ ap (slice_get log) (sym zero_is) ∙ recovery.1.begins in cc)
        ] in
        absurd (let below = misses_nothing c log run recovery.0 i host n n (spelling found.0) recovery.1 (inr (behind, is)) in omega arith))
  ]

  -- THE RUN IS SAFE

  pub is_safe : IsSafe c log commands
  is_safe =
      record {
        is_log = is_log;
        one = one;
        begun = begun;
        submitted = λ i slot value chosen. submitted_before c log run i slot value chosen;
        prefix = prefix;
        placed = placed;
        acknowledged = acknowledged;
        reply = reply_is;
        recovered = recovered;
        table = λ i host n says. ap table_after (recovered i host n says).1;
        holds = holds;
        keeps = keeps;
        looked = looked;
      }

-- Every run has one log, and nothing that was acknowledged is lost.
pub headline : Headline
headline c log run =
    let safe = is_safe c log run in
    record { commands = commands c log run; is_safe = safe; no_other = one_log c log (commands c log run) safe; prefixes = one_begins_other c log (commands c log run) safe }

-- So it is with every list of events.
pub headline_of_events : HeadlineOfEvents
headline_of_events c events = headline c (happened c events) (run_is_run c events)

-- and with every list of events after a migration.
pub headline_of_migrated : HeadlineOfMigrated
headline_of_migrated c log events can = headline c (run_after c log events) (run_after_is_run c log events can)
