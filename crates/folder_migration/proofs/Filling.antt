-- What a host says of what it learned, since it had learned so much; and a request that is known to be an old one.
use Rattle.std.proofs.Common.{◌≡◌, ◌<◌, ◌≤◌, ◌+◌, ℕ, Bool, true, false, List, [], ◌∷◌, ◌++◌, length, nat_lt, nat_le, filter, find, slice_get, Option, Some, None, Result, Err, refl, sym, ◌∙◌, ap, subst, arith, eq-eqb, if◌then◌else◌}
use Rattle.std.proofs.lemmas.Bool.{ltb-false}
use Rattle.std.proofs.lemmas.List.{length-append}
use Rattle.attempt.specs.Answers.{on, heard_as}
use Rattle.attempt.specs.Status as attempt
use Rattle.attempt.specs.Status.{Status, Due, Ended, status, taken}
use Rattle.rounds.specs.Beat.Answers as beat_answers
use Rattle.rounds.specs.Beat.Status as beat
use Rattle.rounds.specs.Marking.Status as mark
use Rattle.rounds.specs.Look.Status as look
use Rattle.disk.specs.Disk.{Call, Answer}
use Rattle.lock_command.specs.declared.command.Command.{Command}
use Rattle.lock_command.specs.Reading.{decoded}
use Rattle.lock_command.specs.declared.reply.Reply.{Reply}
use Rattle.lock_table.specs.declared.known_client.KnownClient.{KnownClient}
use Rattle.lock_table.specs.Apply.{Plain, is_client}
use Rattle.lock_table.specs.Carrying.{IsKnownFrom}
use Rattle.lock_table.specs.Picture.{Shown, IsPictureOf}
use Rattle.paxos_block.specs.Shape.{Shape}
use Rattle.attempt.specs.declared.refusal.Refusal.{Refusal}
use Rattle.attempt.specs.declared.refusal.Refusal.TheVariants as refusal
use Rattle.host.specs.declared.answer.HostAnswer.{HostAnswer}
use Rattle.host.specs.declared.answer.HostAnswer.TheVariants.{Ack, Looked, Refused}
use Rattle.host.specs.Host.{Operation, Submitting, Recovering, Attempt, Marking, Looking, Doing, Attempts, Looks, Beats, Marks, Memory, does, says, full_answer, hears_from, goes_on, begins, by_status, takes, after_learning, is_submitted, learns, with_heard, with_floor, tries_again, setup_of, look_by, look_of, looking_with, looks_on, takes_marked, beat_by, beat_of, marking_by, marking_with, marking_of}
use Rattle.host.specs.Kept.{Kept, LeadsTo}
use Rattle.dlm_images.specs.Operations.{Made, Standing, HasOperated, after_call, after_made}
use Rattle.dlm_images.specs.Tries.{AreOutrun, none, more, HasTried}
use Rattle.folder_migration.specs.Filling.{IsOver}

-- WHAT IS SAID

-- only a log of which all slots are learned is full
abbrev pub IsFullIf : ℕ → ℕ → Refusal → Type 0
IsFullIf slots now refusal.LogFull = slots ≤ now
IsFullIf slots now other = Unit {0}

-- an acknowledged command is one more than was learned before
abbrev pub Told : (slots had now : ℕ) → Option HostAnswer → Type 0
Told slots had now (Some (Ack slot reply)) = had < now
Told slots had now (Some (Refused refusal)) = IsFullIf slots now refusal
Told slots had now other = Unit {0}

pub record Grows (slots had : ℕ) (m : Memory) : Type 0 where
  pub grows : had ≤ length m.learned
  pub told : Told slots had (length m.learned) m.said

by_test : (P : Memory → Type 0) (b : Bool) (m n : Memory) → (b ≡ true → P m) → (b ≡ false → P n) → P (if b then m else n)
by_test P true m n p q = p refl
by_test P false m n p q = q refl

module _ (c : Shape) (h had : ℕ) where
  full_told : (o : Operation) (n : ℕ) → c.slots ≤ n → Told c.slots had n (Some (full_answer o n))
  full_told (Submitting command) n full = full
  full_told Recovering n full = tt

  goes_on_grows : (m : Memory) (o : Operation) (tries : ℕ) → had ≤ length m.learned → Grows c.slots had (goes_on c m o tries)
  goes_on_grows m o tries le =
      by_test (Grows c.slots had) (nat_lt (length m.learned) c.slots) (begins m o tries) (says m (full_answer o (length m.learned)))
      (λ is. record { grows = le; told = tt })
      (λ is. record { grows = le; told = full_told o (length m.learned) (ltb-false (length m.learned) c.slots is) })

  learning_grows : (m : Memory) (t : Attempt) (command : Command) (b : Bool) → had ≤ length m.learned → Grows c.slots had (after_learning c m t command b)
  learning_grows m t command true le =
      let one : length (m.learned ++ command ∷ []) ≡ length m.learned + 1 = length-append m.learned (command ∷ []) in
      record { grows = omega (arith, one, le); told = omega (arith, one, le) }
  learning_grows m t command false le =
      let one : length (m.learned ++ command ∷ []) ≡ length m.learned + 1 = length-append m.learned (command ∷ []) in
      goes_on_grows (learns m command) t.operation t.tries (omega (arith, one, le))

  takes_grows : (m : Memory) (t : Attempt) (ballot : ℕ) (value : List ℕ) (o : Option Command) → had ≤ length m.learned → Grows c.slots had (takes c m t ballot value o)
  takes_grows m t ballot value None le = record { grows = le; told = tt }
  takes_grows m t ballot value (Some command) le = learning_grows m t command (is_submitted t.operation value) le

  tries_grow : (m : Memory) (o : Operation) (tries : ℕ) → had ≤ length m.learned → Grows c.slots had (tries_again m o tries)
  tries_grow m o tries le =
      by_test (Grows c.slots had) (nat_le tries 1) (says m (Refused refusal.Outrun)) _ (λ is. record { grows = le; told = tt }) (λ is. record { grows = le; told = tt })

  status_grows : (m : Memory) (t : Attempt) (ballot : ℕ) (s : Status) → had ≤ length m.learned → Grows c.slots had (by_status c m t ballot s)
  status_grows m t ballot (Due p d) le = record { grows = le; told = tt }
  status_grows m t ballot (Ended (attempt.Committed value)) le = takes_grows m t ballot value (decoded value) le
  status_grows m t ballot (Ended (attempt.Decided value)) le = takes_grows m t ballot value (decoded value) le
  status_grows m t ballot (Ended attempt.Empty) le = record { grows = le; told = tt }
  status_grows m t ballot (Ended (attempt.Outrun mbal)) le = tries_grow (with_floor (with_floor m ballot) mbal) t.operation t.tries le
  status_grows m t ballot (Ended attempt.NoMajority) le = record { grows = le; told = tt }
  status_grows m t ballot (Ended attempt.BallotsSpent) le = record { grows = le; told = tt }

  marked_grows : (m : Memory) (t : Marking) (st : mark.Status) → had ≤ length m.learned → Grows c.slots had (marking_by m t st)
  marked_grows m t (mark.Due d) le = record { grows = le; told = tt }
  marked_grows m t (mark.Ended (mark.Marked count)) le = record { grows = le; told = tt }
  marked_grows m t (mark.Ended mark.NoMajority) le = record { grows = le; told = tt }

  on_grows : (m : Memory) (first : ℕ) → had ≤ length m.learned → Grows c.slots had (looks_on c m first)
  on_grows m first le =
      by_test (Grows c.slots had) (nat_lt (length m.learned) c.slots) (does m (Looks (record { first = first; heard = [] }))) (says m (Looked (length m.learned)))
      (λ is. record { grows = le; told = tt })
      (λ is. record { grows = le; told = tt })

  told_grows : (m : Memory) (disk : ℕ) (o : Option Command) → had ≤ length m.learned → Grows c.slots had (takes_marked c m disk o)
  told_grows m disk None le = record { grows = le; told = tt }
  told_grows m disk (Some command) le =
      let one : length (m.learned ++ command ∷ []) ≡ length m.learned + 1 = length-append m.learned (command ∷ []) in
      on_grows (learns m command) disk (omega (arith, one, le))

  look_grows : (m : Memory) (t : Looking) (st : look.Status) → had ≤ length m.learned → Grows c.slots had (look_by c m t st)
  look_grows m t (look.Due d) le = record { grows = le; told = tt }
  look_grows m t (look.Ended (look.Decided disk value)) le = told_grows m disk (decoded value) le
  look_grows m t (look.Ended look.Unmarked) le = record { grows = le; told = tt }
  look_grows m t (look.Ended look.NoMajority) le = record { grows = le; told = tt }

  beaten_grows : (m : Memory) (heard : List beat_answers.Answered) (st : beat.Status) → had ≤ length m.learned → Grows c.slots had (beat_by h m heard st)
  beaten_grows m heard (beat.Due d) le = record { grows = le; told = tt }
  beaten_grows m heard (beat.Ended (beat.Beaten readings)) le = record { grows = le; told = tt }
  beaten_grows m heard (beat.Ended beat.NoMajority) le = record { grows = le; told = tt }

  hearing_grows : (m : Memory) (o : Option Doing) (d : ℕ) (answer : Answer) → Grows c.slots had m → Grows c.slots had (hears_from c h m o d answer)
  hearing_grows m None d answer is = is
  hearing_grows m (Some (Attempts t)) d answer is =
      let u = with_heard t (record { disk = d; heard = heard_as answer }) in
      let s = setup_of c h m t.operation in
      status_grows m u (taken s (on u.heard)) (status s (on u.heard)) is.grows
  hearing_grows m (Some (Looks t)) d answer is =
      let u = looking_with t (record { disk = d; heard = heard_as answer }) in
      look_grows m u (look.status (look_of c m t.first) (on u.heard)) is.grows
  hearing_grows m (Some (Beats heard)) d answer is =
      let x : beat_answers.Answered = record { disk = d; heard = beat_answers.heard_as answer } in
      beaten_grows m (heard ++ x ∷ []) (beat.status (beat_of c h) (beat_answers.on (heard ++ x ∷ []))) is.grows
  hearing_grows m (Some (Marks t)) d answer is =
      let u = marking_with t (record { disk = d; heard = heard_as answer }) in
      marked_grows m u (mark.status (marking_of c h m t.slot) (on u.heard)) is.grows

  all_grow : (m : Memory) (xs : List Made) → Grows c.slots had m → Grows c.slots had (after_made c h m xs)
  all_grow m [] is = is
  all_grow m (x ∷ xs) is = all_grow (after_call c h m x) xs (hearing_grows m m.doing x.disk x.answer is)

  -- what the host knows, by what it kept
  pub record Knows (k : Kept) : Type 0 where
    pub memory : Memory
    pub leads : LeadsTo c h memory k
    pub grows : had ≤ length memory.learned

  pub record Came (k : Kept) : Type 0 where
    pub memory : Memory
    pub leads : LeadsTo c h memory k
    pub grows : Grows c.slots had memory

  operated : {D : Type 0} (gives : D → Call → Answer → D → Type 0) (o : Operation) (tries : ℕ) (old new : Standing D) → Knows old.core → HasOperated gives o tries old new → Came new.core
  operated gives o tries old new known done = record {
    memory = after_made c h (goes_on c known.memory o tries) done.made;
    leads = done.leads c h known.memory known.leads;
    grows = all_grow (goes_on c known.memory o tries) done.made (goes_on_grows known.memory o tries known.grows);
  }

  outrun : {D : Type 0} (gives : D → Call → Answer → D → Type 0) (command : Command) (n : ℕ) (old new : Standing D) → Knows old.core → AreOutrun gives command n old new → Knows new.core
  outrun gives command n old new known (none host) = known
  outrun gives command n old new known (more count from before after lost done said) =
      let w = operated gives (Submitting command) 1 before after (outrun gives command count from before known lost) done in
      record { memory = w.memory; leads = w.leads; grows = w.grows.grows }

  tried : {D : Type 0} (gives : D → Call → Answer → D → Type 0) (command : Command) (tries : ℕ) (old new : Standing D) → Knows old.core → HasTried gives command tries old new → Came new.core
  tried gives command tries old new known w = operated gives (Submitting command) 1 w.before new (outrun gives command w.outrun old w.before known w.lost) w.last

-- what a host comes to by a submission in several tries, from what it kept
pub record Comes (c : Shape) (h : ℕ) (old new : Kept) : Type 0 where
  pub memory : Memory
  pub leads : LeadsTo c h memory new
  pub grows : length old.prefix ≤ length new.prefix
  pub told : Told c.slots (length old.prefix) (length new.prefix) new.said

pub comes : {D : Type 0} (gives : D → Call → Answer → D → Type 0) (command : Command) (tries : ℕ) (c : Shape) (h : ℕ) (m : Memory) (old new : Standing D) → LeadsTo c h m old.core → HasTried gives command tries old new → Comes c h old.core new.core
comes gives command tries c h m old new leads done =
    let before : length old.core.prefix ≡ length m.learned = ap length leads.prefix in
    let w = tried c h (length old.core.prefix) gives command tries old new (record { memory = m; leads = leads; grows = omega (arith, before) }) done in
    let after : length new.core.prefix ≡ length w.memory.learned = ap length w.leads.prefix in record {
      memory = w.memory;
      leads = w.leads;
      grows = omega (arith, after, w.grows.grows);
      told = subst (λ (n : ℕ). Told c.slots (length old.core.prefix) n new.core.said) (sym after)
          (subst (Told c.slots (length old.core.prefix) (length w.memory.learned)) (sym w.leads.said) w.grows.told);
    }

-- the same of a host of which it is only known how large its log is
pub record Goes (config : Shape) (old new : Kept) : Type 0 where
  pub grows : length old.prefix ≤ length new.prefix
  pub same : new.learner.host ≡ old.learner.host
  pub told : Told config.slots (length old.prefix) (length new.prefix) new.said

pub goes : {D : Type 0} (gives : D → Call → Answer → D → Type 0) (command : Command) (tries : ℕ) (config : Shape) (old new : Standing D) → IsOver config old → HasTried gives command tries old new → Goes config old.core new.core
goes gives command tries config old new over done =
    let w = comes gives command tries config over.0 over.1 old new over.2 done in
    record { grows = w.grows; same = w.leads.learner.is_host ∙ sym over.2.learner.is_host; told = w.told }

pub still_over : {D : Type 0} (gives : D → Call → Answer → D → Type 0) (command : Command) (tries : ℕ) (config : Shape) (old new : Standing D) → IsOver config old → HasTried gives command tries old new → IsOver config new
still_over gives command tries config old new over done = let w = comes gives command tries config over.0 over.1 old new over.2 done in (over.0, w.memory, w.leads)

pub is_one_more : (slots had now slot : ℕ) (reply : Reply) (said : Option HostAnswer) → said ≡ Some (Ack slot reply) → Told slots had now said → had < now
is_one_more slots had now slot reply said is told = subst (Told slots had now) is told

pub is_full : (slots had now : ℕ) (said : Option HostAnswer) → said ≡ Some (Refused refusal.LogFull) → Told slots had now said → slots ≤ now
is_full slots had now said is told = subst (Told slots had now) is told

-- WHY IT STOPS

-- a submission that was refused used all its tries, where it was outrun
pub tries_used : {A D : Type 0} (gives : D → Call → Answer → D → Type 0) (command : Command) (tries : ℕ) (old new : Standing D) (result : Result A Refusal) (refused : Refusal) → result ≡ Err refused → HasTried gives command tries old new
    → (result ≡ Err refusal.Outrun → (done : HasTried gives command tries old new) × (done.outrun + 1 ≡ tries)) → (tried : HasTried gives command tries old new) × (refused ≡ refusal.Outrun → tried.outrun + 1 ≡ tries)
tries_used gives command tries old new result refusal.Outrun is tried outrun = let used = outrun is in (used.0, λ same. used.1)
tries_used gives command tries old new result refusal.NoMajority is tried outrun = (tried, λ never. absurd (cc))
tries_used gives command tries old new result refusal.BallotsSpent is tried outrun = (tried, λ never. absurd (cc))
tries_used gives command tries old new result refusal.LogFull is tried outrun = (tried, λ never. absurd (cc))
tries_used gives command tries old new result refusal.NotACommand is tried outrun = (tried, λ never. absurd (cc))
tries_used gives command tries old new result refusal.NotLearned is tried outrun = (tried, λ never. absurd (cc))

-- AN OLD REQUEST

found_on : {A : Type 0} (p : A → Bool) (xs rest : List A) (x a : A) (b : Bool) → p x ≡ b → (filter p xs ≡ a ∷ rest → find p xs ≡ Some a) → filter p (x ∷ xs) ≡ a ∷ rest → find p (x ∷ xs) ≡ Some a
found_on p xs rest x a true passes later is =
    let kept : filter p (x ∷ xs) ≡ x ∷ filter p xs = simp (passes) in
    let same : x ∷ filter p xs ≡ a ∷ rest = sym kept ∙ is in
    let e : x ≡ a = cc in
    let first : find p (x ∷ xs) ≡ Some x = simp (passes) in first ∙ ap Some e
found_on p xs rest x a false fails later is =
    let kept : filter p (x ∷ xs) ≡ filter p xs = simp (fails) in
    let on : find p (x ∷ xs) ≡ find p xs = simp (fails) in on ∙ later (sym kept ∙ is)

found_first : {A : Type 0} (p : A → Bool) (xs rest : List A) (a : A) → filter p xs ≡ a ∷ rest → find p xs ≡ Some a
found_first p [] rest a is = absurd (cc)
found_first p (x ∷ xs) rest a is = found_on p xs rest x a (p x) refl (found_first p xs rest a) is

-- the first client that a table shows is known, with the number of its last request
pub first_is_known : (shown : Shown) (plain : Plain) (k : KnownClient) → IsPictureOf shown plain → slice_get shown.clients 0 ≡ Some k → IsKnownFrom k.client k.request plain.clients
first_is_known shown plain k pictured is = (k, by_clients shown.clients (pictured.clients k.client) is, omega arith)
  where
    by_clients : (clients : List KnownClient) → filter (is_client k.client) clients ≡ filter (is_client k.client) plain.clients → slice_get clients 0 ≡ Some k → find (is_client k.client) plain.clients ≡ Some k
    by_clients [] same is = absurd (cc)
    by_clients (x ∷ xs) same is =
        let e : x ≡ k = cc in
        let passes : is_client k.client k ≡ true = eq-eqb k.client k.client refl in
        let kept : filter (is_client k.client) (k ∷ xs) ≡ k ∷ filter (is_client k.client) xs = simp (passes) in
        let first : filter (is_client k.client) (k ∷ xs) ≡ filter (is_client k.client) plain.clients = subst (λ (y : KnownClient). filter (is_client k.client) (y ∷ xs) ≡ filter (is_client k.client) plain.clients) e same in
        found_first (is_client k.client) plain.clients (filter (is_client k.client) xs) k (sym first ∙ kept)
