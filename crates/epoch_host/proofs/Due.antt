-- What a core submits is due by what its host did: the bytes that are kept are those of the commands that carry the table over.
use Rattle.std.specs.Prelude.{slice_get, Contains, IsTrue, ◌||◌, ◌&&◌}
use Rattle.std.specs.Option.{option_map}
use Rattle.std.proofs.Common.{◌≡◌, ◌<◌, ◌≤◌, ◌==◌, ℕ, zero, suc, Bool, true, false, List, [], ◌∷◌, ◌++◌, length, map, Option, Some, None, refl, sym, ◌∙◌, ap, subst, inl, inr, arith}
use Rattle.std.proofs.lemmas.Bool.{eq-eqb}
use Rattle.std.proofs.lemmas.List.{length-map}
use Rattle.std.proofs.lemmas.Option.{get_or_from_slice_get, slice_get-map, slice_get_past, slice_get_within}
use Rattle.lock_command.specs.declared.command.Command.{Command}
use Rattle.lock_command.specs.declared.reply.LockValue.{LockValue}
use Rattle.lock_command.specs.declared.record.LockRecord.{LockRecord}
use Rattle.lock_command.specs.Command.{spelling, is_carried, is_submittable}
use Rattle.lock_command.specs.Reading.{decoded}
use Rattle.lock_table.specs.declared.known_client.KnownClient.{KnownClient}
use Rattle.lock_table.specs.Carrying.{carried_lock, carried_locks, carried_client}
use Rattle.paxos_block.specs.Shape.{Shape}
use Rattle.host.specs.declared.task.Task.{Task}
use Rattle.host.specs.declared.task.Task.TheVariants as task
use Rattle.host.specs.Host.{Operation, Submitting, Recovering, Doing, Attempts, Looks, Beats, Marks as MarksSlot}
use Rattle.epoch_deeds.specs.Deeds.{Deeds}
use Rattle.epoch_deeds.specs.Knowing.{Carries, IsDue, MaySubmit, SubmitsBy, SubmitsWhatIsDue, MayBeGiven}
use Rattle.epoch_host.specs.declared.over.Over.{Over}
use Rattle.epoch_host.specs.declared.over.Over.TheVariants.{Unknown, Known}
use Rattle.epoch_host.specs.declared.stay.Work.{Work}
use Rattle.epoch_host.specs.declared.stay.Work.TheVariants.{Goes, Carries as CarriesSlot, Marks, Looks as LooksOnly}
use Rattle.epoch_host.specs.Leading.{CarriesOver, IsSpelledBy, IsSpelledIn}
use Rattle.epoch_host.specs.Submitting.{IsAsked, IsClients, IsDueIn, Stands, SubmitsFor}
use Rattle.epoch_host.specs.Working.{GivesTries, IsSpelled}

-- WHAT CARRIES A TABLE OVER

-- each is of the kind that carries something over
carried_clients : (clients : List KnownClient) (k : ℕ) (wanted : Command) → slice_get (map carried_client clients) k ≡ Some wanted → is_carried wanted.action ≡ true
carried_clients [] k wanted is = absurd (cc)
carried_clients (client ∷ clients) zero wanted is = (let same : carried_client client ≡ wanted = cc in subst (λ (x : Command). is_carried x.action ≡ true) same refl)
carried_clients (client ∷ clients) (suc k) wanted is = carried_clients clients k wanted is

carried_all : (locks : List LockRecord) (values : List LockValue) (clients : List KnownClient) (k : ℕ) (wanted : Command) → slice_get (carried_locks locks values ++ map carried_client clients) k ≡ Some wanted → is_carried wanted.action ≡ true
carried_all [] values clients k wanted is = carried_clients clients k wanted is
carried_all (r ∷ locks) [] clients k wanted is = carried_clients clients k wanted is
carried_all (r ∷ locks) (v ∷ values) clients zero wanted is = (let same : carried_lock r v ≡ wanted = cc in subst (λ (x : Command). is_carried x.action ≡ true) same refl)
carried_all (r ∷ locks) (v ∷ values) clients (suc k) wanted is = carried_all locks values clients k wanted is

carries_carried : (c : Shape) (h e : ℕ) (deeds : Deeds) (over : List Command) → Carries c h e deeds over → (k : ℕ) (wanted : Command) → slice_get over k ≡ Some wanted → is_carried wanted.action ≡ true
carries_carried c h zero deeds over carries k wanted is = absurd (let none : slice_get [] k ≡ Some wanted = subst (λ (l : List Command). slice_get l k ≡ Some wanted) carries is in cc)
carries_carried c h (suc e) deeds over (learned, shown, has, pictured, same) k wanted is =
    carried_all shown.locks shown.values shown.clients k wanted (subst (λ (l : List Command). slice_get l k ≡ Some wanted) same is)

-- BYTES

there : (commands : List Command) (k : ℕ) (command : Command) → slice_get commands k ≡ Some command → Contains commands command
there commands k command is = (k, slice_get_within commands k command is, get_or_from_slice_get commands k command command is)

-- the command with the bytes that stand at a place is the one there
mapped : (o : Option Command) (value : List ℕ) → option_map spelling o ≡ Some value → (command : Command) × (o ≡ Some command) × (spelling command ≡ value)
mapped None value is = absurd (cc)
mapped (Some command) value is = (command, refl, (let same : spelling command ≡ value = cc in same))

module _ (c : Shape) (h e : ℕ) (deeds : Deeds) where
  -- What is due in a slot by the bytes that are kept is what carries the table over there.
  record IsCarried (slot : ℕ) (command : Command) : Type 0 where
    over : List Command
    carries : Carries c h e deeds over
    at : slice_get over slot ≡ Some command

  due_carried : (over : Over) (slot : ℕ) (command : Command) → CarriesOver c h e deeds over → IsDueIn over slot (Submitting command) → decoded (spelling command) ≡ Some command → IsCarried slot command
  due_carried Unknown slot command is due spelled = absurd due
  due_carried (Known values before) slot command (over, carries, spells, same, all) due spelled =
      let at : option_map spelling (slice_get over slot) ≡ Some (spelling command) = sym (slice_get-map spelling over slot) ∙ ap (λ (l : List (List ℕ)). slice_get l slot) (sym same) ∙ due in
      let found = mapped (slice_get over slot) (spelling command) at in
      let reads : decoded (spelling found.0) ≡ Some found.0 = spells found.0 (there over slot found.0 found.1) in
      let both : Some found.0 ≡ Some command = sym reads ∙ ap decoded found.2 ∙ spelled in
      let one : found.0 ≡ command = cc in
      record { over = over; carries = carries; at = found.1 ∙ ap Some one }

  -- a client's command is due behind all of it
  clients_due : (over : Over) (learned : List Command) (command : Command) → CarriesOver c h e deeds over → Stands over learned → is_submittable command ≡ true → MaySubmit c h e deeds learned command
  clients_due Unknown learned command is stands asked = inr (stands, asked)
  clients_due (Known values before) learned command (over, carries, spells, same, all) stands asked =
      let long : length values.items ≡ length over = ap (λ (l : List (List ℕ)). length l) same ∙ length-map over spelling in
      let past : slice_get over (length learned) ≡ None = slice_get_past over (length learned) (omega (arith, long, stands)) in
      inl (over, carries, subst (λ (o : Option Command). IsDue o command) (sym past) asked)

  by_clients : (over : Over) (learned : List Command) (operation : Operation) → CarriesOver c h e deeds over → IsClients over learned operation → SubmitsBy c h e deeds learned operation
  by_clients over learned Recovering is may = tt
  by_clients over learned (Submitting command) is may = clients_due over learned command is may.0 may.1

  by_carried : (over : Over) (slot : ℕ) (learned : List Command) (operation : Operation) → CarriesOver c h e deeds over → slot ≡ length learned → IsDueIn over slot operation → IsSpelledIn operation → SubmitsBy c h e deeds learned operation
  by_carried over slot learned Recovering is here due spelled = tt
  by_carried over slot learned (Submitting command) is here due spelled =
      let found = due_carried over slot command is due spelled in
      inl (found.over, found.carries, subst (λ (o : Option Command). IsDue o command) (sym (ap (slice_get found.over) (sym here) ∙ found.at)) refl)

  -- so all that the core submits is due
  pub submits_due : (over : Over) (work : Work) (learned : List Command) (doing : Option Doing) → CarriesOver c h e deeds over → SubmitsFor over work learned doing → IsSpelledBy doing → SubmitsWhatIsDue c h e deeds learned doing
  submits_due over work learned None is may spelled = tt
  submits_due over Goes learned (Some (Attempts t)) is may spelled = by_clients over learned t.operation is may
  submits_due over (CarriesSlot slot) learned (Some (Attempts t)) is may spelled = by_carried over slot learned t.operation is may.0 may.1 spelled
  submits_due over Marks learned (Some (Attempts t)) is may spelled = absurd may
  submits_due over LooksOnly learned (Some (Attempts t)) is may spelled = absurd may
  submits_due over work learned (Some (Looks t)) is may spelled = tt
  submits_due over work learned (Some (Beats heard)) is may spelled = tt
  submits_due over work learned (Some (MarksSlot t)) is may spelled = tt

  -- TASKS

  either_true : (a b : Bool) → a ≡ true → IsTrue (a || b)
  either_true true b is = refl
  either_true false b is = absurd (cc)

  or_true : (a b d : Bool) → b ≡ true → d ≡ true → IsTrue (a || (b && d))
  or_true true b d one two = refl
  or_true false true true one two = refl
  or_true false true false one two = absurd (cc)
  or_true false false d one two = absurd (cc)

  -- A task of the host's own may be given to a core.
  pub may_give : (given : Task) → GivesTries given → IsAsked h given → IsSpelled given → ((slot : ℕ) → given ≡ task.Mark slot → slot < c.slots) → MayBeGiven c h given
  may_give (task.Submit command tries) some asked spelled inside =
      (spelled, omega (arith, some), or_true (is_carried command.action) (command.host == h) (is_submittable command) (eq-eqb command.host h asked.0) asked.1)
  may_give (task.Recover tries) some asked spelled inside = omega (arith, some)
  may_give task.Look some asked spelled inside = tt
  may_give task.Beat some asked spelled inside = tt
  may_give (task.Mark slot) some asked spelled inside = inside slot refl

  -- So may what carries a part of the table over.
  pub may_carry : (over : Over) (slot tries : ℕ) (command : Command) → CarriesOver c h e deeds over → IsDueIn over slot (Submitting command) → decoded (spelling command) ≡ Some command → 1 ≤ tries → MayBeGiven c h (task.Submit command tries)
  may_carry over slot tries command is due spelled some =
      let found = due_carried over slot command is due spelled in
      (spelled, omega (arith, some), either_true (is_carried command.action) _ (carries_carried c h e deeds found.over found.carries slot command found.at))
