-- What an answer makes of the task that a seat keeps, and of its receipts.
use Rattle.std.specs.Prelude.{nat_lt, nat_le, is_none}
use Rattle.std.proofs.Common.{◌≡◌, ◌+◌, ◌-◌, ◌<◌, ◌≤◌, ℕ, Bool, true, false, List, [], ◌∷◌, ◌++◌, length, Option, Some, None, refl, ap, arith, length-append}
use Rattle.std.proofs.lemmas.Bool.{ltb-true}
use Rattle.disk.specs.Disk.{Answer}
use Rattle.attempt.specs.Answers.{Answered, on, heard_as}
use Rattle.attempt.specs.Status.{Status, Due, Ended, End, Committed, Decided, Empty, Outrun, NoMajority, BallotsSpent, status, taken}
use Rattle.lock_command.specs.declared.command.Command.{Command}
use Rattle.lock_command.specs.Reading.{decoded}
use Rattle.lock_command.specs.declared.reply.Reply.{Reply}
use Rattle.rounds.specs.Beat.Answers as beat_answers
use Rattle.rounds.specs.Beat.Status as beat
use Rattle.rounds.specs.Marking.Status as mark
use Rattle.rounds.specs.Look.Status as look
use Rattle.paxos_block.specs.Shape.{Shape}
use Rattle.attempt.specs.declared.refusal.Refusal.{Refusal}
use Rattle.attempt.specs.declared.refusal.Refusal.TheVariants as refusal
use Rattle.host.specs.declared.answer.HostAnswer.{HostAnswer}
use Rattle.host.specs.declared.answer.HostAnswer.TheVariants.{Ack, Looked, Beaten, Marked, Refused}
use Rattle.host.specs.Kept.{AcknowledgesNone}
use Rattle.host.specs.Host.{Operation, Submitting, Recovering, Attempt, Looking, Marking, Doing, Attempts, Looks, Beats, Marks, Memory, setup_of, says, does, reads, begins, full_answer, goes_on, is_submitted, after_learning, learns, takes, with_floor, tries_again, ended, by_status, with_heard, hears_from, suggested, beat_by, beat_of, marking_by, marking_with, marking_of, look_by, look_of, looking_with, looks_on, takes_marked, reply_after}
use Rattle.world.proofs.Enduring.{on_either}
use Rattle.cluster.specs.Receipts.{receipt_for, receipt_by, receipts_said}
use Rattle.cluster.specs.Seat.{IsKeptFor, IsKeptIn, IsDoing}

-- AN ATTEMPT

-- at most one receipt
one_for : (h place : ℕ) (operation : Operation) (slot : ℕ) (reply : Reply) → length (receipt_for h place operation slot reply) ≤ 1
one_for h place (Submitting command) slot reply = omega arith
one_for h place Recovering slot reply = omega arith

module _ (c : Shape) (h place : ℕ) (sub : Option Command) (t : Attempt) (kept : IsKeptFor t.operation sub) (n : ℕ) where
  -- the operation under way is kept, and with a receipt a command more was learned
  abbrev pub So : Memory → Type 0
  So m = IsDoing c m m.doing sub × (length (receipt_by h place (Some (Attempts t)) m.said) + n ≤ length m.learned)

  begun : (m : Memory) (tries : ℕ) → n ≤ length m.learned → length m.learned < c.slots → So (begins m t.operation tries)
  begun m tries more less = ((refl, (less, kept)), omega (arith, more))

  full : (m : Memory) (operation : Operation) → n ≤ length m.learned → So (says m (full_answer operation (length m.learned)))
  full m (Submitting command) more = (tt, omega (arith, more))
  full m Recovering more = (tt, omega (arith, more))

  pub going : (m : Memory) (tries : ℕ) → n ≤ length m.learned → So (goes_on c m t.operation tries)
  going m tries more =
      on_either (nat_lt (length m.learned) c.slots) (begins m t.operation tries) (says m (full_answer t.operation (length m.learned))) So
      (λ is. begun m tries more (ltb-true (length m.learned) c.slots is)) (λ is. full m t.operation more)

  refused : (m : Memory) (r : Refusal) → n ≤ length m.learned → So (says m (Refused r))
  refused m r more = (tt, omega (arith, more))

  longer : (m : Memory) (command : Command) → n ≤ length m.learned → 1 + n ≤ length (learns m command).learned
  longer m command more = let as_long = length-append m.learned (command ∷ []) in omega (arith, as_long, more)

  learned : (m : Memory) (command : Command) (b : Bool) → n ≤ length m.learned → So (after_learning c m t command b)
  learned m command true more =
      let one = one_for h place t.operation (length m.learned) (reply_after m.learned command) in
      let long = longer m command more in (tt, omega (arith, one, long))
  learned m command false more = let long = longer m command more in going (learns m command) t.tries (omega (arith, long))

  took : (m : Memory) (ballot : ℕ) (value : List ℕ) (o : Option Command) → n ≤ length m.learned → So (takes c m t ballot value o)
  took m ballot value None more = refused (with_floor m ballot) refusal.NotACommand more
  took m ballot value (Some command) more = learned m command (is_submitted t.operation value) more

  tried : (m : Memory) → n ≤ length m.learned → length m.learned < c.slots → So (tries_again m t.operation t.tries)
  tried m more less =
      on_either (nat_le t.tries 1) (says m (Refused refusal.Outrun)) (begins m t.operation (t.tries - 1)) So
      (λ is. refused m refusal.Outrun more) (λ is. begun m (t.tries - 1) more less)

  over : (m : Memory) (ballot : ℕ) (end : End) → n ≤ length m.learned → length m.learned < c.slots → So (ended c m t ballot end)
  over m ballot (Committed value) more less = took m ballot value (decoded value) more
  over m ballot (Decided value) more less = took m ballot value (decoded value) more
  over m ballot Empty more less = (tt, omega (arith, more))
  over m ballot (Outrun mbal) more less = tried (with_floor (with_floor m ballot) mbal) more less
  over m ballot NoMajority more less = refused (with_floor m ballot) refusal.NoMajority more
  over m ballot BallotsSpent more less = refused (with_floor m ballot) refusal.BallotsSpent more

  goes : (m : Memory) (ballot : ℕ) (st : Status) → n ≤ length m.learned → length m.learned < c.slots → So (by_status c m t ballot st)
  goes m ballot (Due phase disk) more less = ((refl, (less, kept)), omega (arith, more))
  goes m ballot (Ended end) more less = over m ballot end more less

-- A LOOK, A BEAT AND A MARKING

-- where no command is acknowledged there is no receipt
none_said : (h place : ℕ) (sub : Option Command) (said : Option HostAnswer) → AcknowledgesNone said → receipts_said h place sub said ≡ []
none_said h place None said none = refl
none_said h place (Some command) (Some (Ack slot reply)) none = absurd none
none_said h place (Some command) other none = refl

module _ (c : Shape) (h place : ℕ) (sub : Option Command) (n : ℕ) where
  -- it tells nothing while it is under way, forgets nothing, and brings no receipt
  abbrev Silent : Memory → Type 0
  Silent m = IsDoing c m m.doing sub × (n ≤ length m.learned) × (receipts_said h place sub m.said ≡ [])

  further : (m : Memory) (doing : Doing) → IsKeptIn c (does m doing) doing sub → n ≤ length m.learned → Silent (does m doing)
  further m doing kept more = ((refl, kept), more, none_said h place sub None tt)

  done : (m : Memory) (said : HostAnswer) → AcknowledgesNone (Some said) → n ≤ length m.learned → Silent (says m said)
  done m said none more = (tt, more, none_said h place sub (Some said) none)

  looks_next : (m : Memory) (first : ℕ) → n ≤ length m.learned → Silent (looks_on c m first)
  looks_next m first more =
      let t : Looking = record { first = first; heard = [] } in
      on_either (nat_lt (length m.learned) c.slots) (does m (Looks t)) (says m (Looked (length m.learned))) Silent
      (λ is. further m (Looks t) tt more) (λ is. done m (Looked (length m.learned)) tt more)

  looks_told : (m : Memory) (d : ℕ) (o : Option Command) → n ≤ length m.learned → Silent (takes_marked c m d o)
  looks_told m d None more = done m (Refused refusal.NotACommand) tt more
  looks_told m d (Some command) more = looks_next (learns m command) d (let long = length-append m.learned (command ∷ []) in omega (arith, more, long))

  looks_by : (m : Memory) (t : Looking) (st : look.Status) → n ≤ length m.learned → Silent (look_by c m t st)
  looks_by m t (look.Due disk) more = further m (Looks t) tt more
  looks_by m t (look.Ended (look.Decided d value)) more = looks_told m d (decoded value) more
  looks_by m t (look.Ended look.Unmarked) more = done m (Looked (length m.learned)) tt more
  looks_by m t (look.Ended look.NoMajority) more = done m (Refused refusal.NoMajority) tt more

  beats_by : (m : Memory) (heard : List beat_answers.Answered) (st : beat.Status) → n ≤ length m.learned → Silent (beat_by h m heard st)
  beats_by m heard (beat.Due disk) more = further m (Beats heard) tt more
  beats_by m heard (beat.Ended (beat.Beaten readings)) more = done (reads m readings) (Beaten (suggested h m.readings readings)) tt more
  beats_by m heard (beat.Ended beat.NoMajority) more = done m (Refused refusal.NoMajority) tt more

  marks_by : (m : Memory) (t : Marking) (st : mark.Status) → n ≤ length m.learned → Silent (marking_by m t st)
  marks_by m t (mark.Due disk) more = further m (Marks t) tt more
  marks_by m t (mark.Ended (mark.Marked count)) more = done m (Marked count) tt more
  marks_by m t (mark.Ended mark.NoMajority) more = done m (Refused refusal.NoMajority) tt more

-- AN ANSWER

said_for : (h place : ℕ) (operation : Operation) (sub : Option Command) (slot : ℕ) (reply : Reply) → IsKeptFor operation sub → receipts_said h place sub (Some (Ack slot reply)) ≡ receipt_for h place operation slot reply
said_for h place (Submitting command) sub slot reply is = ap (λ (o : Option Command). receipts_said h place o (Some (Ack slot reply))) is
said_for h place Recovering sub slot reply is = ap (λ (o : Option Command). receipts_said h place o (Some (Ack slot reply))) is

said_by : (h place : ℕ) (sub : Option Command) (t : Attempt) (said : Option HostAnswer) → IsKeptFor t.operation sub → receipts_said h place sub said ≡ receipt_by h place (Some (Attempts t)) said
said_by h place sub t (Some (Ack slot reply)) is = said_for h place t.operation sub slot reply is
said_by h place sub t other is = none_said h place sub other tt

-- What an answer makes of it: the task that is kept is still so, with a receipt a command more was learned, and what the seat writes is what is acknowledged.
pub record IsHeard (c : Shape) (h place : ℕ) (sub : Option Command) (m : Memory) (o : Option Doing) (new : Memory) : Type 0 where
  pub keeps : IsDoing c new new.doing sub
  pub counts : length (receipt_by h place o new.said) + length m.learned ≤ length new.learned
  pub said : receipts_said h place sub new.said ≡ receipt_by h place o new.said

pub hears : (c : Shape) (h place : ℕ) (sub : Option Command) (m : Memory) (o : Option Doing) (k : ℕ) (answer : Answer) → is_none o ≡ false → IsDoing c m o sub → IsHeard c h place sub m o (hears_from c h m o k answer)
hears c h place sub m None k answer busy is = absurd (cc busy)
hears c h place sub m (Some (Attempts t)) k answer busy is =
    let x : Answered = record { disk = k; heard = heard_as answer } in
    let s = setup_of c h m t.operation in
    let heard = t.heard ++ x ∷ [] in
    let so = goes c h place sub (with_heard t x) is.1.1 (length m.learned) m (taken s (on heard)) (status s (on heard)) (omega arith) is.1.0 in
    record { keeps = so.0; counts = so.1; said = said_by h place sub t (hears_from c h m (Some (Attempts t)) k answer).said is.1.1 }
hears c h place sub m (Some (Looks t)) k answer busy is =
    let more = looking_with t (record { disk = k; heard = heard_as answer }) in
    let so = looks_by c h place sub (length m.learned) m more (look.status (look_of c m t.first) (on more.heard)) (omega arith) in
    record { keeps = so.0; counts = (let less = so.1 in omega (arith, less)); said = so.2 }
hears c h place sub m (Some (Beats heard)) k answer busy is =
    let more = heard ++ record { disk = k; heard = beat_answers.heard_as answer } ∷ [] in
    let so = beats_by c h place sub (length m.learned) m more (beat.status (beat_of c h) (beat_answers.on more)) (omega arith) in
    record { keeps = so.0; counts = (let less = so.1 in omega (arith, less)); said = so.2 }
hears c h place sub m (Some (Marks t)) k answer busy is =
    let more = marking_with t (record { disk = k; heard = heard_as answer }) in
    let so = marks_by c h place sub (length m.learned) m more (mark.status (marking_of c h m t.slot) (on more.heard)) (omega arith) in
    record { keeps = so.0; counts = (let less = so.1 in omega (arith, less)); said = so.2 }
