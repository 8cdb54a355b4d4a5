-- What a core submits stays due, whatever it hears: a client's command behind all that carries the table over, and a command that carries a part of it over in its slot, until the core goes on
-- to another.
use Rattle.std.specs.Prelude.{nat_lt, nat_le, is_none, if◌then◌else◌}
use Rattle.std.proofs.Common.{◌≡◌, ◌<◌, ◌≤◌, ◌+◌, ◌-◌, ℕ, Bool, true, false, List, [], ◌∷◌, ◌++◌, length, length-append, Option, Some, None, refl, arith, true≢false}
use Rattle.std.proofs.lemmas.List.Elements.{Contains-append_left}
use Rattle.disk.specs.Disk.{Answer}
use Rattle.attempt.specs.Status.{Status, Due, Ended, End, Committed, Decided, Empty, Outrun, NoMajority, BallotsSpent}
use Rattle.lock_command.specs.declared.command.Command.{Command}
use Rattle.lock_command.specs.Reading.{decoded}
use Rattle.rounds.specs.Beat.Answers as beat_answers
use Rattle.rounds.specs.Beat.Status as beat
use Rattle.rounds.specs.Marking.Status as mark
use Rattle.rounds.specs.Look.Status as look
use Rattle.paxos_block.specs.Shape.{Shape}
use Rattle.attempt.specs.declared.refusal.Refusal.TheVariants as refusal
use Rattle.host.specs.declared.answer.HostAnswer.TheVariants.{Refused}
use Rattle.host.specs.declared.task.Task.{Task}
use Rattle.host.specs.declared.task.Task.TheVariants as task
use Rattle.host.specs.Host.{Operation, Submitting, Recovering, Attempt, Looking, Marking, Doing, Attempts, Looks, Beats, Marks as MarksSlot, Memory, says, does, begins, full_answer, goes_on, is_submitted, after_learning, learns, takes, with_floor, tries_again, ended, by_status, with_heard, hears_from, beat_by, marking_by, marking_with, look_by, looking_with, looks_on, takes_marked, starts}
use Rattle.epoch_host.specs.declared.over.Over.{Over}
use Rattle.epoch_host.specs.declared.over.Over.TheVariants.{Unknown, Known}
use Rattle.epoch_host.specs.declared.stay.Work.{Work}
use Rattle.epoch_host.specs.declared.stay.Work.TheVariants.{Goes, Carries, Marks, Looks as LooksOnly}
use Rattle.epoch_host.specs.Submitting.{Stands, IsClients, IsDueIn, StaysAt, SubmitsFor, MayCarryOut}

by_test : (P : Memory → Type 0) (b : Bool) (m n : Memory) → (b ≡ true → P m) → (b ≡ false → P n) → P (if b then m else n)
by_test P true m n p q = p refl
by_test P false m n p q = q refl

-- A CLIENT'S COMMAND

module _ (c : Shape) (over : Over) where
  abbrev So : Memory → Type 0
  So m = SubmitsFor over Goes m.learned m.doing

  going : (m : Memory) (operation : Operation) (tries : ℕ) → IsClients over m.learned operation → So (goes_on c m operation tries)
  going m operation tries is = by_test So (nat_lt (length m.learned) c.slots) (begins m operation tries) (says m (full_answer operation (length m.learned))) (λ less. is) (λ full. tt)

  abbrev Lasts : Operation → Type 0
  Lasts operation = (learned : List Command) (command : Command) → IsClients over learned operation → IsClients over (learned ++ command ∷ []) operation

  learned : (m : Memory) (t : Attempt) (command : Command) (b : Bool) → Lasts t.operation → IsClients over m.learned t.operation → So (after_learning c m t command b)
  learned m t command true lasts is = tt
  learned m t command false lasts is = going (learns m command) t.operation t.tries (lasts m.learned command is)

  took : (m : Memory) (t : Attempt) (ballot : ℕ) (value : List ℕ) (o : Option Command) → Lasts t.operation → IsClients over m.learned t.operation → So (takes c m t ballot value o)
  took m t ballot value None lasts is = tt
  took m t ballot value (Some command) lasts is = learned m t command (is_submitted t.operation value) lasts is

  tried : (m : Memory) (operation : Operation) (tries : ℕ) → IsClients over m.learned operation → So (tries_again m operation tries)
  tried m operation tries is = by_test So (nat_le tries 1) (says m (Refused refusal.Outrun)) (begins m operation (tries - 1)) (λ few. tt) (λ more. is)

  over_now : (m : Memory) (t : Attempt) (ballot : ℕ) (end : End) → Lasts t.operation → IsClients over m.learned t.operation → So (ended c m t ballot end)
  over_now m t ballot (Committed value) lasts is = took m t ballot value (decoded value) lasts is
  over_now m t ballot (Decided value) lasts is = took m t ballot value (decoded value) lasts is
  over_now m t ballot Empty lasts is = tt
  over_now m t ballot (Outrun mbal) lasts is = tried (with_floor (with_floor m ballot) mbal) t.operation t.tries is
  over_now m t ballot NoMajority lasts is = tt
  over_now m t ballot BallotsSpent lasts is = tt

  goes : (m : Memory) (t : Attempt) (ballot : ℕ) (st : Status) → Lasts t.operation → IsClients over m.learned t.operation → So (by_status c m t ballot st)
  goes m t ballot (Due phase disk) lasts is = is
  goes m t ballot (Ended end) lasts is = over_now m t ballot end lasts is

  looks_next : (m : Memory) (first : ℕ) → So (looks_on c m first)
  looks_next m first = by_test So (nat_lt (length m.learned) c.slots) (does m (Looks (record { first = first; heard = [] }))) _ (λ less. tt) (λ full. tt)

  looks_told : (m : Memory) (d : ℕ) (o : Option Command) → So (takes_marked c m d o)
  looks_told m d None = tt
  looks_told m d (Some command) = looks_next (learns m command) d

  looks : (m : Memory) (t : Looking) (st : look.Status) → So (look_by c m t st)
  looks m t (look.Due disk) = tt
  looks m t (look.Ended (look.Decided disk value)) = looks_told m disk (decoded value)
  looks m t (look.Ended look.Unmarked) = tt
  looks m t (look.Ended look.NoMajority) = tt

  beats : (h : ℕ) (m : Memory) (heard : List beat_answers.Answered) (st : beat.Status) → So (beat_by h m heard st)
  beats h m heard (beat.Due disk) = tt
  beats h m heard (beat.Ended (beat.Beaten readings)) = tt
  beats h m heard (beat.Ended beat.NoMajority) = tt

  marks : (m : Memory) (t : Marking) (st : mark.Status) → So (marking_by m t st)
  marks m t (mark.Due disk) = tt
  marks m t (mark.Ended (mark.Marked count)) = tt
  marks m t (mark.Ended mark.NoMajority) = tt

  -- what a client may ask for stays so behind more commands
  lasts : (operation : Operation) → Lasts operation
  lasts Recovering learned command is = tt
  lasts (Submitting own) learned command is = (further over is.0, is.1)
    where
      further : (o : Over) → Stands o learned → Stands o (learned ++ command ∷ [])
      further Unknown (earlier, among, asked) = (earlier, Contains-append_left learned (command ∷ []) earlier among, asked)
      further (Known values before) long = let more : length (learned ++ command ∷ []) ≡ length learned + 1 = length-append learned (command ∷ []) in omega (arith, long, more)

  pub client_heard : (h : ℕ) (m : Memory) (o : Option Doing) (d : ℕ) (answer : Answer) → is_none o ≡ false → SubmitsFor over Goes m.learned o → So (hears_from c h m o d answer)
  client_heard h m None d answer busy is = absurd (true≢false busy)
  client_heard h m (Some (Attempts t)) d answer busy is = goes m (with_heard t _) _ _ (lasts t.operation) is
  client_heard h m (Some (Looks t)) d answer busy is = looks m (looking_with t _) _
  client_heard h m (Some (Beats heard)) d answer busy is = beats h m _ _
  client_heard h m (Some (MarksSlot t)) d answer busy is = marks m (marking_with t _) _

  pub client_begun : (m : Memory) (given : Task) → MayCarryOut over m.learned given → So (starts c m given)
  client_begun m (task.Submit command tries) may = going m (Submitting command) tries may
  client_begun m (task.Recover tries) may = going m Recovering tries tt
  client_begun m task.Look may = looks_next m 0
  client_begun m task.Beat may = tt
  client_begun m (task.Mark slot) may = by_test So (nat_lt slot (length m.learned)) (does m (MarksSlot (record { slot = slot; heard = [] }))) _ (λ less. tt) (λ none. tt)

-- A COMMAND THAT CARRIES A PART OF THE TABLE OVER

module _ (c : Shape) (over : Over) (slot : ℕ) where
  -- as long as no more is learned
  abbrev Kept : Memory → Type 0
  Kept m = length m.learned ≤ slot → SubmitsFor over (Carries slot) m.learned m.doing

  kept_going : (m : Memory) (operation : Operation) (tries : ℕ) → slot < length m.learned → Kept (goes_on c m operation tries)
  kept_going m operation tries more = by_test Kept (nat_lt (length m.learned) c.slots) (begins m operation tries) (says m (full_answer operation (length m.learned)))
      (λ less few. absurd (omega (arith, more, few))) (λ full few. tt)

  kept_learned : (m : Memory) (t : Attempt) (command : Command) (b : Bool) → slot ≡ length m.learned → Kept (after_learning c m t command b)
  kept_learned m t command true here = λ few. tt
  kept_learned m t command false here =
      kept_going (learns m command) t.operation t.tries (let more : length (m.learned ++ command ∷ []) ≡ length m.learned + 1 = length-append m.learned (command ∷ []) in omega (arith, here, more))

  kept_took : (m : Memory) (t : Attempt) (ballot : ℕ) (value : List ℕ) (o : Option Command) → slot ≡ length m.learned → Kept (takes c m t ballot value o)
  kept_took m t ballot value None here = λ few. tt
  kept_took m t ballot value (Some command) here = kept_learned m t command (is_submitted t.operation value) here

  kept_tried : (m : Memory) (operation : Operation) (tries : ℕ) → slot ≡ length m.learned → IsDueIn over slot operation → Kept (tries_again m operation tries)
  kept_tried m operation tries here is = by_test Kept (nat_le tries 1) (says m (Refused refusal.Outrun)) (begins m operation (tries - 1)) (λ last few. tt) (λ more few. (here, is))

  kept_over : (m : Memory) (t : Attempt) (ballot : ℕ) (end : End) → slot ≡ length m.learned → IsDueIn over slot t.operation → Kept (ended c m t ballot end)
  kept_over m t ballot (Committed value) here is = kept_took m t ballot value (decoded value) here
  kept_over m t ballot (Decided value) here is = kept_took m t ballot value (decoded value) here
  kept_over m t ballot Empty here is = λ few. tt
  kept_over m t ballot (Outrun mbal) here is = kept_tried (with_floor (with_floor m ballot) mbal) t.operation t.tries here is
  kept_over m t ballot NoMajority here is = λ few. tt
  kept_over m t ballot BallotsSpent here is = λ few. tt

  kept_goes : (m : Memory) (t : Attempt) (ballot : ℕ) (st : Status) → slot ≡ length m.learned → IsDueIn over slot t.operation → Kept (by_status c m t ballot st)
  kept_goes m t ballot (Due phase disk) here is = λ few. (here, is)
  kept_goes m t ballot (Ended end) here is = kept_over m t ballot end here is

  -- what is carried over stays due in its slot until the core goes on to another
  pub carried_heard : (h : ℕ) (m : Memory) (t : Attempt) (d : ℕ) (answer : Answer) → slot ≡ length m.learned → IsDueIn over slot t.operation → Kept (hears_from c h m (Some (Attempts t)) d answer)
  carried_heard h m t d answer here is = kept_goes m (with_heard t _) _ _ here is

  pub carried_begun : (m : Memory) (command : Command) (tries : ℕ) → slot ≡ length m.learned → IsDueIn over slot (Submitting command) → SubmitsFor over (Carries slot) (starts c m (task.Submit command tries)).learned (starts c m (task.Submit command tries)).doing
  carried_begun m command tries here is =
      by_test (λ (n : Memory). SubmitsFor over (Carries slot) n.learned n.doing) (nat_lt (length m.learned) c.slots) (begins m (Submitting command) tries) (says m (full_answer (Submitting command) (length m.learned)))
      (λ less. (here, is)) (λ full. tt)

-- A MARKING OF IT

module _ (c : Shape) (over : Over) where
  abbrev OnlyMarks : Memory → Type 0
  OnlyMarks m = SubmitsFor over Marks m.learned m.doing

  pub marking_begun : (m : Memory) (slot : ℕ) → OnlyMarks (starts c m (task.Mark slot))
  marking_begun m slot = by_test OnlyMarks (nat_lt slot (length m.learned)) (does m (MarksSlot (record { slot = slot; heard = [] }))) _ (λ less. tt) (λ none. tt)

  marking_goes : (m : Memory) (t : Marking) (st : mark.Status) → OnlyMarks (marking_by m t st)
  marking_goes m t (mark.Due disk) = tt
  marking_goes m t (mark.Ended (mark.Marked count)) = tt
  marking_goes m t (mark.Ended mark.NoMajority) = tt

-- A LOOK ALONE

module _ (c : Shape) (over : Over) where
  abbrev OnlyLooks : Memory → Type 0
  OnlyLooks m = SubmitsFor over LooksOnly m.learned m.doing

  alone_next : (m : Memory) (first : ℕ) → OnlyLooks (looks_on c m first)
  alone_next m first = by_test OnlyLooks (nat_lt (length m.learned) c.slots) (does m (Looks (record { first = first; heard = [] }))) _ (λ less. tt) (λ full. tt)

  pub alone_begun : (m : Memory) → OnlyLooks (starts c m task.Look)
  alone_begun m = alone_next m 0

  alone_told : (m : Memory) (d : ℕ) (o : Option Command) → OnlyLooks (takes_marked c m d o)
  alone_told m d None = tt
  alone_told m d (Some command) = alone_next (learns m command) d

  alone_goes : (m : Memory) (t : Looking) (st : look.Status) → OnlyLooks (look_by c m t st)
  alone_goes m t (look.Due disk) = tt
  alone_goes m t (look.Ended (look.Decided disk value)) = alone_told m disk (decoded value)
  alone_goes m t (look.Ended look.Unmarked) = tt
  alone_goes m t (look.Ended look.NoMajority) = tt

-- ANY OF THEM

-- what is submitted stays due, unless the core has gone on to another slot with what was due in one
pub heard_submits : (c : Shape) (over : Over) (what : Work) (h : ℕ) (m : Memory) (o : Option Doing) (d : ℕ) (answer : Answer) → is_none o ≡ false → SubmitsFor over what m.learned o →
    StaysAt what (length (hears_from c h m o d answer).learned) → SubmitsFor over what (hears_from c h m o d answer).learned (hears_from c h m o d answer).doing
heard_submits c over Goes h m o d answer busy is stays = client_heard c over h m o d answer busy is
heard_submits c over (Carries slot) h m None d answer busy is stays = absurd (true≢false busy)
heard_submits c over (Carries slot) h m (Some (Attempts t)) d answer busy is stays = carried_heard c over slot h m t d answer is.0 is.1 stays
heard_submits c over (Carries slot) h m (Some (Looks t)) d answer busy is stays = absurd is
heard_submits c over (Carries slot) h m (Some (Beats heard)) d answer busy is stays = absurd is
heard_submits c over (Carries slot) h m (Some (MarksSlot t)) d answer busy is stays = absurd is
heard_submits c over Marks h m None d answer busy is stays = absurd (true≢false busy)
heard_submits c over Marks h m (Some (Attempts t)) d answer busy is stays = absurd is
heard_submits c over Marks h m (Some (Looks t)) d answer busy is stays = absurd is
heard_submits c over Marks h m (Some (Beats heard)) d answer busy is stays = absurd is
heard_submits c over Marks h m (Some (MarksSlot t)) d answer busy is stays = marking_goes c over m (marking_with t _) _
heard_submits c over LooksOnly h m None d answer busy is stays = absurd (true≢false busy)
heard_submits c over LooksOnly h m (Some (Attempts t)) d answer busy is stays = absurd is
heard_submits c over LooksOnly h m (Some (Looks t)) d answer busy is stays = alone_goes c over m (looking_with t _) _
heard_submits c over LooksOnly h m (Some (Beats heard)) d answer busy is stays = absurd is
heard_submits c over LooksOnly h m (Some (MarksSlot t)) d answer busy is stays = absurd is
