-- What a core has under way stays at a slot of its log, whatever it hears, and once that is over the core has an answer.
use Rattle.std.specs.Prelude.{nat_lt, nat_le, is_none, if◌then◌else◌}
use Rattle.std.proofs.Common.{◌≡◌, ◌<◌, ◌≤◌, ◌+◌, ◌-◌, ℕ, Bool, true, false, List, [], ◌∷◌, ◌++◌, length, length-append, Option, Some, None, refl, sym, ◌∙◌, ap, subst, arith, true≢false}
use Rattle.std.proofs.lemmas.Bool.{ltb-true, lt-ltb}
use Rattle.disk.specs.Disk.{Answer, Booted, Told, Done, Fault}
use Rattle.torn_block.specs.Layout.{cluster_version}
use Rattle.paxos_block.specs.Row.{DecodedBlock, decoded_row}
use Rattle.attempt.specs.Answers as answers
use Rattle.attempt.specs.Answers.{Answered, Answers, on, heard_as}
use Rattle.attempt.specs.Votes.{IsLong, ShowsVotes, TellsVotes}
use Rattle.attempt.proofs.Votes.{votes_none, votes_more, row_shows}
use Rattle.attempt.proofs.More.{on_more, by_disk}
use Rattle.attempt.specs.Status.{Status, Due, Ended, End, Committed, Decided, Empty, Outrun, NoMajority, BallotsSpent}
use Rattle.lock_command.specs.declared.command.Command.{Command}
use Rattle.lock_command.specs.Reading.{decoded}
use Rattle.lock_command.proofs.Lengths.{spelling_long}
use Rattle.rounds.specs.Beat.Answers as beat_answers
use Rattle.rounds.specs.Beat.Status as beat
use Rattle.rounds.specs.Marking.Status as mark
use Rattle.rounds.specs.Look.Status as look
use Rattle.paxos_block.specs.Shape.{Shape}
use Rattle.attempt.specs.declared.refusal.Refusal.TheVariants as refusal
use Rattle.host.specs.declared.answer.HostAnswer.TheVariants.{Refused}
use Rattle.host.specs.declared.task.Task.{Task}
use Rattle.host.specs.declared.task.Task.TheVariants as task
use Rattle.host.specs.Host.{Operation, Submitting, Recovering, Attempt, Looking, Marking, Doing, Attempts, Looks, Beats, Marks, Memory, says, does, begins, full_answer, goes_on, is_submitted, after_learning, learns, takes, with_floor, tries_again, ended, by_status, with_heard, hears_from, beat_by, marking_by, marking_with, look_by, looking_with, looks_on, takes_marked, starts, is_idle, input_of}
use Rattle.epoch_host.specs.Working.{IsAt, IsSpelled, IsWhole, HasRoom, TellVotes}

by_test : (P : Memory → Type 0) (b : Bool) (m n : Memory) → (b ≡ true → P m) → (b ≡ false → P n) → P (if b then m else n)
by_test P true m n p q = p refl
by_test P false m n p q = q refl

-- what begins where there is room is under way
by_room : (going full : Memory) (n room : ℕ) → n < room → is_idle going ≡ false → is_idle (if nat_lt n room then going else full) ≡ false
by_room going full n room less busy = ap (λ (b : Bool). is_idle (if b then going else full)) (lt-ltb n room less) ∙ busy

-- ROWS THAT WERE HEARD

-- nothing was heard yet
votes_first : TellVotes []
votes_first d = votes_none cluster_version

-- a whole row that is read as sound shows votes
told_shows : (answer : Answer) → IsWhole answer → (row : List DecodedBlock) → heard_as answer ≡ answers.Told (Some row) → ShowsVotes cluster_version row
told_shows (Told bytes) whole row is = row_shows cluster_version bytes row whole (let said : decoded_row cluster_version bytes ≡ Some row = cc in said)
told_shows (Booted boot) whole row is = absurd (cc)
told_shows Done whole row is = absurd (cc)
told_shows (Fault fault) whole row is = absurd (cc)

votes_next : (heard : List Answered) (d : ℕ) (answer : Answer) → IsWhole answer → TellVotes heard → TellVotes (heard ++ record { disk = d; heard = heard_as answer } ∷ [])
votes_next heard d answer whole votes =
    subst (λ (f : Answers). (e : ℕ) → TellsVotes cluster_version (f e)) (sym (on_more heard (record { disk = d; heard = heard_as answer })))
    (by_disk (on heard) d (heard_as answer) (λ e a. TellsVotes cluster_version a) (votes_more cluster_version (on heard d) (heard_as answer) (votes d) (told_shows answer whole)) (λ e off. votes e))

module _ (c : Shape) where
  abbrev So : Memory → Type 0
  So m = IsAt c m m.doing × (length m.learned ≤ c.slots)

  one_more : (m : Memory) (command : Command) → length m.learned < c.slots → length (learns m command).learned ≤ c.slots
  one_more m command less = let long : length (m.learned ++ command ∷ []) ≡ length m.learned + 1 = length-append m.learned (command ∷ []) in omega (arith, long, less)

  full : (m : Memory) (operation : Operation) → length m.learned ≤ c.slots → So (says m (full_answer operation (length m.learned)))
  full m (Submitting command) few = (tt, few)
  full m Recovering few = (tt, few)

  going : (m : Memory) (operation : Operation) (tries : ℕ) → IsLong cluster_version (input_of operation) → length m.learned ≤ c.slots → So (goes_on c m operation tries)
  going m operation tries long few =
      by_test So (nat_lt (length m.learned) c.slots) (begins m operation tries) (says m (full_answer operation (length m.learned)))
      (λ is. ((ltb-true (length m.learned) c.slots is, votes_first, long), few)) (λ is. full m operation few)

  learned : (m : Memory) (t : Attempt) (command : Command) (b : Bool) → IsLong cluster_version (input_of t.operation) → length m.learned < c.slots → So (after_learning c m t command b)
  learned m t command true input less = ((let long : length (m.learned ++ command ∷ []) ≡ length m.learned + 1 = length-append m.learned (command ∷ []) in omega (arith, long), less), one_more m command less)
  learned m t command false input less = going (learns m command) t.operation t.tries input (one_more m command less)

  took : (m : Memory) (t : Attempt) (ballot : ℕ) (value : List ℕ) (o : Option Command) → IsLong cluster_version (input_of t.operation) → length m.learned < c.slots → So (takes c m t ballot value o)
  took m t ballot value None input less = (tt, omega (arith, less))
  took m t ballot value (Some command) input less = learned m t command (is_submitted t.operation value) input less

  tried : (m : Memory) (operation : Operation) (tries : ℕ) → IsLong cluster_version (input_of operation) → length m.learned < c.slots → So (tries_again m operation tries)
  tried m operation tries input less =
      by_test So (nat_le tries 1) (says m (Refused refusal.Outrun)) (begins m operation (tries - 1)) (λ is. (tt, omega (arith, less))) (λ is. ((less, votes_first, input), omega (arith, less)))

  over : (m : Memory) (t : Attempt) (ballot : ℕ) (end : End) → IsLong cluster_version (input_of t.operation) → length m.learned < c.slots → So (ended c m t ballot end)
  over m t ballot (Committed value) input less = took m t ballot value (decoded value) input less
  over m t ballot (Decided value) input less = took m t ballot value (decoded value) input less
  over m t ballot Empty input less = (tt, omega (arith, less))
  over m t ballot (Outrun mbal) input less = tried (with_floor (with_floor m ballot) mbal) t.operation t.tries input less
  over m t ballot NoMajority input less = (tt, omega (arith, less))
  over m t ballot BallotsSpent input less = (tt, omega (arith, less))

  goes : (m : Memory) (t : Attempt) (ballot : ℕ) (st : Status) → TellVotes t.heard → IsLong cluster_version (input_of t.operation) → length m.learned < c.slots → So (by_status c m t ballot st)
  goes m t ballot (Due phase disk) votes input less = ((less, votes, input), omega (arith, less))
  goes m t ballot (Ended end) votes input less = over m t ballot end input less

  -- A LOOK, A BEAT AND A MARKING

  looks_next : (m : Memory) (first : ℕ) → length m.learned ≤ c.slots → So (looks_on c m first)
  looks_next m first few =
      by_test So (nat_lt (length m.learned) c.slots) (does m (Looks (record { first = first; heard = [] }))) _
      (λ is. (ltb-true (length m.learned) c.slots is, few)) (λ is. (tt, few))

  looks_told : (m : Memory) (d : ℕ) (o : Option Command) → length m.learned < c.slots → So (takes_marked c m d o)
  looks_told m d None less = (tt, omega (arith, less))
  looks_told m d (Some command) less = looks_next (learns m command) d (one_more m command less)

  looks : (m : Memory) (t : Looking) (st : look.Status) → length m.learned < c.slots → So (look_by c m t st)
  looks m t (look.Due disk) less = (less, omega (arith, less))
  looks m t (look.Ended (look.Decided disk value)) less = looks_told m disk (decoded value) less
  looks m t (look.Ended look.Unmarked) less = (tt, omega (arith, less))
  looks m t (look.Ended look.NoMajority) less = (tt, omega (arith, less))

  beats : (h : ℕ) (m : Memory) (heard : List beat_answers.Answered) (st : beat.Status) → length m.learned ≤ c.slots → So (beat_by h m heard st)
  beats h m heard (beat.Due disk) few = (tt, few)
  beats h m heard (beat.Ended (beat.Beaten readings)) few = (tt, few)
  beats h m heard (beat.Ended beat.NoMajority) few = (tt, few)

  marks : (m : Memory) (t : Marking) (st : mark.Status) → t.slot < c.slots → TellVotes t.heard → length m.learned ≤ c.slots → So (marking_by m t st)
  marks m t (mark.Due disk) less votes few = ((less, votes), few)
  marks m t (mark.Ended (mark.Marked count)) less votes few = (tt, few)
  marks m t (mark.Ended mark.NoMajority) less votes few = (tt, few)

  -- so it stays
  pub hears_so : (h : ℕ) (m : Memory) (o : Option Doing) (d : ℕ) (answer : Answer) → IsWhole answer → is_none o ≡ false → IsAt c m o → length m.learned ≤ c.slots → So (hears_from c h m o d answer)
  hears_so h m None d answer whole busy is few = absurd (true≢false busy)
  hears_so h m (Some (Attempts t)) d answer whole busy is few = goes m (with_heard t (record { disk = d; heard = heard_as answer })) _ _ (votes_next t.heard d answer whole is.1) is.2 is.0
  hears_so h m (Some (Looks t)) d answer whole busy is few = looks m (looking_with t _) _ is
  hears_so h m (Some (Beats heard)) d answer whole busy is few = beats h m _ _ few
  hears_so h m (Some (Marks t)) d answer whole busy is few = marks m (marking_with t (record { disk = d; heard = heard_as answer })) _ is.0 (votes_next t.heard d answer whole is.1) few

  -- and so it begins
  pub starts_so : (m : Memory) (given : Task) → IsSpelled given → HasRoom given (length m.learned) c.slots → length m.learned ≤ c.slots → So (starts c m given)
  starts_so m (task.Submit command tries) spelled room few = going m (Submitting command) tries (spelling_long command spelled) few
  starts_so m (task.Recover tries) spelled room few = going m Recovering tries tt few
  starts_so m task.Look spelled room few = looks_next m 0 few
  starts_so m task.Beat spelled room few = (tt, few)
  starts_so m (task.Mark slot) spelled room few =
      by_test So (nat_lt slot (length m.learned)) (does m (Marks (record { slot = slot; heard = [] }))) _
      (λ is. ((room.1, votes_first), few)) (λ is. (tt, few))

  -- and then something is under way
  pub starts_busy : (m : Memory) (given : Task) → HasRoom given (length m.learned) c.slots → is_idle (starts c m given) ≡ false
  starts_busy m (task.Submit command tries) room = by_room (begins m (Submitting command) tries) _ (length m.learned) c.slots room refl
  starts_busy m (task.Recover tries) room = by_room (begins m Recovering tries) _ (length m.learned) c.slots room refl
  starts_busy m task.Look room = by_room (does m (Looks (record { first = 0; heard = [] }))) _ (length m.learned) c.slots room refl
  starts_busy m task.Beat room = refl
  starts_busy m (task.Mark slot) room = by_room (does m (Marks (record { slot = slot; heard = [] }))) _ slot (length m.learned) room.0 refl

-- NOTHING IS FORGOTTEN

module _ (c : Shape) (n : ℕ) where
  abbrev More : Memory → Type 0
  More m = n ≤ length m.learned

  more_going : (m : Memory) (operation : Operation) (tries : ℕ) → More m → More (goes_on c m operation tries)
  more_going m operation tries more = by_test More (nat_lt (length m.learned) c.slots) (begins m operation tries) (says m (full_answer operation (length m.learned))) (λ is. more) (λ is. more)

  more_learned : (m : Memory) (command : Command) → More m → More (learns m command)
  more_learned m command more = let long : length (m.learned ++ command ∷ []) ≡ length m.learned + 1 = length-append m.learned (command ∷ []) in omega (arith, long, more)

  more_after : (m : Memory) (t : Attempt) (command : Command) (b : Bool) → More m → More (after_learning c m t command b)
  more_after m t command true more = more_learned m command more
  more_after m t command false more = more_going (learns m command) t.operation t.tries (more_learned m command more)

  more_took : (m : Memory) (t : Attempt) (ballot : ℕ) (value : List ℕ) (o : Option Command) → More m → More (takes c m t ballot value o)
  more_took m t ballot value None more = more
  more_took m t ballot value (Some command) more = more_after m t command (is_submitted t.operation value) more

  more_tried : (m : Memory) (operation : Operation) (tries : ℕ) → More m → More (tries_again m operation tries)
  more_tried m operation tries more = by_test More (nat_le tries 1) (says m (Refused refusal.Outrun)) (begins m operation (tries - 1)) (λ is. more) (λ is. more)

  more_over : (m : Memory) (t : Attempt) (ballot : ℕ) (end : End) → More m → More (ended c m t ballot end)
  more_over m t ballot (Committed value) more = more_took m t ballot value (decoded value) more
  more_over m t ballot (Decided value) more = more_took m t ballot value (decoded value) more
  more_over m t ballot Empty more = more
  more_over m t ballot (Outrun mbal) more = more_tried (with_floor (with_floor m ballot) mbal) t.operation t.tries more
  more_over m t ballot NoMajority more = more
  more_over m t ballot BallotsSpent more = more

  more_goes : (m : Memory) (t : Attempt) (ballot : ℕ) (st : Status) → More m → More (by_status c m t ballot st)
  more_goes m t ballot (Due phase disk) more = more
  more_goes m t ballot (Ended end) more = more_over m t ballot end more

  more_looks : (m : Memory) (first : ℕ) → More m → More (looks_on c m first)
  more_looks m first more = by_test More (nat_lt (length m.learned) c.slots) (does m (Looks (record { first = first; heard = [] }))) _ (λ is. more) (λ is. more)

  more_told : (m : Memory) (d : ℕ) (o : Option Command) → More m → More (takes_marked c m d o)
  more_told m d None more = more
  more_told m d (Some command) more = more_looks (learns m command) d (more_learned m command more)

  more_look : (m : Memory) (t : Looking) (st : look.Status) → More m → More (look_by c m t st)
  more_look m t (look.Due disk) more = more
  more_look m t (look.Ended (look.Decided disk value)) more = more_told m disk (decoded value) more
  more_look m t (look.Ended look.Unmarked) more = more
  more_look m t (look.Ended look.NoMajority) more = more

  more_beat : (h : ℕ) (m : Memory) (heard : List beat_answers.Answered) (st : beat.Status) → More m → More (beat_by h m heard st)
  more_beat h m heard (beat.Due disk) more = more
  more_beat h m heard (beat.Ended (beat.Beaten readings)) more = more
  more_beat h m heard (beat.Ended beat.NoMajority) more = more

  more_mark : (m : Memory) (t : Marking) (st : mark.Status) → More m → More (marking_by m t st)
  more_mark m t (mark.Due disk) more = more
  more_mark m t (mark.Ended (mark.Marked count)) more = more
  more_mark m t (mark.Ended mark.NoMajority) more = more

  more_heard : (h : ℕ) (m : Memory) (o : Option Doing) (d : ℕ) (answer : Answer) → More m → More (hears_from c h m o d answer)
  more_heard h m None d answer more = more
  more_heard h m (Some (Attempts t)) d answer more = more_goes m (with_heard t _) _ _ more
  more_heard h m (Some (Looks t)) d answer more = more_look m (looking_with t _) _ more
  more_heard h m (Some (Beats heard)) d answer more = more_beat h m _ _ more
  more_heard h m (Some (Marks t)) d answer more = more_mark m (marking_with t _) _ more

pub hears_more : (c : Shape) (h : ℕ) (m : Memory) (o : Option Doing) (d : ℕ) (answer : Answer) → length m.learned ≤ length (hears_from c h m o d answer).learned
hears_more c h m o d answer = more_heard c (length m.learned) h m o d answer (omega arith)
