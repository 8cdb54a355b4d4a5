-- What recovers behind all that happened goes by one log, and so it is right.
use Rattle.std.specs.Prelude.{All}
use Rattle.std.proofs.Common.{ℕ, ◌+◌, ◌<◌, ◌≤◌, ◌≡◌, List, [], length, take, Option, Some, None, sym, ◌∙◌, subst, inl, inr, arith}
use Rattle.std.proofs.lemmas.Bool.{cases_lt}
use Rattle.std.proofs.lemmas.List.Elements.{All-weaker}
use Rattle.lock_command.specs.declared.reply.Reply.{Reply}
use Rattle.lock_command.specs.declared.record.TheConstants.{LOCKS}
use Rattle.lock_table.specs.declared.clients.TheConstants.{CLIENTS}
use Rattle.lock_table.specs.Apply.{table_after}
use Rattle.lock_table.specs.Picture.{IsPictureOf}
use Rattle.lock_table.proofs.Unique.{one_shown}
use Rattle.paxos_block.specs.Shape.{Shape}
use Rattle.lock_script.specs.declared.event.Event.{Event}
use Rattle.epoch_deeds.specs.Deeds.{Deeds}
use Rattle.epoch_host.specs.declared.answer.EpochAnswer.{EpochAnswer}
use Rattle.epoch_host.specs.declared.answer.EpochAnswer.TheVariants.{Ack, Recovered, Looked, Beaten, Marked, Refused}
use Rattle.epoch_host.specs.declared.task.EpochTask.TheVariants.{Submit, Recover}
use Rattle.epoch_host.specs.Ending.{AreIdleBy, AreSilentBy, HasEnded, IsTableOf}
use Rattle.epoch_runs.specs.World.{Entry}
use Rattle.epoch_player.specs.declared.happening.Said.{Said}
use Rattle.epoch_sweep.specs.declared.ending.Recovery.{Recovery}
use Rattle.epoch_sweep.specs.Judging.{AllHeld, Holds, HoldAll, ShowOne, IsRight, holds_answer}
use Rattle.epochs_at_once.specs.Joined.{deeds_by, Tells, ShowsTable, HasRecovered, HasOneLog}
use Rattle.epochs_at_once.proofs.Joined.{at_start}
use Rattle.sweep_safety.specs.Laws.{RecoverThen, RecoveriesAreRight, IsLogged, answer_is_logged, ShowsLog, GoByOneLog, RecoveriesGoByOneLog}
use Rattle.sweep_safety.proofs.Entries.{IsBeginning, itself, both, no_longer, did_by, one_log}
use Rattle.sweep_safety.proofs.Keeping.{IsAcked, IsAnswerOf, IsOf, AreOf, are_still, Keeps, at_first, all_happened}
use Rattle.sweep_safety.proofs.Recovering.{HasTold, HasToldIf, HasRecoveredBy, recovered}

-- ACKNOWLEDGEMENTS

module _ (c : Shape) (events : List Event) (all : List Entry) (log : HasOneLog c all) where
  is_logged : (h : ℕ) (answer : EpochAnswer) → IsAnswerOf c events all h answer → answer_is_logged events log.commands log.before h answer
  is_logged h (Ack place reply) is =
      let tells : Tells c all (length is.early) h (Submit is.command is.tries) (Ack place reply) =
      subst (λ (l : Deeds). HasEnded c h l (Submit is.command is.tries) (Ack place reply)) (sym (did_by h is.early all is.begins)) is.ended in
      let stands = log.acknowledged (length is.early) h is.tries place is.command reply tells is.asked in
      (is.command, is.given, stands.0, log.counted (length is.early) h is.tries place is.command reply tells is.asked, stands.1)
  is_logged h (Recovered upto) is = tt
  is_logged h (Looked upto) is = tt
  is_logged h (Beaten host) is = tt
  is_logged h (Marked count) is = tt
  is_logged h (Refused refusal) is = tt

  all_logged : (told : List Said) → AreOf c events all told → All (IsLogged events log.commands log.before) told
  all_logged told are = All-weaker (IsOf c events all) (IsLogged events log.commands log.before) (λ s is. is_logged s.host s.answer is) told are

  -- RECOVERIES

  module _ (before : List Entry) (h : ℕ) (recovery : Recovery) (told : HasTold c before all h recovery) where
    anew_there : IsBeginning told.anew all
    anew_there = both told.anew told.done all told.until told.within

    nothing_done : deeds_by all (length told.anew) h ≡ []
    nothing_done = did_by h told.anew all anew_there ∙ told.stopped

    told_there : Tells c all (length told.done) h (Recover 255) (Recovered recovery.upto)
    told_there = subst (λ (l : Deeds). HasEnded c h l (Recover 255) (Recovered recovery.upto)) (sym (did_by h told.done all told.within)) told.tells

    has_recovered : HasRecovered c all (length told.anew) (length told.done) h 255 recovery.upto
    has_recovered =
        record {
          idle = subst (AreIdleBy c h) (sym nothing_done) (at_start c h).0;
          between = length told.anew;
          since = omega arith;
          until = no_longer told.anew told.done told.until;
          silent = subst (AreSilentBy c h) (sym nothing_done) (at_start c h).1;
          tells = told_there;
        }

    -- its table is that after the commands before its place
    shows_log : (log.before recovery.upto ≤ length log.commands) × IsPictureOf recovery.table (table_after (take (log.before recovery.upto) log.commands))
    shows_log =
        let shows : ShowsTable c all (length told.done) h told.shows.0 recovery.table =
        subst (λ (l : Deeds). IsTableOf c h l told.shows.0 recovery.table) (sym (did_by h told.done all told.within)) told.shows.1 in
        let same : told.shows.0 ≡ recovery.upto = log.recovered (length told.done) h 255 recovery.upto told.shows.0 recovery.table told_there shows in
        subst (λ (n : ℕ). (log.before n ≤ length log.commands) × IsPictureOf recovery.table (table_after (take (log.before n) log.commands))) same
        (log.shown (length told.done) h told.shows.0 recovery.table shows)

    -- what was acknowledged before is below its place
    holds_place : (g place : ℕ) (reply : Reply) → IsAcked c events before g place reply → place < recovery.upto
    holds_place g place reply acked =
        let early_anew : IsBeginning acked.early told.anew = both acked.early before told.anew acked.begins told.since in
        let early_there : IsBeginning acked.early all = both acked.early told.anew all early_anew anew_there in
        let tells : Tells c all (length acked.early) g (Submit acked.command acked.tries) (Ack place reply) =
        subst (λ (l : Deeds). HasEnded c g l (Submit acked.command acked.tries) (Ack place reply)) (sym (did_by g acked.early all early_there)) acked.ended in
        let less : log.before place < log.before recovery.upto =
        log.holds (length acked.early) (length told.anew) (length told.done) g h acked.tries 255 place recovery.upto acked.command reply
        (no_longer acked.early told.anew early_anew) tells acked.asked has_recovered in
        elim (cases_lt place recovery.upto) [
          | inl below ↦ below
          | inr above ↦ absurd (let rise = log.rises recovery.upto place above in omega (arith, less, rise))
        ]

    holds : (g : ℕ) (answer : EpochAnswer) → IsAnswerOf c events before g answer → holds_answer recovery.upto answer
    holds g (Ack place reply) is = holds_place g place reply is
    holds g (Recovered upto) is = tt
    holds g (Looked upto) is = tt
    holds g (Beaten host) is = tt
    holds g (Marked count) is = tt
    holds g (Refused refusal) is = tt

    all_held : (said : List Said) → AreOf c events before said → AllHeld recovery.upto said
    all_held said are = All-weaker (IsOf c events before) (Holds recovery.upto) (λ s is. holds s.host s.answer is) said are

  -- so it is of one that answered
  hold_all : (before : List Entry) (h : ℕ) (found : Option Recovery) (said : List Said) → HasToldIf c before all h found → AreOf c events before said → HoldAll said found
  hold_all before h None said told are = tt
  hold_all before h (Some recovery) said told are = all_held before h recovery told said are

  show_log : (before : List Entry) (h : ℕ) (found : Option Recovery) → HasToldIf c before all h found → ShowsLog log.commands log.before found
  show_log before h None told = tt
  show_log before h (Some recovery) told = shows_log before h recovery told

  -- two tables after the same commands are one
  show_one : (first last : Option Recovery) → ShowsLog log.commands log.before first → ShowsLog log.commands log.before last → ShowOne first last
  show_one None last one other = tt
  show_one (Some first) None one other = tt
  show_one (Some first) (Some last) one other =
      λ same.
      one_shown (table_after (take (log.before first.upto) log.commands)) first.table last.table one.1
      (subst (λ (n : ℕ). IsPictureOf last.table (table_after (take (log.before n) log.commands))) (sym same) other.1)

-- BOTH

module _ (c : Shape) (told : List Said) (first last : Option Recovery) (long : LOCKS + CLIENTS ≤ c.slots) (then : RecoverThen c told first last) where
  happened : (entries : List Entry) × Keeps c then.events entries told then.now
  happened = all_happened c then.events then.old then.now told [] [] [] then.happen (at_first c then.old then.begins)

  one : HasRecoveredBy c happened.0 then.hosts.0 then.between first
  one = recovered c then.hosts.0 then.now then.between first then.events happened.0 told then.one happened.1

  other : HasRecoveredBy c one.all then.hosts.1 then.new last
  other = recovered c then.hosts.1 then.between then.new last one.events one.all one.told then.other one.keeps

  log : HasOneLog c other.all
  log = one_log c other.all then.new long other.keeps.led other.keeps.shape

  one_told : HasToldIf c happened.0 other.all then.hosts.0 first
  one_told = one.so other.all other.begins

  other_told : HasToldIf c one.all other.all then.hosts.1 last
  other_told = other.so other.all (itself other.all)

  one_shows : ShowsLog log.commands log.before first
  one_shows = show_log c then.events other.all log happened.0 then.hosts.0 first one_told

  other_shows : ShowsLog log.commands log.before last
  other_shows = show_log c then.events other.all log one.all then.hosts.1 last other_told

  are_right : IsRight told first last
  are_right = (
    hold_all c then.events other.all log happened.0 then.hosts.0 first told one_told happened.1.are,
    hold_all c then.events other.all log one.all then.hosts.1 last told other_told (are_still c then.events happened.0 one.all told one.begins happened.1.are),
    show_one c then.events other.all log first last one_shows other_shows,
  )

  go_by_one_log : GoByOneLog then.events told first last
  go_by_one_log =
      record {
        commands = log.commands;
        before = log.before;
        rises = log.rises;
        acknowledged =
            all_logged c then.events other.all log told
            (are_still c then.events happened.0 other.all told (both happened.0 one.all other.all one.begins other.begins) happened.1.are);
        one = one_shows;
        other = other_shows;
      }

pub recoveries_are_right : RecoveriesAreRight
recoveries_are_right c told first last long then = are_right c told first last long then

pub recoveries_go_by_one_log : RecoveriesGoByOneLog
recoveries_go_by_one_log c told first last long then = go_by_one_log c told first last long then
