-- All that hosts choose, learn and say in any epoch goes by the one log.
use Rattle.std.specs.Prelude.{drop, ◌-◌, take, map, slice_get}
use Rattle.std.proofs.Common.{ℕ, zero, suc, ◌+◌, ◌<◌, ◌≤◌, ◌≡◌, ◌⊎◌, inl, inr, true, false, Option, Some, None, List, [], ◌++◌, length, refl, sym, subst, ap, ap₂, ◌∙◌, arith}
use Rattle.std.proofs.lemmas.Bool.{cases_lt}
use Rattle.std.proofs.lemmas.List.{length-take-le}
use Rattle.std.proofs.lemmas.Option.{slice_get_past, slice_get_within}
use Rattle.lock_command.specs.declared.command.Command.{Command}
use Rattle.lock_command.specs.declared.reply.Reply.{Reply}
use Rattle.lock_command.specs.Command.{spelling, is_submittable}
use Rattle.paxos_block.specs.Shape.{Shape}
use Rattle.host.specs.declared.answer.HostAnswer.{HostAnswer}
use Rattle.host.specs.declared.answer.HostAnswer.TheVariants.{Ack, Recovered, Looked}
use Rattle.host.specs.Host.{Memory, Host, Stopped, Running, said_of}
use Rattle.host.specs.declared.task.Task.TheVariants.{Submit}
use Rattle.world.specs.Entry.{Begin}
use Rattle.world.specs.World.{IsRun}
use Rattle.world.specs.Chosen.{at, migrated, IsChosen}
use Rattle.world.specs.Headline.{IsPrefix, prefix_at, IsAcknowledgedBefore}
use Rattle.world.proofs.Runs.{migrated_fits}
use Rattle.world.proofs.Safe.{one_begins_other}
use Rattle.world_safety.proofs.Runs.Commands.{one_command, map_item, map_there}
use Rattle.endless.specs.Epochs.{IsAsAfter}
use Rattle.endless.specs.Headline.{learned_in, SaysIn, IsAcknowledgedIn, IsAcknowledgedEarlier, IsRecoveryIn, IsDue, KeepsToEpochs, Stretch, place_of, log_of, GoesByLog, ComesFrom, StandsIn, HasOneLogWithoutEnd, EndlessHeadline}
use Rattle.endless.specs.Lived.{Lived, part, now, RunsIn, IsLived}
use Rattle.endless.proofs.Last.{IsLast, last_epoch}
use Rattle.endless.proofs.Lists.{prefix_short, prefix_trans, prefix_get, item_below}
use Rattle.endless.proofs.Lived.{recoveries_are_of_the_last}
use Rattle.endless.proofs.Logs.{Logs, IsOwn, logs_of}
use Rattle.endless.proofs.Places.{now_rises, now_next, place_for}
use Rattle.endless.proofs.Puts.{IsPutBy, put_chosen}

-- whoever says something is running
runs_who_says : (host : Host) (said : HostAnswer) → said_of host ≡ Some said → (m : Memory) × (host ≡ Running m)
runs_who_says Stopped said is = absurd (cc)
runs_who_says (Running m) said is = (m, refl)

-- where something is chosen in an epoch, somebody is running there
pub record IsSomebody (c : Shape) (lived : List Lived) (e : ℕ) : Type 0 where
  pub place : ℕ
  pub host : ℕ
  pub memory : Memory
  pub runs : RunsIn c lived place e host memory

pub runs_who_chose : (c : Shape) (lived : List Lived) (run : (e : ℕ) → IsRun c (part e lived)) (fresh : (e : ℕ) → migrated (part (suc e) lived) ≡ []) (e slot : ℕ) (value : List ℕ) → IsChosen c (part (suc e) lived) slot value → IsSomebody c lived (suc e)
runs_who_chose c lived run fresh e slot value is =
    let none = ap (λ (l : List Command). length l) (fresh e) in
    let put = put_chosen c (part (suc e) lived) (run (suc e)) slot value (omega (arith, none)) is in
    let within = slice_get_within (part (suc e) lived) put.place _ put.call.4 in
    let k = place_for (suc e) lived put.place (omega (arith, within)) in
    record { place = k.0; host = put.host; memory = put.memory; runs = ap (λ (n : ℕ). (at c (part (suc e) lived) n).host put.host) k.1 ∙ put.running }

-- what is chosen is chosen in no later epoch than one behind which nobody is
pub upto_last : (c : Shape) (lived : List Lived) (last : ℕ) (run : (e : ℕ) → IsRun c (part e lived)) (fresh : (e : ℕ) → migrated (part (suc e) lived) ≡ []) → ((i e h : ℕ) (memory : Memory) → RunsIn c lived i e h memory → e ≤ last)
    → (e slot : ℕ) (value : List ℕ) → IsChosen c (part e lived) slot value → e ≤ last
upto_last c lived last run fresh none zero slot value is = omega arith
upto_last c lived last run fresh none (suc e) slot value is = let who = runs_who_chose c lived run fresh e slot value is in none who.place (suc e) who.host who.memory who.runs

module _ (c : Shape) (lived : List Lived) (last : ℕ) (run : (e : ℕ) → IsRun c (part e lived)) (fresh : (e : ℕ) → migrated (part (suc e) lived) ≡ []) (keeps : KeepsToEpochs c lived) (is_last : IsLast c lived run keeps.in_turn last) (l : Logs c lived last) where
  abbrev stretch : ℕ → Stretch
  stretch e = record { over = l.over e; behind = l.behind e }

  -- WHERE COMMANDS COME FROM

  -- something is chosen in no later epoch than the last
  reached_chosen : (e slot : ℕ) (value : List ℕ) → IsChosen c (part e lived) slot value → e ≤ last
  reached_chosen e slot value is = upto_last c lived last run fresh is_last.none e slot value is

  -- a slot behind all that was migrated
  abbrev IsPast : ℕ → ℕ → Type 0
  IsPast e slot = length (migrated (part e lived)) ≤ slot

  put_in : (e slot : ℕ) (command : Command) → IsPast e slot → slice_get (l.logs e) slot ≡ Some command → IsPutBy c (part e lived) slot (spelling command)
  put_in e slot command past found = put_chosen c (part e lived) (run e) slot (spelling command) past ((l.safe e).is_log.chosen slot (spelling command) (map_there (l.logs e) slot command found))

  put_is : (e slot : ℕ) (command : Command) (past : IsPast e slot) (found : slice_get (l.logs e) slot ≡ Some command) → (put_in e slot command past found).command ≡ command
  put_is e slot command past found =
      let put = put_in e slot command past found in
      sym (one_command command put.command (l.reads e slot command found) put.begun.reads put.spelled)

  is_past : (e slot n : ℕ) → place_of (stretch e) slot ≡ n → length (migrated (part zero lived)) ≤ n → IsPast e slot
  is_past zero slot n there late =
      let none = ap (λ (x : List Command). length x) l.first_over in
      let start = l.first_behind in
      omega (arith, none, start, there, late)
  is_past (suc e) slot n there late = let none = ap (λ (x : List Command). length x) (fresh e) in omega (arith, none)

  module _ (n : ℕ) (command : Command) (late : length (migrated (part zero lived)) ≤ n) (found : slice_get l.all n ≡ Some command) where
    own : IsOwn last l.logs l.over l.behind n command
    own = l.whose n command found

    past : IsPast own.epoch own.slot
    past = is_past own.epoch own.slot n own.there late

    put : IsPutBy c (part own.epoch lived) own.slot (spelling command)
    put = put_in own.epoch own.slot command past own.is

    asked : is_submittable command ≡ true
    unfolding put put_in
    asked =
        let due = l.due own.epoch own.upto put.place put.host put.memory put.doing put.command put.call put.running put.does put.submits in
        let behind : slice_get (l.over own.epoch) (length put.memory.learned) ≡ None = slice_get_past (l.over own.epoch) (length put.memory.learned) (let o = put.on_slot in let p = own.past in omega (arith, o, p)) in
        let clear : is_submittable put.command ≡ true = subst (λ (o : Option Command). IsDue o put.command) behind due in
        ap is_submittable (sym (put_is own.epoch own.slot command past own.is)) ∙ clear

    comes_from : ComesFrom c lived last stretch n command
    unfolding put put_in
    comes_from =
        record {
          epoch = own.epoch;
          slot = own.slot;
          upto = own.upto;
          behind = own.past;
          there = own.there;
          chosen = (l.safe own.epoch).is_log.chosen own.slot (spelling command) (map_there (l.logs own.epoch) own.slot command own.is);
          place = put.begun.place;
          host = put.host;
          tries = put.begun.tries;
          submitted = put.begun.entry ∙ ap (λ (x : Command). Some (Begin put.host (Submit x put.begun.tries))) (put_is own.epoch own.slot command past own.is);
        }

  one : (e slot : ℕ) (value : List ℕ) → IsChosen c (part e lived) slot value → slice_get (map spelling (log_of l.all (stretch e))) slot ≡ Some value
  one e slot value chosen =
      let item = map_item (l.logs e) slot value ((l.safe e).one slot value chosen) in
      let there = prefix_get (l.logs e) (log_of l.all (stretch e)) slot item.0 (l.begins e (reached_chosen e slot value chosen)) item.1 in
      map_there (log_of l.all (stretch e)) slot item.0 there ∙ ap Some item.2

  -- what was migrated begins the one log
  begun : IsPrefix (migrated (part zero lived)) l.all
  begun =
      let same : l.over zero ++ drop (l.behind zero) l.all ≡ l.all = ap₂ (λ (o : List Command) (n : ℕ). o ++ drop n l.all) l.first_over l.first_behind in
      subst (λ (x : List Command). IsPrefix (migrated (part zero lived)) x) same
      (prefix_trans (migrated (part zero lived)) (l.logs zero) (l.over zero ++ drop (l.behind zero) l.all) (l.safe zero).begun (l.begins zero (omega arith)))

  -- WHAT HOSTS LEARN

  goes_by : (e p h : ℕ) → e ≤ last → GoesByLog l.all (stretch e) (prefix_at c (part e lived) p h)
  goes_by e p h reached =
      let learned = prefix_at c (part e lived) p h in
      let is : IsPrefix learned (l.logs e) = (l.safe e).prefix p h in
      let short = prefix_short learned (l.logs e) is in
      let long = l.long e reached in
      record {
        upto = omega (arith, short, long);
        begins = prefix_trans learned (l.logs e) (log_of l.all (stretch e)) is (l.begins e reached);
        as_after = λ whole.
            subst (λ (x : List Command). IsAsAfter x (take (place_of (stretch e) (length learned)) l.all)) (sym is) (l.after e (length learned) reached whole short);
      }

  learned : (i e h : ℕ) → e ≤ last → GoesByLog l.all (stretch e) (learned_in c lived i e h)
  learned i e h reached = goes_by e (now e i lived) h reached

  prefixes : (i j e g h : ℕ) → IsPrefix (learned_in c lived i e g) (learned_in c lived j e h) ⊎ IsPrefix (learned_in c lived j e h) (learned_in c lived i e g)
  prefixes i j e g h = one_begins_other c (part e lived) (l.logs e) (l.safe e) (now e i lived) (now e j lived) g h

  -- WHAT THEY ACKNOWLEDGE

  placed : (i e h slot : ℕ) (reply : Reply) → SaysIn c lived i e h (Ack slot reply) → (command : Command) × IsAcknowledgedIn c lived i e h slot command reply
  placed i e h slot reply says = let by = (l.safe e).placed (now e i lived) h slot reply says.is in (by.0, record { here = says.here; is = by.1 })

  module _ (i e h slot : ℕ) (command : Command) (reply : Reply) (acked : IsAcknowledgedIn c lived i e h slot command reply) (client : is_submittable command ≡ true) where
    reached_acked : e ≤ last
    reached_acked = is_last.none i e h acked.is.memory acked.is.running

    in_log : slice_get (l.logs e) slot ≡ Some command
    in_log = (l.safe e).acknowledged (now e i lived) h slot command reply acked.is

    past_over : length (l.over e) ≤ slot
    past_over = elim (cases_lt slot (length (l.over e))) [
      | inr past ↦ past
      | inl less ↦
          (let item = item_below (l.over e) slot less in
          let same = l.first_is e reached_acked slot command item.0 in_log item.1 in
          let none : is_submittable command ≡ false = ap is_submittable same ∙ l.carried e slot item.0 item.1 in
          let both : true ≡ false = sym client ∙ none in
          absurd (cc))
    ]

    stands_in : StandsIn l.all (stretch e) slot command reply
    stands_in =
        let within = slice_get_within (l.logs e) slot command in_log in
        let as_after = l.after e slot reached_acked past_over (omega (arith, within)) in
        record {
          behind = past_over;
          there = l.stands e slot command reached_acked past_over in_log;
          replied = (l.safe e).reply (now e i lived) h slot command reply acked.is ∙ as_after.replies command;
        }

  -- WHAT THEY RECOVER

  module _ (i e h : ℕ) (said : HostAnswer) (says : SaysIn c lived i e h said) where
    same_place : now e (suc i) lived ≡ now e i lived + 1
    same_place = now_next e i lived says.here ∙ omega arith

    reached_said : e ≤ last
    reached_said =
        let who = runs_who_says ((at c (part e lived) (now e i lived + 1)).host h) said says.is.says in
        is_last.none (suc i) e h who.0 (ap (λ (p : ℕ). (at c (part e lived) p).host h) same_place ∙ who.1)

    counted : (n : ℕ) → (n ≤ length (l.logs e)) × (prefix_at c (part e lived) (now e i lived + 1) h ≡ take n (l.logs e)) → (length (learned_in c lived (suc i) e h) ≡ n) × GoesByLog l.all (stretch e) (learned_in c lived (suc i) e h)
    counted n is = (
      ap (λ (p : ℕ). length (prefix_at c (part e lived) p h)) same_place ∙ ap (λ (x : List Command). length x) is.1 ∙ length-take-le n (l.logs e) is.0,
      learned (suc i) e h reached_said,
    )

  recovered : (i e h n : ℕ) → SaysIn c lived i e h (Recovered n) → (length (learned_in c lived (suc i) e h) ≡ n) × GoesByLog l.all (stretch e) (learned_in c lived (suc i) e h)
  recovered i e h n says = counted i e h (Recovered n) says n ((l.safe e).recovered (now e i lived) h n says.is)

  looked : (i e h n : ℕ) → SaysIn c lived i e h (Looked n) → (length (learned_in c lived (suc i) e h) ≡ n) × GoesByLog l.all (stretch e) (learned_in c lived (suc i) e h)
  looked i e h n says = counted i e h (Looked n) says n ((l.safe e).looked (now e i lived) h n says.is)

  -- later epochs stand further behind
  rises : (d e f : ℕ) → f ≡ d + e → l.behind e ≤ l.behind f
  rises zero e f is = let same : e ≡ f = omega (arith, is) in let at_both = ap l.behind same in omega (arith, at_both)
  rises (suc d) e zero is = absurd (omega (arith, is))
  rises (suc d) e (suc f) is = let rest = rises d e f (omega (arith, is)) in let next = l.next_behind f in omega (arith, rest, next)

  -- and each recovery has it
  keeps_migrated : (i e h n : ℕ) → SaysIn c lived i e h (Recovered n) → length (migrated (part zero lived)) ≤ place_of (stretch e) n
  keeps_migrated i zero h n says =
      let none = ap (λ (x : List Command). length x) l.first_over in
      let start = l.first_behind in
      let few = (l.safe zero).keeps (now zero i lived) h n says.is in
      omega (arith, none, start, few)
  keeps_migrated i (suc e) h n says =
      let none = ap (λ (x : List Command). length x) l.first_over in
      let start = l.first_behind in
      let next = l.next_behind zero in
      let rise = rises e 1 (suc e) (omega arith) in
      let few = migrated_fits c (part zero lived) (run zero) in
      omega (arith, none, start, next, rise, few)

  lives : IsLived c lived
  lives = record { is_run = run; in_turn = keeps.in_turn }

  module _ (i j e n : ℕ) (h : ℕ) (recovery : IsRecoveryIn c lived i j e h n) (less : n < c.slots) where
    -- nothing was acknowledged in a later epoch
    none_later : (f slot : ℕ) (command : Command) → IsAcknowledgedEarlier c lived i f slot command → e < f → ⊥
    none_later f slot command acked later =
        let far : f ≡ (f - suc e) + suc e = omega (arith, later) in
        let before = acked.before in
        recoveries_are_of_the_last c lived (omega (arith, less)) lives i (now e j lived) e h n recovery.is less acked.place (f - suc e) acked.host acked.is.is.memory (omega (arith, before))
        (subst (λ (x : ℕ). RunsIn c lived acked.place x acked.host acked.is.is.memory) far acked.is.is.running)

    -- what was acknowledged in the same epoch is there
    same_epoch : (slot : ℕ) (command : Command) → IsAcknowledgedEarlier c lived i e slot command → slot < n
    same_epoch slot command acked =
        let next = now_next e acked.place lived acked.is.here in
        let rise = now_rises e (suc acked.place) i lived (let b = acked.before in omega (arith, b)) in
        let before : IsAcknowledgedBefore c (part e lived) (now e i lived) slot command =
        record { place = now e acked.place lived; host = acked.host; reply = acked.reply; before = omega (arith, next, rise); is = acked.is.is } in
        (l.safe e).holds (now e i lived) (now e j lived) h n slot command recovery.is before

    holds : (f slot : ℕ) (command : Command) → IsAcknowledgedEarlier c lived i f slot command → is_submittable command ≡ true → place_of (stretch f) slot < place_of (stretch e) n
    holds f slot command acked client =
        let past = past_over acked.place f acked.host slot command acked.reply acked.is client in
        let within = slice_get_within (l.logs f) slot command (in_log acked.place f acked.host slot command acked.reply acked.is client) in
        let few = l.bounded f in
        elim (cases_lt e f) [
          | inl later ↦ absurd (none_later f slot command acked later)
          | inr not_later ↦
              elim (cases_lt f e) [
                | inl earlier ↦
                    (let rise = rises (e - suc f) (suc f) e (omega (arith, earlier)) in
                    let next = l.next_behind f in
                    omega (arith, past, within, few, rise, next))
                | inr same ↦
                    (let one : f ≡ e = omega (arith, not_later, same) in
                    let here = same_epoch slot command (subst (λ (x : ℕ). IsAcknowledgedEarlier c lived i x slot command) one acked) in
                    let overs = ap (λ (x : ℕ). length (l.over x)) one in
                    let behinds = ap l.behind one in
                    omega (arith, past, here, overs, behinds))
              ]
        ]

  has_one_log : HasOneLogWithoutEnd c lived
  has_one_log =
      record {
        commands = l.all;
        stretch = stretch;
        last = last;
        none = is_last.none;
        first = ap₂ (λ (o : List Command) (n : ℕ). record { over = o; behind = n }) l.first_over l.first_behind;
        over = λ e below. l.into (suc e) (omega (arith, below));
        next = λ e below. l.next_behind e;
        begun = begun;
        asked = asked;
        submitted = comes_from;
        before = λ e i slot value is. (l.safe e).submitted i slot value is;
        one = one;
        learned = learned;
        prefixes = prefixes;
        placed = placed;
        acknowledged = λ i e h slot command reply acked client. stands_in i e h slot command reply acked client;
        recovered = recovered;
        holds = λ i j e f h n slot command recovery less acked client. holds i j e n h recovery less f slot command acked client;
        keeps = keeps_migrated;
        looked = looked;
      }

pub endless_headline : EndlessHeadline
endless_headline c lived run fresh keeps =
    let found = last_epoch c lived run keeps.in_turn in
    has_one_log c lived found.0 run fresh keeps found.1 (logs_of c lived found.0 run fresh keeps found.1)
