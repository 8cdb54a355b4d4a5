-- Whatever events happen, more entries lead to what they leave; and each acknowledgement that was said with them is one by some beginning of the entries.
use Rattle.std.specs.Prelude.{All, Contains, IsSome, MatchOption, MatchBool}
use Rattle.std.specs.Option.{option_map}
use Rattle.std.proofs.Common.{ℕ, ◌≡◌, ◌≢◌, ◌==◌, ◌⊎◌, Bool, true, false, true≢false, List, [], ◌∷◌, ◌++◌, Option, Some, None, sym, ap, ◌∙◌, subst, inl, inr, append_assoc, append-nil, refl}
use Rattle.std.proofs.lemmas.Bool.{cases_Bool, eqb-true, eqb-false}
use Rattle.std.proofs.lemmas.List.Elements.{All-nil, All-push, All-weaker, Contains-append_left, Contains-push}
use Rattle.disk.specs.Simulated.{SimState}
use Rattle.paxos_block.specs.Shape.{Shape}
use Rattle.lock_command.specs.declared.command.Command.{Command}
use Rattle.lock_command.specs.declared.reply.Reply.{Reply}
use Rattle.lock_command.specs.Command.{is_submittable}
use Rattle.lock_script.specs.declared.event.Event.{Event}
use Rattle.lock_script.specs.declared.event.Event.TheVariants as script
use Rattle.epoch_deeds.specs.Deeds.{Deeds}
use Rattle.epoch_host.specs.declared.answer.EpochAnswer.{EpochAnswer}
use Rattle.epoch_host.specs.declared.answer.EpochAnswer.TheVariants.{Ack, Recovered, Looked, Beaten, Marked, Refused}
use Rattle.epoch_host.specs.declared.task.EpochTask.{EpochTask}
use Rattle.epoch_host.specs.declared.task.EpochTask.TheVariants.{Submit, Recover, Look, Beat, Mark}
use Rattle.epoch_host.specs.declared.walk.Walk.{Walk}
use Rattle.epoch_host.specs.Ending.{AreSilent, Ends, EndsSo, HasEnded, TaskGoesOn}
use Rattle.epoch_host.specs.Walking.{MayBegin}
use Rattle.epoch_runs.specs.World.{Entry}
use Rattle.epoch_simulator.specs.Kept.{Kept, LeadsTo, IsHost}
use Rattle.epoch_simulator.specs.Doing.{Changes, ChangesDisk, IsBusy, KeepsTask, LeadsOn, may_crash, may_lose}
use Rattle.epoch_player.specs.declared.happening.Said.{Said}
use Rattle.epoch_player.specs.Happening.{Happens, Says, Stays, Undertakes, Takes, Fails, Tears, place_of}
use Rattle.epoch_sweep.specs.Sweeping.{heard, Happen, IsFirst}
use Rattle.epoch_sweep.proofs.Running.{same_host}
use Rattle.epochs_at_once.specs.AtOnce.{of_host, deeds_since}
use Rattle.sweep_safety.specs.Laws.{IsGiven}
use Rattle.sweep_safety.proofs.Entries.{IsBeginning, itself, with_more, both, led_deeds}

-- WHAT WAS ACKNOWLEDGED

-- By some beginning of these entries a host's submission of a client's command, which one of these events gave it, has ended so.
pub record IsAcked (c : Shape) (events : List Event) (entries : List Entry) (h place : ℕ) (reply : Reply) : Type 0 where
  pub early : List Entry
  pub begins : IsBeginning early entries
  pub command : Command
  pub tries : ℕ
  pub ended : HasEnded c h (deeds_since (of_host h early)) (Submit command tries) (Ack place reply)
  pub asked : is_submittable command ≡ true
  pub given : IsGiven events h command

-- so it is with an answer, if that is an acknowledgement,
abbrev pub IsAnswerOf : Shape → List Event → List Entry → (h : ℕ) → EpochAnswer → Type 0
IsAnswerOf c events entries h (Ack place reply) = IsAcked c events entries h place reply
IsAnswerOf c events entries h other = Unit {0}

abbrev pub IsOf : Shape → List Event → List Entry → Said → Type 0
IsOf c events entries said = IsAnswerOf c events entries said.host said.answer

-- and with all that was said
abbrev pub AreOf : Shape → List Event → List Entry → List Said → Type 0
AreOf c events entries told = All (IsOf c events entries) told

-- it is still so with more entries,
is_still : (c : Shape) (events : List Event) (entries all : List Entry) → IsBeginning entries all → (h : ℕ) (answer : EpochAnswer) → IsAnswerOf c events entries h answer → IsAnswerOf c events all h answer
is_still c events entries all begins h (Ack place reply) is =
    record {
      early = is.early;
      begins = both is.early entries all is.begins begins;
      command = is.command;
      tries = is.tries;
      ended = is.ended;
      asked = is.asked;
      given = is.given;
    }
is_still c events entries all begins h (Recovered upto) is = tt
is_still c events entries all begins h (Looked upto) is = tt
is_still c events entries all begins h (Beaten host) is = tt
is_still c events entries all begins h (Marked count) is = tt
is_still c events entries all begins h (Refused refusal) is = tt

pub are_still : (c : Shape) (events : List Event) (entries all : List Entry) (told : List Said) → IsBeginning entries all → AreOf c events entries told → AreOf c events all told
are_still c events entries all told begins are = All-weaker (IsOf c events entries) (IsOf c events all) (λ s is. is_still c events entries all begins s.host s.answer is) told are

-- and with more events
is_given_still : (events more : List Event) (h : ℕ) (command : Command) → IsGiven events h command → IsGiven (events ++ more) h command
is_given_still events more h command is =
    record {
      tries = is.tries;
      among = Contains-append_left events more (script.Submit command is.tries) is.among;
      own = is.own;
    }

is_later : (c : Shape) (events more : List Event) (entries : List Entry) (h : ℕ) (answer : EpochAnswer) → IsAnswerOf c events entries h answer → IsAnswerOf c (events ++ more) entries h answer
is_later c events more entries h (Ack place reply) is =
    record {
      early = is.early;
      begins = is.begins;
      command = is.command;
      tries = is.tries;
      ended = is.ended;
      asked = is.asked;
      given = is_given_still events more h is.command is.given;
    }
is_later c events more entries h (Recovered upto) is = tt
is_later c events more entries h (Looked upto) is = tt
is_later c events more entries h (Beaten host) is = tt
is_later c events more entries h (Marked count) is = tt
is_later c events more entries h (Refused refusal) is = tt

are_later : (c : Shape) (events more : List Event) (entries : List Entry) (told : List Said) → AreOf c events entries told → AreOf c (events ++ more) entries told
are_later c events more entries told are = All-weaker (IsOf c events entries) (IsOf c (events ++ more) entries) (λ s is. is_later c events more entries s.host s.answer is) told are

-- it is so with what is said next, too
heard_too : (c : Shape) (events : List Event) (entries : List Entry) (told : List Said) (said : Option Said) → AreOf c events entries told → ((s : Said) → said ≡ Some s → IsOf c events entries s)
    → AreOf c events entries (told ++ heard said)
heard_too c events entries told None are next = subst (AreOf c events entries) (sym (append-nil told)) are
heard_too c events entries told (Some s) are next = All-push (IsOf c events entries) told s are (next s refl)

-- TASKS

-- a submission is one that one of these events gave
abbrev pub IsTaskOf : List Event → EpochTask → Type 0
IsTaskOf events (Submit command tries) = Contains events (script.Submit command tries)
IsTaskOf events other = Unit {0}

-- and a host may be given it
abbrev pub MayBeOf : List Event → (h : ℕ) → EpochTask → Type 0
MayBeOf events h task = MayBegin h task × IsTaskOf events task

task_later : (events more : List Event) (task : EpochTask) → IsTaskOf events task → IsTaskOf (events ++ more) task
task_later events more (Submit command tries) is = Contains-append_left events more (script.Submit command tries) is
task_later events more (Recover tries) is = tt
task_later events more Look is = tt
task_later events more Beat is = tt
task_later events more (Mark place) is = tt

-- one that ended with an acknowledgement was a submission
ended_is : (c : Shape) (events : List Event) (h : ℕ) (entries : List Entry) (task : EpochTask) (answer : EpochAnswer) → MayBeOf events h task → HasEnded c h (deeds_since (of_host h entries)) task answer
    → IsAnswerOf c events entries h answer
ended_is c events h entries (Submit command tries) (Ack place reply) may ended =
    record {
      early = entries;
      begins = itself entries;
      command = command;
      tries = tries;
      ended = ended;
      asked = may.0.2;
      given = record { tries = tries; among = may.1; own = may.0.1 };
    }
ended_is c events h entries (Recover tries) (Ack place reply) may ended = absurd ended
ended_is c events h entries Look (Ack place reply) may ended = absurd ended
ended_is c events h entries Beat (Ack place reply) may ended = absurd ended
ended_is c events h entries (Mark slot) (Ack place reply) may ended = absurd ended
ended_is c events h entries task (Recovered upto) may ended = tt
ended_is c events h entries task (Looked upto) may ended = tt
ended_is c events h entries task (Beaten host) may ended = tt
ended_is c events h entries task (Marked count) may ended = tt
ended_is c events h entries task (Refused refusal) may ended = tt

-- a host's task has ended by what the host did in the entries that lead here
pub ended_so : (c : Shape) (h : ℕ) (entries : List Entry) (k : Kept) (led : LeadsTo entries k) (w : Walk) (task : EpochTask) (answer : EpochAnswer) → k.shape ≡ c → IsHost k h w → Ends (Some task) w
    → w.said ≡ Some answer → HasEnded c h (deeds_since (of_host h entries)) task answer
ended_so c h entries k led w task answer shape is ends said =
    let by_world : EndsSo k.shape h (led.world.deeds h) (Some task) w.said = ends k.shape h (led.world.deeds h) (led.shows.hosts h w is) in
    let of_shape : EndsSo c h (led.world.deeds h) (Some task) w.said = subst (λ (x : Shape). EndsSo x h (led.world.deeds h) (Some task) w.said) shape by_world in
    let by_entries : EndsSo c h (deeds_since (of_host h entries)) (Some task) w.said = subst (λ (l : Deeds). EndsSo c h l (Some task) w.said) (led_deeds h entries k led) of_shape in
    subst (λ (o : Option EpochAnswer). EndsSo c h (deeds_since (of_host h entries)) (Some task) o) said by_entries

-- each task that is under way is such a one
abbrev pub AllMay : List Event → Kept → Type 0
AllMay events k = (h : ℕ) (w : Walk) (task : EpochTask) → IsHost k h w → w.task ≡ Some task → MayBeOf events h task

-- so it is where one host has changed
may_still : (events : List Event) (h : ℕ) (old new : Kept) (IsSo : (before after : Walk) → Type 0) (changes : Changes h old new IsSo) → AllMay events old
    → ((task : EpochTask) → changes.after.task ≡ Some task → MayBeOf events h task) → AllMay events new
may_still events h old new IsSo changes all own g w task is under_way =
    elim (cases_Bool (g == h)) [
      | inl here ↦
          (let same : g ≡ h = eqb-true g h here in
          let walk : changes.after ≡ w = same_host new h changes.after w changes.is (subst (λ (n : ℕ). IsHost new n w) same is) in
          subst (λ (n : ℕ). MayBeOf events n task) (sym same) (own task (ap (λ (x : Walk). x.task) walk ∙ under_way)))
      | inr there ↦
          (let not : g ≢ h = eqb-false g h there in
          all g w task (sym (changes.others g not) ∙ is) under_way)
    ]

one_task : (task : Option EpochTask) (given other : EpochTask) → (task ≡ None) ⊎ (task ≡ Some given) → task ≡ Some other → given ≡ other
one_task task given other (inl none) is = absurd (let clash : None ≡ Some other = sym none ∙ is in cc)
one_task task given other (inr same) is = let whole : Some given ≡ Some other = sym same ∙ is in cc

some_task : (task : Option EpochTask) → IsSome task → (given : EpochTask) × (task ≡ Some given)
some_task None some = absurd (true≢false (sym some))
some_task (Some given) some = (given, refl)

-- what a host says
abbrev said_by : ℕ → EpochAnswer → Said
said_by h answer = record { host = h; answer = answer }

said_is : (h : ℕ) (answer : Option EpochAnswer) (s : Said) → option_map (said_by h) answer ≡ Some s → (h ≡ s.host) × (answer ≡ Some s.answer)
said_is h None s is = absurd (let clash : None ≡ Some s = is in cc)
said_is h (Some answer) s is =
    let whole : Some (said_by h answer) ≡ Some s = is in
    let same : said_by h answer ≡ s = cc in
    (ap (λ (x : Said). x.host) same, ap (λ (x : Said). Some x.answer) same)

none_said : (IsSo : Type 0) (said : Option Said) (s : Said) → said ≡ None → said ≡ Some s → IsSo
none_said IsSo said s none is = absurd (let clash : None ≡ Some s = sym none ∙ is in cc)

-- WHAT IS KEPT

-- These entries lead here, each task under way is of these events, and what was said is of these events and entries.
pub record Keeps (c : Shape) (events : List Event) (entries : List Entry) (told : List Said) (k : Kept) : Type 0 where
  pub led : LeadsTo entries k
  pub shape : k.shape ≡ c
  pub may : AllMay events k
  pub are : AreOf c events entries told

-- so it is with more entries
abbrev pub GoesOn : Shape → List Event → List Entry → List Said → Kept → Type 0
GoesOn c events entries told k = (more : List Entry) × Keeps c events (entries ++ more) told k

-- it is so at first
pub at_first : (c : Shape) (k : Kept) → IsFirst c k → Keeps c [] [] [] k
at_first c k first =
    record {
      led = first.leads;
      shape = first.shape;
      may = λ h w task is under_way. absurd (let clash : None ≡ Some task = sym (first.hosts.1 h w is).1 ∙ under_way in cc);
      are = All-nil (IsOf c [] []);
    }

-- and with more events, before they happen
keeps_later : (c : Shape) (events more : List Event) (entries : List Entry) (told : List Said) (k : Kept) → Keeps c events entries told k → Keeps c (events ++ more) entries told k
keeps_later c events more entries told k keeps =
    record {
      led = keeps.led;
      shape = keeps.shape;
      may = λ h w task is under_way. (let may = keeps.may h w task is under_way in (may.0, task_later events more task may.1));
      are = are_later c events more entries told keeps.are;
    }

module _ (c : Shape) (events : List Event) (old new : Kept) (said : Option Said) (entries : List Entry) (told : List Said) (keeps : Keeps c events entries told old) where
  keeps_on : (more : List Entry) → LeadsTo (entries ++ more) new → new.shape ≡ old.shape → AllMay events new → ((s : Said) → said ≡ Some s → IsOf c events (entries ++ more) s)
      → Keeps c events (entries ++ more) (told ++ heard said) new
  keeps_on more led shape may next =
      record {
        led = led;
        shape = shape ∙ keeps.shape;
        may = may;
        are = heard_too c events (entries ++ more) told said (are_still c events entries (entries ++ more) told (with_more entries more) keeps.are) next;
      }

  -- nothing is done
  stays : Stays old new said → GoesOn c events entries (told ++ heard said) new
  stays (same, none) = (
    [],
    keeps_on [] (subst (LeadsTo (entries ++ [])) (sym same) (subst (λ (l : List Entry). LeadsTo l old) (sym (append-nil entries)) keeps.led))
        (ap (λ (k : Kept). k.shape) same) (subst (AllMay events) (sym same) keeps.may) (λ s is. none_said (IsOf c events (entries ++ []) s) said s none is),
  )

  -- A DISK

  disk_changed : (d : ℕ) (left : SimState) (by : Entry) → ChangesDisk d left by old new → said ≡ None → GoesOn c events entries (told ++ heard said) new
  disk_changed d left by changes none =
      let on = changes.leads entries keeps.led in (
        on.0 ∷ [],
        keeps_on (on.0 ∷ []) on.2 (ap (λ (k : Kept). k.shape) changes.is) (subst (AllMay events) (sym changes.is) keeps.may)
            (λ s is. none_said (IsOf c events (entries ++ on.0 ∷ []) s) said s none is),
      )

  -- or nothing does
  disk_by : (b : Bool) (IsChanged : Type 0) → (IsChanged → said ≡ None → GoesOn c events entries (told ++ heard said) new) → MatchBool b IsChanged (new ≡ old) → said ≡ None → GoesOn c events entries (told ++ heard said) new
  disk_by true IsChanged goes is none = goes is none
  disk_by false IsChanged goes is none = stays (is, none)

  -- A HOST

  module _ (h : ℕ) where
    -- it stops
    pub halted : (IsSo : (before after : Walk) → Type 0) (changes : Changes h old new IsSo) → changes.after.task ≡ None → (entry : Entry) → LeadsTo (entries ++ entry ∷ []) new → said ≡ None
        → Keeps c events (entries ++ entry ∷ []) (told ++ heard said) new
    halted IsSo changes idle entry led none =
        keeps_on (entry ∷ []) led changes.shape
        (may_still events h old new IsSo changes keeps.may (λ task under_way. absurd (let clash : None ≡ Some task = sym idle ∙ under_way in cc)))
        (λ s is. none_said (IsOf c events (entries ++ entry ∷ []) s) said s none is)

    -- its task goes on, or has ended
    by_task : (WhereDone : Type 0) (IsSo : (before after : Walk) → Type 0) (changes : Changes h old new IsSo) (given : EpochTask) → MayBeOf events h given → TaskGoesOn WhereDone (Some given) changes.after
        → (more : List Entry) → LeadsTo (entries ++ more) new → Says new h said → GoesOn c events entries (told ++ heard said) new
    by_task WhereDone IsSo changes given may goes more led says = (
      more,
      keeps_on more led changes.shape
          (may_still events h old new IsSo changes keeps.may (λ task under_way. subst (MayBeOf events h) (one_task changes.after.task given task goes.keeps under_way) may))
          (λ s is.
          (let answered = said_is h changes.after.said s (sym (says changes.after changes.is) ∙ is) in
          let own : IsAnswerOf c events (entries ++ more) h s.answer =
          ended_is c events h (entries ++ more) given s.answer may
          (ended_so c h (entries ++ more) new led changes.after given s.answer (changes.shape ∙ keeps.shape) changes.is goes.ends answered.1) in
          subst (λ (n : ℕ). IsAnswerOf c events (entries ++ more) n s.answer) answered.0 own)),
    )

    heard_by : (AreSo : List Entry → Type 0) (changes : Changes h old new KeepsTask) → IsBusy old h → LeadsOn AreSo old new → Says new h said → GoesOn c events entries (told ++ heard said) new
    heard_by AreSo changes busy leads says =
        let some : IsSome changes.before.task = subst (λ (w : Walk). IsSome w.task) (same_host old h busy.0 changes.before busy.1 changes.was) busy.2 in
        let given = some_task changes.before.task some in
        let on = leads entries keeps.led in
        by_task (AreSilent changes.before) KeepsTask changes given.0 (keeps.may h changes.before given.0 changes.was given.1)
        (subst (λ (o : Option EpochTask). TaskGoesOn (AreSilent changes.before) o changes.after) given.1 changes.so) on.0 on.2 says

    begun : (given : EpochTask) → IsTaskOf events given → Undertakes h given old new said → GoesOn c events entries (told ++ heard said) new
    begun given among (inl begins) =
        let on = begins.0.leads entries keeps.led in
        by_task ⊥ _ begins.0.host given (begins.0.may, among) begins.0.host.so on.0 on.2 begins.1
    begun given among (inr none) = stays none.1

    marked : (place : Option ℕ) → MatchOption place (Stays old new said) (λ p. Undertakes h (Mark p) old new said) → GoesOn c events entries (told ++ heard said) new
    marked None is = stays is
    marked (Some place) is = begun (Mark place) tt is

    taken : Takes h old new said → GoesOn c events entries (told ++ heard said) new
    taken (inl idle) = stays idle.1
    taken (inr hears) = heard_by _ hears.1.host hears.0 hears.1.leads hears.2

    failed : (given : List ℕ) → Fails h given old new said → GoesOn c events entries (told ++ heard said) new
    failed given (inl idle) = stays idle.1
    failed given (inr hears) = heard_by _ hears.2.host hears.0 hears.2.leads hears.3

    torn : (given : List ℕ) → Tears h given old new said → GoesOn c events entries (told ++ heard said) new
    torn given (inl idle) = stays idle.1
    torn given (inr stops) =
        let on = stops.2.leads entries keeps.led in (
          on.0 ∷ [],
          halted _ stops.2.host stops.2.host.so.1 on.0 on.2 stops.3,
        )

-- EVENTS

-- one of these events happens
by_event : (c : Shape) (events : List Event) (event : Event) (old new : Kept) (said : Option Said) (entries : List Entry) (told : List Said) → Contains events event → Happens c event old new said
    → Keeps c events entries told old → GoesOn c events entries (told ++ heard said) new
by_event c events (script.Start host) old new said entries told among is keeps = stays c events old new said entries told keeps is
by_event c events (script.Stop host) old new said entries told among is keeps =
    let on = is.0.leads entries keeps.led in (
      on.0 ∷ [],
      halted c events old new said entries told keeps host _ is.0.host is.0.host.so.1 on.0 on.2 is.1,
    )
by_event c events (script.Submit command tries) old new said entries told among is keeps = begun c events old new said entries told keeps command.host (Submit command tries) among is
by_event c events (script.Recover host tries) old new said entries told among is keeps = begun c events old new said entries told keeps host (Recover tries) tt is
by_event c events (script.Look host) old new said entries told among is keeps = begun c events old new said entries told keeps host Look tt is
by_event c events (script.Beat host) old new said entries told among is keeps = begun c events old new said entries told keeps host Beat tt is
by_event c events (script.Mark host slot) old new said entries told among is keeps = marked c events old new said entries told keeps host (place_of c is.0 slot) is.2
by_event c events (script.Step host) old new said entries told among is keeps = taken c events old new said entries told keeps host is
by_event c events (script.Tear host given) old new said entries told among is keeps = torn c events old new said entries told keeps host given is
by_event c events (script.FailCall host given) old new said entries told among is keeps = failed c events old new said entries told keeps host given is
by_event c events (script.DiskCrash disk given) old new said entries told among is keeps =
    disk_by c events old new said entries told keeps (may_crash old disk) _ (disk_changed c events old new said entries told keeps disk _ _) is.0 is.1
by_event c events (script.DiskGone disk) old new said entries told among is keeps =
    disk_by c events old new said entries told keeps (may_lose old disk) _ (disk_changed c events old new said entries told keeps disk _ _) is.0 is.1

-- an event happens behind these
pub happened : (c : Shape) (event : Event) (old new : Kept) (said : Option Said) (events : List Event) (entries : List Entry) (told : List Said) → Happens c event old new said
    → Keeps c events entries told old → GoesOn c (events ++ event ∷ []) entries (told ++ heard said) new
happened c event old new said events entries told is keeps =
    by_event c (events ++ event ∷ []) event old new said entries told (Contains-push events event) is (keeps_later c events (event ∷ []) entries told old keeps)

-- and more, one after the other
pub all_happened : (c : Shape) (more : List Event) (old new : Kept) (said : List Said) (events : List Event) (entries : List Entry) (told : List Said) → Happen c more old new said
    → Keeps c events entries told old → GoesOn c (events ++ more) entries (told ++ said) new
all_happened c [] old new said events entries told (same, none) keeps = (
  [],
  subst (λ (l : List Said). Keeps c (events ++ []) (entries ++ []) (told ++ l) new) (sym none)
      (subst (λ (l : List Said). Keeps c (events ++ []) (entries ++ []) l new) (sym (append-nil told))
      (subst (λ (l : List Entry). Keeps c (events ++ []) l told new) (sym (append-nil entries))
      (subst (λ (l : List Event). Keeps c l entries told new) (sym (append-nil events)) (subst (Keeps c events entries told) (sym same) keeps)))),
)
all_happened c (event ∷ more) old new said events entries told (mid, one, happens, (rest, on, whole)) keeps =
    let first = happened c event old mid one events entries told happens keeps in
    let then = all_happened c more mid new rest (events ++ event ∷ []) (entries ++ first.0) (told ++ heard one) on first.1 in (
      first.0 ++ then.0,
      subst (λ (l : List Event). Keeps c l (entries ++ (first.0 ++ then.0)) (told ++ said) new) (append_assoc events (event ∷ []) more)
          (subst (λ (l : List Said). Keeps c ((events ++ event ∷ []) ++ more) (entries ++ (first.0 ++ then.0)) l new) (append_assoc told (heard one) rest ∙ ap (λ (l : List Said). told ++ l) (sym whole))
          (subst (λ (l : List Entry). Keeps c ((events ++ event ∷ []) ++ more) l ((told ++ heard one) ++ rest) new) (append_assoc entries first.0 then.0) then.1)),
    )
