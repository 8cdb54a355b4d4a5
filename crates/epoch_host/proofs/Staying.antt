-- What a host in an epoch keeps where its core begins something, and where the core hears an answer.
use Rattle.std.specs.Prelude.{nat_lt, is_none, IfSome, if◌then◌else◌}
use Rattle.std.proofs.Common.{◌≡◌, ◌<◌, ◌≤◌, ℕ, Bool, true, false, List, [], length, Option, Some, None, refl, sym, ◌∙◌, ap, subst, arith, true≢false}
use Rattle.disk.specs.Disk as device
use Rattle.paxos_block.specs.Shape.{Shape}
use Rattle.lock_command.specs.declared.command.Command.{Command}
use Rattle.host.specs.declared.task.Task.{Task}
use Rattle.host.specs.declared.task.Task.TheVariants as task
use Rattle.host.specs.Host.{Memory, Submitting, Recovering, Looks, Marks, begins, starts, hears_from, does}
use Rattle.host.specs.Kept.{Kept, LeadsTo, is_idle}
use Rattle.host.proofs.Hosts.{idle_is}
use Rattle.epoch_host.specs.declared.over.Over.{Over}
use Rattle.epoch_host.specs.declared.stay.Work.{Work}
use Rattle.epoch_host.specs.declared.stay.Work.TheVariants as work
use Rattle.torn_block.specs.declared.layout.TheConstants.{SLOTS}
use Rattle.window.specs.declared.standpoint.Standpoint.{Standpoint}
use Rattle.window.specs.declared.window.Window.{Window}
use Rattle.epoch_host.specs.declared.stay.Stay.{Stay}
use Rattle.epoch_host.specs.declared.stay.Doing.{Doing}
use Rattle.epoch_host.specs.declared.stay.Doing.TheVariants.{Nothing, Works, Leaves}
use Rattle.lock_command.specs.declared.reply.Reply.{Reply}
use Rattle.host.specs.declared.answer.HostAnswer.{HostAnswer}
use Rattle.host.specs.declared.answer.HostAnswer.TheVariants as answers
use Rattle.epoch_host.specs.declared.stay.Leave.TheVariants as leave
use Rattle.epoch_host.specs.Answering.{DoesFor, EndsTask, IsFor, SaysFor}
use Rattle.epoch_host.specs.Staying.{CoreWorks, IsDoing, IsLooking, IsSoLeft, IsSound, Rests, WorksFor, only_looks_for}
use Rattle.epoch_host.specs.Submitting.{IsDueIn, StaysAt, SubmitsFor, MayCarryOut}
use Rattle.epoch_host.specs.Working.{IsAnswer, IsAt, IsKnown, IsWorking, IsWhole, IsSpelled, HasRoom}
use Rattle.epoch_host.proofs.Answering.{GoesFor, alone_begins, begins_for, does_of, hears_for, mark_begins, part_begins, silent_of}
use Rattle.epoch_host.proofs.Submitting.{alone_begun, client_begun, carried_begun, heard_submits, marking_begun}
use Rattle.epoch_host.proofs.Working.{hears_more, hears_so, starts_so, starts_busy}

-- what follows from what holds of the value, if there is one
pub map_some : {A : Type 0} (P Q : A → Type 0) (o : Option A) → ((x : A) → P x → Q x) → IfSome o P → IfSome o Q
map_some P Q None f is = tt
map_some P Q (Some x) f is = f x is

-- WHAT BEGINS LEARNS NOTHING

learned_by : (b : Bool) (m n : Memory) (learned : List Command) → m.learned ≡ learned → n.learned ≡ learned → (if b then m else n).learned ≡ learned
learned_by true m n learned first second = first
learned_by false m n learned first second = second

pub starts_learned : (c : Shape) (m : Memory) (given : Task) → (starts c m given).learned ≡ m.learned
starts_learned c m (task.Submit command tries) = learned_by (nat_lt (length m.learned) c.slots) (begins m (Submitting command) tries) _ m.learned refl refl
starts_learned c m (task.Recover tries) = learned_by (nat_lt (length m.learned) c.slots) (begins m Recovering tries) _ m.learned refl refl
starts_learned c m task.Look = learned_by (nat_lt (length m.learned) c.slots) (does m (Looks (record { first = 0; heard = [] }))) _ m.learned refl refl
starts_learned c m task.Beat = refl
starts_learned c m (task.Mark slot) = learned_by (nat_lt slot (length m.learned)) (does m (Marks (record { slot = slot; heard = [] }))) _ m.learned refl refl

-- A CORE THAT HAS BEGUN

-- it is at work for the host's task, and has learned nothing since
pub record HasBegun (over : Over) (own : Task) (what : Work) (old new : Kept) : Type 0 where
  pub host : new.learner.host ≡ old.learner.host
  pub shape : new.learner.shape ≡ old.learner.shape
  pub prefix : new.prefix ≡ old.prefix
  pub busy : is_idle new ≡ false
  pub works : IsWorking new
  pub submits : SubmitsFor over what works.memory.learned works.memory.doing
  pub does : DoesFor own what works.memory.doing
  pub silent : new.said ≡ None

module _ (over : Over) (own : Task) (old new : Kept) (given : Task) (known : IsKnown old) (leads : (c : Shape) (h : ℕ) (m : Memory) → LeadsTo c h m old → LeadsTo c h (starts c m given) new) (spelled : IsSpelled given)
    (room : HasRoom given (length old.prefix) old.learner.shape.slots) (few : length old.prefix ≤ old.learner.shape.slots) where
  abbrev after : Memory
  after = starts known.shape known.memory given

  led : LeadsTo known.shape known.host after new
  led = leads known.shape known.host known.memory known.leads

  as_long : length old.prefix ≡ length known.memory.learned
  as_long = ap (λ (l : List Command). length l) known.leads.prefix

  slots_same : old.learner.shape.slots ≡ known.shape.slots
  slots_same = ap (λ (c : Shape). c.slots) known.leads.learner.shape

  room_there : HasRoom given (length known.memory.learned) known.shape.slots
  room_there = subst (λ (n : ℕ). HasRoom given n known.shape.slots) as_long (subst (λ (n : ℕ). HasRoom given (length old.prefix) n) slots_same room)

  few_there : length known.memory.learned ≤ known.shape.slots
  few_there = omega (arith, few, as_long, slots_same)

  busy_there : is_idle new ≡ false
  busy_there = idle_is known.shape known.host after new led ∙ starts_busy known.shape known.memory given room_there

  abbrev works_there : IsWorking new
  works_there = record { shape = known.shape; host = known.host; memory = after; leads = led; here = (starts_so known.shape known.memory given spelled room_there few_there).0 }

  same_host : new.learner.host ≡ old.learner.host
  same_host = led.learner.is_host ∙ sym known.leads.learner.is_host

  same_shape : new.learner.shape ≡ old.learner.shape
  same_shape = led.learner.shape ∙ sym known.leads.learner.shape

  same_prefix : new.prefix ≡ old.prefix
  same_prefix = led.prefix ∙ starts_learned known.shape known.memory given ∙ sym known.leads.prefix

  -- it has said nothing
  silent_there : (what : Work) → GoesFor over known.shape.slots own what after after.doing → new.said ≡ None
  silent_there what goes =
      led.said ∙ silent_of over known.shape.slots own what after after.doing (starts_busy known.shape known.memory given room_there) goes

  -- a task, or what a host learns before it
  pub has_begun : MayCarryOut over old.prefix given → IsFor own given → HasBegun over own work.Goes old new
  has_begun may before =
      record {
        host = same_host;
        shape = same_shape;
        prefix = same_prefix;
        busy = busy_there;
        works = works_there;
        submits = client_begun known.shape over known.memory given (subst (λ (l : List Command). MayCarryOut over l given) known.leads.prefix may);
        does = does_of over known.shape.slots own work.Goes after after.doing (begins_for over own known.shape known.memory given before);
        silent = silent_there work.Goes (begins_for over own known.shape known.memory given before);
      }

  part_now : (slot tries : ℕ) (command : Command) → given ≡ task.Submit command tries → GoesFor over known.shape.slots own (work.Carries slot) after after.doing
  part_now slot tries command is =
      subst (λ (t : Task). GoesFor over known.shape.slots own (work.Carries slot) (starts known.shape known.memory t) (starts known.shape known.memory t).doing) (sym is)
      (part_begins over own slot known.shape known.memory command tries)

  mark_now : (slot : ℕ) → given ≡ task.Mark slot → GoesFor over known.shape.slots own work.Marks after after.doing
  mark_now slot is =
      subst (λ (t : Task). GoesFor over known.shape.slots own work.Marks (starts known.shape known.memory t) (starts known.shape known.memory t).doing) (sym is) (mark_begins over own known.shape known.memory slot)

  alone_now : given ≡ task.Look → GoesFor over known.shape.slots own work.Looks after after.doing
  alone_now is =
      subst (λ (t : Task). GoesFor over known.shape.slots own work.Looks (starts known.shape known.memory t) (starts known.shape known.memory t).doing) (sym is) (alone_begins over own known.shape known.memory)

  -- or it looks alone
  pub has_looked : given ≡ task.Look → HasBegun over own work.Looks old new
  has_looked is =
      record {
        host = same_host;
        shape = same_shape;
        prefix = same_prefix;
        busy = busy_there;
        works = works_there;
        submits = subst (λ (t : Task). SubmitsFor over work.Looks (starts known.shape known.memory t).learned (starts known.shape known.memory t).doing) (sym is) (alone_begun known.shape over known.memory);
        does = does_of over known.shape.slots own work.Looks after after.doing (alone_now is);
        silent = silent_there work.Looks (alone_now is);
      }

  -- or what is due in the next slot
  pub has_submitted : (slot tries : ℕ) (command : Command) → given ≡ task.Submit command tries → slot ≡ length old.prefix → IsDueIn over slot (Submitting command) → HasBegun over own (work.Carries slot) old new
  has_submitted slot tries command is here due =
      record {
        host = same_host;
        shape = same_shape;
        prefix = same_prefix;
        busy = busy_there;
        works = works_there;
        submits = subst (λ (t : Task). SubmitsFor over (work.Carries slot) (starts known.shape known.memory t).learned (starts known.shape known.memory t).doing) (sym is)
            (carried_begun known.shape over slot known.memory command tries (here ∙ as_long) due);
        does = does_of over known.shape.slots own (work.Carries slot) after after.doing (part_now slot tries command is);
        silent = silent_there (work.Carries slot) (part_now slot tries command is);
      }

  -- or a marking of it
  pub has_marked : (slot : ℕ) → given ≡ task.Mark slot → HasBegun over own work.Marks old new
  has_marked slot is =
      record {
        host = same_host;
        shape = same_shape;
        prefix = same_prefix;
        busy = busy_there;
        works = works_there;
        submits = subst (λ (t : Task). SubmitsFor over work.Marks (starts known.shape known.memory t).learned (starts known.shape known.memory t).doing) (sym is) (marking_begun known.shape over known.memory slot);
        does = does_of over known.shape.slots own work.Marks after after.doing (mark_now slot is);
        silent = silent_there work.Marks (mark_now slot is);
      }

-- A CORE THAT HAS HEARD AN ANSWER

none_is : {A : Type 0} (o : Option A) → is_none o ≡ true → o ≡ None
none_is None is = refl
none_is (Some x) is = absurd (true≢false (sym is))

-- a marking that has room keeps it
room_longer : (given : Task) (slots before now slot : ℕ) → given ≡ task.Mark slot → before ≤ now → HasRoom given before slots → HasRoom given now slots
room_longer (task.Mark other) slots before now slot same more room = (let less = room.0 in omega (arith, less, more), room.1)
room_longer (task.Submit command tries) slots before now slot same more room = absurd (cc)
room_longer (task.Recover tries) slots before now slot same more room = absurd (cc)
room_longer task.Look slots before now slot same more room = absurd (cc)
room_longer task.Beat slots before now slot same more room = absurd (cc)

-- it is the same, and has learned no more than there are slots; it has answered, or is at work as before
pub record HasHeard (over : Over) (own : Task) (what : Work) (old new : Kept) : Type 0 where
  pub host : new.learner.host ≡ old.learner.host
  pub shape : new.learner.shape ≡ old.learner.shape
  pub few : length new.prefix ≤ new.learner.shape.slots
  pub more : length old.prefix ≤ length new.prefix
  pub known : IsKnown new
  pub answered : is_idle new ≡ true → IsAnswer new.learner.shape (length new.prefix) new.said
  pub works : IsWorking new
  pub submits : StaysAt what (length new.prefix) → SubmitsFor over what works.memory.learned works.memory.doing
  pub does : DoesFor own what works.memory.doing
  pub says : is_idle new ≡ true → SaysFor over new.learner.shape.slots own what new.prefix new.said
  pub silent : is_idle new ≡ false → new.said ≡ None

module _ (over : Over) (own : Task) (spelled : IsSpelled own) (what : Work) (old new : Kept) (works : IsWorking old) (busy : is_idle old ≡ false) (submits : SubmitsFor over what works.memory.learned works.memory.doing)
    (does : DoesFor own what works.memory.doing) (inside : (slot : ℕ) → own ≡ task.Mark slot → slot < length old.prefix) (d : ℕ) (answer : device.Answer)
    (leads : (c : Shape) (h : ℕ) (m : Memory) → LeadsTo c h m old → LeadsTo c h (hears_from c h m m.doing d answer) new) (whole : IsWhole answer) (few : length old.prefix ≤ old.learner.shape.slots) where
  abbrev later : Memory
  later = hears_from works.shape works.host works.memory works.memory.doing d answer

  heard_led : LeadsTo works.shape works.host later new
  heard_led = leads works.shape works.host works.memory works.leads

  is_busy : is_none works.memory.doing ≡ false
  is_busy = sym (idle_is works.shape works.host works.memory old works.leads) ∙ busy

  few_before : length works.memory.learned ≤ works.shape.slots
  few_before =
      let long : length old.prefix ≡ length works.memory.learned = ap (λ (l : List Command). length l) works.leads.prefix in
      let slots : old.learner.shape.slots ≡ works.shape.slots = ap (λ (c : Shape). c.slots) works.leads.learner.shape in
      omega (arith, few, long, slots)

  so_now : IsAt works.shape later later.doing × (length later.learned ≤ works.shape.slots)
  so_now = hears_so works.shape works.host works.memory works.memory.doing d answer whole is_busy works.here few_before

  long_now : length new.prefix ≡ length later.learned
  long_now = ap (λ (l : List Command). length l) heard_led.prefix

  answered_then : is_idle new ≡ true → IsAnswer new.learner.shape (length new.prefix) new.said
  answered_then idle =
      let none : later.doing ≡ None = none_is later.doing (sym (idle_is works.shape works.host later new heard_led) ∙ idle) in
      let at : IsAnswer works.shape (length later.learned) later.said = subst (IsAt works.shape later) none so_now.0 in
      subst (λ (c : Shape). IsAnswer c (length new.prefix) new.said) (sym heard_led.learner.shape)
      (subst (λ (n : ℕ). IsAnswer works.shape n new.said) (sym long_now) (subst (IsAnswer works.shape (length later.learned)) (sym heard_led.said) at))

  -- it does something for the task, or has said what fits it
  goes_now : GoesFor over works.shape.slots own what later later.doing
  goes_now =
      let long : length old.prefix ≡ length works.memory.learned = ap (λ (l : List Command). length l) works.leads.prefix in
      hears_for over own works.shape what works.host works.memory works.memory.doing d answer spelled is_busy submits does (λ slot same. (let less = inside slot same in omega (arith, less, long)))

  says_then : is_idle new ≡ true → SaysFor over new.learner.shape.slots own what new.prefix new.said
  says_then idle =
      let none : later.doing ≡ None = none_is later.doing (sym (idle_is works.shape works.host later new heard_led) ∙ idle) in
      let at : SaysFor over works.shape.slots own what later.learned later.said = subst (GoesFor over works.shape.slots own what later) none goes_now in
      subst (λ (c : Shape). SaysFor over c.slots own what new.prefix new.said) (sym heard_led.learner.shape)
      (subst (λ (l : List Command). SaysFor over works.shape.slots own what l new.said) (sym heard_led.prefix)
      (subst (SaysFor over works.shape.slots own what later.learned) (sym heard_led.said) at))

  pub has_heard : HasHeard over own what old new
  has_heard =
      record {
        host = heard_led.learner.is_host ∙ sym works.leads.learner.is_host;
        shape = heard_led.learner.shape ∙ sym works.leads.learner.shape;
        few = (let slots : new.learner.shape.slots ≡ works.shape.slots = ap (λ (c : Shape). c.slots) heard_led.learner.shape in let less = so_now.1 in omega (arith, less, slots, long_now));
        more = (let grown = hears_more works.shape works.host works.memory works.memory.doing d answer in let before : length old.prefix ≡ length works.memory.learned = ap (λ (l : List Command). length l) works.leads.prefix in omega (arith, grown, before, long_now));
        known = record { shape = works.shape; host = works.host; memory = later; leads = heard_led };
        answered = answered_then;
        works = record { shape = works.shape; host = works.host; memory = later; leads = heard_led; here = so_now.0 };
        submits = λ stays. heard_submits works.shape over what works.host works.memory works.memory.doing d answer is_busy submits (subst (StaysAt what) long_now stays);
        does = does_of over works.shape.slots own what later later.doing goes_now;
        says = says_then;
        silent = λ busy. heard_led.said ∙ silent_of over works.shape.slots own what later later.doing (sym (idle_is works.shape works.host later new heard_led) ∙ busy) goes_now;
      }

-- THE HOST IN AN EPOCH

pub rests_in : (s : Stay) → IsSound s → s.doing ≡ Nothing → Rests s
rests_in s is rests = subst (IsDoing s) rests is.doing

-- where its core has begun something, all is sound again
pub begun_sound : (s : Stay) (core : Kept) (what : Work) → IsSound s → (only_looks_for s.errand ≡ true → what ≡ work.Looks) → HasBegun s.over s.task what s.core core → IsSound (record s { core = core; doing = Works what })
begun_sound s core what is alone begun =
    let long : length core.prefix ≡ length s.core.prefix = ap (λ (l : List Command). length l) begun.prefix in
    record {
      epoch = is.epoch;
      few = is.few;
      some = is.some;
      learned = (let few = is.learned.0 in omega (arith, few, long), is.learned.1);
      host = begun.host ∙ is.host;
      shape = begun.shape ∙ is.shape;
      window = is.window;
      tries = is.tries;
      may = is.may;
      asked = is.asked;
      spelled = is.spelled;
      marks = λ slot same. subst (λ (n : ℕ). HasRoom s.task n s.config.slots) (sym long) (is.marks slot same);
      looks = λ only. ((is.looks only).0, alone only);
      doing = record { busy = begun.busy; works = begun.works; submits = begun.submits; does = begun.does; silent = begun.silent };
    }

-- one that comes to the epoch does not only look
comes_not : {P : Type 0} (b : Bool) → b ≡ false → b ≡ true → P
comes_not b comes only = absurd (true≢false (sym only ∙ comes))

-- as many slots as the core's log has
module _ (s : Stay) (is : IsSound s) (rests : s.doing ≡ Nothing) (core : Kept) (given : Task) (leads : (c : Shape) (h : ℕ) (m : Memory) → LeadsTo c h m s.core → LeadsTo c h (starts c m given) core) (spelled : IsSpelled given)
    (room : HasRoom given (length s.core.prefix) s.config.slots) where
  few_here : length s.core.prefix ≤ s.core.learner.shape.slots
  few_here = subst (λ (c : Shape). length s.core.prefix ≤ c.slots) (sym is.shape) is.learned.0

  room_here : HasRoom given (length s.core.prefix) s.core.learner.shape.slots
  room_here = subst (λ (c : Shape). HasRoom given (length s.core.prefix) c.slots) (sym is.shape) room

  known_here : IsKnown s.core
  known_here = (rests_in s is rests).known

  pub look_sound : given ≡ task.Look → IsSound (record s { core = core; doing = Works work.Looks })
  look_sound same = begun_sound s core work.Looks is (λ only. refl) (has_looked s.over s.task s.core core given known_here leads spelled room_here few_here same)

  pub work_sound : only_looks_for s.errand ≡ false → MayCarryOut s.over s.core.prefix given → IsFor s.task given → IsSound (record s { core = core; doing = Works work.Goes })
  work_sound comes may before = begun_sound s core work.Goes is (comes_not (only_looks_for s.errand) comes) (has_begun s.over s.task s.core core given known_here leads spelled room_here few_here may before)

  pub submit_sound : only_looks_for s.errand ≡ false → (slot tries : ℕ) (command : Command) → given ≡ task.Submit command tries → slot ≡ length s.core.prefix → IsDueIn s.over slot (Submitting command) → IsSound (record s { core = core; doing = Works (work.Carries slot) })
  submit_sound comes slot tries command same next due = begun_sound s core (work.Carries slot) is (comes_not (only_looks_for s.errand) comes) (has_submitted s.over s.task s.core core given known_here leads spelled room_here few_here slot tries command same next due)

  pub mark_sound : only_looks_for s.errand ≡ false → (slot : ℕ) → given ≡ task.Mark slot → IsSound (record s { core = core; doing = Works work.Marks })
  mark_sound comes slot same = begun_sound s core work.Marks is (comes_not (only_looks_for s.errand) comes) (has_marked s.over s.task s.core core given known_here leads spelled room_here few_here slot same)

-- WHERE IT HEARS AN ANSWER

pub works_in : (s : Stay) (what : Work) → IsSound s → s.doing ≡ Works what → CoreWorks s what
works_in s what is works = subst (IsDoing s) works is.doing

-- while the window makes another call
pub waits_sound : (s : Stay) (what : Work) (window : Window) → IsSound s → s.doing ≡ Works what → window.standpoint ≡ s.window.standpoint → IsSound (record s { window = window })
waits_sound s what window is works same =
    let at = works_in s what is works in
    record {
      epoch = is.epoch;
      few = is.few;
      some = is.some;
      learned = is.learned;
      host = is.host;
      shape = is.shape;
      window = (ap (λ (p : Standpoint). p.host) same ∙ is.window.0, ap (λ (p : Standpoint). p.slots) same ∙ is.window.1, ap (λ (p : Standpoint). p.epoch) same ∙ is.window.2);
      tries = is.tries;
      may = is.may;
      asked = is.asked;
      spelled = is.spelled;
      marks = is.marks;
      looks = is.looks;
      doing = subst (IsDoing (record s { window = window })) (sym works) (record { busy = at.busy; works = at.works; submits = at.submits; does = at.does; silent = at.silent });
    }

-- where its core has heard it
module _ (s : Stay) (what : Work) (window : Window) (core : Kept) (is : IsSound s) (works : s.doing ≡ Works what) (same : window.standpoint ≡ s.window.standpoint) (d : ℕ) (answer : device.Answer)
    (leads : (c : Shape) (h : ℕ) (m : Memory) → LeadsTo c h m s.core → LeadsTo c h (hears_from c h m m.doing d answer) core) (whole : IsWhole answer) where
  worked : CoreWorks s what
  worked = works_in s what is works

  -- a slot that is to be marked is learned
  marked_inside : (slot : ℕ) → s.task ≡ task.Mark slot → slot < length s.core.prefix
  marked_inside slot same = (subst (λ (t : Task). HasRoom t (length s.core.prefix) s.config.slots) same (is.marks slot same)).0

  heard : HasHeard s.over s.task what s.core core
  heard = has_heard s.over s.task is.spelled what s.core core worked.works worked.busy worked.submits worked.does marked_inside d answer leads whole (subst (λ (c : Shape). length s.core.prefix ≤ c.slots) (sym is.shape) is.learned.0)

  same_shape_now : core.learner.shape ≡ s.config
  same_shape_now = heard.shape ∙ is.shape

  -- the core is at work, or has answered
  pub heard_working : IsWorking core
  heard_working = heard.works

  pub heard_host : core.learner.host ≡ s.host
  heard_host = heard.host ∙ is.host

  pub heard_shape : core.learner.shape ≡ s.config
  heard_shape = same_shape_now

  -- the core's log has as many slots
  pub few_heard : (length core.prefix ≤ s.config.slots) × (s.config.slots ≤ SLOTS)
  few_heard = (subst (λ (c : Shape). length core.prefix ≤ c.slots) same_shape_now heard.few, is.learned.1)

  -- and it forgets nothing
  pub longer : length s.core.prefix ≤ length core.prefix
  longer = heard.more

  sound_with : (doing : Doing) → (only_looks_for s.errand ≡ true → IsLooking doing) → IsDoing (record s { window = window; core = core; doing = doing }) doing → IsSound (record s { window = window; core = core; doing = doing })
  sound_with doing alone so =
      record {
        epoch = is.epoch;
        few = is.few;
        some = is.some;
        learned = few_heard;
        host = heard.host ∙ is.host;
        shape = same_shape_now;
        window = (ap (λ (p : Standpoint). p.host) same ∙ is.window.0, ap (λ (p : Standpoint). p.slots) same ∙ is.window.1, ap (λ (p : Standpoint). p.epoch) same ∙ is.window.2);
        tries = is.tries;
        may = is.may;
        asked = is.asked;
        spelled = is.spelled;
        marks = λ slot marking. room_longer s.task s.config.slots (length s.core.prefix) (length core.prefix) slot marking longer (is.marks slot marking);
        looks = λ only. ((is.looks only).0, alone only);
        doing = so;
      }

  pub heard_rests : is_idle core ≡ true → IsSound (record s { window = window; core = core; doing = Nothing })
  heard_rests idle = sound_with Nothing (λ only. tt) (record { idle = idle; known = heard.known })

  pub heard_leaves : IsSound (record s { window = window; core = core; doing = Leaves })
  heard_leaves = sound_with Leaves (λ only. tt) tt

  pub heard_works : is_idle core ≡ false → StaysAt what (length core.prefix) → IsSound (record s { window = window; core = core; doing = Works what })
  heard_works busy stays = sound_with (Works what) (λ only. subst IsLooking works (is.looks only).1) (record { busy = busy; works = heard.works; submits = heard.submits stays; does = heard.does; silent = heard.silent busy })

  -- an idle core has answered
  pub heard_answer : is_idle core ≡ true → IsAnswer s.config (length core.prefix) core.said
  heard_answer idle = subst (λ (c : Shape). IsAnswer c (length core.prefix) core.said) same_shape_now (heard.answered idle)

  -- and says what fits the task
  pub heard_says : is_idle core ≡ true → SaysFor s.over s.config.slots s.task what core.prefix core.said
  heard_says idle = subst (λ (c : Shape). SaysFor s.over c.slots s.task what core.prefix core.said) same_shape_now (heard.says idle)

  pub heard_silent : is_idle core ≡ true → core.said ≡ None → ⊥
  heard_silent idle none = subst (IsAnswer s.config (length core.prefix)) none (heard_answer idle)

-- WHAT ITS CORE SAYS OF THE TASK

module _ (s : Stay) (what : Work) (said : HostAnswer) (fits : SaysFor s.over s.config.slots s.task what s.core.prefix (Some said)) where
  says_at : (other : Work) (told : HostAnswer) → what ≡ other → said ≡ told → SaysFor s.over s.config.slots s.task other s.core.prefix (Some told)
  says_at other told at is =
      subst (λ (x : HostAnswer). SaysFor s.over s.config.slots s.task other s.core.prefix (Some x)) is (subst (λ (w : Work). SaysFor s.over s.config.slots s.task w s.core.prefix (Some said)) at fits)

  -- a marking or a part of the table ends otherwise
  pub marks_no_ack : (slot : ℕ) (reply : Reply) → what ≡ work.Marks → said ≡ answers.Ack slot reply → ⊥
  marks_no_ack slot reply at is = says_at work.Marks (answers.Ack slot reply) at is

  pub carries_no_mark : (slot count : ℕ) → what ≡ work.Carries slot → said ≡ answers.Marked count → ⊥
  carries_no_mark slot count at is = says_at (work.Carries slot) (answers.Marked count) at is

  pub carries_no_beat : (slot host : ℕ) → what ≡ work.Carries slot → said ≡ answers.Beaten host → ⊥
  carries_no_beat slot host at is = says_at (work.Carries slot) (answers.Beaten host) at is

  pub marks_no_beat : (host : ℕ) → what ≡ work.Marks → said ≡ answers.Beaten host → ⊥
  marks_no_beat host at is = says_at work.Marks (answers.Beaten host) at is

  module _ (rests : s.doing ≡ Nothing) (says : s.core.said ≡ Some said) where
    told_left : (told : HostAnswer) → said ≡ told → EndsTask s.over s.config.slots s.task s.core.prefix told → WorksFor s told → IsSoLeft s.task (Some (leave.Answered said)) s
    told_left told is ends works =
        subst (λ (x : HostAnswer). (s.core.said ≡ Some said) → IsSoLeft s.task (Some (leave.Answered x)) s) (sym is) (λ here. (rests, (here ∙ ap (λ (x : HostAnswer). Some x) is, ends, works))) says

    pub ack_left : (slot : ℕ) (reply : Reply) → what ≡ work.Goes → said ≡ answers.Ack slot reply → IsSoLeft s.task (Some (leave.Answered said)) s
    ack_left slot reply at is = told_left (answers.Ack slot reply) is (says_at work.Goes (answers.Ack slot reply) at is) tt

    pub marked_left : (count : ℕ) → what ≡ work.Goes → said ≡ answers.Marked count → IsSoLeft s.task (Some (leave.Answered said)) s
    marked_left count at is = told_left (answers.Marked count) is (says_at work.Goes (answers.Marked count) at is) tt

    pub beaten_left : (host : ℕ) → what ≡ work.Goes → said ≡ answers.Beaten host → IsSoLeft s.task (Some (leave.Answered said)) s
    beaten_left host at is = told_left (answers.Beaten host) is (says_at work.Goes (answers.Beaten host) at is) tt
