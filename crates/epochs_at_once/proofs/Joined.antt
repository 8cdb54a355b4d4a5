-- All that hosts tell goes by the one log of what they live.
use Rattle.std.specs.Prelude.{take, drop, slice_get, slice_index_or, Contains}
use Rattle.std.proofs.Common.{ℕ, zero, suc, ◌≡◌, ◌==◌, ◌<◌, ◌≤◌, ◌⊎◌, true, false, true≢false, Some, None, List, [], ◌∷◌, ◌++◌, length, refl, sym, ◌∙◌, ap, subst, inl, inr, arith}
use Rattle.std.proofs.lemmas.Bool.{cases_Bool, cases_lt, eqb-true, eq-eqb}
use Rattle.std.proofs.lemmas.List.{append-nil, take_all}
use Rattle.std.proofs.lemmas.List.Elements.{at_from_Contains}
use Rattle.lock_command.specs.declared.command.Command.{Command}
use Rattle.lock_command.specs.Command.{spelling, is_submittable}
use Rattle.lock_command.specs.declared.reply.Reply.{Reply}
use Rattle.lock_table.specs.Apply.{table_after}
use Rattle.lock_table.specs.Carrying.{carried_over}
use Rattle.lock_table.specs.Picture.{Shown, IsPictureOf, pictured}
use Rattle.lock_table.proofs.Unique.{one_shown}
use Rattle.paxos_block.specs.Shape.{Shape}
use Rattle.host.specs.declared.answer.HostAnswer.{HostAnswer}
use Rattle.host.specs.declared.answer.HostAnswer.TheVariants as core
use Rattle.host.specs.declared.task.Task.TheVariants as task
use Rattle.host.specs.Host.{Memory, Host, Stopped, Running, learned_of, said_of, reply_after}
use Rattle.world.specs.Entry.{Filled, Begin}
use Rattle.world.specs.Chosen.{at, migrated, SaysAt, IsRecovery}
use Rattle.world.specs.Headline.{IsPrefix, IsSafe}
use Rattle.world_safety.proofs.Claims.Begun.{all_begun}
use Rattle.world_safety.proofs.Claims.Safety.{commands as chosen_commands, is_safe}
use Rattle.world_safety.proofs.Runs.Commands.{map_there}
use Rattle.endless.specs.Epochs.{IsAsAfter}
use Rattle.endless.specs.Headline.{learned_in, SaysIn, IsAcknowledgedIn, IsAcknowledgedEarlier, IsRecoveryIn, CarriesInto, Stretch, place_of, GoesByLog}
use Rattle.endless.specs.Lived.{Lived, In, part, now}
use Rattle.endless.proofs.Going.{has_picture}
use Rattle.endless.proofs.Lists.{prefix_get, get_at, get_before, item_below}
use Rattle.endless.proofs.Logs.{carried_by_not}
use Rattle.endless.proofs.Places.{now_rises, now_next}
use Rattle.endless.proofs.Puts.{chosen_fits}
use Rattle.epoch_deeds.specs.Deeds.{Deeds, core_in}
use Rattle.epoch_host.specs.Ending.{place_in, AreIdleBy, AreSilentBy, HasTable, Acknowledges, Learns, HasLearnedUpto}
use Rattle.epoch_runs.specs.Living.{lived_of, place_of as place_in_order, deeds_from}
use Rattle.epoch_runs.specs.World.{Entry, no_deeds, Crashing, model_crashes, power_losses, Goes}
use Rattle.epoch_runs.proofs.Carrying.{carries_into}
use Rattle.epoch_runs.proofs.Order.{order_is_kept}
use Rattle.epoch_runs.proofs.Places.{core_place}
use Rattle.epochs_at_once.specs.Joined.{deeds_by, ShowsTable, HasRecovered, IsSubmitted, HasOneLog, HostsHaveOneLog, HostsHaveOneLogOverLosses}
use Rattle.epochs_at_once.proofs.Counting.{counted, counted_at, rises}
use Rattle.epochs_at_once.proofs.Few.{few_lived}
use Rattle.epochs_at_once.proofs.Given.{given_by}
use Rattle.epochs_at_once.proofs.Lives.{IsLike, IsLived, lived_by_crashes, lived_by_losses}
use Rattle.epochs_at_once.proofs.Parting.{own_deeds, at_once_goes, over_losses_goes}
use Rattle.epochs_at_once.proofs.Places.{core_at, idle_there, IsBetween, core_between}
use Rattle.epochs_at_once.proofs.Runs.{IsIdle, said_before, began_after, place_at}

-- of two lists of one length one begins the other only if they are the same
same_long : {A : Type 0} (a b : List A) → length a ≡ length b → IsPrefix a b ⊎ IsPrefix b a → a ≡ b
same_long a b long (inl is) = is ∙ take_all (length a) b (omega (arith, long))
same_long a b long (inr is) = sym (is ∙ take_all (length b) a (omega (arith, long)))

stands_at : {A : Type 0} (xs : List A) (x : A) (k : ℕ) → k < length xs → ((d : A) → slice_index_or xs k d ≡ x) → slice_get xs k ≡ Some x
stands_at [] x k within is = absurd (omega (arith, within))
stands_at {A = A} (y ∷ xs) x zero within is = ap (λ (z : A). Some z) (is y)
stands_at (y ∷ xs) x (suc k) within is = stands_at xs x k (omega (arith, within)) is

index_of : {A : Type 0} (xs : List A) (x : A) → Contains xs x → (k : ℕ) × (slice_get xs k ≡ Some x)
index_of xs x is = let there = at_from_Contains xs x is in (there.0, stands_at xs x there.0 there.1 there.2)

-- what stands in a list stands below its length
below_length : {A : Type 0} (l : List A) (k : ℕ) (x : A) → slice_get l k ≡ Some x → k < length l
below_length [] k x is = absurd (cc)
below_length (y ∷ l) zero x is = omega arith
below_length (y ∷ l) (suc k) x is = let rest = below_length l k x is in omega (arith, rest)

module _ (crashing : Crashing) (c : Shape) (entries : List Entry) (goes : Goes crashing c entries) (lives : IsLived c (lived_of c entries)) where
  abbrev lived : List Lived
  lived = lived_of c entries

  abbrev run : List Lived
  run = lives.run

  abbrev commands : List Command
  commands = lives.one.commands

  abbrev stretch : ℕ → Stretch
  stretch = lives.one.stretch

  abbrev last : ℕ
  last = lives.one.last

  -- what a host did since its start, by place i of the order
  abbrev deeds : ℕ → ℕ → Deeds
  deeds i h = deeds_from no_deeds i entries h

  -- so many entries of an epoch of the run come before place i of the order
  abbrev run_place : ℕ → ℕ → ℕ
  run_place i e = now e (place_in_order c entries i) run

  abbrev run_host : (i e h : ℕ) → Host
  run_host i e h = (at c (part e run) (run_place i e)).host h

  like_at : (i e h : ℕ) → IsLike (core_at crashing c entries goes i e h) (run_host i e h)
  like_at i e h =
      subst (λ (n : ℕ). IsLike (core_at crashing c entries goes i e h) ((at c (part e run) n).host h)) (sym (lives.places e (place_in_order c entries i)))
      (lives.like e (now e (place_in_order c entries i) lived) h)

  order_rises : (i j : ℕ) → i ≤ j → place_in_order c entries i ≤ place_in_order c entries j
  order_rises i j order = (order_is_kept crashing c entries goes).rises i j order

  -- THE LOG OF AN EPOCH

  abbrev chosen : ℕ → List Command
  chosen e = chosen_commands c (part e run) (lives.is e)

  safe : (e : ℕ) → IsSafe c (part e run) (chosen e)
  safe e = is_safe c (part e run) (lives.is e)

  -- it has no more commands than slots
  chosen_below : (e slot : ℕ) (command : Command) → slice_get (chosen e) slot ≡ Some command → slot < c.slots
  chosen_below e slot command found = chosen_fits c (part e run) (lives.is e) slot (spelling command) ((safe e).is_log.chosen slot (spelling command) (map_there (chosen e) slot command found))

  module _ (m e h : ℕ) (memory : Memory) (runs : core_at crashing c entries goes m e h ≡ Running memory) where
    -- who runs is in no later epoch than the last
    in_last : e ≤ last
    in_last =
        let there = (like_at m e h).runs memory runs in
        lives.one.none (place_in_order c entries m) e h there.0 there.1

    learned_there : learned_in c run (place_in_order c entries m) e h ≡ memory.learned
    learned_there = (like_at m e h).learned ∙ ap learned_of runs

    -- what it has learned goes by the one log
    goes_by : GoesByLog commands (stretch e) memory.learned
    goes_by = subst (GoesByLog commands (stretch e)) learned_there (lives.one.learned (place_in_order c entries m) e h in_last)

    few_learned : length memory.learned ≤ c.slots
    few_learned =
        elim (cases_lt c.slots (length memory.learned)) [
          | inr few ↦ few
          | inl many ↦
              (let item = item_below memory.learned c.slots many in
              let found = prefix_get (learned_in c run (place_in_order c entries m) e h) (chosen e) c.slots item.0 ((safe e).prefix (run_place m e) h) (ap (λ (l : List Command). slice_get l c.slots) learned_there ∙ item.1) in
              let below = chosen_below e c.slots item.0 found in
              absurd (omega (arith, below)))
        ]

    -- WHERE IT SAID SO

    -- it said this in the run by a place before, and has stayed as it was
    record SaidIn (said : HostAnswer) : Type 0 where
      pub place : ℕ
      pub before : place < place_in_order c entries m
      pub says : SaysIn c run place e h said
      pub still : (n : ℕ) → now e place run < n → n ≤ run_place m e → (at c (part e run) n).host h ≡ run_host m e h

    said_in : (said : HostAnswer) → memory.said ≡ Some said → SaidIn said
    said_in said is =
        let at_run = said_before c (part e run) h (run_place m e) said ((like_at m e h).said ∙ ap said_of runs ∙ is) in
        let there = place_at e h at_run.place at_run.says.entry run at_run.says.is at_run.says.of_host in
        record {
          place = there.0;
          before = elim (cases_lt there.0 (place_in_order c entries m)) [
            | inl less ↦ less
            | inr no_less ↦
                (let rises_to = now_rises e (place_in_order c entries m) there.0 run no_less in
                let same = there.2 in
                let low = at_run.before in
                absurd (omega (arith, rises_to, same, low)))
          ];
          says = record { here = (at_run.says.entry, there.1); is = subst (λ (n : ℕ). SaysAt c (part e run) n h said) (sym there.2) at_run.says };
          still = λ n above upto. at_run.still n (let same = there.2 in omega (arith, above, same)) upto;
        }

    -- ACKNOWLEDGEMENTS

    -- it acknowledged a command in the run
    record HasAcked (slot : ℕ) (command : Command) (reply : Reply) : Type 0 where
      pub place : ℕ
      pub before : place < place_in_order c entries m
      pub is : IsAcknowledgedIn c run place e h slot command reply
      pub fits : slot < c.slots

    has_acked : (slot : ℕ) (reply : Reply) (earlier : List Command) (command : Command) → memory.said ≡ Some (core.Ack slot reply) → memory.learned ≡ earlier ++ command ∷ [] → slot ≡ length earlier → HasAcked slot command reply
    has_acked slot reply earlier command is last_learned at_slot =
        let there = said_in (core.Ack slot reply) is in
        let placed = lives.one.placed there.place e h slot reply there.says in
        let next : now e (suc there.place) run ≡ suc (now e there.place run) = now_next e there.place run there.says.here in
        let upto : suc (now e there.place run) ≤ run_place m e =
        (let rises_to = now_rises e (suc there.place) (place_in_order c entries m) run there.before in omega (arith, rises_to, next)) in
        let learned : learned_in c run (suc there.place) e h ≡ earlier ++ command ∷ [] =
        ap (λ (n : ℕ). learned_of ((at c (part e run) n).host h)) next
        ∙ ap learned_of (there.still (suc (now e there.place run)) (omega arith) upto)
        ∙ learned_there
        ∙ last_learned in
        let own : slice_get (learned_in c run (suc there.place) e h) slot ≡ Some command =
        ap (λ (l : List Command). slice_get l slot) learned ∙ get_at earlier (command ∷ []) 0 command slot refl (omega (arith, at_slot)) in
        let found : slice_get (chosen e) slot ≡ Some command = prefix_get (learned_in c run (suc there.place) e h) (chosen e) slot command ((safe e).prefix (now e (suc there.place) run) h) own in
        let also : slice_get (chosen e) slot ≡ Some placed.0 = (safe e).acknowledged (now e there.place run) h slot placed.0 reply placed.1.is in
        let both : Some placed.0 ≡ Some command = sym also ∙ found in
        let same : placed.0 ≡ command = cc in
        record {
          place = there.place;
          before = there.before;
          is = subst (λ (x : Command). IsAcknowledgedIn c run there.place e h slot x reply) same placed.1;
          fits = chosen_below e slot command found;
        }

  -- WHAT CARRIES THE TABLE OVER

  learned_alike : (e i h : ℕ) → learned_in c run i e h ≡ learned_in c lived i e h
  learned_alike e i h =
      ap (λ (n : ℕ). learned_of ((at c (part e run) n).host h)) (lives.places e i)
      ∙ (lives.like e (now e i lived) h).learned

  into_run : (e : ℕ) (over : List Command) → CarriesInto c lived e over → CarriesInto c run e over
  into_run zero over into = into
  into_run (suc e) over (i, h, shown, whole, drawn, is) =
      let learned = learned_alike e i h in
      (i, h, shown, ap (λ (l : List Command). length l) learned ∙ whole, subst (λ (l : List Command). IsPictureOf shown (table_after l)) (sym learned) drawn, is)

  over_same : (e : ℕ) (over : List Command) → e ≤ last → CarriesInto c run e over → over ≡ (stretch e).over
  over_same zero over upto into = into ∙ sym (ap (λ (s : Stretch). s.over) lives.one.first)
  over_same (suc e) over upto (i, h, shown, whole, drawn, is) =
      let other = lives.one.over e (omega (arith, upto)) in
      let first = learned_in c run i e h in
      let second = learned_in c run other.0 e other.1 in
      let same : first ≡ second = same_long first second (whole ∙ sym other.3) (lives.one.prefixes i other.0 e h other.1) in
      is ∙ ap carried_over (one_shown (table_after second) shown other.2 (subst (λ (l : List Command). IsPictureOf shown (table_after l)) same drawn) other.4) ∙ sym other.5

  -- no client may ask for it
  carried : (e k : ℕ) (wanted : Command) → e ≤ last → slice_get (stretch e).over k ≡ Some wanted → is_submittable wanted ≡ false
  carried zero k wanted upto found = absurd (let none : None ≡ Some wanted = sym (ap (λ (s : Stretch). slice_get s.over k) lives.one.first) ∙ found in cc)
  carried (suc e) k wanted upto found =
      let other = lives.one.over e (omega (arith, upto)) in
      carried_by_not (λ d. other.2) (suc e) k wanted (subst (λ (l : List Command). slice_get l k ≡ Some wanted) other.5 found)

  -- whose table is there has learned all of it
  has_over : (i m e h : ℕ) (memory : Memory) → core_at crashing c entries goes m e h ≡ Running memory → HasTable c h e (deeds i h) memory.learned → length (stretch e).over ≤ length memory.learned
  has_over i m e h memory runs (inl (over, carries, long)) =
      let same = over_same e over (in_last m e h memory runs) (into_run e over (carries_into crashing c entries goes i h e over carries)) in
      omega (arith, long, ap (λ (l : List Command). length l) same)
  has_over i m e h memory runs (inr (client, among, asked)) =
      let there = index_of memory.learned client among in
      let rest = drop (stretch e).behind commands in
      let found : slice_get ((stretch e).over ++ rest) there.0 ≡ Some client = prefix_get memory.learned ((stretch e).over ++ rest) there.0 client (goes_by m e h memory runs).begins there.1 in
      elim (cases_lt there.0 (length (stretch e).over)) [
        | inl carried_one ↦
            absurd (true≢false (sym asked ∙ carried e there.0 client (in_last m e h memory runs) (get_before (stretch e).over rest there.0 client carried_one found)))
        | inr behind ↦ (let below = below_length memory.learned there.0 client there.1 in omega (arith, behind, below))
      ]

  -- PLACES

  module _ (some : 1 ≤ c.slots) where
    abbrev before : ℕ → ℕ
    before place = counted c.slots stretch last 0 place

    before_is : (e slot place : ℕ) → e ≤ last → slot ≤ c.slots → place ≡ place_in c e slot → before place ≡ place_of (stretch e) slot
    before_is e slot place upto low is = ap before is ∙ counted_at c.slots some stretch last lives.one.next e slot upto low

    -- TABLES

    module _ (i h upto : ℕ) (table : Shown) (shows : ShowsTable c entries i h upto table) where
      abbrev known : HasLearnedUpto c h (deeds_by entries i h) upto shows.0
      known = shows.1

      same_deeds : deeds i h ≡ deeds_by entries i h
      same_deeds = own_deeds h i no_deeds entries

      there : (m : ℕ) × (m ≤ i) × ((e : ℕ) → core_at crashing c entries goes m e h ≡ core_in c h e (deeds i h))
      there = core_place crashing c entries goes i h (deeds i h) [] (sym (append-nil (deeds i h)))

      shower_runs : core_at crashing c entries goes there.0 known.epoch h ≡ Running known.memory
      shower_runs = there.2 known.epoch ∙ ap (core_in c h known.epoch) same_deeds ∙ known.runs

      shown_so : (before upto ≤ length commands) × IsPictureOf table (table_after (take (before upto) commands))
      shown_so =
          let s = stretch known.epoch in
          let learned = known.memory.learned in
          let place_is : upto ≡ place_in c known.epoch (length learned) = known.there ∙ ap (λ (l : List Command). place_in c known.epoch (length l)) known.is in
          let is : before upto ≡ place_of s (length learned) =
          before_is known.epoch (length learned) upto (in_last there.0 known.epoch h known.memory shower_runs) (few_learned there.0 known.epoch h known.memory shower_runs) place_is in
          let by = goes_by there.0 known.epoch h known.memory shower_runs in
          let others = take (place_of s (length learned)) commands in
          let whole : HasTable c h known.epoch (deeds i h) learned =
          subst (λ (l : Deeds). HasTable c h known.epoch l learned) (sym same_deeds) (subst (HasTable c h known.epoch (deeds_by entries i h)) known.is known.whole) in
          let as_after : IsAsAfter learned others = by.as_after (has_over i there.0 known.epoch h known.memory shower_runs whole) in
          let drawn : IsPictureOf table (table_after learned) = subst (λ (l : List Command). IsPictureOf table (table_after l)) known.is shows.2 in
          let own = has_picture others in
          let same : pictured (table_after others) ≡ table = one_shown (table_after learned) (pictured (table_after others)) table (as_after.shows (pictured (table_after others)) own) drawn in (
            subst (λ (n : ℕ). n ≤ length commands) (sym is) by.upto,
            subst (λ (n : ℕ). IsPictureOf table (table_after (take n commands))) (sym is) (subst (λ (t : Shown). IsPictureOf t (table_after others)) same own),
          )

      -- it is of all that was told
      told_so : (said : ℕ → HostAnswer) (told : ℕ) → Learns c h (deeds_by entries i h) said told → upto ≡ told
      told_so said told learns =
          elim (cases_Bool (learns.epoch == known.epoch)) [
            | inl same ↦
                (let is : learns.epoch ≡ known.epoch = eqb-true learns.epoch known.epoch same in
                let both : Running known.memory ≡ Running learns.memory = sym known.runs ∙ ap (λ (e : ℕ). core_in c h e (deeds_by entries i h)) (sym is) ∙ learns.says.runs in
                let one : known.memory ≡ learns.memory = cc in
                known.there
                ∙ ap (λ (l : List Command). place_in c known.epoch (length l)) (known.is ∙ ap (λ (x : Memory). x.learned) one)
                ∙ ap (λ (e : ℕ). place_in c e (length learns.memory.learned)) (sym is)
                ∙ sym learns.there)
            | inr off ↦
                (let stopped = known.alone learns.epoch (λ is. true≢false (sym (eq-eqb learns.epoch known.epoch is) ∙ off)) in
                let clash : Stopped ≡ Running learns.memory = sym stopped ∙ learns.says.runs in
                absurd (cc))
          ]

    -- ACKNOWLEDGED COMMANDS

    module _ (i h place : ℕ) (command : Command) (reply : Reply) (acks : Acknowledges c h (deeds_by entries i h) command place reply) where
      acked_there : (m : ℕ) × (m ≤ i) × ((e : ℕ) → core_at crashing c entries goes m e h ≡ core_in c h e (deeds i h))
      acked_there = core_place crashing c entries goes i h (deeds i h) [] (sym (append-nil (deeds i h)))

      acker_runs : core_at crashing c entries goes acked_there.0 acks.epoch h ≡ Running acks.memory
      acker_runs = acked_there.2 acks.epoch ∙ ap (core_in c h acks.epoch) (own_deeds h i no_deeds entries) ∙ acks.says.runs

      acked : HasAcked acked_there.0 acks.epoch h acks.memory acker_runs acks.slot command reply
      acked = has_acked acked_there.0 acks.epoch h acks.memory acker_runs acks.slot reply acks.before command acks.says.is acks.last acks.at

      acked_before : before place ≡ place_of (stretch acks.epoch) acks.slot
      acked_before = before_is acks.epoch acks.slot place (in_last acked_there.0 acks.epoch h acks.memory acker_runs) (let low = acked.fits in omega (arith, low)) acks.there

      acknowledged_so : is_submittable command ≡ true → (slice_get commands (before place) ≡ Some command) × (reply ≡ reply_after (take (before place) commands) command)
      acknowledged_so asked =
          let stands = lives.one.acknowledged acked.place acks.epoch h acks.slot command reply acked.is asked in (
            subst (λ (n : ℕ). slice_get commands n ≡ Some command) (sym acked_before) stands.there,
            subst (λ (n : ℕ). reply ≡ reply_after (take n commands) command) (sym acked_before) stands.replied,
          )

      counted_so : is_submittable command ≡ true → before (suc place) ≡ suc (before place)
      counted_so asked =
          let stands = lives.one.acknowledged acked.place acks.epoch h acks.slot command reply acked.is asked in
          let low = acked.fits in
          let behind = stands.behind in
          let there = acks.there in
          let one = acked_before in
          let next = before_is acks.epoch (suc acks.slot) (suc place) (in_last acked_there.0 acks.epoch h acks.memory acker_runs) (omega (arith, low)) (omega (arith, there)) in
          omega (arith, one, next, behind)

    -- RECOVERIES

    module _ (k i j g h tries place upto : ℕ) (command : Command) (reply : Reply) (order : k ≤ i) (acks : Acknowledges c g (deeds_by entries k g) command place reply) (asked : is_submittable command ≡ true)
        (recovers : HasRecovered c entries i j h tries upto) where
      abbrev learns : Learns c h (deeds_by entries j h) core.Recovered upto
      learns = recovers.tells

      abbrev many : ℕ
      many = length learns.memory.learned

      idle : AreIdleBy c h (deeds i h)
      idle = subst (AreIdleBy c h) (sym (own_deeds h i no_deeds entries)) recovers.idle

      ends_at : IsBetween crashing c entries goes i j h
      ends_at = core_between crashing c entries goes i j h (let low = recovers.since in let high = recovers.until in omega (arith, low, high)) idle

      teller_is : core_in c h learns.epoch (deeds j h) ≡ Running learns.memory
      teller_is = ap (core_in c h learns.epoch) (own_deeds h j no_deeds entries) ∙ learns.says.runs

      teller_runs : core_at crashing c entries goes ends_at.place learns.epoch h ≡ Running learns.memory
      teller_runs = ends_at.cores learns.epoch ∙ teller_is

      told : SaidIn ends_at.place learns.epoch h learns.memory teller_runs (core.Recovered many)
      told = said_in ends_at.place learns.epoch h learns.memory teller_runs (core.Recovered many) learns.says.is

      began : (b : ℕ) × IsRecovery c (part learns.epoch run) b (now learns.epoch told.place run) h many
      began = all_begun c (part learns.epoch run) (lives.is learns.epoch) (now learns.epoch told.place run) h many told.says.is

      idle_then : IsIdle (run_host i learns.epoch h)
      idle_then = (like_at i learns.epoch h).idle (idle_there crashing c entries goes i learns.epoch h idle)

      -- where it was silent its core had not said so
      silent_at : IsBetween crashing c entries goes i recovers.between h
      silent_at = core_between crashing c entries goes i recovers.between h recovers.since idle

      silent : AreSilentBy c h (deeds recovers.between h)
      silent = subst (AreSilentBy c h) (sym (own_deeds h recovers.between no_deeds entries)) recovers.silent

      not_said : (host : Host) → core_in c h learns.epoch (deeds recovers.between h) ≡ host → said_of host ≡ Some (core.Recovered many) → ⊥
      not_said Stopped is says = absurd (cc)
      not_said (Running m) is says = absurd (let clash : None ≡ Some (core.Recovered many) = sym (silent learns.epoch m is) ∙ says in cc)

      -- so it said that after the place at which it was idle
      told_after : run_place i learns.epoch ≤ now learns.epoch told.place run
      told_after =
          elim (cases_lt (now learns.epoch told.place run) (run_place i learns.epoch)) [
            | inr after ↦ after
            | inl earlier ↦
                elim (cases_lt ends_at.place silent_at.place) [
                  | inl later ↦
                      (let high = silent_at.high in
                      let same = ends_at.still recovers.between (omega (arith, later, high)) recovers.until in
                      absurd (not_said (Running learns.memory) (ap (core_in c h learns.epoch) same ∙ teller_is) learns.says.is))
                  | inr within ↦
                      (let rise = now_rises learns.epoch (place_in_order c entries i) (place_in_order c entries silent_at.place) run (order_rises i silent_at.place silent_at.low) in
                      let upto_end = now_rises learns.epoch (place_in_order c entries silent_at.place) (place_in_order c entries ends_at.place) run (order_rises silent_at.place ends_at.place within) in
                      let still : run_host silent_at.place learns.epoch h ≡ run_host ends_at.place learns.epoch h = told.still (run_place silent_at.place learns.epoch) (omega (arith, earlier, rise)) upto_end in
                      let says : said_of (core_in c h learns.epoch (deeds recovers.between h)) ≡ Some (core.Recovered many) =
                      ap said_of (sym (silent_at.cores learns.epoch))
                      ∙ sym (like_at silent_at.place learns.epoch h).said
                      ∙ ap said_of still
                      ∙ (like_at ends_at.place learns.epoch h).said
                      ∙ ap said_of teller_runs
                      ∙ learns.says.is in
                      absurd (not_said (core_in c h learns.epoch (deeds recovers.between h)) refl says))
                ]
          ]

      -- so it began after that place
      began_then : run_place i learns.epoch ≤ began.0
      began_then = began_after c (part learns.epoch run) h (lives.is learns.epoch) began.0 (now learns.epoch told.place run) many began.1 (run_place i learns.epoch) told_after idle_then

      abbrev first_entry : Filled
      first_entry = Begin h (task.Recover began.1.tries)

      begins_at : (p : ℕ) × (slice_get run p ≡ Some (In learns.epoch first_entry)) × (now learns.epoch p run ≡ began.0)
      begins_at = place_at learns.epoch h began.0 first_entry run began.1.begins (eq-eqb h h refl)

      begins_after : place_in_order c entries i ≤ begins_at.0
      begins_after =
          elim (cases_lt begins_at.0 (place_in_order c entries i)) [
            | inr after ↦ after
            | inl earlier ↦
                (let next = now_next learns.epoch begins_at.0 run (first_entry, begins_at.1) in
                let rises_to = now_rises learns.epoch (suc begins_at.0) (place_in_order c entries i) run earlier in
                let same = begins_at.2 in
                let low = began_then in
                absurd (omega (arith, next, rises_to, same, low)))
          ]

      recovery : IsRecoveryIn c run begins_at.0 told.place learns.epoch h many
      recovery =
          record {
            begins = (first_entry, begins_at.1);
            ends = told.says.here;
            is = subst (λ (n : ℕ). IsRecovery c (part learns.epoch run) n (now learns.epoch told.place run) h many) (sym begins_at.2) began.1;
          }

      acked_earlier : IsAcknowledgedEarlier c run begins_at.0 acks.epoch acks.slot command
      acked_earlier =
          let one = acked k g place command reply acks in
          let low = one.before in
          let by = (acked_there k g place command reply acks).1 in
          let rise = order_rises (acked_there k g place command reply acks).0 i (omega (arith, by, order)) in
          let after = begins_after in
          record { place = one.place; host = g; reply = reply; before = omega (arith, low, rise, after); is = one.is }

      holds_so : before place < before upto
      holds_so =
          let less = lives.one.holds begins_at.0 told.place learns.epoch acks.epoch h many acks.slot command recovery (learns.below refl) acked_earlier asked in
          let one = acked_before k g place command reply acks in
          let fits = learns.below refl in
          let other = before_is learns.epoch many upto (in_last ends_at.place learns.epoch h learns.memory teller_runs) (omega (arith, fits)) learns.there in
          omega (arith, less, one, other)

    -- WHO SUBMITTED

    module _ (n : ℕ) (command : Command) (found : slice_get commands n ≡ Some command) where
      none_migrated : length (migrated (part zero run)) ≤ n
      none_migrated = let none = ap (λ (l : List Command). length l) lives.fresh in omega (arith, none)

      submitted_so : IsSubmitted entries command
      submitted_so =
          let from = lives.one.submitted n command none_migrated found in
          let given = given_by c from.epoch from.host (task.Submit command from.tries) no_deeds entries from.place (lives.begins from.epoch from.place from.host (task.Submit command from.tries) from.submitted) in
          record { place = given.0; host = from.host; epoch = from.epoch; tries = from.tries; is = given.1; asked = lives.one.asked n command none_migrated found }

    has_one_log : HasOneLog c entries
    has_one_log =
        record {
          commands = commands;
          submitted = submitted_so;
          before = before;
          rises = rises c.slots some stretch last lives.one.next;
          acknowledged = λ i h tries place command reply tells asked. acknowledged_so i h place command reply tells asked;
          counted = λ i h tries place command reply tells asked. counted_so i h place command reply tells asked;
          shown = shown_so;
          recovered = λ i h tries upto other table tells shows. told_so i h other table shows core.Recovered upto tells;
          looked = λ i h upto other table tells shows. told_so i h other table shows core.Looked upto tells;
          holds = λ k i j g h given tries place upto command reply order tells asked recovers. holds_so k i j g h tries place upto command reply order tells asked recovers;
        }

pub hosts_have_one_log : HostsHaveOneLog
hosts_have_one_log c entries long is =
    let goes = at_once_goes c entries is in
    has_one_log model_crashes c entries goes (lived_by_crashes c entries long goes) (omega (arith, long))

pub hosts_have_one_log_over_losses : HostsHaveOneLogOverLosses
hosts_have_one_log_over_losses c entries long is few =
    let goes = over_losses_goes c entries is in
    has_one_log power_losses c entries goes (lived_by_losses c entries long goes (λ e. let less = few_lived c e no_deeds entries in omega (arith, less, few))) (omega (arith, long))

pub at_start : (c : Shape) (h : ℕ) → AreIdleBy c h [] × AreSilentBy c h []
at_start c h = (λ e memory runs. absurd (let clash : Stopped ≡ Running memory = runs in cc), λ e memory runs. absurd (let clash : Stopped ≡ Running memory = runs in cc))
