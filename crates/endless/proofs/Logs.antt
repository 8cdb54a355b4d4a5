-- The logs of all epochs, and the one log that they are together.
use Rattle.std.specs.Prelude.{◌-◌, take, drop, map, slice_get}
use Rattle.std.proofs.Common.{ℕ, zero, suc, ◌+◌, ◌<◌, ◌≤◌, ◌≡◌, inl, inr, false, Option, Some, List, [], ◌∷◌, ◌++◌, length, refl, sym, subst, ap, ◌∙◌, arith, length-append, length-drop, append_assoc, append-nil}
use Rattle.std.proofs.Math.Seq.{take-append-add}
use Rattle.std.proofs.lemmas.Bool.{cases_lt}
use Rattle.std.proofs.lemmas.List.{length-map, take_all, take-append-le, drop_at}
use Rattle.std.proofs.lemmas.Option.{slice_get-get_or, slice_get_within}
use Rattle.lock_command.specs.declared.command.Command.{Command}
use Rattle.lock_command.specs.declared.record.LockRecord.{LockRecord}
use Rattle.lock_command.specs.declared.reply.LockValue.{LockValue}
use Rattle.lock_command.specs.Command.{spelling, is_submittable}
use Rattle.lock_table.specs.declared.known_client.KnownClient.{KnownClient}
use Rattle.lock_table.specs.Apply.{table_after}
use Rattle.lock_table.specs.Carrying.{carried_lock, carried_client, carried_locks}
use Rattle.lock_table.specs.Picture.{Shown, IsPictureOf, pictured}
use Rattle.paxos_block.specs.Shape.{Shape}
use Rattle.host.specs.Host.{Host, learned_of}
use Rattle.world.specs.World.{IsRun, ReadsBack}
use Rattle.world.specs.Chosen.{migrated, IsChosen}
use Rattle.world.specs.Headline.{IsPrefix, IsSafe}
use Rattle.world_safety.proofs.Claims.Safety.{commands as chosen_commands, spelled, is_safe}
use Rattle.world_safety.proofs.Runs.Commands.{begins_by, map_there}
use Rattle.endless.specs.Epochs.{CarriesFirst, IsChain, all_later, all_before, carried_by, IsAsAfter}
use Rattle.endless.specs.Headline.{learned_in, CarriesInto, IsDue, SubmitsWhatIsDue, KeepsToEpochs}
use Rattle.endless.specs.Lived.{Lived, part, now, IsWholeBy}
use Rattle.endless.proofs.First.{begins, chosen_first}
use Rattle.endless.proofs.Going.{has_picture, one_more, same_list, tables_go_on}
use Rattle.endless.proofs.Last.{IsLast}
use Rattle.endless.proofs.Lists.{prefix_more, prefix_own, prefix_get, get_at, get_before, get_from, item_below}
use Rattle.endless.proofs.Puts.{chosen_fits}

-- no client may ask for what carries a table over
carried_client_not : (clients : List KnownClient) (k : ℕ) (wanted : Command) → slice_get (map carried_client clients) k ≡ Some wanted → is_submittable wanted ≡ false
carried_client_not [] k wanted is = absurd (cc)
carried_client_not (client ∷ clients) zero wanted is = let same : carried_client client ≡ wanted = cc in subst (λ (x : Command). is_submittable x ≡ false) same refl
carried_client_not (client ∷ clients) (suc k) wanted is = carried_client_not clients k wanted is

carried_not : (locks : List LockRecord) (values : List LockValue) (clients : List KnownClient) (k : ℕ) (wanted : Command) → slice_get (carried_locks locks values ++ map carried_client clients) k ≡ Some wanted → is_submittable wanted ≡ false
carried_not [] values clients k wanted is = carried_client_not clients k wanted is
carried_not (r ∷ locks) [] clients k wanted is = carried_client_not clients k wanted is
carried_not (r ∷ locks) (v ∷ values) clients zero wanted is = let same : carried_lock r v ≡ wanted = cc in subst (λ (x : Command). is_submittable x ≡ false) same refl
carried_not (r ∷ locks) (v ∷ values) clients (suc k) wanted is = carried_not locks values clients k wanted is

pub carried_by_not : (shown : ℕ → Shown) (e k : ℕ) (wanted : Command) → slice_get (carried_by shown e) k ≡ Some wanted → is_submittable wanted ≡ false
carried_by_not shown zero k wanted is = absurd (cc)
carried_by_not shown (suc e) k wanted is = carried_not (shown e).locks (shown e).values (shown e).clients k wanted is

-- a command of the one log is one of some epoch, behind what carries the table over
pub record IsOwn (last : ℕ) (logs over : ℕ → List Command) (behind : ℕ → ℕ) (n : ℕ) (command : Command) : Type 0 where
  pub epoch : ℕ
  pub slot : ℕ
  pub upto : epoch ≤ last
  pub past : length (over epoch) ≤ slot
  pub is : slice_get (logs epoch) slot ≡ Some command
  pub there : behind epoch + (slot - length (over epoch)) ≡ n

-- The log of each epoch, what it begins with, and how many commands of the one log stand behind that; and the one log.
pub record Logs (c : Shape) (lived : List Lived) (last : ℕ) : Type 0 where
  pub logs : ℕ → List Command
  pub over : ℕ → List Command
  pub behind : ℕ → ℕ
  pub all : List Command
  pub safe : (e : ℕ) → IsSafe c (part e lived) (logs e)
  pub reads : (e k : ℕ) (command : Command) → slice_get (logs e) k ≡ Some command → ReadsBack command
  pub bounded : (e : ℕ) → length (logs e) ≤ c.slots
  pub first_over : over zero ≡ []
  pub first_behind : behind zero ≡ 0
  pub next_behind : (e : ℕ) → behind (suc e) ≡ behind e + (c.slots - length (over e))
  pub into : (e : ℕ) → e ≤ last → CarriesInto c lived e (over e)
  pub due : (e : ℕ) → e ≤ last → SubmitsWhatIsDue c (part e lived) (over e)
  pub first_is : (e : ℕ) → e ≤ last → (k : ℕ) (command wanted : Command) → slice_get (logs e) k ≡ Some command → slice_get (over e) k ≡ Some wanted → command ≡ wanted
  pub carried : (e k : ℕ) (wanted : Command) → slice_get (over e) k ≡ Some wanted → is_submittable wanted ≡ false
  pub begins : (e : ℕ) → e ≤ last → IsPrefix (logs e) (over e ++ drop (behind e) all)
  pub long : (e : ℕ) → e ≤ last → behind e + (length (logs e) - length (over e)) ≤ length all
  pub stands : (e slot : ℕ) (command : Command) → e ≤ last → length (over e) ≤ slot → slice_get (logs e) slot ≡ Some command → slice_get all (behind e + (slot - length (over e))) ≡ Some command
  pub whose : (n : ℕ) (command : Command) → slice_get all n ≡ Some command → IsOwn last logs over behind n command
  pub after : (e m : ℕ) → e ≤ last → length (over e) ≤ m → m ≤ length (logs e) → IsAsAfter (take m (logs e)) (take (behind e + (m - length (over e))) all)

module _ (c : Shape) (lived : List Lived) (last : ℕ) (run : (e : ℕ) → IsRun c (part e lived)) (fresh : (e : ℕ) → migrated (part (suc e) lived) ≡ []) (keeps : KeepsToEpochs c lived) (is_last : IsLast c lived run keeps.in_turn last) where
  -- THE LOG OF AN EPOCH

  abbrev logs : ℕ → List Command
  logs e = chosen_commands c (part e lived) (run e)

  safe : (e : ℕ) → IsSafe c (part e lived) (logs e)
  safe e = is_safe c (part e lived) (run e)

  reads : (e k : ℕ) (command : Command) → slice_get (logs e) k ≡ Some command → ReadsBack command
  reads e = (spelled c (part e lived) (run e)).reads

  is_chosen : (e k : ℕ) (command : Command) → slice_get (logs e) k ≡ Some command → IsChosen c (part e lived) k (spelling command)
  is_chosen e k command found = (safe e).is_log.chosen k (spelling command) (map_there (logs e) k command found)

  bounded : (e : ℕ) → length (logs e) ≤ c.slots
  bounded e = elim (cases_lt c.slots (length (logs e))) [
    | inr not_less ↦ not_less
    | inl less ↦
        (let there = slice_get-get_or (map spelling (logs e)) c.slots [] (omega (arith, less, length-map (logs e) spelling)) in
        let within = chosen_fits c (part e lived) (run e) c.slots _ ((safe e).is_log.chosen c.slots _ there) in
        absurd (omega (arith, within)))
  ]

  -- somebody has learned each epoch but the last whole
  module _ (e : ℕ) (less : e < last) where
    whole : IsWholeBy c lived e (is_last.whole e less).0
    whole = (is_last.whole e less).1

    abbrev full : List Command
    full = learned_in c lived whole.place e whole.host

    full_many : length full ≡ c.slots
    full_many = ap (λ (h : Host). length (learned_of h)) whole.runs ∙ whole.whole

    -- so it has learned its log
    full_is : full ≡ logs e
    full_is =
        let many = full_many in
        let few = bounded e in
        (safe e).prefix (now e whole.place lived) whole.host ∙ take_all (length (learned_in c lived whole.place e whole.host)) (logs e) (omega (arith, many, few))

    log_full : length (logs e) ≡ c.slots
    log_full = ap (λ (l : List Command). length l) (sym full_is) ∙ full_many

  -- WHAT CARRIES TABLES OVER

  abbrev shown : ℕ → Shown
  shown e = pictured (table_after (logs e))

  abbrev over : ℕ → List Command
  over e = carried_by shown e

  into : (e : ℕ) → e ≤ last → CarriesInto c lived e (over e)
  into zero reached = refl
  into (suc e) reached =
      let less : e < last = omega (arith, reached) in
      ((whole e less).place, (whole e less).host, shown e, full_many e less, subst (λ (l : List Command). IsPictureOf (shown e) (table_after l)) (sym (full_is e less)) (has_picture (logs e)), refl)

  fits : (e : ℕ) → e ≤ last → length (over e) ≤ c.slots
  fits e reached = keeps.fits e (over e) (into e reached)

  due : (e : ℕ) → e ≤ last → SubmitsWhatIsDue c (part e lived) (over e)
  due e reached = keeps.carries e (over e) (into e reached)

  first : (e : ℕ) → e ≤ last → CarriesFirst c (part e lived) (over e)
  first e reached i h memory doing command wanted call running does submits here =
      subst (λ (o : Option Command). IsDue o command) here (due e reached i h memory doing command call running does submits)

  -- what stands in a log where the table is carried over is what carries it
  first_is : (e : ℕ) → e ≤ last → (k : ℕ) (command wanted : Command) → slice_get (logs e) k ≡ Some command → slice_get (over e) k ≡ Some wanted → command ≡ wanted
  first_is zero reached k command wanted found here = absurd (cc)
  first_is (suc e) reached k command wanted found here =
      chosen_first c (part (suc e) lived) (over (suc e)) (run (suc e)) (fresh e) (first (suc e) reached) k command wanted (reads (suc e) k command found) (is_chosen (suc e) k command found) here

  -- and behind that it has its own
  abbrev own : ℕ → List Command
  own e = drop (length (over e)) (logs e)

  split : (e : ℕ) → e ≤ last → length (over e) ≤ length (logs e) → logs e ≡ over e ++ own e
  split e reached long = begins (over e) (logs e) long (first_is e reached)

  -- a log that is not as long begins what carries the table over
  short_begins : (e : ℕ) → e ≤ last → length (logs e) ≤ length (over e) → IsPrefix (logs e) (over e)
  short_begins e reached short = begins_by (logs e) (over e) (λ k command found.
      let within = slice_get_within (logs e) k command found in
      let item = item_below (over e) k (omega (arith, within, short)) in
      item.1 ∙ ap Some (sym (first_is e reached k command item.0 found item.1)))

  -- THE ONE LOG

  abbrev all : List Command
  all = all_later own last

  abbrev behind : ℕ → ℕ
  behind zero = 0
  behind (suc e) = behind e + (c.slots - length (over e))

  goes_on : (d e n : ℕ) → n ≡ d + e → (more : List Command) × (all_later own n ≡ all_later own e ++ more)
  goes_on zero e n is = let same : n ≡ e = omega (arith, is) in ([], ap (all_later own) same ∙ sym (append-nil (all_later own e)))
  goes_on (suc d) e zero is = absurd (omega (arith, is))
  goes_on (suc d) e (suc n) is =
      let rest = goes_on d e n (omega (arith, is)) in
      (rest.0 ++ own (suc n), ap (λ (l : List Command). l ++ own (suc n)) rest.1 ∙ append_assoc (all_later own e) rest.0 (own (suc n)))

  later_is : (e : ℕ) → all_later own e ≡ all_before own e ++ own e
  later_is zero = refl
  later_is (suc e) = refl

  -- the one log goes through each epoch
  through : (e : ℕ) → e ≤ last → (more : List Command) × (all ≡ all_before own e ++ (own e ++ more))
  through e reached =
      let rest = goes_on (last - e) e last (omega (arith, reached)) in
      (rest.0, rest.1 ∙ ap (λ (l : List Command). l ++ rest.0) (later_is e) ∙ append_assoc (all_before own e) (own e) rest.0)

  own_many : (e : ℕ) → length (own e) ≡ length (logs e) - length (over e)
  own_many e = length-drop (length (over e)) (logs e)

  behind_is : (e : ℕ) → e ≤ last → length (all_before own e) ≡ behind e
  behind_is zero reached = refl
  behind_is (suc e) reached =
      let before = behind_is e (omega (arith, reached)) in
      let many = log_full e (omega (arith, reached)) in
      let own_is = own_many e in
      let size = length-append (all_before own e) (own e) in
      let same = ap (λ (l : List Command). length l) (later_is e) in
      omega (arith, before, many, own_is, size, same)

  dropped : (e : ℕ) (reached : e ≤ last) → drop (behind e) all ≡ own e ++ (through e reached).0
  dropped e reached = let t = through e reached in ap (drop (behind e)) t.1 ∙ drop_at (all_before own e) (own e ++ t.0) (behind e) (behind_is e reached)

  taken : (e n : ℕ) → e ≤ last → n ≤ length (own e) → take (behind e + n) all ≡ all_before own e ++ take n (own e)
  taken e n reached within =
      let t = through e reached in
      ap (take (behind e + n)) t.1
      ∙ ap (λ (k : ℕ). take (k + n) (all_before own e ++ (own e ++ t.0))) (sym (behind_is e reached))
      ∙ take-append-add (all_before own e) (own e ++ t.0) n
      ∙ ap (λ (l : List Command). all_before own e ++ l) (take-append-le n (own e) t.0 within)

  all_long : (e : ℕ) → e ≤ last → behind e + (length (logs e) - length (over e)) ≤ length all
  all_long e reached =
      let t = through e reached in
      let size = ap (λ (l : List Command). length l) t.1 in
      let one = length-append (all_before own e) (own e ++ t.0) in
      let two = length-append (own e) t.0 in
      let before = behind_is e reached in
      let own_is = own_many e in
      omega (arith, size, one, two, before, own_is)

  log_begins : (e : ℕ) → e ≤ last → IsPrefix (logs e) (over e ++ drop (behind e) all)
  log_begins e reached = elim (cases_lt (length (logs e)) (length (over e))) [
    | inl less ↦ prefix_more (logs e) (over e) (drop (behind e) all) (short_begins e reached (omega (arith, less)))
    | inr long ↦
        (let more = (through e reached).0 in
        let same : over e ++ drop (behind e) all ≡ logs e ++ more =
        ap (λ (l : List Command). over e ++ l) (dropped e reached) ∙ sym (append_assoc (over e) (own e) more) ∙ ap (λ (l : List Command). l ++ more) (sym (split e reached long)) in
        subst (λ (l : List Command). IsPrefix (logs e) l) (sym same) (prefix_own (logs e) more))
  ]

  -- an own command of an epoch stands in the one log
  own_stands : (e k : ℕ) (command : Command) → e ≤ last → slice_get (own e) k ≡ Some command → slice_get all (behind e + k) ≡ Some command
  own_stands e k command reached found =
      let t = through e reached in
      let within = slice_get_within (own e) k command found in
      let there = prefix_get (own e) (own e ++ t.0) k command (prefix_own (own e) t.0) found in
      let before = behind_is e reached in
      ap (λ (l : List Command). slice_get l (behind e + k)) t.1 ∙ get_at (all_before own e) (own e ++ t.0) k command (behind e + k) there (omega (arith, before))

  own_there : (e slot : ℕ) (command : Command) → e ≤ last → length (over e) ≤ slot → slice_get (logs e) slot ≡ Some command → slice_get (own e) (slot - length (over e)) ≡ Some command
  own_there e slot command reached past found =
      let within = slice_get_within (logs e) slot command found in
      let same = split e reached (omega (arith, within, past)) in
      get_from (over e) (own e) slot command (ap (λ (l : List Command). slice_get l slot) (sym same) ∙ found) past

  stands : (e slot : ℕ) (command : Command) → e ≤ last → length (over e) ≤ slot → slice_get (logs e) slot ≡ Some command → slice_get all (behind e + (slot - length (over e))) ≡ Some command
  stands e slot command reached past found = own_stands e (slot - length (over e)) command reached (own_there e slot command reached past found)

  -- and each command of the one log is one of some epoch
  own_here : (e k : ℕ) (command : Command) (n : ℕ) → e ≤ last → slice_get (own e) k ≡ Some command → behind e + k ≡ n → IsOwn last logs over behind n command
  own_here e k command n reached found there =
      let within = slice_get_within (own e) k command found in
      let many = own_many e in
      let same = split e reached (omega (arith, within, many)) in
      record {
        epoch = e;
        slot = length (over e) + k;
        upto = reached;
        past = omega arith;
        is = ap (λ (l : List Command). slice_get l (length (over e) + k)) same ∙ get_at (over e) (own e) k command (length (over e) + k) found refl;
        there = omega (arith, there);
      }

  own_of : (m n : ℕ) (command : Command) → m ≤ last → slice_get (all_later own m) n ≡ Some command → IsOwn last logs over behind n command
  own_of zero n command reached found = own_here zero n command n reached found (omega arith)
  own_of (suc m) n command reached found = elim (cases_lt n (length (all_later own m))) [
    | inl less ↦ own_of m n command (omega (arith, reached)) (get_before (all_later own m) (own (suc m)) n command less found)
    | inr not_less ↦
        (let before = behind_is (suc m) reached in
        own_here (suc m) (n - length (all_later own m)) command n reached (get_from (all_later own m) (own (suc m)) n command found not_less) (omega (arith, before, not_less)))
  ]

  -- TABLES

  chain : (e : ℕ) → e < last → IsChain e logs own shown
  chain e less =
      record {
        first = refl;
        next = λ k below.
            let many = log_full (suc k) (omega (arith, below, less)) in
            let few = fits (suc k) (omega (arith, below, less)) in
            split (suc k) (omega (arith, below, less)) (omega (arith, many, few));
        pictured = λ k below. has_picture (logs k);
      }

  core : (e : ℕ) (more : List Command) → e ≤ last → IsAsAfter (over e ++ more) (all_before own e ++ more)
  core zero more reached = same_list more more refl
  core (suc e) more reached =
      one_more (logs e) (all_later own e) more (shown e) (tables_go_on e logs own shown (chain e (omega (arith, reached))) e (omega arith)) (has_picture (logs e))

  -- what begins the log of an epoch shows what the one log leaves up to there
  after : (e m : ℕ) → e ≤ last → length (over e) ≤ m → m ≤ length (logs e) → IsAsAfter (take m (logs e)) (take (behind e + (m - length (over e))) all)
  after e m reached behind_over within =
      let n = m - length (over e) in
      let more = take n (own e) in
      let own_is = own_many e in
      let many : m ≡ length (over e) + n = omega (arith, behind_over) in
      let learned : take m (logs e) ≡ over e ++ more =
      ap (take m) (split e reached (omega (arith, behind_over, within))) ∙ ap (λ (k : ℕ). take k (over e ++ own e)) many ∙ take-append-add (over e) (own e) n in
      let others : take (behind e + n) all ≡ all_before own e ++ more = taken e n reached (omega (arith, own_is, within)) in
      subst (λ (l : List Command). IsAsAfter l (take (behind e + n) all)) (sym learned)
      (subst (λ (l : List Command). IsAsAfter (over e ++ more) l) (sym others) (core e more reached))

  pub logs_of : Logs c lived last
  logs_of =
      record {
        logs = logs;
        over = over;
        behind = behind;
        all = all;
        safe = safe;
        reads = reads;
        bounded = bounded;
        first_over = refl;
        first_behind = refl;
        next_behind = λ e. refl;
        into = into;
        due = due;
        first_is = first_is;
        carried = carried_by_not shown;
        begins = log_begins;
        long = all_long;
        stands = stands;
        whose = λ n command found. own_of last n command (omega arith) found;
        after = after;
      }
