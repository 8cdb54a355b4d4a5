-- A recovery of a log of the first layout goes on until it has ended: each step leaves less to do.
use Rattle.std.proofs.Common.{◌≡◌, ◌<◌, ◌≤◌, ◌+◌, ◌-◌, ◌*◌, ℕ, suc, Bool, true, false, List, [], ◌∷◌, ◌++◌, length, nat_lt, nat_le, Option, Some, None, refl, sym, ◌∙◌, ap, subst, arith, if◌then◌else◌, true≢false}
use Rattle.std.proofs.lemmas.Bool.{ltb-true, leb-false}
use Rattle.std.proofs.lemmas.List.{length-append}
use Rattle.torn_block.specs.Layout.{Version1}
use Rattle.disk.specs.Disk as device
use Rattle.attempt.specs.Answers.{Answered, Heard, on, heard_in}
use Rattle.attempt.specs.Status as attempt
use Rattle.attempt.specs.Status.{Status, Due, Ended, status, taken}
use Rattle.attempt.specs.DeviceCalls.{device_answer}
use Rattle.attempt.specs.declared.heard.Heard as code_heard
use Rattle.attempt.specs.declared.heard.Heard.TheVariants as answer
use Rattle.paxos_block.specs.Shape.{Shape}
use Rattle.slot_log.specs.Alone.{IsAnsweredAlone}
use Rattle.slot_log.specs.Kept.{Kept, LeadsTo}
use Rattle.slot_log.specs.Learning.{Doing, Memory, Operation, fresh, goes_on, begins, says, learns, hears, by_status, with_heard, with_floor, tries_again, takes, judges, judged, after_learning, is_placed, offered_in, is_idle_in, setup_of}
use Rattle.slot_log.specs.declared.operation.Operation.TheVariants.{Recovering}
use Rattle.slot_log.specs.declared.outcome.LogOutcome.{LogOutcome}
use Rattle.slot_log.specs.declared.outcome.LogOutcome.TheVariants.{Placed, Recovered, Refused}
use Rattle.attempt.specs.declared.refusal.Refusal.TheVariants as refusal
use Rattle.folder_migration.specs.Recovery.{StandsFor, StandFor, Comes, call, judge, none, HasEnded, MayEnd, MakesOne, JudgesOne, after_call, after_judging, answered, old_heard}

-- ANSWERS AND VALUES

-- an answer of the code is heard as the device's
pub heard_same : (heard : code_heard.Heard (List ℕ)) → old_heard heard ≡ heard_in Version1 (device_answer heard)
heard_same (answer.Booted boot) = refl
heard_same answer.Done = refl
heard_same (answer.Told row) = refl
heard_same (answer.Fault fault) = refl

-- the answer is to the call that was due, and heard as the device's
pub leads_as : (s : Shape) (m : Memory) (new : Kept) (p q : ℕ × device.Call) (x y : Heard) → p ≡ q → x ≡ y → LeadsTo Version1 s 0 (hears Version1 s 0 m m.doing (record { disk = q.0; heard = x })) new → LeadsTo Version1 s 0 (hears Version1 s 0 m m.doing (record { disk = p.0; heard = y })) new
leads_as s m new p q x y due same leads =
    subst (λ (d : ℕ × device.Call). LeadsTo Version1 s 0 (hears Version1 s 0 m m.doing (record { disk = d.0; heard = y })) new) (sym due)
    (subst (λ (z : Heard). LeadsTo Version1 s 0 (hears Version1 s 0 m m.doing (record { disk = q.0; heard = z })) new) same leads)

pub alone_as : (s : Shape) (m : Memory) (p q : ℕ × device.Call) (x y : Heard) → p ≡ q → x ≡ y → IsAnsweredAlone Version1 s 0 m m.doing (record { disk = q.0; heard = x }) → IsAnsweredAlone Version1 s 0 m m.doing (record { disk = p.0; heard = y })
alone_as s m p q x y due same alone =
    subst (λ (d : ℕ × device.Call). IsAnsweredAlone Version1 s 0 m m.doing (record { disk = d.0; heard = y })) (sym due)
    (subst (λ (z : Heard). IsAnsweredAlone Version1 s 0 m m.doing (record { disk = q.0; heard = z })) same alone)

-- one more value, and what stands for it
pub stand_more : (olds news : List (List ℕ)) (old new : List ℕ) → StandFor olds news → StandsFor old new → StandFor (olds ++ old ∷ []) (news ++ new ∷ [])
stand_more [] [] old new all one = (one, tt)
stand_more [] (x ∷ news) old new all one = absurd all
stand_more (x ∷ olds) [] old new all one = absurd all
stand_more (x ∷ olds) (y ∷ news) old new all one = (all.0, stand_more olds news old new all.1 one)

-- as many values stand for them
pub as_many : (olds news : List (List ℕ)) → StandFor olds news → length news ≡ length olds
as_many [] [] all = refl
as_many [] (x ∷ news) all = absurd all
as_many (x ∷ olds) [] all = absurd all
as_many (x ∷ olds) (y ∷ news) all = ap suc (as_many olds news all.1)

-- WHAT IS LEFT TO DO

-- How many steps a recovery may still take: 120 for each attempt that may follow, since it learns a slot or uses a try, and those that
-- are left of its attempt.
abbrev pub left_with : Shape → ℕ → Option Doing → ℕ
left_with c learned None = 0
left_with c learned (Some t) = (c.slots - learned + (t.tries - 1)) * 120 + (119 - length t.heard) + 1

abbrev pub left_in : Shape → Memory → ℕ
left_in c m = left_with c (length m.learned) m.doing

-- it recovers, or has ended as a recovery may
abbrev pub GoesWell : Memory → Option Doing → Type 0
GoesWell m None = (outcome : LogOutcome) × (m.said ≡ Some outcome) × MayEnd m.learned outcome
GoesWell m (Some t) = t.operation ≡ Recovering

-- it does, with less left than this
pub record IsNearer (c : Shape) (n : ℕ) (m : Memory) : Type 0 where
  pub well : GoesWell m m.doing
  pub less : left_in c m < n

by_test : (P : Memory → Type 0) (b : Bool) (m n : Memory) → (b ≡ true → P m) → P n → P (if b then m else n)
by_test P true m n p q = p refl
by_test P false m n p q = q

-- a recovery that has ended is nearer
over : (c : Shape) (n : ℕ) (m : Memory) (outcome : LogOutcome) → MayEnd m.learned outcome → 0 < n → IsNearer c n (says m outcome)
over c n m outcome may some = record { well = (outcome, refl, may); less = some }

goes_on_nearer : (c : Shape) (m : Memory) (tries n learned : ℕ) → length m.learned ≡ learned + 1 → (c.slots - learned + (tries - 1)) * 120 < n → 0 < n → IsNearer c n (goes_on c m Recovering tries)
goes_on_nearer c m tries n learned one room some =
    by_test (IsNearer c n) (nat_lt (length m.learned) c.slots) (begins m Recovering tries) _
    (λ is. record { well = refl; less = let lt : length m.learned < c.slots = ltb-true (length m.learned) c.slots is in omega (arith, one, lt, room) })
    (over c n m (Recovered (length m.learned)) refl some)

after_learning_nearer : (c : Shape) (m : Memory) (t : Doing) (value : List ℕ) (n : ℕ) → t.operation ≡ Recovering → (c.slots - length m.learned + (t.tries - 1)) * 120 < n → 0 < n → IsNearer c n (after_learning c m t value)
after_learning_nearer c m t value n is room some =
    subst (λ (o : Operation). IsNearer c n (if is_placed o value then says (learns m value) (Placed (length m.learned)) else goes_on c (learns m value) o t.tries)) (sym is)
    (goes_on_nearer c (learns m value) t.tries n (length m.learned) (length-append m.learned (value ∷ [])) room some)

judged_nearer : (c : Shape) (m : Memory) (t : Doing) (ballot : ℕ) (value : List ℕ) (b : Bool) (n : ℕ) → t.operation ≡ Recovering → (c.slots - length m.learned + (t.tries - 1)) * 120 < n → 0 < n → IsNearer c n (judged c m t ballot value b)
judged_nearer c m t ballot value true n is room some = after_learning_nearer c m t value n is room some
judged_nearer c m t ballot value false n is room some = over c n (with_floor m ballot) (Refused refusal.NotACommand) tt some

-- a value that is judged leaves less to do
judging_nearer : (c : Shape) (m : Memory) (o : Option Doing) (value : List ℕ) (b : Bool) (n : ℕ) → GoesWell m o → offered_in Version1 c 0 m o ≡ Some value → left_with c (length m.learned) o ≤ n → IsNearer c n (takes Version1 c 0 m o b)
judging_nearer c m None value b n well waits left = absurd (cc)
judging_nearer c m (Some t) value b n well waits left =
    let s = setup_of Version1 c 0 m t.operation in
    subst (λ (o : Option (List ℕ)). IsNearer c n (judges c m t (taken s (on t.heard)) o b)) (sym waits)
    (judged_nearer c m t (taken s (on t.heard)) value b n well (omega (arith, left)) (omega (arith, left)))

no_fewer_tries : (tries : ℕ) (b : Bool) → nat_le tries 1 ≡ b → b ≡ false → 1 < tries
no_fewer_tries tries b is not_few = leb-false tries 1 (is ∙ not_few)

tries_nearer : (c : Shape) (m : Memory) (tries n : ℕ) → (c.slots - length m.learned + (tries - 1)) * 120 < n → 0 < n → IsNearer c n (tries_again m Recovering tries)
tries_nearer c m tries n room some = on_test (nat_le tries 1) refl
  where
    on_test : (b : Bool) → nat_le tries 1 ≡ b → IsNearer c n (tries_again m Recovering tries)
    on_test true is = rw is (over c n m (Refused refusal.Outrun) tt some)
    on_test false is = let more : 1 < tries = no_fewer_tries tries false is refl in rw is (record { well = refl; less = omega (arith, more, room) })

status_nearer : (c : Shape) (m : Memory) (t : Doing) (ballot : ℕ) (s : Status) (n : ℕ) → t.operation ≡ Recovering → left_with c (length m.learned) (Some t) < n → (c.slots - length m.learned + (t.tries - 1)) * 120 < n → 0 < n → IsNearer c n (by_status m t ballot s)
status_nearer c m t ballot (Due p d) n is due room some = record { well = is; less = due }
status_nearer c m t ballot (Ended (attempt.Committed value)) n is due room some = record { well = is; less = due }
status_nearer c m t ballot (Ended (attempt.Decided value)) n is due room some = record { well = is; less = due }
status_nearer c m t ballot (Ended attempt.Empty) n is due room some = over c n (with_floor m ballot) (Recovered (length m.learned)) refl some
status_nearer c m t ballot (Ended (attempt.Outrun mbal)) n is due room some =
    subst (λ (o : Operation). IsNearer c n (tries_again (with_floor (with_floor m ballot) mbal) o t.tries)) (sym is)
    (tries_nearer c (with_floor (with_floor m ballot) mbal) t.tries n room some)
status_nearer c m t ballot (Ended attempt.NoMajority) n is due room some = over c n (with_floor m ballot) (Refused refusal.NoMajority) tt some
status_nearer c m t ballot (Ended attempt.BallotsSpent) n is due room some = over c n (with_floor m ballot) (Refused refusal.BallotsSpent) tt some

-- an answer leaves less to do
hearing_nearer : (c : Shape) (m : Memory) (o : Option Doing) (x : Answered) (n : ℕ) → c.disks ≤ 7 → is_idle_in o ≡ false → GoesWell m o → IsAnsweredAlone Version1 c 0 m o x → left_with c (length m.learned) o ≤ n → IsNearer c n (hears Version1 c 0 m o x)
hearing_nearer c m None x n few busy well alone left = absurd (true≢false busy)
hearing_nearer c m (Some t) x n few busy well alone left =
    let s = setup_of Version1 c 0 m t.operation in
    let one : length (t.heard ++ x ∷ []) ≡ length t.heard + 1 = length-append t.heard (x ∷ []) in
    let long : length (t.heard ++ x ∷ []) ≤ 17 * c.disks = alone.bound in
    let heard = (with_heard t x).heard in
    status_nearer c m (with_heard t x) (taken s (on heard)) (status s (on heard)) n well (omega (arith, one, long, few, left)) (omega (arith, left)) (omega (arith, left))

-- A RECOVERY UNDER WAY

-- It came so far, and so many steps more are the most that it may take.
pub record IsUnderWay {D : Type 0} (gives : D → device.Call → device.Answer → D → Type 0) (c : Shape) (old : List D) (learner : Kept) (now : List D) (log : List (List ℕ)) (more : ℕ) : Type 0 where
  pub memory : Memory
  pub comes : Comes gives c (goes_on c fresh Recovering 8) old memory now
  pub leads : LeadsTo Version1 c 0 memory learner
  pub well : GoesWell memory memory.doing
  pub left : left_in c memory ≤ more
  pub stand : StandFor learner.learned log
  pub fits : length learner.learned ≤ c.slots

first_left : (c : Shape) → c.slots ≤ 4096 → IsNearer c 492481 (goes_on c fresh Recovering 8)
first_left c slots =
    by_test (IsNearer c 492481) (nat_lt 0 c.slots) (begins fresh Recovering 8) _
    (λ is. record { well = refl; less = omega (arith, slots) })
    (over c 492481 fresh (Recovered 0) refl (omega arith))

none_learned : (c : Shape) → (goes_on c fresh Recovering 8).learned ≡ []
none_learned c = by_test (λ m. m.learned ≡ []) (nat_lt 0 c.slots) (begins fresh Recovering 8) _ (λ is. refl) refl

pub at_first : {D : Type 0} (gives : D → device.Call → device.Answer → D → Type 0) (c : Shape) (disks : List D) (learner : Kept) (log : List (List ℕ)) → c.slots ≤ 4096 → LeadsTo Version1 c 0 (goes_on c fresh Recovering 8) learner → log ≡ [] → IsUnderWay gives c disks learner disks log 492480
at_first gives c disks learner log slots leads empty =
    let nearer = first_left c slots in
    let none_yet : learner.learned ≡ [] = leads.learned ∙ none_learned c in record {
      memory = goes_on c fresh Recovering 8;
      comes = none;
      leads = leads;
      well = nearer.well;
      left = let less = nearer.less in omega (arith, less);
      stand = subst (λ (l : List (List ℕ)). StandFor l log) (sym none_yet) (subst (StandFor []) (sym empty) tt);
      fits = subst (λ (l : List (List ℕ)). length l ≤ c.slots) (sym none_yet) (omega arith);
    }

-- one more call was made
pub called : {D : Type 0} (gives : D → device.Call → device.Answer → D → Type 0) (c : Shape) (old now new : List D) (learner next : Kept) (log : List (List ℕ)) (made : ℕ) → c.disks ≤ 7
    → (w : IsUnderWay gives c old learner now log (492480 - made)) → is_idle_in w.memory.doing ≡ false → MakesOne gives learner now next new → next.learned ≡ learner.learned → IsUnderWay gives c old next new log (492480 - (made + 1))
called gives c old now new learner next log made few w busy one same =
    let nearer = hearing_nearer c w.memory w.memory.doing (answered one.made) (492480 - made) few busy w.well (one.alone c w.memory w.leads) w.left in record {
      memory = after_call c w.memory one.made;
      comes = call w.memory now w.comes one.made (one.due c w.memory w.leads) new one.gave;
      leads = one.leads c w.memory w.leads;
      well = nearer.well;
      left = let less = nearer.less in omega (arith, less);
      stand = subst (λ (l : List (List ℕ)). StandFor l log) (sym same) w.stand;
      fits = subst (λ (l : List (List ℕ)). length l ≤ c.slots) (sym same) w.fits;
    }

one_at_most : (value : List ℕ) (b : Bool) → length (if b then value ∷ [] else []) ≤ 1
one_at_most value true = omega arith
one_at_most value false = omega arith

-- one more value was judged
pub judges_more : {D : Type 0} (gives : D → device.Call → device.Answer → D → Type 0) (c : Shape) (old now : List D) (learner next : Kept) (value : List ℕ) (log longer : List (List ℕ)) (made : ℕ)
    → (w : IsUnderWay gives c old learner now log (492480 - made)) → offered_in Version1 c 0 w.memory w.memory.doing ≡ Some value → length learner.learned < c.slots → JudgesOne value learner next log longer → IsUnderWay gives c old next now longer (492480 - (made + 1))
judges_more gives c old now learner next value log longer made w waits room done =
    let nearer = judging_nearer c w.memory w.memory.doing value done.is_command (492480 - made) w.well waits w.left in record {
      memory = after_judging c w.memory done.is_command;
      comes = judge w.memory now w.comes done.is_command (record { value = value; waits = waits; judges = done.judges });
      leads = done.leads c w.memory w.leads;
      well = nearer.well;
      left = let less = nearer.less in omega (arith, less);
      stand = done.stand w.stand;
      fits =
          let long = ap length done.learned ∙ length-append learner.learned (if done.is_command then value ∷ [] else []) in
          let few = one_at_most value done.is_command in
          omega (arith, long, few, room);
    }

-- the same of what is the same
pub under_way_as : {D : Type 0} (gives : D → device.Call → device.Answer → D → Type 0) (c : Shape) (old now same_now : List D) (learner same_learner : Kept) (log same_log : List (List ℕ)) (more : ℕ)
    → same_learner ≡ learner → same_now ≡ now → same_log ≡ log → IsUnderWay gives c old learner now log more → IsUnderWay gives c old same_learner same_now same_log more
under_way_as {D} gives c old now same_now learner same_learner log same_log more l n g w =
    subst (λ (x : Kept). IsUnderWay gives c old x same_now same_log more) (sym l)
    (subst (λ (x : List D). IsUnderWay gives c old learner x same_log more) (sym n) (subst (λ (x : List (List ℕ)). IsUnderWay gives c old learner now x more) (sym g) w))

none_doing : (o : Option Doing) → is_idle_in o ≡ true → o ≡ None
none_doing None idle = refl
none_doing (Some t) idle = absurd (true≢false (sym idle))

-- it has ended
pub ends : {D : Type 0} (gives : D → device.Call → device.Answer → D → Type 0) (c : Shape) (old now : List D) (learner : Kept) (log : List (List ℕ)) (more : ℕ)
    → (w : IsUnderWay gives c old learner now log more) → is_idle_in w.memory.doing ≡ true → HasEnded gives c old now learner.learned log learner.said
ends gives c old now learner log more w idle =
    let over : w.memory.doing ≡ None = none_doing w.memory.doing idle in
    let well : GoesWell w.memory None = subst (GoesWell w.memory) over w.well in record {
      outcome = well.0;
      is = w.leads.said ∙ well.1;
      recovers = record { memory = w.memory; comes = w.comes; ended = over; learned_is = sym w.leads.learned; said_is = well.1 };
      may = subst (λ (l : List (List ℕ)). MayEnd l well.0) (sym w.leads.learned) well.2;
      stand = w.stand;
    }

-- where nothing is left to do, it has
pub nothing_left : (c : Shape) (learned : ℕ) (o : Option Doing) → left_with c learned o ≤ 0 → is_idle_in o ≡ true
nothing_left c learned None left = refl
nothing_left c learned (Some t) left = absurd (omega (arith, left))
