-- The value of a name is followed from command to command.
use Rattle.std.proofs.Common.{◌≡◌, ℕ, Bool, true, false, cond, not, ◌&&◌, ◌||◌, ◌==◌, nat_lt, nat_le, List, [], ◌∷◌, ◌++◌, length, Option, Some, None, refl, sym, ap, ◌∙◌, arith}
use Rattle.std.specs.List.{find, fold, list_any}
use Rattle.std.proofs.lemmas.Bool.Decides.{nat_tests}
use Rattle.lock_command.specs.Name.{same_name}
use Rattle.lock_command.specs.declared.command.Command.{Command}
use Rattle.lock_command.specs.Command.{is_carried}
use Rattle.lock_command.specs.declared.command.Action.{Action}
use Rattle.lock_command.specs.declared.command.Action.TheVariants.{Enqueue, Convert, Release, Cancel, Status, Purge, QuietPurge, Forget, CarryLock, CarryClient}
use Rattle.lock_table.specs.declared.clients.TheConstants.{CLIENTS}
use Rattle.lock_command.specs.declared.record.LockRecord.{LockRecord}
use Rattle.lock_command.specs.declared.state.LockState.{LockState}
use Rattle.lock_table.specs.declared.known_client.KnownClient.{KnownClient}
use Rattle.lock_command.specs.declared.reply.Answer.{Answer}
use Rattle.lock_command.specs.declared.reply.LockValue.{LockValue}
use Rattle.lock_command.specs.declared.reply.Reply.{Reply}
use Rattle.lock_command.specs.Locks.{is_on, is_through, lock_in}
use Rattle.lock_table.specs.Picture.{HasZeros}
use Rattle.lock_table.specs.Values.{Values, zeros, invalid, stored, given, is_downward, is_granted, is_released, changed, values_after, asked_value, returned}
use Rattle.lock_command.specs.State.{is_writer}
use Rattle.lock_table.specs.Apply.{Plain, Applied, is_client, done, carried_out, applied_after, applied, no_locks, table_after}
use Rattle.lock_table.specs.Carrying.{AreOrdinary}
use Rattle.lock_table.specs.History.{is_new_after, is_new, stored_from, stored_through, stored_of, stored_under, takes_writer, purges_writer, is_locked_in, StaysLocked, purged_along}
use Rattle.lock_table.proofs.Behave.{told_asked, zeros-applied}
use Rattle.lock_table.proofs.Outcomes.{either}
use Rattle.lock_table.proofs.Reachable.{first_asked}

-- what one command leaves of a value, by what it stores and whether it purges
abbrev left_of : Option (List ℕ) → Bool → LockValue → LockValue
left_of (Some bytes) purged value = record { bytes = bytes; valid = true }
left_of None purged value = record { bytes = value.bytes; valid = value.valid && not purged }

and_yes : (b : Bool) → b ≡ (b && true)
and_yes true = refl
and_yes false = refl

and_no : (b : Bool) → false ≡ (b && false)
and_no true = refl
and_no false = refl

and_both : (a p q : Bool) → ((a && not p) && not q) ≡ (a && not (p || q))
and_both true true q = refl
and_both true false q = refl
and_both false p q = refl

-- nothing stored and nothing purged
stays : (v : LockValue) → v ≡ left_of None false v
stays v = λ i. record { bytes = v.bytes; valid = and_yes v.valid i }

spoils : (p : Bool) (v : LockValue) → cond p (invalid v) v ≡ left_of None p v
spoils true v = λ i. record { bytes = v.bytes; valid = and_no v.valid i }
spoils false v = stays v

none_given : (s b : Bool) (v : LockValue) → v ≡ left_of (cond s (cond b None None) None) false v
none_given true true v = stays v
none_given true false v = stays v
none_given false b v = stays v

-- what is stored through a lock that was found
abbrev stored_by : Option LockRecord → (LockState → Bool) → Bool → Option (List ℕ) → List ℕ → Option (List ℕ)
stored_by None lets b value name = None
stored_by (Some r) lets b value name = cond (same_name name r.name) (cond (b && lets r.state) value None) None

at_name : Values → List ℕ → LockValue
at_name values name = values name

given_is : (values : Values) (lets : LockState → Bool) (found : Option LockRecord) (value : Option (List ℕ)) (b : Bool) (name : List ℕ)
    → at_name (cond b (given values lets found value) values) name ≡ left_of (stored_by found lets b value name) false (values name)
unfolding at_name
given_is values lets None None true name = stays (values name)
given_is values lets None None false name = stays (values name)
given_is values lets None (Some bytes) true name = stays (values name)
given_is values lets None (Some bytes) false name = stays (values name)
given_is values lets (Some r) None true name = none_given (same_name name r.name) (lets r.state) (values name)
given_is values lets (Some r) None false name = none_given (same_name name r.name) false (values name)
given_is values lets (Some r) (Some bytes) true name =
    elim (lets r.state) as (λ l. at_name (cond l (stored values r.name (record { bytes = bytes; valid = true })) values) name ≡ left_of (cond (same_name name r.name) (cond l (Some bytes) None) None) false (values name)) [
      | true ↦ elim (same_name name r.name) as (λ s. cond s (record { bytes = bytes; valid = true }) (values name) ≡ left_of (cond s (Some bytes) None) false (values name)) [
        | true ↦ refl
        | false ↦ stays (values name)
      ]
      | false ↦ none_given (same_name name r.name) false (values name)
    ]
given_is values lets (Some r) (Some bytes) false name = none_given (same_name name r.name) false (values name)

converted_is : (found : Option LockRecord) (lock : ℕ) (action : Action) (a : Answer) (name : List ℕ) (lets : LockState → Bool) (b : Bool) (value : Option (List ℕ))
    → ((state : LockState) → stored_from action a state ≡ cond (b && lets state) value None)
    → stored_by found lets b value name ≡ stored_of found action a name
converted_is None lock action a name lets b value same = refl
converted_is (Some r) lock action a name lets b value same = ap (λ o. cond (same_name name r.name) o None) (sym (same r.state))

changed_is : (values : Values) (locks : List LockRecord) (action : Action) (a : Answer) (name : List ℕ) → is_carried action ≡ false
    → changed values locks action a name ≡ left_of (stored_of (stored_through locks action) action a name) (takes_writer locks action name) (values name)
unfolding at_name
changed_is values locks (Enqueue lock name' mode no_queue) a name asked = stays (values name)
changed_is values locks (Convert lock mode no_queue value) a name asked =
    given_is values (is_downward mode) (lock_in locks lock) value (is_granted a) name
    ∙ ap (λ o. left_of o false (values name)) (converted_is (lock_in locks lock) lock (Convert lock mode no_queue value) a name (is_downward mode) (is_granted a) value (λ state. refl))
changed_is values locks (Release lock value) a name asked =
    given_is values is_writer (lock_in locks lock) value (is_released a) name
    ∙ ap (λ o. left_of o false (values name)) (converted_is (lock_in locks lock) lock (Release lock value) a name is_writer (is_released a) value (λ state. refl))
changed_is values locks (Cancel lock) a name asked = stays (values name)
changed_is values locks (Status lock) a name asked = stays (values name)
changed_is values locks (Purge host) a name asked = spoils (list_any (λ r. is_on name r && (is_through host r && is_writer r.state)) locks) (values name)
changed_is values locks (QuietPurge host) a name asked = stays (values name)
changed_is values locks (Forget gone) a name asked = stays (values name)
changed_is values locks (CarryLock lock on_name state value) a name asked = let impossible : ⊥ = cc in absurd impossible
changed_is values locks (CarryClient reply) a name asked = stays (values name)

-- ONE COMMAND

-- what is left of a value, where a command was new or was not
Leaves : Plain → Command → List ℕ → Bool → Applied → Type 0
Leaves t c name new x =
    is_locked_in x.table name ≡ true
    → x.table.values name ≡ left_of (cond new (stored_of (stored_through t.locks c.action) c.action x.reply.answer name) None) (new && takes_writer t.locks c.action name) (t.values name)

leaves-unchanged : (t : Plain) (c : Command) (name : List ℕ) (new : Bool) (x : Applied) → new ≡ false → x.table ≡ t → Leaves t c name new x
unfolding Leaves
leaves-unchanged t c name new x old same locked =
    ap (λ (p : Plain). p.values name) same ∙ stays (t.values name)
    ∙ (λ i. left_of (cond (sym old i) (stored_of (stored_through t.locks c.action) c.action x.reply.answer name) None) (sym old i && takes_writer t.locks c.action name) (t.values name))

leaves-carried_out : (t : Plain) (c : Command) (name : List ℕ) (new : Bool) → is_carried c.action ≡ false → new ≡ true → Leaves t c name new (carried_out t c)
unfolding Leaves
leaves-carried_out t c name new asked is locked =
    let outcome = done t.locks c.host c.client c.action in
    let a = outcome.answer in
    let values = values_after t.values t.locks outcome.locks c.action a in
    let told : (carried_out t c).reply.answer ≡ a = ap (λ (r : Reply). r.answer) (told_asked c.action (record { answer = a; value = returned a (asked_value values t.locks c.action) }) asked) in
    ap (λ b. cond b (changed t.values t.locks c.action a name) zeros) locked
    ∙ changed_is t.values t.locks c.action a name asked
    ∙ (λ i. left_of (cond (sym is i) (stored_of (stored_through t.locks c.action) c.action (sym told i) name) None) (sym is i && takes_writer t.locks c.action name) (t.values name))

room_not : (m n : ℕ) → nat_le m n ≡ true → nat_lt n m ≡ false
room_not m n h = grind (arith, nat_tests)

room_left : (m n : ℕ) → nat_le m n ≡ false → nat_lt n m ≡ true
room_left m n h = grind (arith, nat_tests)

older_not : (m n : ℕ) → nat_lt m n ≡ true → nat_lt n m ≡ false
older_not m n h = grind (arith, nat_tests)

same_not : (m n : ℕ) → (m == n) ≡ true → nat_lt n m ≡ false
same_not m n h = grind (arith, nat_tests)

later_is : (m n : ℕ) → nat_lt m n ≡ false → (m == n) ≡ false → nat_lt n m ≡ true
later_is m n h s = grind (arith, nat_tests)

leaves-after : (t : Plain) (c : Command) (name : List ℕ) (found : Option KnownClient) → is_carried c.action ≡ false → Leaves t c name (is_new_after t c found) (applied_after t c found)
leaves-after t c name None asked =
    either (Leaves t c name (nat_lt (length t.clients) CLIENTS)) (nat_le CLIENTS (length t.clients)) _ _
    (λ full. leaves-unchanged t c name _ _ (room_not CLIENTS (length t.clients) full) refl)
    (λ room. leaves-carried_out t c name _ asked (room_left CLIENTS (length t.clients) room))
leaves-after t c name (Some k) asked =
    either (Leaves t c name (nat_lt k.request c.request)) (nat_lt c.request k.request) _ _
    (λ older. leaves-unchanged t c name _ _ (older_not c.request k.request older) refl)
    (λ no. either (Leaves t c name (nat_lt k.request c.request)) (c.request == k.request) _ _
    (λ same. leaves-unchanged t c name _ _ (same_not c.request k.request same) refl)
    (λ other. leaves-carried_out t c name _ asked (later_is c.request k.request no other)))

leaves : (t : Plain) (c : Command) (name : List ℕ) → is_carried c.action ≡ false → is_locked_in (applied t c).table name ≡ true
    → (applied t c).table.values name ≡ left_of (stored_under t c name) (purges_writer t c name) (t.values name)
unfolding applied Leaves
leaves t c name asked locked = leaves-after t c name (find (is_client c.client) t.clients) asked locked

-- MANY COMMANDS

unfoldable pub table_from : Plain → List Command → Plain
table_from t commands = fold (λ u c. (applied u c).table) t commands

pub after_both : (past later : List Command) (t : Plain) → table_from t (past ++ later) ≡ table_from (table_from t past) later
unfolding table_from
after_both [] later t = refl
after_both (c ∷ past) later t = after_both past later (applied t c).table

along : (later : List Command) (t : Plain) (name : List ℕ) (value : LockValue) → AreOrdinary later → t.values name ≡ value → StaysLocked name t later
    → (table_from t later).values name ≡ record { bytes = value.bytes; valid = value.valid && not (purged_along name t later) }
unfolding table_from
along [] t name value all is still = is ∙ stays value
along (c ∷ later) t name value all is still =
    let one : (applied t c).table.values name ≡ left_of None (purges_writer t c name) value =
    leaves t c name (first_asked c later all).0 still.1 ∙ (λ i. left_of (still.0 i) (purges_writer t c name) (is i)) in
    along later (applied t c).table name (left_of None (purges_writer t c name) value) (first_asked c later all).1 one still.2
    ∙ (λ i. record { bytes = value.bytes; valid = and_both value.valid (purges_writer t c name) (purged_along name (applied t c).table later) i })

-- what a command stored is the value from then on
pub stored_stays : (past later : List Command) (c : Command) (name bytes : List ℕ) → AreOrdinary (c ∷ later) → stored_under (table_after past) c name ≡ Some bytes
    → is_locked_in (applied (table_after past) c).table name ≡ true → StaysLocked name (applied (table_after past) c).table later
    → (table_after (past ++ c ∷ later)).values name ≡ record { bytes = bytes; valid = not (purged_along name (applied (table_after past) c).table later) }
unfolding table_from
stored_stays past later c name bytes all stores locked still =
    let t = table_after past in
    let now : (applied t c).table.values name ≡ record { bytes = bytes; valid = true } =
    leaves t c name (first_asked c later all).0 locked ∙ ap (λ o. left_of o (purges_writer t c name) (t.values name)) stores in
    ap (λ (p : Plain). p.values name) (after_both past (c ∷ later) no_locks)
    ∙ along later (applied t c).table name (record { bytes = bytes; valid = true }) (first_asked c later all).1 now still

pub zeros_from : (commands : List Command) (t : Plain) → HasZeros t.locks t.values → HasZeros (table_from t commands).locks (table_from t commands).values
unfolding table_from
zeros_from [] t has = has
zeros_from (c ∷ commands) t has = zeros_from commands (applied t c).table (zeros-applied t c has)

-- and before that zeros are, since the name had no lock
pub zeros_stay : (past later : List Command) (name : List ℕ) → AreOrdinary later → is_locked_in (table_after past) name ≡ false → StaysLocked name (table_after past) later
    → (table_after (past ++ later)).values name ≡ record { bytes = zeros.bytes; valid = not (purged_along name (table_after past) later) }
unfolding table_from
zeros_stay past later name all free still =
    ap (λ (p : Plain). p.values name) (after_both past later no_locks)
    ∙ along later (table_after past) name zeros all (zeros_from past no_locks (λ n none. refl) name free) still

-- READING

Reads : Plain → Command → Bool → Applied → Type 0
Reads t c new x = new ≡ true → x.reply.value ≡ returned x.reply.answer (asked_value x.table.values t.locks c.action)

reads-old : (t : Plain) (c : Command) (new : Bool) (x : Applied) → new ≡ false → Reads t c new x
unfolding Reads
reads-old t c new x old is = let clash : true ≡ false = sym is ∙ old in let impossible : ⊥ = cc in absurd impossible

reads-carried_out : (t : Plain) (c : Command) (new : Bool) → is_carried c.action ≡ false → Reads t c new (carried_out t c)
unfolding Reads
reads-carried_out t c new asked is =
    let outcome = done t.locks c.host c.client c.action in
    let values = values_after t.values t.locks outcome.locks c.action outcome.answer in
    let told : (carried_out t c).reply ≡ record { answer = outcome.answer; value = returned outcome.answer (asked_value values t.locks c.action) } =
    told_asked c.action (record { answer = outcome.answer; value = returned outcome.answer (asked_value values t.locks c.action) }) asked in
    ap (λ (r : Reply). r.value) told ∙ ap (λ (r : Reply). returned r.answer (asked_value values t.locks c.action)) (sym told)

reads-after : (t : Plain) (c : Command) (found : Option KnownClient) → is_carried c.action ≡ false → Reads t c (is_new_after t c found) (applied_after t c found)
reads-after t c None asked =
    either (Reads t c (nat_lt (length t.clients) CLIENTS)) (nat_le CLIENTS (length t.clients)) _ _
    (λ full. reads-old t c _ _ (room_not CLIENTS (length t.clients) full))
    (λ room. reads-carried_out t c _ asked)
reads-after t c (Some k) asked =
    either (Reads t c (nat_lt k.request c.request)) (nat_lt c.request k.request) _ _
    (λ older. reads-old t c _ _ (older_not c.request k.request older))
    (λ no. either (Reads t c (nat_lt k.request c.request)) (c.request == k.request) _ _
    (λ same. reads-old t c _ _ (same_not c.request k.request same))
    (λ other. reads-carried_out t c _ asked))

-- a value that is returned is read after the command
pub value_read : (t : Plain) (c : Command) → is_carried c.action ≡ false → is_new t c ≡ true → (applied t c).reply.value ≡ returned (applied t c).reply.answer (asked_value (applied t c).table.values t.locks c.action)
unfolding applied Reads
value_read t c asked new = reads-after t c (find (is_client c.client) t.clients) asked new
