-- Each field of a spelling reads as what was spelled.
use Rattle.std.proofs.Common.{◌≡◌, ◌≤◌, ◌<◌, ◌+◌, ◌-◌, ◌^◌, ℕ, Bool, true, false, cond, ◌&&◌, ◌||◌, ◌==◌, nat_lt, nat_le, List, ◌∷◌, ◌++◌, length, length-append, take, drop, Option, Some, None, refl, sym, ap, ◌∙◌, arith}
use Rattle.std.specs.Prelude.{[], replicate, if◌then◌else◌}
use Rattle.std.proofs.Math.Seq.{take-append_seam, drop-append_seam}
use Rattle.std.proofs.lemmas.List.{append_assoc, length-replicate, take_all}
use Rattle.std.proofs.lemmas.Bool.{le-leb, lt-ltb, leb-true, eq-eqb}
use Rattle.std.specs.Cmp.Derive.{both_true}
use Rattle.byteorder.specs.Numbers.{big_number-reads_back}
use Rattle.lock_command.specs.declared.mode.Mode.{Mode}
use Rattle.lock_command.specs.declared.mode.Mode.TheVariants.{Null, ConcurrentRead, ConcurrentWrite, ProtectedRead, ProtectedWrite, Exclusive}
use Rattle.lock_command.specs.declared.number.TheConstants.{HOSTS}
use Rattle.lock_command.specs.declared.command.Command.{Command}
use Rattle.lock_command.specs.declared.command.Action.{Action}
use Rattle.lock_command.specs.declared.command.Action.TheVariants.{Enqueue, Convert, Release, Cancel, Status, Purge, QuietPurge, Forget, CarryLock, CarryClient}
use Rattle.lock_command.specs.declared.state.LockState.{LockState}
use Rattle.lock_command.specs.declared.state.LockState.TheVariants as state
use Rattle.lock_command.specs.declared.reply.Answer.{Answer}
use Rattle.lock_command.specs.declared.reply.Answer.TheVariants as answer
use Rattle.lock_command.specs.declared.reply.Refusal.{Refusal}
use Rattle.lock_command.specs.declared.reply.LockValue.{LockValue}
use Rattle.lock_command.specs.Name.{IsName, padded}
use Rattle.lock_command.specs.Command.{Fields, flags_of, value_bytes, first_mode, state_number, told_flags, told_bytes, fields_of, number, spelled, spelling, mode_number, IsLock, IsValue, IsTold, FitsAnswer, FitsAction, Fits}
use Rattle.lock_command.specs.Refusals.{refusal_number, refusal_of}
use Rattle.lock_command.specs.Reading.{◌>>=◌, passed, lock_at, request_at, mode_of, name_of, name_at, no_queue_at, value_of, value_at, enqueue_at, convert_at, state_of, state_at, count_at, answer_at, told_of, told_at, carried_lock_at, carried_client_at, action_at, command_at}

passed_true : {A : Type 0} (test : Bool) (x : A) → test ≡ true → passed test x ≡ Some x
passed_true test x h = ap (λ t. passed t x) h

both_are : (a b : Bool) → (a && b) ≡ true → (a ≡ true) × (b ≡ true)
both_are true b h = (refl, h)
both_are false b h = cc

-- what stands behind the lock number, and behind the request number
abbrev behind_lock : ℕ → Fields → List ℕ
behind_lock request f = number 8 request ++ (f.purged ∷ (padded f.name ++ f.value))

lock_at-spelled : (host client request : ℕ) (f : Fields) → IsLock f.lock → lock_at (spelled host client request f) ≡ Some f.lock
unfolding lock_at number
lock_at-spelled host client request f fits =
    let bound : f.lock < 256 ^ 2 = omega (arith, fits.1) in
    let least : nat_le 1 f.lock ≡ true = le-leb 1 f.lock fits.0 in
    ap (λ n. passed (nat_le 1 n) n) (big_number-reads_back 2 f.lock (behind_lock request f) bound) ∙ passed_true _ f.lock least

request_at-spelled : (host client request : ℕ) (f : Fields) → (1 ≤ request) × (request ≤ 2 ^ 62) → request_at (spelled host client request f) ≡ Some request
unfolding request_at number
request_at-spelled host client request f fits =
    let bound : request < 256 ^ 8 = omega (arith, fits.1) in
    let least : nat_le 1 request ≡ true = le-leb 1 request fits.0 in
    let most : nat_le request (2 ^ 62) ≡ true = le-leb request (2 ^ 62) fits.1 in
    ap (λ n. passed (nat_le 1 n && nat_le n (2 ^ 62)) n) (big_number-reads_back 8 request (f.purged ∷ (padded f.name ++ f.value)) bound)
    ∙ passed_true _ request (both_true least most)

name_at-spelled : (host client request : ℕ) (f : Fields) → IsName f.name → name_at (spelled host client request f) ≡ Some f.name
unfolding name_at number
name_at-spelled host client request f named =
    let lengths = (both_are _ _ named).0 in
    let few : nat_le (length f.name) 15 ≡ true = (both_are _ _ lengths).1 in
    ap (λ t. cond t (name_of (take (length f.name) (padded f.name ++ f.value))) None) few
    ∙ ap (λ l. name_of (take (length f.name) l)) (append_assoc f.name (replicate (15 - length f.name) 0) f.value)
    ∙ ap name_of (take-append_seam f.name (replicate (15 - length f.name) 0 ++ f.value))
    ∙ passed_true _ f.name named

mode_of-mode_number : (mode : Mode) → mode_of (mode_number mode) ≡ Some mode
unfolding mode_of
mode_of-mode_number Null = refl
mode_of-mode_number ConcurrentRead = refl
mode_of-mode_number ConcurrentWrite = refl
mode_of-mode_number ProtectedRead = refl
mode_of-mode_number ProtectedWrite = refl
mode_of-mode_number Exclusive = refl

no_queue_again : (no_queue : Bool) (value : Option (List ℕ)) → (flags_of no_queue value == 1 || flags_of no_queue value == 3) ≡ no_queue
no_queue_again true None = refl
no_queue_again true (Some bytes) = refl
no_queue_again false None = refl
no_queue_again false (Some bytes) = refl

-- a name fills its place
padded_long : (name : List ℕ) → IsName name → length (padded name) ≡ 15
padded_long name named =
    let few : length name ≤ 15 = leb-true (length name) 15 (both_are _ _ (both_are _ _ named).0).1 in
    omega (arith, few, length-append name (replicate (15 - length name) 0), length-replicate {A = ℕ} (15 - length name) 0)

-- so the value stands behind it
behind_name : (name value : List ℕ) → length (padded name) ≡ 15 → length value ≡ 16 → value_of (take 16 (drop 15 (padded name ++ value))) ≡ Some value
behind_name name value placed long =
    ap (λ n. value_of (take 16 (drop n (padded name ++ value)))) (sym placed)
    ∙ ap (λ l. value_of (take 16 l)) (drop-append_seam (padded name) value)
    ∙ ap value_of (take_all 16 value (omega (arith, long)))
    ∙ passed_true _ value (eq-eqb (length value) 16 long)

value_again : (no_queue : Bool) (value : Option (List ℕ)) (name : List ℕ) → length (padded name) ≡ 15 → IsValue value
    → cond (nat_le 2 (flags_of no_queue value)) (value_of (take 16 (drop 15 (padded name ++ value_bytes value)))) None ≡ value
value_again true None name placed fits = refl
value_again false None name placed fits = refl
value_again true (Some bytes) name placed fits = behind_name name bytes placed fits
value_again false (Some bytes) name placed fits = behind_name name bytes placed fits

value_at-converted : (host client request lock : ℕ) (mode : Mode) (no_queue : Bool) (value : Option (List ℕ)) → IsValue value
    → value_at (spelled host client request (fields_of (Convert lock mode no_queue value))) ≡ value
unfolding value_at number
value_at-converted host client request lock mode no_queue value fits = value_again no_queue value [] refl fits

value_at-released : (host client request lock : ℕ) (value : Option (List ℕ)) → IsValue value
    → value_at (spelled host client request (fields_of (Release lock value))) ≡ value
unfolding value_at number
value_at-released host client request lock value fits = value_again false value [] refl fits

-- WHAT IS CARRIED OVER

converting-number : (held wanted : Mode) → state_of (2 + mode_number wanted) held ≡ Some (state.Converting held wanted)
unfolding state_of
converting-number held Null = refl
converting-number held ConcurrentRead = refl
converting-number held ConcurrentWrite = refl
converting-number held ProtectedRead = refl
converting-number held ProtectedWrite = refl
converting-number held Exclusive = refl

state_of-number : (s : LockState) → state_of (state_number s) (first_mode s) ≡ Some s
unfolding state_of
state_of-number (state.Granted mode) = refl
state_of-number (state.Waiting wanted) = refl
state_of-number (state.Converting held wanted) = converting-number held wanted

state_again : (s : LockState) → (mode_of (mode_number (first_mode s)) >>= λ m. state_of (state_number s) m) ≡ Some s
state_again s = ap (λ (found : Option Mode). found >>= λ m. state_of (state_number s) m) (mode_of-mode_number (first_mode s)) ∙ state_of-number s

-- an answer by its number, beside the state and the count that are told
abbrev answer_in : ℕ → Option LockState → ℕ → Option Answer
answer_in n told count =
    if n == 8 then Some answer.Granted
    else if n == 9 then Some answer.Queued
    else if n == 10 then Some answer.Released
    else if n == 21 then Some answer.Cancelled
    else if n == 22 then Some (answer.Purged count)
    else if n == 23 then Some answer.Forgotten
    else if nat_lt n 8 then (told >>= λ s. Some (answer.State s))
    else (refusal_of n >>= λ why. Some (answer.Refused why))

converting_in : (held wanted : Mode) (count : ℕ) → answer_in (2 + mode_number wanted) (Some (state.Converting held wanted)) count ≡ Some (answer.State (state.Converting held wanted))
converting_in held Null count = refl
converting_in held ConcurrentRead count = refl
converting_in held ConcurrentWrite count = refl
converting_in held ProtectedRead count = refl
converting_in held ProtectedWrite count = refl
converting_in held Exclusive count = refl

state_in : (s : LockState) (count : ℕ) → answer_in (state_number s) (Some s) count ≡ Some (answer.State s)
state_in (state.Granted mode) count = refl
state_in (state.Waiting wanted) count = refl
state_in (state.Converting held wanted) count = converting_in held wanted count

refusal_in : (why : Refusal) (told : Option LockState) (count : ℕ) → answer_in (refusal_number why) told count ≡ Some (answer.Refused why)
unfolding refusal_of
refusal_in why told count = grind arith

answer_at-spelled : (host client request : ℕ) (a : Answer) (v : Option LockValue) → FitsAnswer a
    → answer_at (spelled host client request (fields_of (CarryClient (record { answer = a; value = v })))) ≡ Some a
unfolding answer_at state_at count_at number
answer_at-spelled host client request answer.Granted v fits = refl
answer_at-spelled host client request answer.Queued v fits = refl
answer_at-spelled host client request answer.Released v fits = refl
answer_at-spelled host client request answer.Cancelled v fits = refl
answer_at-spelled host client request answer.Forgotten v fits = refl
answer_at-spelled host client request (answer.Purged count) v fits =
    let f = fields_of (CarryClient (record { answer = answer.Purged count; value = v })) in
    let bound : count < 256 ^ 2 = omega (arith, fits) in
    ap (λ n. Some (answer.Purged n)) (big_number-reads_back 2 count (behind_lock request f) bound)
answer_at-spelled host client request (answer.State s) v fits =
    let bytes = spelled host client request (fields_of (CarryClient (record { answer = answer.State s; value = v }))) in
    ap (λ (o : Option LockState). answer_in (state_number s) o (count_at bytes)) (state_again s) ∙ state_in s (count_at bytes)
answer_at-spelled host client request (answer.Refused why) v fits =
    let bytes = spelled host client request (fields_of (CarryClient (record { answer = answer.Refused why; value = v }))) in
    refusal_in why (state_at bytes) (count_at bytes)

-- a value by its flags and its bytes
abbrev told_in : ℕ → Option (List ℕ) → Option LockValue
told_in flags given =
    if flags == 2 then (given >>= λ g. Some (record { bytes = g; valid = true }))
    else if flags == 6 then (given >>= λ g. Some (record { bytes = g; valid = false }))
    else None

valid_again : (bytes : List ℕ) (valid : Bool) → told_in (cond valid 2 6) (Some bytes) ≡ Some (record { bytes = bytes; valid = valid })
valid_again bytes true = refl
valid_again bytes false = refl

told_again : (name : List ℕ) (value : Option LockValue) → length (padded name) ≡ 15 → IsTold value
    → told_in (told_flags value) (value_of (take 16 (drop 15 (padded name ++ told_bytes value)))) ≡ value
told_again name None placed fits = refl
told_again name (Some value) placed fits =
    ap (told_in (told_flags (Some value))) (behind_name name value.bytes placed fits) ∙ valid_again value.bytes value.valid

action_at-spelled : (host client request : ℕ) (a : Action) → FitsAction a → action_at (spelled host client request (fields_of a)) ≡ Some a
unfolding action_at enqueue_at convert_at carried_lock_at carried_client_at state_at told_at told_of number
action_at-spelled host client request (Enqueue lock name mode no_queue) fits =
    ap (λ (found : Option ℕ). found >>= λ l. name_at (spelled host client request (fields_of (Enqueue lock name mode no_queue))) >>= λ n. mode_of (mode_number mode) >>= λ m. Some (Enqueue l n m (no_queue_at (spelled host client request (fields_of (Enqueue lock name mode no_queue)))))) (lock_at-spelled host client request (fields_of (Enqueue lock name mode no_queue)) fits.0)
    ∙ ap (λ (found : Option (List ℕ)). found >>= λ n. mode_of (mode_number mode) >>= λ m. Some (Enqueue lock n m (no_queue_at (spelled host client request (fields_of (Enqueue lock name mode no_queue)))))) (name_at-spelled host client request (fields_of (Enqueue lock name mode no_queue)) fits.1)
    ∙ ap (λ (found : Option Mode). found >>= λ m. Some (Enqueue lock name m (no_queue_at (spelled host client request (fields_of (Enqueue lock name mode no_queue)))))) (mode_of-mode_number mode)
    ∙ ap (λ flag. Some (Enqueue lock name mode flag)) (no_queue_again no_queue None)
action_at-spelled host client request (Convert lock mode no_queue value) fits =
    let bytes = spelled host client request (fields_of (Convert lock mode no_queue value)) in
    ap (λ (found : Option ℕ). found >>= λ l. mode_of (mode_number mode) >>= λ m. Some (Convert l m (no_queue_at bytes) (value_at bytes))) (lock_at-spelled host client request (fields_of (Convert lock mode no_queue value)) fits.0)
    ∙ ap (λ (found : Option Mode). found >>= λ m. Some (Convert lock m (no_queue_at bytes) (value_at bytes))) (mode_of-mode_number mode)
    ∙ ap (λ flag. Some (Convert lock mode flag (value_at bytes))) (no_queue_again no_queue value)
    ∙ ap (λ v. Some (Convert lock mode no_queue v)) (value_at-converted host client request lock mode no_queue value fits.1)
action_at-spelled host client request (Release lock value) fits =
    let bytes = spelled host client request (fields_of (Release lock value)) in
    ap (λ (found : Option ℕ). found >>= λ l. Some (Release l (value_at bytes))) (lock_at-spelled host client request (fields_of (Release lock value)) fits.0)
    ∙ ap (λ v. Some (Release lock v)) (value_at-released host client request lock value fits.1)
action_at-spelled host client request (Cancel lock) fits =
    ap (λ (found : Option ℕ). found >>= λ l. Some (Cancel l)) (lock_at-spelled host client request (fields_of (Cancel lock)) fits)
action_at-spelled host client request (Status lock) fits =
    ap (λ (found : Option ℕ). found >>= λ l. Some (Status l)) (lock_at-spelled host client request (fields_of (Status lock)) fits)
action_at-spelled host client request (Purge purged) fits =
    ap (λ (found : Option ℕ). found >>= λ h. Some (Purge h)) (passed_true _ purged (lt-ltb purged HOSTS fits))
action_at-spelled host client request (QuietPurge purged) fits =
    ap (λ (found : Option ℕ). found >>= λ h. Some (QuietPurge h)) (passed_true _ purged (lt-ltb purged HOSTS fits))
action_at-spelled host client request (Forget gone) fits = refl
action_at-spelled host client request (CarryLock lock name s value) fits =
    let bytes = spelled host client request (fields_of (CarryLock lock name s value)) in
    ap (λ (found : Option ℕ). found >>= λ l. name_at bytes >>= λ n. state_at bytes >>= λ t. told_at bytes >>= λ v. Some (CarryLock l n t v)) (lock_at-spelled host client request (fields_of (CarryLock lock name s value)) fits.0)
    ∙ ap (λ (found : Option (List ℕ)). found >>= λ n. state_at bytes >>= λ t. told_at bytes >>= λ v. Some (CarryLock lock n t v)) (name_at-spelled host client request (fields_of (CarryLock lock name s value)) fits.1)
    ∙ ap (λ (found : Option LockState). found >>= λ t. told_at bytes >>= λ v. Some (CarryLock lock name t v)) (state_again s)
    ∙ ap (λ (found : Option LockValue). found >>= λ v. Some (CarryLock lock name s v)) (told_again name (Some value) (padded_long name fits.1) fits.2)
action_at-spelled host client request (CarryClient reply) fits =
    let bytes = spelled host client request (fields_of (CarryClient reply)) in
    ap (λ (found : Option Answer). found >>= λ a. Some (CarryClient (record { answer = a; value = told_at bytes }))) (answer_at-spelled host client request reply.answer reply.value fits.0)
    ∙ ap (λ v. Some (CarryClient (record { answer = reply.answer; value = v }))) (told_again [] reply.value refl fits.1)

-- a command that fits is read from its spelling
pub command_at-spelling : (c : Command) → Fits c → command_at (spelling c) ≡ Some c
unfolding command_at
command_at-spelling c fits =
    ap (λ (found : Option ℕ). found >>= λ h. request_at (spelling c) >>= λ r. action_at (spelling c) >>= λ a. Some (record { host = h; client = c.client; request = r; action = a })) (passed_true _ c.host (lt-ltb c.host HOSTS fits.host))
    ∙ ap (λ (found : Option ℕ). found >>= λ r. action_at (spelling c) >>= λ a. Some (record { host = c.host; client = c.client; request = r; action = a })) (request_at-spelled c.host c.client c.request (fields_of c.action) fits.request)
    ∙ ap (λ (found : Option Action). found >>= λ a. Some (record { host = c.host; client = c.client; request = c.request; action = a })) (action_at-spelled c.host c.client c.request c.action fits.action)

-- the command that was read spells what another reading of the bytes spells
pub spelled_again : (found : Option Command) (command d : Command) (value : List ℕ)
    → found ≡ Some command → found ≡ Some d → value ≡ spelling d → value ≡ spelling command
spelled_again found command d value one other given =
    let some : Some command ≡ Some d = sym one ∙ other in
    let same : command ≡ d = cc in
    given ∙ ap spelling (sym same)
