-- The spelling of a command that it reads as has 48 bytes.
use Rattle.std.specs.Prelude.{nat_le, ◌-◌, replicate, slice_index, take, drop, bytes_eq, if◌then◌else◌}
use Rattle.std.proofs.Common.{ℕ, ◌≤◌, ◌≡◌, ◌==◌, Bool, true, false, Option, Some, None, List, ◌∷◌, ◌++◌, length, length-append, refl, sym, ap, ◌∙◌, arith}
use Rattle.std.proofs.lemmas.List.{length-replicate}
use Rattle.std.proofs.lemmas.Bool.{leb-true, eqb-true}
use Rattle.byteorder.specs.Numbers.{length-bytes_high_first}
use Rattle.lock_command.specs.declared.mode.Mode.{Mode}
use Rattle.lock_command.specs.declared.command.Command.{Command}
use Rattle.lock_command.specs.declared.command.Action.{Action}
use Rattle.lock_command.specs.declared.command.Action.TheVariants.{Enqueue, Convert, Release, Cancel, Status, Purge, QuietPurge, Forget, CarryLock, CarryClient}
use Rattle.lock_command.specs.declared.state.LockState.{LockState}
use Rattle.lock_command.specs.declared.reply.Answer.{Answer}
use Rattle.lock_command.specs.declared.reply.LockValue.{LockValue}
use Rattle.lock_command.specs.declared.reply.Reply.{Reply}
use Rattle.lock_command.specs.Command.{Fields, value_bytes, told_bytes, fields_of, number, spelled, spelling}
use Rattle.lock_command.specs.Name.{padded}
use Rattle.lock_command.specs.Reading.{◌>>=◌, passed, host_of, lock_at, request_at, mode_of, name_of, name_at, no_queue_at, value_of, value_at, enqueue_at, convert_at, state_at, answer_at, told_of, told_at, carried_lock_at, carried_client_at, action_at, command_at, checked, decoded}

number_long : (n x : ℕ) → length (number n x) ≡ n
unfolding number
number_long n x = length-bytes_high_first n x

-- by the lengths of its name and its value
spelled_long : (host client request : ℕ) (f : Fields) → length f.name ≤ 15 → length f.value ≡ 16 → length (spelled host client request f) ≡ 48
spelled_long host client request f short long =
    omega (
      arith,
      short,
      long,
      length-append (number 2 f.lock) (number 8 request ++ (f.purged ∷ (padded f.name ++ f.value))),
      length-append (number 8 request) (f.purged ∷ (padded f.name ++ f.value)),
      length-append (padded f.name) f.value,
      number_long 2 f.lock,
      number_long 8 request,
      length-append f.name (replicate (15 - length f.name) 0),
      length-replicate {A = ℕ} (15 - length f.name) 0,
    )

-- WHAT WAS READ

checked_is : (bytes : List ℕ) (o : Option Command) (command : Command) → checked bytes o ≡ Some command → o ≡ Some command
checked_is bytes None command is = absurd (cc)
checked_is bytes (Some found) command is = go (bytes_eq (spelling found) bytes) is
  where
    go : (b : Bool) → passed b found ≡ Some command → Some found ≡ Some command
    go true same = same
    go false same = absurd (cc)

-- an action that is read with a command
action_read : (h r : Option ℕ) (a : Option Action) (client : ℕ) (command : Command)
    → (h >>= λ host. r >>= λ request. a >>= λ action. Some (record { host = host; client = client; request = request; action = action })) ≡ Some command → a ≡ Some command.action
action_read None r a client command is = absurd (cc)
action_read (Some host) None a client command is = absurd (cc)
action_read (Some host) (Some request) None client command is = absurd (cc)
action_read (Some host) (Some request) (Some action) client command is =
    let same : record { host = host; client = client; request = request; action = action } ≡ command = cc in
    ap (λ (c : Command). Some c.action) same

-- the name of an enqueue that is read
name_read : (l : Option ℕ) (n : Option (List ℕ)) (m : Option Mode) (flag : Bool) (lock : ℕ) (name : List ℕ) (mode : Mode) (no_queue : Bool)
    → (l >>= λ a. n >>= λ b. m >>= λ d. Some (Enqueue a b d flag)) ≡ Some (Enqueue lock name mode no_queue) → (found : List ℕ) × (n ≡ Some found)
name_read None n m flag lock name mode no_queue is = absurd (cc)
name_read (Some a) None m flag lock name mode no_queue is = absurd (cc)
name_read (Some a) (Some b) m flag lock name mode no_queue is = (b, refl)

if_some : (b : Bool) (o : Option (List ℕ)) (found : List ℕ) → (if b then o else None) ≡ Some found → b ≡ true
if_some true o found is = refl
if_some false o found is = absurd (cc)

name_short : (bytes found : List ℕ) → name_at bytes ≡ Some found → slice_index bytes 5 ≤ 15
unfolding name_at
name_short bytes found is =
    leb-true (slice_index bytes 5) 15 (if_some (nat_le (slice_index bytes 5) 15) (name_of (take (slice_index bytes 5) (drop 17 bytes))) found is)

-- the value of a convert that is read, and of a release
converted_read : (l : Option ℕ) (m : Option Mode) (flag : Bool) (v : Option (List ℕ)) (lock : ℕ) (mode : Mode) (no_queue : Bool) (value : Option (List ℕ))
    → (l >>= λ a. m >>= λ d. Some (Convert a d flag v)) ≡ Some (Convert lock mode no_queue value) → v ≡ value
converted_read None m flag v lock mode no_queue value is = absurd (cc)
converted_read (Some a) None flag v lock mode no_queue value is = absurd (cc)
converted_read (Some a) (Some d) flag v lock mode no_queue value is = cc

released_read : (l : Option ℕ) (v : Option (List ℕ)) (lock : ℕ) (value : Option (List ℕ)) → (l >>= λ a. Some (Release a v)) ≡ Some (Release lock value) → v ≡ value
released_read None v lock value is = absurd (cc)
released_read (Some a) v lock value is = cc

passed_long : (bytes found : List ℕ) → value_of bytes ≡ Some found → length found ≡ 16
passed_long bytes found is =
    elim (length bytes == 16) as (λ b. (length bytes == 16) ≡ b → passed b bytes ≡ Some found → length found ≡ 16) [
      | true ↦ λ e p. let same : bytes ≡ found = cc in ap length (sym same) ∙ eqb-true (length bytes) 16 e
      | false ↦ λ e p. absurd (let no : ⊥ = cc in no)
    ] refl is

value_long : (bytes : List ℕ) (value : Option (List ℕ)) → value_at bytes ≡ value → length (value_bytes value) ≡ 16
unfolding value_at
value_long bytes None is = refl
value_long bytes (Some found) is =
    elim (nat_le 2 (slice_index bytes 4)) as (λ b. (if b then value_of (take 16 (drop 32 bytes)) else None) ≡ Some found → length found ≡ 16) [
      | true ↦ λ e. passed_long (take 16 (drop 32 bytes)) found e
      | false ↦ λ e. absurd (let no : ⊥ = cc in no)
    ] is

-- the name and the value of a lock that is carried over, and the value of a client's reply
carried_read : (l : Option ℕ) (n : Option (List ℕ)) (s : Option LockState) (v : Option LockValue) (lock : ℕ) (name : List ℕ) (state : LockState) (value : LockValue)
    → (l >>= λ a. n >>= λ b. s >>= λ d. v >>= λ e. Some (CarryLock a b d e)) ≡ Some (CarryLock lock name state value) → ((found : List ℕ) × (n ≡ Some found)) × (v ≡ Some value)
carried_read None n s v lock name state value is = absurd (cc)
carried_read (Some a) None s v lock name state value is = absurd (cc)
carried_read (Some a) (Some b) None v lock name state value is = absurd (cc)
carried_read (Some a) (Some b) (Some d) None lock name state value is = absurd (cc)
carried_read (Some a) (Some b) (Some d) (Some e) lock name state value is = ((b, refl), cc)

replied_read : (a : Option Answer) (v : Option LockValue) (reply : Reply) → (a >>= λ b. Some (CarryClient (record { answer = b; value = v }))) ≡ Some (CarryClient reply) → v ≡ reply.value
replied_read None v reply is = absurd (cc)
replied_read (Some b) v reply is =
    let same : record { answer = b; value = v } ≡ reply = cc in
    ap (λ (r : Reply). r.value) same

given_long : (bytes : List ℕ) (valid : Bool) (o : Option (List ℕ)) (value : LockValue) → value_of bytes ≡ o → (o >>= λ given. Some (record { bytes = given; valid = valid })) ≡ Some value → length value.bytes ≡ 16
given_long bytes valid None value e is = absurd (cc)
given_long bytes valid (Some given) value e is =
    let same : record { bytes = given; valid = valid } ≡ value = cc in
    ap (λ (v : LockValue). length v.bytes) (sym same) ∙ passed_long bytes given e

told_of-long : (bytes : List ℕ) (valid : Bool) (value : LockValue) → told_of bytes valid ≡ Some value → length value.bytes ≡ 16
unfolding told_of
told_of-long bytes valid value is = given_long (take 16 (drop 32 bytes)) valid (value_of (take 16 (drop 32 bytes))) value refl is

told_long : (bytes : List ℕ) (value : Option LockValue) → told_at bytes ≡ value → length (told_bytes value) ≡ 16
unfolding told_at
told_long bytes None is = refl
told_long bytes (Some value) is =
    elim (slice_index bytes 4 == 2) as (λ b. (if b then told_of bytes true else if slice_index bytes 4 == 6 then told_of bytes false else None) ≡ Some value → length value.bytes ≡ 16) [
      | true ↦ λ e. told_of-long bytes true value e
      | false ↦ λ e. elim (slice_index bytes 4 == 6) as (λ b. (if b then told_of bytes false else None) ≡ Some value → length value.bytes ≡ 16) [
        | true ↦ λ f. told_of-long bytes false value f
        | false ↦ λ f. absurd (let no : ⊥ = cc in no)
      ] e
    ] is

-- SO ITS SPELLING IS LONG

module _ (host client request : ℕ) where
  whole : Action → Command
  whole action = record { host = host; client = client; request = request; action = action }

  what_is_read : (action : Action) → decoded (spelling (whole action)) ≡ Some (whole action) → action_at (spelling (whole action)) ≡ Some action
  unfolding command_at whole
  what_is_read action is =
      let c = whole action in
      action_read (host_of (slice_index (spelling c) 1)) (request_at (spelling c)) (action_at (spelling c)) (slice_index (spelling c) 2) c (checked_is (spelling c) (command_at (spelling c)) c is)

  long_by : (action : Action) → decoded (spelling (whole action)) ≡ Some (whole action) → length (spelling (whole action)) ≡ 48
  unfolding action_at enqueue_at convert_at carried_lock_at carried_client_at whole
  long_by (Enqueue lock name mode no_queue) is =
      let c = whole (Enqueue lock name mode no_queue) in
      let found = name_read (lock_at (spelling c)) (name_at (spelling c)) (mode_of (slice_index (spelling c) 3)) (no_queue_at (spelling c)) lock name mode no_queue (what_is_read (Enqueue lock name mode no_queue) is) in
      spelled_long host client request (fields_of (Enqueue lock name mode no_queue)) (name_short (spelling c) found.0 found.1) refl
  long_by (Convert lock mode no_queue value) is =
      let c = whole (Convert lock mode no_queue value) in
      let given = converted_read (lock_at (spelling c)) (mode_of (slice_index (spelling c) 3)) (no_queue_at (spelling c)) (value_at (spelling c)) lock mode no_queue value (what_is_read (Convert lock mode no_queue value) is) in
      spelled_long host client request (fields_of (Convert lock mode no_queue value)) (omega arith) (value_long (spelling c) value given)
  long_by (Release lock value) is =
      let c = whole (Release lock value) in
      let given = released_read (lock_at (spelling c)) (value_at (spelling c)) lock value (what_is_read (Release lock value) is) in
      spelled_long host client request (fields_of (Release lock value)) (omega arith) (value_long (spelling c) value given)
  long_by (Cancel lock) is = spelled_long host client request (fields_of (Cancel lock)) (omega arith) refl
  long_by (Status lock) is = spelled_long host client request (fields_of (Status lock)) (omega arith) refl
  long_by (Purge purged) is = spelled_long host client request (fields_of (Purge purged)) (omega arith) refl
  long_by (QuietPurge purged) is = spelled_long host client request (fields_of (QuietPurge purged)) (omega arith) refl
  long_by (Forget gone) is = spelled_long host client request (fields_of (Forget gone)) (omega arith) refl
  long_by (CarryLock lock name s value) is =
      let c = whole (CarryLock lock name s value) in
      let read = carried_read (lock_at (spelling c)) (name_at (spelling c)) (state_at (spelling c)) (told_at (spelling c)) lock name s value (what_is_read (CarryLock lock name s value) is) in
      spelled_long host client request (fields_of (CarryLock lock name s value)) (name_short (spelling c) read.0.0 read.0.1) (told_long (spelling c) (Some value) read.1)
  long_by (CarryClient reply) is =
      let c = whole (CarryClient reply) in
      let read = replied_read (answer_at (spelling c)) (told_at (spelling c)) reply (what_is_read (CarryClient reply) is) in
      spelled_long host client request (fields_of (CarryClient reply)) (omega arith) (told_long (spelling c) reply.value read)

pub spelling_long : (command : Command) → decoded (spelling command) ≡ Some command → length (spelling command) ≡ 48
unfolding whole
spelling_long command is = long_by command.host command.client command.request command.action is
