-- Of the headline. What the fields of 48 bytes read as, each by itself. It says nothing of the bytes that no field of the kind reads.
use Rattle.std.specs.Prelude.{ℕ, ◌==◌, ◌^◌, nat_lt, nat_le, Bool, true, false, ◌&&◌, ◌||◌, List, length, take, drop, slice_index, Option, Some, None, if◌then◌else◌, bytes_eq}
use Rattle.byteorder.specs.Endian.{big_number}
use Rattle.lock_command.specs.declared.mode.Mode.{Mode}
use Rattle.lock_command.specs.declared.mode.Mode.TheVariants.{Null, ConcurrentRead, ConcurrentWrite, ProtectedRead, ProtectedWrite, Exclusive}
use Rattle.lock_command.specs.declared.number.TheConstants.{HOSTS}
use Rattle.lock_command.specs.declared.command.Command.{Command}
use Rattle.lock_command.specs.declared.command.Action.{Action}
use Rattle.lock_command.specs.declared.command.Action.TheVariants.{Enqueue, Convert, Release, Cancel, Status, Purge, QuietPurge, Forget, CarryLock, CarryClient}
use Rattle.lock_command.specs.declared.state.LockState.{LockState}
use Rattle.lock_command.specs.declared.state.LockState.TheVariants as state
use Rattle.lock_command.specs.declared.reply.Answer.{Answer}
use Rattle.lock_command.specs.declared.reply.Answer.TheVariants as answer
use Rattle.lock_command.specs.declared.reply.LockValue.{LockValue}
use Rattle.lock_command.specs.declared.name.TheConstants.LockName.{LONGEST}
use Rattle.lock_command.specs.declared.value.TheConstants.{LOCK_VALUE_LENGTH}
use Rattle.lock_command.specs.declared.spelling.TheConstants.{PURGED_AT, ANSWER_AT, NAME_AT, VALUE_AT}
use Rattle.lock_command.specs.Name.{is_name}
use Rattle.lock_command.specs.Command.{spelling}
use Rattle.lock_command.specs.Refusals.{refusal_of}

-- a reading, and what is read after it
infixl 10 ◌>>=◌
abbrev pub ◌>>=◌ : {A B : Type 0} → Option A → (A → Option B) → Option B
(Some x) >>= f = f x
None >>= f = None

-- the value, where the test is passed
abbrev pub passed : {A : Type 0} → Bool → A → Option A
passed test x = if test then Some x else None

-- a host's number
abbrev pub host_of : ℕ → Option ℕ
host_of n = passed (nat_lt n HOSTS) n

-- the lock's number, in bytes 6 and 7
unfoldable pub lock_at : List ℕ → Option ℕ
lock_at bytes = let n = big_number 2 (drop 6 bytes) in passed (nat_le 1 n) n

-- the request's number, in bytes 8 to 15
unfoldable pub request_at : List ℕ → Option ℕ
request_at bytes = let n = big_number 8 (drop 8 bytes) in passed (nat_le 1 n && nat_le n (2 ^ 62)) n

-- the mode of a number
unfoldable pub mode_of : ℕ → Option Mode
mode_of n =
    if n == 0 then Some Null
    else if n == 1 then Some ConcurrentRead
    else if n == 2 then Some ConcurrentWrite
    else if n == 3 then Some ProtectedRead
    else if n == 4 then Some ProtectedWrite
    else if n == 5 then Some Exclusive
    else None

-- the bytes of a name
abbrev pub name_of : List ℕ → Option (List ℕ)
name_of bytes = passed (is_name bytes) bytes

-- the name, as many bytes as byte 5 says
unfoldable pub name_at : List ℕ → Option (List ℕ)
name_at bytes = let n = slice_index bytes 5 in if nat_le n LONGEST then name_of (take n (drop NAME_AT bytes)) else None

-- whether byte 4 asks for no queue
abbrev pub no_queue_at : List ℕ → Bool
no_queue_at bytes = let flags = slice_index bytes 4 in flags == 1 || flags == 3

-- as many bytes as a lock value has
abbrev pub value_of : List ℕ → Option (List ℕ)
value_of bytes = passed (length bytes == LOCK_VALUE_LENGTH) bytes

-- the value in the last bytes, where byte 4 says that one is given
unfoldable pub value_at : List ℕ → Option (List ℕ)
value_at bytes = if nat_le 2 (slice_index bytes 4) then value_of (take LOCK_VALUE_LENGTH (drop VALUE_AT bytes)) else None

-- what an enqueue asks, and a convert, and any kind
unfoldable pub enqueue_at : List ℕ → Option Action
enqueue_at bytes = do
  lock ← lock_at bytes
  name ← name_at bytes
  mode ← mode_of (slice_index bytes 3)
  Some (Enqueue lock name mode (no_queue_at bytes))

unfoldable pub convert_at : List ℕ → Option Action
convert_at bytes = do
  lock ← lock_at bytes
  mode ← mode_of (slice_index bytes 3)
  Some (Convert lock mode (no_queue_at bytes) (value_at bytes))

-- the state of a number and of its first mode
unfoldable pub state_of : ℕ → Mode → Option LockState
state_of n mode =
    if n == 0 then Some (state.Granted mode)
    else if n == 1 then Some (state.Waiting mode)
    else if n == 2 then Some (state.Converting mode Null)
    else if n == 3 then Some (state.Converting mode ConcurrentRead)
    else if n == 4 then Some (state.Converting mode ConcurrentWrite)
    else if n == 5 then Some (state.Converting mode ProtectedRead)
    else if n == 6 then Some (state.Converting mode ProtectedWrite)
    else if n == 7 then Some (state.Converting mode Exclusive)
    else None

-- the state by its number and by byte 3
unfoldable pub state_at : List ℕ → Option LockState
state_at bytes = do
  mode ← mode_of (slice_index bytes 3)
  state_of (slice_index bytes ANSWER_AT) mode

-- the count in bytes 6 and 7
unfoldable pub count_at : List ℕ → ℕ
count_at bytes = big_number 2 (drop 6 bytes)

-- the answer by its number: those below 8 are states
unfoldable pub answer_at : List ℕ → Option Answer
answer_at bytes =
    let n = slice_index bytes ANSWER_AT in
    if n == 8 then Some answer.Granted
    else if n == 9 then Some answer.Queued
    else if n == 10 then Some answer.Released
    else if n == 21 then Some answer.Cancelled
    else if n == 22 then Some (answer.Purged (count_at bytes))
    else if n == 23 then Some answer.Forgotten
    else if nat_lt n 8 then (do s ← state_at bytes; Some (answer.State s))
    else (do why ← refusal_of n; Some (answer.Refused why))

-- the value in the last bytes
unfoldable pub told_of : List ℕ → Bool → Option LockValue
told_of bytes valid = do
  given ← value_of (take LOCK_VALUE_LENGTH (drop VALUE_AT bytes))
  Some (record { bytes = given; valid = valid })

-- where byte 4 says that one is told
unfoldable pub told_at : List ℕ → Option LockValue
told_at bytes =
    let flags = slice_index bytes 4 in
    if flags == 2 then told_of bytes true
    else if flags == 6 then told_of bytes false
    else None

unfoldable pub carried_lock_at : List ℕ → Option Action
carried_lock_at bytes = do
  lock ← lock_at bytes
  name ← name_at bytes
  s ← state_at bytes
  value ← told_at bytes
  Some (CarryLock lock name s value)

unfoldable pub carried_client_at : List ℕ → Option Action
carried_client_at bytes = do
  a ← answer_at bytes
  Some (CarryClient (record { answer = a; value = told_at bytes }))

unfoldable pub action_at : List ℕ → Option Action
action_at bytes =
    let kind = slice_index bytes 0 in
    if kind == 1 then enqueue_at bytes
    else if kind == 2 then convert_at bytes
    else if kind == 3 then (do lock ← lock_at bytes; Some (Release lock (value_at bytes)))
    else if kind == 4 then (do lock ← lock_at bytes; Some (Cancel lock))
    else if kind == 5 then (do lock ← lock_at bytes; Some (Status lock))
    else if kind == 6 then (do host ← host_of (slice_index bytes PURGED_AT); Some (Purge host))
    else if kind == 7 then (do host ← host_of (slice_index bytes PURGED_AT); Some (QuietPurge host))
    else if kind == 8 then carried_lock_at bytes
    else if kind == 9 then carried_client_at bytes
    else if kind == 10 then Some (Forget (slice_index bytes PURGED_AT))
    else None

-- the command
unfoldable pub command_at : List ℕ → Option Command
command_at bytes = do
  host ← host_of (slice_index bytes 1)
  request ← request_at bytes
  action ← action_at bytes
  Some (record { host = host; client = slice_index bytes 2; request = request; action = action })

-- the command, where these bytes are its spelling to the last of them
abbrev pub checked : List ℕ → Option Command → Option Command
checked bytes None = None
checked bytes (Some c) = passed (bytes_eq (spelling c) bytes) c

-- the command that the bytes spell, if they spell one
abbrev pub decoded : List ℕ → Option Command
decoded bytes = checked bytes (command_at bytes)
