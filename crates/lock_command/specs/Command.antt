-- Of the headline. The one spelling of a command: 48 bytes, of each number the highest byte first.
use Rattle.std.specs.Prelude.{◌≡◌, ℕ, ◌+◌, ◌<◌, ◌≤◌, ◌^◌, Bool, true, false, not, ◌&&◌, List, [], ◌∷◌, ◌++◌, length, replicate, Option, Some, None, is_some, ⊤, if◌then◌else◌}
use Rattle.byteorder.specs.Endian.{big_bytes}
use Rattle.lock_command.specs.declared.mode.Mode.{Mode}
use Rattle.lock_command.specs.declared.mode.Mode.TheVariants.{Null, ConcurrentRead, ConcurrentWrite, ProtectedRead, ProtectedWrite, Exclusive}
use Rattle.lock_command.specs.declared.number.TheConstants.{HOSTS}
use Rattle.lock_command.specs.declared.command.Command.{Command}
use Rattle.lock_command.specs.declared.command.Action.{Action}
use Rattle.lock_command.specs.declared.command.Action.TheVariants.{Enqueue, Convert, Release, Cancel, Status, Purge, QuietPurge, Forget, CarryLock, CarryClient}
use Rattle.lock_command.specs.declared.state.LockState.{LockState}
use Rattle.lock_command.specs.declared.state.LockState.TheVariants as state
use Rattle.lock_command.specs.declared.reply.Answer.{Answer}
use Rattle.lock_command.specs.declared.reply.Answer.TheVariants as answer
use Rattle.lock_command.specs.declared.reply.LockValue.{LockValue}
use Rattle.lock_command.specs.declared.value.TheConstants.{LOCK_VALUE_LENGTH}
use Rattle.lock_command.specs.Name.{IsName, padded}
use Rattle.lock_command.specs.Refusals.{refusal_number}

-- the number of a mode
abbrev pub mode_number : Mode → ℕ
mode_number Null = 0
mode_number ConcurrentRead = 1
mode_number ConcurrentWrite = 2
mode_number ProtectedRead = 3
mode_number ProtectedWrite = 4
mode_number Exclusive = 5

-- the fields that tell what is asked; those that a kind of command lacks are 0 or empty
pub record Fields : Type 0 where
  pub kind : ℕ
  pub mode : ℕ
  pub flags : ℕ
  pub lock : ℕ
  pub purged : ℕ
  pub name : List ℕ
  pub value : List ℕ

-- 1 where nothing is to be queued, and 2 where a value is given
abbrev pub flags_of : Bool → Option (List ℕ) → ℕ
flags_of no_queue value = (if no_queue then 1 else 0) + (if is_some value then 2 else 0)

-- the bytes of a value, or zeros where none is given
abbrev pub value_bytes : Option (List ℕ) → List ℕ
value_bytes None = replicate LOCK_VALUE_LENGTH 0
value_bytes (Some bytes) = bytes

-- WHAT IS CARRIED OVER

-- the mode that a lock holds, or waits for where it holds none
abbrev pub first_mode : LockState → Mode
first_mode (state.Granted mode) = mode
first_mode (state.Converting held wanted) = held
first_mode (state.Waiting wanted) = wanted

-- the number of a state: granted, waiting, and a conversion by the mode that is wanted
abbrev pub state_number : LockState → ℕ
state_number (state.Granted mode) = 0
state_number (state.Waiting wanted) = 1
state_number (state.Converting held wanted) = 2 + mode_number wanted

-- the number of an answer: a state and a refusal have their own
abbrev pub answer_number : Answer → ℕ
answer_number (answer.State s) = state_number s
answer_number answer.Granted = 8
answer_number answer.Queued = 9
answer_number answer.Released = 10
answer_number (answer.Refused why) = refusal_number why
answer_number answer.Cancelled = 21
answer_number (answer.Purged count) = 22
answer_number answer.Forgotten = 23

-- the number of the first mode of an answer that tells a state
abbrev pub mode_told : Answer → ℕ
mode_told (answer.State s) = mode_number (first_mode s)
mode_told other = 0

-- how many locks an answer says were taken away
abbrev pub count_told : Answer → ℕ
count_told (answer.Purged count) = count
count_told other = 0

-- 2 for a value, and 4 more where it is invalid
abbrev pub told_flags : Option LockValue → ℕ
told_flags None = 0
told_flags (Some value) = if value.valid then 2 else 6

abbrev pub told_bytes : Option LockValue → List ℕ
told_bytes None = replicate LOCK_VALUE_LENGTH 0
told_bytes (Some value) = value.bytes

-- a command that says only which lock it is about, which host is purged, or which client is forgotten
abbrev pub bare_fields : ℕ → ℕ → ℕ → Fields
bare_fields kind lock purged = record { kind = kind; mode = 0; flags = 0; lock = lock; purged = purged; name = []; value = value_bytes None }

-- what each kind of command puts there
abbrev pub fields_of : Action → Fields
fields_of (Enqueue lock name mode no_queue) = record { kind = 1; mode = mode_number mode; flags = flags_of no_queue None; lock = lock; purged = 0; name = name; value = value_bytes None }
fields_of (Convert lock mode no_queue value) = record { kind = 2; mode = mode_number mode; flags = flags_of no_queue value; lock = lock; purged = 0; name = []; value = value_bytes value }
fields_of (Release lock value) = record { kind = 3; mode = 0; flags = flags_of false value; lock = lock; purged = 0; name = []; value = value_bytes value }
fields_of (Cancel lock) = bare_fields 4 lock 0
fields_of (Status lock) = bare_fields 5 lock 0
fields_of (Purge host) = bare_fields 6 0 host
fields_of (QuietPurge host) = bare_fields 7 0 host
fields_of (Forget client) = bare_fields 10 0 client
fields_of (CarryLock lock name s value) = record { kind = 8; mode = mode_number (first_mode s); flags = told_flags (Some value); lock = lock; purged = state_number s; name = name; value = value.bytes }
fields_of (CarryClient reply) = record { kind = 9; mode = mode_told reply.answer; flags = told_flags reply.value; lock = count_told reply.answer; purged = answer_number reply.answer; name = []; value = told_bytes reply.value }

-- a number in so many bytes
unfoldable pub number : ℕ → ℕ → List ℕ
number n x = big_bytes n x

-- the fields in the order of their bytes
abbrev pub spelled : ℕ → ℕ → ℕ → Fields → List ℕ
spelled host client request f =
    (f.kind ∷ host ∷ client ∷ f.mode ∷ f.flags ∷ length f.name ∷ [])
    ++ (number 2 f.lock ++ (number 8 request ++ (f.purged ∷ (padded f.name ++ f.value))))

-- the one spelling of a command
abbrev pub spelling : Command → List ℕ
spelling c = spelled c.host c.client c.request (fields_of c.action)

-- whether it carries a part of a table over into a new log
abbrev pub is_carried : Action → Bool
is_carried (CarryLock lock name s value) = true
is_carried (CarryClient reply) = true
is_carried other = false

-- whether it stands only in a log that was moved
abbrev pub is_quiet : Action → Bool
is_quiet (QuietPurge host) = true
is_quiet other = false

-- a client may ask for all but a quiet purge, and what is carried over
abbrev pub is_submittable : Command → Bool
is_submittable command = not (is_quiet command.action) && not (is_carried command.action)

-- a lock's number is not 0
abbrev pub IsLock : ℕ → Type 0
IsLock lock = (1 ≤ lock) × (lock < 2 ^ 16)

-- a given value has as many bytes as each lock value
abbrev pub IsValue : Option (List ℕ) → Type 0
IsValue None = ⊤
IsValue (Some bytes) = length bytes ≡ LOCK_VALUE_LENGTH

-- so does a value that is told
abbrev pub IsTold : Option LockValue → Type 0
IsTold None = ⊤
IsTold (Some value) = length value.bytes ≡ LOCK_VALUE_LENGTH

-- the count of an answer has its two bytes
abbrev pub FitsAnswer : Answer → Type 0
FitsAnswer (answer.Purged count) = count < 2 ^ 16
FitsAnswer other = ⊤

-- the numbers of an action are in their ranges, its name is one, and so is its value
abbrev pub FitsAction : Action → Type 0
FitsAction (Enqueue lock name mode no_queue) = IsLock lock × IsName name
FitsAction (Convert lock mode no_queue value) = IsLock lock × IsValue value
FitsAction (Release lock value) = IsLock lock × IsValue value
FitsAction (Cancel lock) = IsLock lock
FitsAction (Status lock) = IsLock lock
FitsAction (Purge host) = host < HOSTS
FitsAction (QuietPurge host) = host < HOSTS
FitsAction (Forget client) = client < 2 ^ 8
FitsAction (CarryLock lock name s value) = IsLock lock × IsName name × IsTold (Some value)
FitsAction (CarryClient reply) = FitsAnswer reply.answer × IsTold reply.value

-- and so are those of its command
pub record Fits (c : Command) : Type 0 where
  pub host : c.host < HOSTS
  pub client : c.client < 2 ^ 8
  pub request : (1 ≤ c.request) × (c.request ≤ 2 ^ 62)
  pub action : FitsAction c.action
