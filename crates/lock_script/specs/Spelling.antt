-- The words that say an event, and the lines of a script.
use Rattle.std.specs.Prelude.{◌<◌, ◌≤◌, ◌+◌, ◌/◌, ◌%◌, ◌^◌, ℕ, Bool, true, false, List, [], ◌∷◌, ◌++◌, length, codes, decimal, nat_lt, All, Option, Some, None, ⊤, if◌then◌else◌}
use Rattle.torn_block.specs.declared.layout.TheConstants.{DISKS, SLOTS}
use Rattle.lock_command.specs.declared.mode.Mode.{Mode}
use Rattle.lock_command.specs.declared.mode.Mode.TheVariants.{Null, ConcurrentRead, ConcurrentWrite, ProtectedRead, ProtectedWrite, Exclusive}
use Rattle.lock_command.specs.declared.number.TheConstants.{HOSTS}
use Rattle.lock_command.specs.declared.command.Command.{Command}
use Rattle.lock_command.specs.declared.command.Action.{Action}
use Rattle.lock_command.specs.declared.command.Action.TheVariants.{Enqueue, Convert, Release, Cancel, Status, Purge, QuietPurge, Forget, CarryLock, CarryClient}
use Rattle.lock_command.specs.Command.{Fits as FitsCommand}
use Rattle.paxos_block.specs.Shape.{Shape}
use Rattle.lock_script.specs.declared.event.Event.{Event}
use Rattle.lock_script.specs.declared.event.Event.TheVariants.{Start, Stop, Submit, Recover, Look, Beat, Mark, Step, Tear, FailCall, DiskCrash, DiskGone}
use Rattle.lock_script.specs.declared.line.Line.{Line}
use Rattle.lock_script.specs.declared.show.View.{View}
use Rattle.lock_script.specs.declared.show.View.TheVariants.{Queues, Blocking}
use Rattle.lock_script.specs.declared.line.Line.TheVariants.{Cluster, Log, Once, Steps, Show}

-- WORDS

-- a mode's name
abbrev pub mode_word : Mode → List ℕ
mode_word Null = codes "NL"
mode_word ConcurrentRead = codes "CR"
mode_word ConcurrentWrite = codes "CW"
mode_word ProtectedRead = codes "PR"
mode_word ProtectedWrite = codes "PW"
mode_word Exclusive = codes "EX"

-- 0 to 9, and a to f
abbrev pub hex_digit : ℕ → ℕ
hex_digit n = if nat_lt n 10 then 48 + n else 87 + n

-- two digits for each byte
abbrev pub hex_word : List ℕ → List ℕ
hex_word [] = []
hex_word (byte ∷ bytes) = hex_digit (byte / 16) ∷ hex_digit (byte % 16) ∷ hex_word bytes

-- a last word, or none
abbrev pub no_queue_words : Bool → List (List ℕ)
no_queue_words true = codes "noqueue" ∷ []
no_queue_words false = []

-- two last words, or none
abbrev pub value_words : Option (List ℕ) → List (List ℕ)
value_words None = []
value_words (Some bytes) = codes "value" ∷ hex_word bytes ∷ []

-- COMMANDS

-- a quiet purge has no word, nor has what is carried over
abbrev pub kind_word : Action → List ℕ
kind_word (Enqueue lock name mode no_queue) = codes "enqueue"
kind_word (Convert lock mode no_queue value) = codes "convert"
kind_word (Release lock value) = codes "release"
kind_word (Cancel lock) = codes "cancel"
kind_word (Status lock) = codes "status"
kind_word (Purge host) = codes "purge"
kind_word (QuietPurge host) = []
kind_word (Forget client) = codes "forget"
kind_word (CarryLock lock name state value) = []
kind_word (CarryClient reply) = []

-- what is asked, behind the request's number
abbrev pub action_words : Action → List (List ℕ)
action_words (Enqueue lock name mode no_queue) = decimal lock ∷ mode_word mode ∷ name ∷ no_queue_words no_queue
action_words (Convert lock mode no_queue value) = decimal lock ∷ mode_word mode ∷ (no_queue_words no_queue ++ value_words value)
action_words (Release lock value) = decimal lock ∷ value_words value
action_words (Cancel lock) = decimal lock ∷ []
action_words (Status lock) = decimal lock ∷ []
action_words (Purge host) = decimal host ∷ []
action_words (QuietPurge host) = []
action_words (Forget client) = decimal client ∷ []
action_words (CarryLock lock name state value) = []
action_words (CarryClient reply) = []

-- a command; its host stands in front of it
abbrev pub command_words : Command → List (List ℕ)
command_words c = kind_word c.action ∷ decimal c.client ∷ decimal c.request ∷ action_words c.action

-- EVENTS

abbrev pub event_words : Event → List (List ℕ)
event_words (Start host) = codes "start" ∷ decimal host ∷ []
event_words (Stop host) = codes "stop" ∷ decimal host ∷ []
event_words (Submit command tries) = codes "submit" ∷ decimal command.host ∷ decimal tries ∷ command_words command
event_words (Recover host tries) = codes "recover" ∷ decimal host ∷ decimal tries ∷ []
event_words (Look host) = codes "look" ∷ decimal host ∷ []
event_words (Beat host) = codes "beat" ∷ decimal host ∷ []
event_words (Mark host slot) = codes "mark" ∷ decimal host ∷ decimal slot ∷ []
event_words (Step host) = codes "step" ∷ decimal host ∷ []
event_words (Tear host given) = codes "tear" ∷ decimal host ∷ hex_word given ∷ []
event_words (FailCall host given) = codes "fail" ∷ decimal host ∷ hex_word given ∷ []
event_words (DiskCrash disk given) = codes "crash" ∷ decimal disk ∷ hex_word given ∷ []
event_words (DiskGone disk) = codes "gone" ∷ decimal disk ∷ []

-- 1 to 64 bytes
pub record AreGiven (given : List ℕ) : Type 0 where
  pub some : 1 ≤ length given
  pub few : length given ≤ 64
  pub bytes : All (λ byte. byte < 2 ^ 8) given

-- each is a byte
abbrev pub AreBytes : Option (List ℕ) → Type 0
AreBytes None = ⊤
AreBytes (Some bytes) = All (λ byte. byte < 2 ^ 8) bytes

-- a line can say what is asked: a value that is given is of bytes, and nobody asks for a quiet purge, or for what is carried over
abbrev pub CanBeSaid : Action → Type 0
CanBeSaid (Convert lock mode no_queue value) = AreBytes value
CanBeSaid (Release lock value) = AreBytes value
CanBeSaid (QuietPurge host) = ⊥
CanBeSaid (CarryLock lock name state value) = ⊥
CanBeSaid (CarryClient reply) = ⊥
CanBeSaid _ = ⊤

-- a command that a line can say
pub record FitsSubmitted (command : Command) : Type 0 where
  pub fits : FitsCommand command
  pub said : CanBeSaid command.action

abbrev pub IsTries : ℕ → Type 0
IsTries tries = (1 ≤ tries) × (tries ≤ 255)

-- the numbers of an event are in their ranges, in a cluster of this shape
abbrev pub FitsEvent : Shape → Event → Type 0
FitsEvent c (Start host) = host < HOSTS
FitsEvent c (Stop host) = host < HOSTS
FitsEvent c (Submit command tries) = FitsSubmitted command × IsTries tries
FitsEvent c (Recover host tries) = (host < HOSTS) × IsTries tries
FitsEvent c (Look host) = host < HOSTS
FitsEvent c (Beat host) = host < HOSTS
FitsEvent c (Mark host slot) = (host < HOSTS) × (slot < c.slots)
FitsEvent c (Step host) = host < HOSTS
FitsEvent c (Tear host given) = (host < HOSTS) × AreGiven given
FitsEvent c (FailCall host given) = (host < HOSTS) × AreGiven given
FitsEvent c (DiskCrash disk given) = (disk < c.disks) × AreGiven given
FitsEvent c (DiskGone disk) = disk < c.disks

-- LINES

-- what is to be shown
abbrev pub view_word : View → List ℕ
view_word Queues = codes "show"
view_word Blocking = codes "blocking"

abbrev pub line_words : Line → List (List ℕ)
line_words (Cluster shape) = codes "cluster" ∷ decimal shape.disks ∷ decimal shape.slots ∷ []
line_words (Log command) = codes "log" ∷ decimal command.host ∷ command_words command
line_words (Once event) = event_words event
line_words (Steps host times) = codes "step" ∷ decimal host ∷ decimal times ∷ []
line_words (Show view host) = view_word view ∷ decimal host ∷ []

-- 1 to 7 disks, 1 to 4096 slots
pub record FitsFirst (shape : Shape) : Type 0 where
  pub disks : (1 ≤ shape.disks) × (shape.disks ≤ DISKS)
  pub slots : (1 ≤ shape.slots) × (shape.slots ≤ SLOTS)

-- a line that may stand behind the first and those of the log, in a cluster of this shape
abbrev pub FitsBehind : Shape → Line → Type 0
FitsBehind c (Cluster shape) = ⊥
FitsBehind c (Log command) = ⊥
FitsBehind c (Once event) = FitsEvent c event
FitsBehind c (Steps host times) = (host < HOSTS) × (1 ≤ times) × (times ≤ 100000)
FitsBehind c (Show view host) = host < HOSTS
