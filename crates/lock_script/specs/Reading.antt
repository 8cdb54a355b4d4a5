-- What words read as, word by word. That this is what they spell is proved.
use Rattle.std.specs.Prelude.{ℕ, ◌==◌, ◌+◌, ◌-◌, ◌*◌, ◌^◌, nat_lt, nat_le, Bool, true, false, ◌&&◌, not, List, [], ◌∷◌, length, codes, bytes_eq, Option, Some, None, if◌then◌else◌}
use Rattle.std.specs.Char.{is_ascii_digit}
use Rattle.std.specs.List.{list_all}
use Rattle.std.specs.Str.Parse.{digits_value}
use Rattle.lock_command.specs.declared.mode.Mode.{Mode}
use Rattle.lock_command.specs.declared.mode.Mode.TheVariants.{Null, ConcurrentRead, ConcurrentWrite, ProtectedRead, ProtectedWrite, Exclusive}
use Rattle.lock_command.specs.declared.value.TheConstants.{LOCK_VALUE_LENGTH}
use Rattle.lock_command.specs.declared.number.TheConstants.{HOSTS}
use Rattle.lock_command.specs.declared.command.Command.{Command}
use Rattle.lock_command.specs.declared.command.Action.{Action}
use Rattle.lock_command.specs.declared.command.Action.TheVariants.{Enqueue, Convert, Release, Cancel, Status, Purge, Forget}
use Rattle.lock_command.specs.Reading.{◌>>=◌, passed, name_of}
use Rattle.lock_script.specs.declared.event.Event.TheVariants.{Start, Stop, Submit, Recover, Look, Beat, Mark, Step, Tear, FailCall, DiskCrash, DiskGone}
use Rattle.lock_script.specs.declared.line.Line.{Line}
use Rattle.lock_script.specs.declared.show.View.{View}
use Rattle.lock_script.specs.declared.show.View.TheVariants.{Queues, Blocking}
use Rattle.lock_script.specs.declared.line.Line.TheVariants.{Cluster, Log, Once, Steps, Show}
use Rattle.lock_script.specs.Words.{first_word, words_behind, no_words, begins_with, behind_word, last_word}

-- NUMBERS

-- one byte or more, of which the first is 0 in `0` alone
abbrev pub leads_well : List ℕ → Bool
leads_well [] = false
leads_well (byte ∷ []) = true
leads_well (byte ∷ next ∷ bytes) = not (byte == 48)

-- the number that a word of digits spells, below 2^64
unfoldable pub number_of : List ℕ → Option ℕ
number_of word =
    let n = digits_value 10 word in
    passed (leads_well word && list_all is_ascii_digit word && nat_lt n (2 ^ 64)) n

-- the number, where it is from the least to the most
unfoldable pub number_in : ℕ → ℕ → List ℕ → Option ℕ
number_in least most word = do
  n ← number_of word
  passed (nat_le least n && nat_le n most) n

abbrev pub host_of : List ℕ → Option ℕ
host_of = number_in 0 (HOSTS - 1)

abbrev pub disk_of : List ℕ → Option ℕ
disk_of = number_in 0 6

abbrev pub slot_of : List ℕ → Option ℕ
slot_of = number_in 0 4095

abbrev pub tries_of : List ℕ → Option ℕ
tries_of = number_in 1 255

abbrev pub times_of : List ℕ → Option ℕ
times_of = number_in 1 100000

abbrev pub client_of : List ℕ → Option ℕ
client_of = number_in 0 255

abbrev pub request_of : List ℕ → Option ℕ
request_of = number_in 1 (2 ^ 62)

abbrev pub lock_of : List ℕ → Option ℕ
lock_of = number_in 1 65535

-- BYTES

-- what a hexadecimal digit in lower case stands for
unfoldable pub digit_of : ℕ → Option ℕ
digit_of byte =
    if nat_le 48 byte && nat_le byte 57 then Some (byte - 48)
    else if nat_le 97 byte && nat_le byte 102 then Some (byte - 87)
    else None

-- two of them
unfoldable pub byte_of : ℕ → ℕ → Option ℕ
byte_of high low = do
  h ← digit_of high
  l ← digit_of low
  Some (16 * h + l)

-- the bytes that pairs of digits spell
abbrev pub hex_bytes : List ℕ → Option (List ℕ)
hex_bytes [] = Some []
hex_bytes (high ∷ []) = None
hex_bytes (high ∷ low ∷ rest) = do
  byte ← byte_of high low
  bytes ← hex_bytes rest
  Some (byte ∷ bytes)

-- 1 to 64 bytes
unfoldable pub given_of : List ℕ → Option (List ℕ)
given_of word = do
  bytes ← hex_bytes word
  passed (nat_le 1 (length bytes) && nat_le (length bytes) 64) bytes

-- as many bytes as a lock value has
unfoldable pub value_of : List ℕ → Option (List ℕ)
value_of word = do
  bytes ← hex_bytes word
  passed (length bytes == LOCK_VALUE_LENGTH) bytes

-- COMMANDS

unfoldable pub mode_of : List ℕ → Option Mode
mode_of word =
    if bytes_eq word (codes "NL") then Some Null
    else if bytes_eq word (codes "CR") then Some ConcurrentRead
    else if bytes_eq word (codes "CW") then Some ConcurrentWrite
    else if bytes_eq word (codes "PR") then Some ProtectedRead
    else if bytes_eq word (codes "PW") then Some ProtectedWrite
    else if bytes_eq word (codes "EX") then Some Exclusive
    else None

-- `noqueue`, or nothing
unfoldable pub no_queue_at : List (List ℕ) → Option Bool
no_queue_at words =
    if no_words words then Some false
    else (do word ← last_word words; passed (bytes_eq word (codes "noqueue")) true)

-- `value` and its bytes, or nothing
unfoldable pub value_at : List (List ℕ) → Option (Option (List ℕ))
value_at words =
    if no_words words then Some None
    else if begins_with (codes "value") words then (do bytes ← last_word (words_behind words) >>= value_of; Some (Some bytes))
    else None

unfoldable pub enqueue_at : List (List ℕ) → Option Action
enqueue_at words = do
  lock ← first_word words >>= lock_of
  mode ← first_word (words_behind words) >>= mode_of
  name ← first_word (words_behind (words_behind words)) >>= name_of
  no_queue ← no_queue_at (words_behind (words_behind (words_behind words)))
  Some (Enqueue lock name mode no_queue)

unfoldable pub convert_at : List (List ℕ) → Option Action
convert_at words = do
  lock ← first_word words >>= lock_of
  mode ← first_word (words_behind words) >>= mode_of
  value ← value_at (behind_word (codes "noqueue") (words_behind (words_behind words)))
  Some (Convert lock mode (begins_with (codes "noqueue") (words_behind (words_behind words))) value)

unfoldable pub release_at : List (List ℕ) → Option Action
release_at words = do
  lock ← first_word words >>= lock_of
  value ← value_at (words_behind words)
  Some (Release lock value)

-- what is asked, by its word and those behind the request's number
unfoldable pub action_at : List ℕ → List (List ℕ) → Option Action
action_at kind words =
    if bytes_eq kind (codes "enqueue") then enqueue_at words
    else if bytes_eq kind (codes "convert") then convert_at words
    else if bytes_eq kind (codes "release") then release_at words
    else if bytes_eq kind (codes "cancel") then (do lock ← last_word words >>= lock_of; Some (Cancel lock))
    else if bytes_eq kind (codes "status") then (do lock ← last_word words >>= lock_of; Some (Status lock))
    else if bytes_eq kind (codes "purge") then (do host ← last_word words >>= host_of; Some (Purge host))
    else if bytes_eq kind (codes "forget") then (do client ← last_word words >>= client_of; Some (Forget client))
    else None

-- the command that a host submits
unfoldable pub command_at : ℕ → List (List ℕ) → Option Command
command_at host words = do
  kind ← first_word words
  client ← first_word (words_behind words) >>= client_of
  request ← first_word (words_behind (words_behind words)) >>= request_of
  action ← action_at kind (words_behind (words_behind (words_behind words)))
  Some (record { host = host; client = client; request = request; action = action })

-- LINES

-- the host, or the disk, that the first word names, and the bytes that the last one gives
abbrev pub next_host : List (List ℕ) → Option ℕ
next_host words = first_word words >>= host_of

abbrev pub next_disk : List (List ℕ) → Option ℕ
next_disk words = first_word words >>= disk_of

abbrev pub last_given : List (List ℕ) → Option (List ℕ)
last_given words = last_word words >>= given_of

unfoldable pub cluster_at : List (List ℕ) → Option Line
cluster_at words = do
  disks ← first_word words >>= number_in 1 7
  slots ← last_word (words_behind words) >>= number_in 1 4096
  Some (Cluster (record { disks = disks; slots = slots }))

unfoldable pub log_at : List (List ℕ) → Option Line
log_at words = do
  host ← next_host words
  command ← command_at host (words_behind words)
  Some (Log command)

unfoldable pub submit_at : List (List ℕ) → Option Line
submit_at words = do
  host ← next_host words
  tries ← first_word (words_behind words) >>= tries_of
  command ← command_at host (words_behind (words_behind words))
  Some (Once (Submit command tries))

unfoldable pub recover_at : List (List ℕ) → Option Line
recover_at words = do
  host ← next_host words
  tries ← last_word (words_behind words) >>= tries_of
  Some (Once (Recover host tries))

unfoldable pub step_at : List (List ℕ) → Option Line
step_at words = do
  host ← next_host words
  if no_words (words_behind words) then Some (Once (Step host)) else (do times ← last_word (words_behind words) >>= times_of; Some (Steps host times))

unfoldable pub tear_at : List (List ℕ) → Option Line
tear_at words = do
  host ← next_host words
  given ← last_given (words_behind words)
  Some (Once (Tear host given))

unfoldable pub fail_at : List (List ℕ) → Option Line
fail_at words = do
  host ← next_host words
  given ← last_given (words_behind words)
  Some (Once (FailCall host given))

unfoldable pub crash_at : List (List ℕ) → Option Line
crash_at words = do
  disk ← next_disk words
  given ← last_given (words_behind words)
  Some (Once (DiskCrash disk given))

unfoldable pub mark_at : List (List ℕ) → Option Line
mark_at words = do
  host ← next_host words
  slot ← last_word (words_behind words) >>= slot_of
  Some (Once (Mark host slot))

unfoldable pub show_at : View → List (List ℕ) → Option Line
show_at view words = do
  host ← last_word words >>= host_of
  Some (Show view host)

-- a line that gives no bytes, by its first word and those behind it
unfoldable pub plain_at : List ℕ → List (List ℕ) → Option Line
plain_at kind words =
    if bytes_eq kind (codes "step") then step_at words
    else if bytes_eq kind (codes "submit") then submit_at words
    else if bytes_eq kind (codes "recover") then recover_at words
    else if bytes_eq kind (codes "look") then (do host ← last_word words >>= host_of; Some (Once (Look host)))
    else if bytes_eq kind (codes "beat") then (do host ← last_word words >>= host_of; Some (Once (Beat host)))
    else if bytes_eq kind (codes "mark") then mark_at words
    else if bytes_eq kind (codes "start") then (do host ← last_word words >>= host_of; Some (Once (Start host)))
    else if bytes_eq kind (codes "stop") then (do host ← last_word words >>= host_of; Some (Once (Stop host)))
    else if bytes_eq kind (codes "gone") then (do disk ← last_word words >>= disk_of; Some (Once (DiskGone disk)))
    else if bytes_eq kind (codes "show") then show_at Queues words
    else if bytes_eq kind (codes "blocking") then show_at Blocking words
    else if bytes_eq kind (codes "log") then log_at words
    else if bytes_eq kind (codes "cluster") then cluster_at words
    else None

-- and any line
unfoldable pub said_at : List ℕ → List (List ℕ) → Option Line
said_at kind words =
    if bytes_eq kind (codes "tear") then tear_at words
    else if bytes_eq kind (codes "fail") then fail_at words
    else if bytes_eq kind (codes "crash") then crash_at words
    else plain_at kind words

unfoldable pub line_at : List (List ℕ) → Option Line
line_at words = do
  kind ← first_word words
  said_at kind (words_behind words)
