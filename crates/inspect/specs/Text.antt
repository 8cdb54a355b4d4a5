-- The text of a table's queues.
use Rattle.std.specs.Prelude.{ℕ, Bool, ◌&&◌, List, [], ◌∷◌, ◌++◌, codes, decimal, bytes_eq, replicate, if◌then◌else◌}
use Rattle.hex.specs.Hex.{encode_lower}
use Rattle.lock_command.specs.declared.mode.Mode.{Mode}
use Rattle.lock_command.specs.declared.mode.Mode.TheVariants.{Null, ConcurrentRead, ConcurrentWrite, ProtectedRead, ProtectedWrite, Exclusive}
use Rattle.lock_command.specs.declared.record.LockRecord.{LockRecord}
use Rattle.lock_command.specs.declared.value.TheConstants.{LOCK_VALUE_LENGTH}
use Rattle.lock_command.specs.declared.state.LockState.{LockState}
use Rattle.lock_command.specs.declared.state.LockState.TheVariants.{Granted, Converting, Waiting}
use Rattle.lock_command.specs.declared.reply.LockValue.{LockValue}
use Rattle.lock_table.specs.Picture.{Shown}

-- a mode's name
abbrev pub mode_name : Mode → List ℕ
mode_name Null = codes "NL"
mode_name ConcurrentRead = codes "CR"
mode_name ConcurrentWrite = codes "CW"
mode_name ProtectedRead = codes "PR"
mode_name ProtectedWrite = codes "PW"
mode_name Exclusive = codes "EX"

-- a word behind a space
abbrev pub word : List ℕ → List ℕ
word text = 32 ∷ text

-- what a lock does
abbrev pub state_word : LockState → List ℕ
state_word (Granted mode) = codes "granted"
state_word (Converting held wanted) = codes "converting"
state_word (Waiting mode) = codes "waiting"

abbrev pub mode_words : LockState → List ℕ
mode_words (Granted mode) = word (mode_name mode)
mode_words (Converting held wanted) = word (mode_name held) ++ word (mode_name wanted)
mode_words (Waiting mode) = word (mode_name mode)

-- the line of a lock
abbrev pub lock_line : LockRecord → List ℕ
lock_line r =
    32 ∷ 32 ∷ state_word r.state
    ++ (word (decimal r.lock) ++ (word (decimal r.client) ++ (word (decimal r.host) ++ (mode_words r.state ++ (10 ∷ [])))))

-- 32 digits, and a word behind them where the value is not valid
abbrev pub value_text : LockValue → List ℕ
value_text value = encode_lower value.bytes ++ (if value.valid then [] else codes " invalid")

-- zeros that are valid, which every name has with its first lock
abbrev pub is_zeros : LockValue → Bool
is_zeros value = value.valid && bytes_eq value.bytes (replicate LOCK_VALUE_LENGTH 0)

-- nothing is said of these
abbrev pub value_words : LockValue → List ℕ
value_words value = if is_zeros value then [] else word (value_text value)

-- a name and its value stand on a line in front of its first lock
abbrev pub name_line : List ℕ → List ℕ → LockValue → List ℕ
name_line before name value = if bytes_eq before name then [] else name ++ (value_words value ++ 10 ∷ [])

-- the lines of locks, with the value of the name beside each, behind one of this name
abbrev pub lines_behind : List ℕ → List LockRecord → List LockValue → List ℕ
lines_behind before (r ∷ rs) (value ∷ values) = name_line before r.name value ++ (lock_line r ++ lines_behind r.name rs values)
lines_behind before _ _ = []

abbrev pub locks_text : List LockRecord → List LockValue → List ℕ
locks_text [] values = codes "empty" ++ 10 ∷ []
locks_text (r ∷ rs) values = lines_behind [] (r ∷ rs) values

-- the text of what a table shows; no lock's name is empty
abbrev pub queues_text : Shown → List ℕ
queues_text shown = locks_text shown.locks shown.values
