-- The commands that carry a table over into a new log, and which logs there are.
use Rattle.std.specs.Prelude.{◌≡◌, ◌==◌, ◌≤◌, ℕ, zero, suc, true, false, not, ◌||◌, List, [], ◌∷◌, ◌++◌, map, fold, filter, find, Some, Bool}
use Rattle.std.specs.List.{list_all, list_any}
use Rattle.lock_command.specs.declared.command.Command.{Command}
use Rattle.lock_command.specs.declared.command.Action.{Action}
use Rattle.lock_command.specs.declared.command.Action.TheVariants.{Forget, CarryLock, CarryClient}
use Rattle.lock_command.specs.declared.reply.LockValue.{LockValue}
use Rattle.lock_command.specs.Command.{is_carried}
use Rattle.lock_command.specs.declared.record.LockRecord.{LockRecord}
use Rattle.lock_table.specs.declared.known_client.KnownClient.{KnownClient}
use Rattle.lock_table.specs.Apply.{Plain, has_locks, is_client, applied, table_after}
use Rattle.lock_table.specs.Picture.{Shown, IsPictureOf}

-- a lock as it stands, and the value of its name
abbrev pub carried_lock : LockRecord → LockValue → Command
carried_lock r value = record { host = r.host; client = r.client; request = 1; action = CarryLock r.lock r.name r.state value }

-- a client, the number of its last request, and the reply to it
abbrev pub carried_client : KnownClient → Command
carried_client k = record { host = 0; client = k.client; request = k.request; action = CarryClient k.reply }

-- each lock with the value beside it
abbrev pub carried_locks : List LockRecord → List LockValue → List Command
carried_locks [] values = []
carried_locks (r ∷ locks) [] = []
carried_locks (r ∷ locks) (value ∷ values) = carried_lock r value ∷ carried_locks locks values

-- all that a table shows: its locks as they are shown, and then its clients
abbrev pub carried_over : Shown → List Command
carried_over shown = carried_locks shown.locks shown.values ++ map carried_client shown.clients

-- CLIENTS THAT ARE LEFT OUT

-- the client is one of these
abbrev pub is_among : List ℕ → ℕ → Bool
is_among clients client = list_any (λ other. other == client) clients

-- the client is known from now on: it is not to be left out, or it has a lock
abbrev pub stays_known : (ℕ → Bool) → List LockRecord → KnownClient → Bool
stays_known leave locks k = not (leave k.client) || has_locks locks k.client

-- the picture without clients that are to be left out and have no lock
abbrev pub without_clients : (ℕ → Bool) → Shown → Shown
without_clients leave shown = record { locks = shown.locks; values = shown.values; clients = filter (stays_known leave shown.locks) shown.clients }

-- and the plain table without them
abbrev pub forgetting : (ℕ → Bool) → Plain → Plain
forgetting leave t = record { locks = t.locks; values = t.values; clients = filter (stays_known leave t.locks) t.clients }

-- the table after more commands
abbrev pub table_later : Plain → List Command → Plain
table_later t commands = fold (λ u c. (applied u c).table) t commands

-- the client is known, and its last request has this number or a greater one
abbrev pub IsKnownFrom : ℕ → ℕ → List KnownClient → Type 0
IsKnownFrom client request clients = (k : KnownClient) × (find (is_client client) clients ≡ Some k) × (request ≤ k.request)

-- the command asks to forget the client
abbrev pub asks_to_forget : ℕ → Action → Bool
asks_to_forget client (Forget gone) = gone == client
asks_to_forget client other = false

-- none of these commands asks to forget the client
abbrev pub LeaveKnown : ℕ → List Command → Type 0
LeaveKnown client commands = list_all (λ c. not (asks_to_forget client c.action)) commands ≡ true

-- WHICH LOGS THERE ARE

-- none of these commands carries anything over
abbrev pub AreOrdinary : List Command → Type 0
AreOrdinary commands = list_all (λ c. not (is_carried c.action)) commands ≡ true

-- The log of a cluster that was renewed so often: what carries the table of the log before over, with or without some clients, and then what was submitted.
abbrev pub IsLogAfter : ℕ → List Command → Type 0
IsLogAfter zero log = AreOrdinary log
IsLogAfter (suc n) log =
    (past : List Command) × (shown : Shown) × (leave : ℕ → Bool) × (later : List Command)
    × IsLogAfter n past × IsPictureOf shown (table_after past) × AreOrdinary later × (log ≡ carried_over (without_clients leave shown) ++ later)
