-- Epochs, one after another: the log of each begins with what carries over the table that the one before left.
use Rattle.std.specs.Prelude.{◌≡◌, ◌<◌, ◌≤◌, ℕ, zero, suc, List, [], ◌++◌, length, slice_get, Some}
use Rattle.disk.specs.Disk.{Call, Answer}
use Rattle.lock_command.specs.declared.command.Command.{Command}
use Rattle.lock_command.specs.Command.{spelling}
use Rattle.lock_table.specs.Apply.{applied, table_after}
use Rattle.lock_table.specs.Carrying.{carried_over}
use Rattle.lock_table.specs.Picture.{Shown, IsPictureOf}
use Rattle.paxos_block.specs.Shape.{Shape}
use Rattle.host.specs.Host.{Submitting, Attempt, Attempts, Memory, Running}
use Rattle.world.specs.Entry.{Filled, Called}
use Rattle.world.specs.World.{IsRun}
use Rattle.world.specs.Chosen.{at, migrated, IsChosen}
use Rattle.world.specs.Headline.{prefix_at}
use Rattle.world_safety.specs.Renewals.{IsFullAt}

-- ONE EPOCH

-- entry i is a device call of the host
abbrev pub IsCallAt : List Filled → ℕ → ℕ → Type 0
IsCallAt log i h = (disk : ℕ) × (call : Call) × (answer : Answer) × (left : List ℕ) × (slice_get log i ≡ Some (Called h disk call answer left))

-- Whoever makes a call in one of the first slots, and submits there, submits the command of that slot.
abbrev pub CarriesFirst : Shape → List Filled → List Command → Type 0
CarriesFirst c log over =
    (i h : ℕ) (memory : Memory) (doing : Attempt) (command wanted : Command) → IsCallAt log i h → (at c log i).host h ≡ Running memory → memory.doing ≡ Some (Attempts doing) → doing.operation ≡ Submitting command →
    slice_get over (length memory.learned) ≡ Some wanted → command ≡ wanted

-- What a host has learned begins with these commands, once it is as long.
abbrev pub BeginsWith : Shape → List Filled → List Command → Type 0
BeginsWith c log over = (i h : ℕ) → length over ≤ length (prefix_at c log i h) → (later : List Command) × (prefix_at c log i h ≡ over ++ later)

-- Of each run that begins on zeros: what is chosen in one of the first slots is the command of that slot, and each host learns these commands first.
abbrev pub CarriedComesFirst : Type 0
CarriedComesFirst =
    (c : Shape) (log : List Filled) (over : List Command) → IsRun c log → migrated log ≡ [] → CarriesFirst c log over →
    ((slot : ℕ) (value : List ℕ) (wanted : Command) → IsChosen c log slot value → slice_get over slot ≡ Some wanted → value ≡ spelling wanted) × BeginsWith c log over

-- ALL EPOCHS

-- all that was submitted up to an epoch, where this was in each
abbrev pub all_later : (ℕ → List Command) → ℕ → List Command
all_later later zero = later zero
all_later later (suc e) = all_later later e ++ later (suc e)

-- These are the logs of the epochs up to this one. Each but the first begins with what carries over the table that the one before left.
pub record IsChain (last : ℕ) (logs later : ℕ → List Command) (shown : ℕ → Shown) : Type 0 where
  pub first : logs zero ≡ later zero
  pub next : (e : ℕ) → e < last → logs (suc e) ≡ carried_over (shown e) ++ later (suc e)
  pub pictured : (e : ℕ) → e < last → IsPictureOf (shown e) (table_after (logs e))

-- A log shows what other commands leave, and each further command is given the reply that it would be given after those.
pub record IsAsAfter (learned others : List Command) : Type 0 where
  pub shows : (after : Shown) → IsPictureOf after (table_after others) → IsPictureOf after (table_after learned)
  pub replies : (command : Command) → (applied (table_after learned) command).reply ≡ (applied (table_after others) command).reply

-- So it is with the log of each epoch, and all that was submitted up to it.
abbrev pub TablesGoOn : Type 0
TablesGoOn = (last : ℕ) (logs later : ℕ → List Command) (shown : ℕ → Shown) → IsChain last logs later shown → (e : ℕ) → e ≤ last → IsAsAfter (logs e) (all_later later e)

-- Up to this epoch each is a run that begins on zeros. Each but the last was learned whole, by some host at some place; and in the next one nobody tries a slot but with what
-- carries its table over, until all of that stands there.
pub record IsEndless (c : Shape) (last : ℕ) (runs : ℕ → List Filled) (shown : ℕ → Shown) : Type 0 where
  pub is_run : (e : ℕ) → IsRun c (runs e)
  pub fresh : (e : ℕ) → migrated (runs e) ≡ []
  pub place : ℕ → ℕ
  pub host : ℕ → ℕ
  pub full : (e : ℕ) → e < last → IsFullAt c (runs e) (place e) (host e)
  pub pictured : (e : ℕ) → e < last → IsPictureOf (shown e) (table_after (prefix_at c (runs e) (place e) (host e)))
  pub fits : (e : ℕ) → e < last → length (carried_over (shown e)) ≤ c.slots
  pub carries : (e : ℕ) → e < last → CarriesFirst c (runs (suc e)) (carried_over (shown e))

-- what carries the table over that an epoch begins with
abbrev pub carried_by : (ℕ → Shown) → ℕ → List Command
carried_by shown zero = []
carried_by shown (suc e) = carried_over (shown e)

-- all that was submitted in earlier epochs
abbrev pub all_before : (ℕ → List Command) → ℕ → List Command
all_before later zero = []
all_before later (suc e) = all_later later e

-- What a host has learned of an epoch is what carries the table over, and then others. It is as after all that was submitted in earlier epochs, and then these.
pub record HasGoneOn (later : ℕ → List Command) (shown : ℕ → Shown) (e : ℕ) (learned : List Command) : Type 0 where
  pub own : List Command
  pub is : learned ≡ carried_by shown e ++ own
  pub as_after : IsAsAfter learned (all_before later e ++ own)

-- In each epoch but the last something was submitted behind what carries the table over; and so it is with whatever any host has learned, of whatever epoch, once it has
-- learned what carries the table over.
abbrev pub EpochsGoOn : Type 0
EpochsGoOn =
    (c : Shape) (last : ℕ) (runs : ℕ → List Filled) (shown : ℕ → Shown) → (is : IsEndless c last runs shown) →
    (later : ℕ → List Command)
    × ((e : ℕ) → e < last → prefix_at c (runs e) (is.place e) (is.host e) ≡ carried_by shown e ++ later e)
    × ((e i h : ℕ) → e ≤ last → length (carried_by shown e) ≤ length (prefix_at c (runs e) i h) → HasGoneOn later shown e (prefix_at c (runs e) i h))
