-- What is printed of events, tables, folders and sweeps.
use Rattle.std.specs.Prelude.{◌≡◌, ◌≤◌, ◌⊎◌, ◌+◌, ◌-◌, ℕ, Bool, true, false, List, [], ◌∷◌, ◌++◌, bytes_eq, codes, decimal, flat_map, length, take, drop, slice_get, slice_index_or, sum_by, Option, Some, None, IfSome}
use Rattle.std.specs.List.{list_any}
use Rattle.std.specs.Io.KnownBytes.{Appends}
use Rattle.disk.specs.FileStates.{FileState, FileGives}
use Rattle.world.specs.Entry.{Filled}
use Rattle.world.specs.World.{world}
use Rattle.world.specs.Opening.{begun}
use Rattle.world.specs.Happens as happens
use Rattle.world.specs.Happens.{Line, entry_of, happens, lines_at}
use Rattle.lock_command.specs.Command.{spelling}
use Rattle.lock_command.specs.declared.command.Command.{Command}
use Rattle.lock_table.specs.Apply.{table_after}
use Rattle.lock_table.specs.Picture.{Shown, IsPictureOf}
use Rattle.lock_command.specs.declared.reply.Reply.{Reply}
use Rattle.host.specs.Host.{Recovering, fresh}
use Rattle.host.specs.Kept as hosts
use Rattle.host.specs.declared.answer.HostAnswer.{HostAnswer}
use Rattle.host.specs.declared.answer.HostAnswer.TheVariants.{Ack, Recovered}
use Rattle.endless_image.specs.declared.kind.Kind.{Kind}
use Rattle.endless_image.specs.declared.kind.Kind.TheVariants.{Ending, Endless}
use Rattle.paxos_block.specs.Shape.{Shape}
use Rattle.lock_script.specs.declared.event.Event.{Event}
use Rattle.lock_script.specs.declared.script.Script.{Script}
use Rattle.lock_script.specs.declared.show.Show.{Show}
use Rattle.lock_script.specs.declared.show.View.{View}
use Rattle.lock_script.specs.declared.show.View.TheVariants as shown_as
use Rattle.inspect.specs.Text.{word, queues_text}
use Rattle.inspect.specs.Verdicts.{IsVerdict}
use Rattle.inspect.specs.declared.verdict.Blocking.{Blocking}
use Rattle.inspect.specs.declared.verdict.Blocking.TheVariants.{Cycle, Ranked}
use Rattle.simulator.specs.Events.{event_of, events_of, opening_of}
use Rattle.simulator.specs.Kept.{Kept, LeadsTo}
use Rattle.fault_sweep.specs.Sweeping.{recovered_behind, variants}
use Rattle.dlm_images.specs.Marking.{RecoversAndMarks}
use Rattle.dlm_images.specs.Operations.{HasLooked, HasMarked, HasOperated, IsAcknowledged, Standing}
use Rattle.dlm_images.specs.Tries.{HasTried}
use Rattle.folder_migration.specs.Filling.{Fills}
use Rattle.folder_migration.specs.Migrating.{CameTo}
use Rattle.folder_migration.specs.RenewingFolders.{CameToRenew}
use Rattle.folder_migration.specs.declared.migrate.Moved.{Moved}
use Rattle.folder_migration.specs.declared.migrate.Moved.TheVariants.{Moved as WasMoved, Finished}
use Rattle.folder_migration.specs.declared.renew.Renewed.{Renewed}
use Rattle.folder_migration.specs.declared.renew.Renewed.TheVariants as renewal
use Rattle.dlm_words.specs.Text.{answer_text}

-- EVENTS

-- the number of the event, the host, and what it answers
abbrev pub line_text : Line → List ℕ
line_text x = decimal x.place ++ codes " h" ++ decimal x.host ++ codes " " ++ answer_text x.said ++ 10 ∷ []

abbrev pub lines_text : List Line → List ℕ
lines_text lines = flat_map line_text lines

-- An event happened, and what its host then says was written.
pub record WritesAnswer (log : List Filled) (event : Event) (place : ℕ) (old new : Kept) (before after : Option (List ℕ)) : Type 0 where
  pub shape : new.shape ≡ old.shape
  pub leads : LeadsTo (happens old.shape log (event_of event)) new
  pub written : Appends before after (lines_text (lines_at old.shape log place (entry_of old.shape (world old.shape log) (event_of event))))

-- Events happened one after the other, and what was answered with them was written.
pub record WritesAnswers (log : List Filled) (events : List happens.Event) (place : ℕ) (old new : Kept) (before after : Option (List ℕ)) : Type 0 where
  pub shape : new.shape ≡ old.shape
  pub leads : LeadsTo (happens.happen old.shape log events) new
  pub written : Appends before after (lines_text (happens.answers_from old.shape log place events))

-- TABLES

-- a client's number behind a space
abbrev pub client_word : ℕ → List ℕ
client_word client = word (decimal client)

-- the clients of a cycle, in its order
abbrev pub blocking_text : Blocking → List ℕ
blocking_text (Ranked ranks) = codes "no cycle" ++ 10 ∷ []
blocking_text (Cycle clients) = codes "cycle" ++ flat_map client_word clients.items ++ 10 ∷ []

-- a table is shown as its queues, or as what blocks whom in it
abbrev pub IsViewOf : View → Shown → List ℕ → Type 0
IsViewOf shown_as.Queues shown text = text ≡ queues_text shown
IsViewOf shown_as.Blocking shown text = (found : Blocking) × IsVerdict shown.locks found × (text ≡ blocking_text found)

abbrev pub stopped_line : ℕ → List ℕ
stopped_line host = codes "host " ++ decimal host ++ (codes " is stopped" ++ 10 ∷ [])

-- of a host that runs, the table after the commands that it learned is shown
abbrev pub IsShowOf : Show → Option hosts.Kept → List ℕ → Type 0
IsShowOf show None text = text ≡ stopped_line show.host
IsShowOf show (Some core) text = (shown : Shown) × IsPictureOf shown (table_after core.prefix) × IsViewOf show.view shown text

-- SCRIPTS

-- The text of events and of tables that are shown between them, where so many events came before. A table is shown behind the answers to the events in front of its place,
-- or behind those to all.
abbrev pub IsText : Shape → List Filled → ℕ → List happens.Event → List Show → List ℕ → Type 0
IsText c log first events [] text = text ≡ lines_text (happens.answers_from c log first events)
IsText c log first events (show ∷ shows) text =
    let n = show.place - first in
    let then = happens.happen c log (take n events) in
    (kept : Kept) × LeadsTo then kept × (shown : List ℕ) × IsShowOf show (slice_index_or kept.hosts show.host None) shown
    × (rest : List ℕ) × IsText c then (first + n) (drop n events) shows rest
    × (text ≡ lines_text (happens.answers_from c log first (take n events)) ++ (shown ++ rest))

-- Such a text was written.
abbrev pub WritesText : Shape → List Filled → ℕ → List happens.Event → List Show → Option (List ℕ) → Option (List ℕ) → Type 0
WritesText c log first events shows before after = (text : List ℕ) × IsText c log first events shows text × Appends before after text

-- The script's events happened to a cluster as the script begins, and their text was written, with the tables that the script shows.
abbrev pub WritesScript : Script → Option (List ℕ) → Option (List ℕ) → Type 0
WritesScript script before after = WritesText script.config (begun (opening_of script)) 0 (events_of script.events) script.shows.items before after

-- the next table that is shown, if there is one, has this place or a later one
abbrev pub IsFrom : ℕ → List Show → Type 0
IsFrom place shows = IfSome (slice_get shows 0) (λ show. place ≤ show.place)

-- Events happened, after so many others, and tables were shown between them, of which these are left. What is written further on makes the text of all.
pub record WritesPart (log : List Filled) (events : List happens.Event) (first : ℕ) (shows left : List Show) (old new : Kept) (before after : Option (List ℕ)) : Type 0 where
  pub shape : new.shape ≡ old.shape
  pub leads : LeadsTo (happens.happen old.shape log events) new
  pub text : List ℕ
  pub written : Appends before after text
  pub goes_on : (later : List happens.Event) (rest : List ℕ) → IsText old.shape (happens.happen old.shape log events) (first + length events) later left rest
      → IsText old.shape log first (events ++ later) shows (text ++ rest)

-- FOLDERS

-- what the slots are of: the log, or each epoch of it
abbrev pub slots_text : Kind → List ℕ
slots_text Ending = codes " slots" ++ 10 ∷ []
slots_text Endless = codes " slots an epoch" ++ 10 ∷ []

-- how large the cluster is
abbrev pub formatted_text : Kind → Shape → List ℕ
formatted_text kind shape = codes "formatted " ++ (decimal shape.disks ++ (codes " disks, " ++ (decimal shape.slots ++ slots_text kind)))

-- a check found nothing
abbrev pub sound_text : List ℕ
sound_text = codes "sound" ++ 10 ∷ []

-- how an operation of a host ended
abbrev pub answer_line : HostAnswer → List ℕ
answer_line answer = answer_text answer ++ 10 ∷ []

-- how much of the log was recovered, and how many slots were marked then
abbrev pub marked_text : ℕ → ℕ → List ℕ
marked_text recovered marked = answer_line (Recovered recovered) ++ codes "marked " ++ decimal marked ++ codes " slots" ++ 10 ∷ []

-- how much of the log was recovered, and the queues of the table
abbrev pub table_text : ℕ → Shown → List ℕ
table_text recovered shown = answer_line (Recovered recovered) ++ queues_text shown

-- it is a host of this number that has learned nothing yet
abbrev pub IsFresh : ℕ → Standing FileState → Type 0
IsFresh number host = (shape : Shape) × hosts.LeadsTo shape number fresh host.core

-- the command is one of these: its bytes are those of one of them
abbrev pub is_among : Command → List Command → Bool
is_among command learned = list_any (λ one. bytes_eq (spelling one) (spelling command)) learned

-- A host over some disks that had learned nothing has looked, and has found this command in what it learned, or has not.
pub record HasSearched (command : Command) (found : Bool) (looked : Standing FileState) : Type 0 where
  pub old : Standing FileState
  pub started : IsFresh command.host old
  pub looks : HasLooked FileGives old looked
  pub among : is_among command looked.core.prefix ≡ found

-- It is the host that submits the command: one that has searched for it in vain, or, where one has found it, one that has learned nothing. So what is asked again
-- is found where it stands.
abbrev pub Begins : Command → Standing FileState → Type 0
Begins command begun = HasSearched command false begun ⊎ (IsFresh command.host begun × ((looked : Standing FileState) × HasSearched command true looked))

-- The command was submitted through a host over some disks, after a look. It is the last that the host then knows, and its slot and the lock table's reply were
-- written. Then the slot was marked, however that ended.
pub record WritesAcknowledgement (tries : ℕ) (command : Command) (before after : Option (List ℕ)) : Type 0 where
  pub begun : Standing FileState
  pub new : Standing FileState
  pub slot : ℕ
  pub reply : Reply
  pub begins : Begins command begun
  pub tried : HasTried FileGives command tries begun new
  pub acknowledged : IsAcknowledged command slot reply new.core.prefix
  pub written : Appends before after (answer_line (Ack slot reply))
  pub marked : Standing FileState
  pub marks : HasMarked FileGives slot new marked

-- The log was recovered by a host over some disks, which looked first. How much it has learned, and the queues of the lock table after that, was written.
pub record WritesTable (tries number : ℕ) (before after : Option (List ℕ)) : Type 0 where
  pub old : Standing FileState
  pub looked : Standing FileState
  pub new : Standing FileState
  pub shown : Shown
  pub started : IsFresh number old
  pub looks : HasLooked FileGives old looked
  pub recovers : HasOperated FileGives Recovering tries looked new
  pub picture : IsPictureOf shown (table_after new.core.prefix)
  pub written : Appends before after (table_text (length new.core.prefix) shown)

-- The log was recovered by a host over some disks, which looked first, and the slots that no mark had told it were marked. How much was recovered and marked,
-- was written.
pub record WritesMarks (tries number : ℕ) (before after : Option (List ℕ)) : Type 0 where
  pub old : Standing FileState
  pub looked : Standing FileState
  pub new : Standing FileState
  pub marked : ℕ
  pub started : IsFresh number old
  pub looks : HasLooked FileGives old looked
  pub marks : RecoversAndMarks FileGives tries marked looked new
  pub written : Appends before after (marked_text (length new.core.prefix) marked)

-- how many commands were moved onto how many images, or on how many the gates that were left were opened
abbrev pub moved_text : ℕ → Moved → List ℕ
moved_text slots (WasMoved commands disks) =
    codes "migrated " ++ decimal commands ++ codes " commands, " ++ decimal disks ++ codes " disks, " ++ decimal slots ++ (codes " slots" ++ 10 ∷ [])
moved_text slots (Finished disks) = codes "finished " ++ decimal disks ++ (codes " disks" ++ 10 ∷ [])

-- The log was moved, and what that came to was written.
pub record WritesMove (slots : ℕ) (before after : Option (List ℕ)) : Type 0 where
  pub moved : Moved
  pub came_to : CameTo slots moved
  pub written : Appends before after (moved_text slots moved)

-- how many slots were filled
abbrev pub filled_text : ℕ → List ℕ
filled_text count = codes "filled " ++ decimal count ++ (codes " slots" ++ 10 ∷ [])

-- The log of a folder was filled up by a host of this number that knew nothing and looked first, and how many slots it filled was written.
pub record WritesFilling (number : ℕ) (before after : Option (List ℕ)) : Type 0 where
  pub shape : Shape
  pub old : Standing FileState
  pub looked : Standing FileState
  pub new : Standing FileState
  pub count : ℕ
  pub started : hosts.LeadsTo shape number fresh old.core
  pub looks : HasLooked FileGives old looked
  pub fills : Fills FileGives shape.slots count looked new
  pub written : Appends before after (filled_text count)

-- how many commands carry the table over onto how many images, or on how many the gates that were left were opened
abbrev pub renewed_text : ℕ → Renewed → List ℕ
renewed_text slots (renewal.Renewed commands disks) =
    codes "renewed " ++ decimal commands ++ codes " commands, " ++ decimal disks ++ codes " disks, " ++ decimal slots ++ (codes " slots" ++ 10 ∷ [])
renewed_text slots (renewal.Finished disks) = codes "finished " ++ decimal disks ++ (codes " disks" ++ 10 ∷ [])

-- The table after a full log was carried over without these clients, and what that came to was written.
pub record WritesRenewal (host : ℕ) (config : Shape) (cluster : ℕ) (leave : List ℕ) (before after : Option (List ℕ)) : Type 0 where
  pub renewed : Renewed
  pub came_to : CameToRenew host config cluster leave renewed
  pub written : Appends before after (renewed_text config.slots renewed)

-- SWEEPS

abbrev pub counts_text : ℕ → ℕ → ℕ → List ℕ
counts_text runs recovered wrong =
    decimal runs ++ codes " runs, " ++ decimal recovered ++ codes " recovered, " ++ decimal wrong ++ codes " wrong" ++ 10 ∷ []

-- how many variants the script has, how many of the recoveries behind them answer, and that none is wrong
abbrev pub sweep_text : Script → List ℕ
sweep_text script =
    let opening = opening_of script in
    let runs = variants opening (events_of script.events) in
    counts_text (length runs) (sum_by (recovered_behind opening) runs) 0
