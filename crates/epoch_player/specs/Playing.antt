-- What is printed of a script over a log without an end.
use Rattle.std.specs.Prelude.{◌≡◌, ◌≤◌, ◌+◌, ℕ, List, [], ◌∷◌, ◌++◌, length, All, slice_get, Option, IfSome}
use Rattle.std.specs.Io.KnownBytes.{Appends}
use Rattle.paxos_block.specs.Shape.{Shape}
use Rattle.lock_command.specs.declared.record.TheConstants.{LOCKS}
use Rattle.lock_table.specs.declared.clients.TheConstants.{CLIENTS}
use Rattle.lock_script.specs.declared.event.Event.{Event}
use Rattle.lock_script.specs.declared.show.Show.{Show}
use Rattle.endless.specs.WithoutEnd.{IsRunWithoutEnd}
use Rattle.epoch_runs.specs.Living.{lived_of}
use Rattle.epoch_runs.specs.World.{Entry}
use Rattle.epoch_script.specs.declared.any_script.EpochScript.{EpochScript}
use Rattle.epoch_simulator.specs.Kept.{Kept, LeadsTo, AreNew}
use Rattle.epoch_player.specs.declared.happening.Said.{Said}
use Rattle.epoch_player.specs.Happening.{Happens}
use Rattle.epoch_player.specs.Text.{IsShowOf, said_text}

-- TABLES

-- the text of tables, one after the other
abbrev pub AreShown : Kept → List Show → List ℕ → Type 0
AreShown k [] text = text ≡ []
AreShown k (show ∷ shows) text =
    (one : List ℕ) × IsShowOf show k one × ((rest : List ℕ) × AreShown k shows rest × (text ≡ one ++ rest))

-- the next table that is shown, if there is one, has this place or a later one
abbrev pub IsFrom : ℕ → List Show → Type 0
IsFrom place shows = IfSome (slice_get shows 0) (λ show. place ≤ show.place)

-- Of the tables that are shown, in their order, these are due before the event of this number, and these later.
pub record IsDue (place : ℕ) (shows due later : List Show) : Type 0 where
  pub are : shows ≡ due ++ later
  pub come : All (λ show. show.place ≤ place) due
  pub ahead : IsFrom (place + 1) later

-- EVENTS

-- The text of events in a cluster of this shape, the first of which has this number. The tables that are due are shown before an event, and those that are left behind the last.
abbrev pub IsPlayed : Shape → (place : ℕ) → List Event → List Show → (old new : Kept) → (text : List ℕ) → Type 0
IsPlayed c place [] shows old new text = (new ≡ old) × AreShown old shows text
IsPlayed c place (event ∷ events) shows old new text =
    (due : List Show) × (later : List Show) × IsDue place shows due later
    × ((shown : List ℕ) × AreShown old due shown
    × ((then : Kept) × (said : Option Said) × Happens c event old then said
    × ((rest : List ℕ) × IsPlayed c (place + 1) events later then new rest
    × (text ≡ shown ++ (said_text place said ++ rest)))))

-- Tables that are due were shown, and these are left.
pub record ShowsDue (place : ℕ) (shows left : List Show) (k : Kept) (before after : Option (List ℕ)) : Type 0 where
  pub due : List Show
  pub text : List ℕ
  pub are : shows ≡ due ++ left
  pub come : All (λ show. show.place ≤ place) due
  pub shown : AreShown k due text
  pub written : Appends before after text

-- Tables were shown.
pub record ShowsLeft (shows : List Show) (k : Kept) (before after : Option (List ℕ)) : Type 0 where
  pub text : List ℕ
  pub shown : AreShown k shows text
  pub written : Appends before after text

-- Events happened, and of the tables these are left. What is written further on makes the text of all.
pub record PlaysPart (c : Shape) (events : List Event) (first : ℕ) (shows left : List Show) (old new : Kept) (before after : Option (List ℕ)) : Type 0 where
  pub text : List ℕ
  pub written : Appends before after text
  pub goes_on : (more : List Event) (last : Kept) (rest : List ℕ) → IsPlayed c (first + length events) more left new last rest
      → IsPlayed c first (events ++ more) shows old last (text ++ rest)

-- SCRIPTS

-- A script's events happened, and their text was written, with the tables that the script shows.
pub record Plays (script : EpochScript) (old new : Kept) (before after : Option (List ℕ)) : Type 0 where
  pub text : List ℕ
  pub played : IsPlayed script.config 0 script.events script.shows.items old new text
  pub written : Appends before after text

-- Some list of entries leads to this. It is one log without an end, where an epoch has room for what carries a table over.
pub record IsOneLog (k : Kept) : Type 0 where
  pub entries : List Entry
  pub leads : LeadsTo entries k
  pub one_log : LOCKS + CLIENTS ≤ k.shape.slots → IsRunWithoutEnd k.shape (lived_of k.shape entries)

-- They happened to disks of zeros and hosts that know nothing, and all that was done then is one log.
pub record WritesPlay (script : EpochScript) (before after : Option (List ℕ)) : Type 0 where
  pub old : Kept
  pub new : Kept
  pub shape : old.shape ≡ script.config
  pub hosts : AreNew script.config old.hosts
  pub leads : LeadsTo [] old
  pub plays : Plays script old new before after
  pub one_log : IsOneLog new
