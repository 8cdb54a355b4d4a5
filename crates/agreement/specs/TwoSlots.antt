-- A history of two slots on three disks, move by move: host 0 has 7 chosen, and restarts; host 1 recovers 7, finds slot 1 empty, and has 9 chosen there.
use Rattle.std.specs.Prelude.{ℕ, ◌+◌, Some, List, [], ◌∷◌, ◌++◌, map}
use Rattle.agreement.specs.State.{HOSTS, Vote, Block, no_vote, Opened, Asking, Telling, none_opened, first_asking, with_best}
use Rattle.agreement.specs.Event.{Event, write_one}
use Rattle.agreement.specs.Event.Event.{Starts, Sees, Takes, Begins, Drops, Proposes}
use Rattle.agreement.specs.Log.{Slots, Move, slots_after}
use Rattle.agreement.specs.Log.Move.{At, Crash, Learn, Restart}
use Rattle.agreement.specs.Race.{says, nobody, only, asks, tells, asking_0, telling_7, asking_1}

-- events of one slot
abbrev pub in_slot : ℕ → List (Event ℕ) → List (Move ℕ)
in_slot k events = map (At k) events

-- what is confirmed on a disk, in each slot and of each host: a crash that leaves this takes away all that is in writing there
abbrev pub confirmed_on : ℕ → Slots ℕ → ℕ → ℕ → Block ℕ
confirmed_on d c k h = ((c.slot k).cell h d).confirmed

-- HOST 0 IN SLOT 0: it takes ballot 1, and begins to enter it on disk 2.

abbrev pub begun_on_disk_2 : List (Move ℕ)
begun_on_disk_2 =
    in_slot 0
    (Starts 0 ∷ Sees 0 0 none_opened none_opened ∷ Sees 0 1 none_opened none_opened ∷ Sees 0 2 none_opened none_opened ∷ Takes 0 none_opened 1
    ∷ Begins 0 2 (write_one asking_0) ∷ [])

-- DISK 2 CRASHES, and what is in writing there vanishes.

abbrev pub until_crashed : List (Move ℕ)
until_crashed = begun_on_disk_2 ++ Crash 2 (confirmed_on 2 (slots_after begun_on_disk_2)) ∷ []

-- Host 0 gives the disk up, has 7 chosen on the other two, AND LEARNS IT.

abbrev pub has_7_chosen : List (Move ℕ)
has_7_chosen =
    in_slot 0
    (Drops 0 2 ∷ asks 0 0 asking_0 nobody no_vote ++ asks 0 1 asking_0 nobody no_vote ++ Proposes 0 asking_0 7 ∷ tells 0 0 telling_7 nobody
    ++ tells 0 1 telling_7 nobody)
    ++ Learn 0 0 1 7 ∷ []

abbrev pub until_learned : List (Move ℕ)
until_learned = until_crashed ++ has_7_chosen

-- HOST 0 RESTARTS, and has learned nothing.

abbrev pub until_restarted : List (Move ℕ)
until_restarted = until_learned ++ Restart 0 ∷ []

-- HOST 1 RECOVERS the log. In slot 0 it finds the vote for 7 on disk 1, has 7 chosen again, and learns it.

abbrev pub vote_7 : Vote ℕ
vote_7 = record { bal = 1; inp = Some 7 }

abbrev pub found_7 : Asking ℕ
found_7 = with_best asking_1 vote_7

abbrev pub seven_again : Telling ℕ
seven_again = record { ballot = 2; value = 7 }

abbrev pub recovers_7 : List (Move ℕ)
recovers_7 =
    in_slot 0
    (Starts 1 ∷ Sees 1 1 none_opened none_opened ∷ Sees 1 2 none_opened none_opened ∷ Takes 1 none_opened 2
    ∷ asks 1 1 asking_1 (only 0 (says 1 1 (Some 7))) vote_7 ++ asks 1 2 found_7 nobody vote_7 ++ Proposes 1 found_7 7
    ∷ tells 1 1 seven_again (only 0 (says 1 1 (Some 7))) ++ tells 1 2 seven_again nobody)
    ++ Learn 1 0 2 7 ∷ []

abbrev pub until_recovered : List (Move ℕ)
until_recovered = until_restarted ++ recovers_7

-- IN SLOT 1 IT FINDS NOTHING. Its attempt there begins with the first of these.

abbrev pub finds_nothing : List (Move ℕ)
finds_nothing =
    in_slot 1
    (Sees 1 1 none_opened none_opened ∷ Sees 1 2 none_opened none_opened ∷ Takes 1 none_opened 2
    ∷ asks 1 1 asking_1 nobody no_vote ++ asks 1 2 asking_1 nobody no_vote)

abbrev pub until_empty : List (Move ℕ)
until_empty = until_recovered ++ At 1 (Starts 1) ∷ finds_nothing

-- HOST 1 TRIES SLOT 1 AGAIN, now with a value: its ballot is above the one that it has entered there, and 9 is chosen and learned.

abbrev pub own_2 : Opened ℕ
own_2 = record { top = 2; own = no_vote }

abbrev pub next_of_1 : Asking ℕ
next_of_1 = first_asking own_2 (2 + HOSTS)

abbrev pub telling_9 : Telling ℕ
telling_9 = record { ballot = 2 + HOSTS; value = 9 }

abbrev pub has_9_chosen : List (Move ℕ)
has_9_chosen =
    in_slot 1
    (Starts 1 ∷ Sees 1 1 none_opened own_2 ∷ Sees 1 2 own_2 own_2 ∷ Takes 1 own_2 (2 + HOSTS)
    ∷ asks 1 1 next_of_1 nobody no_vote ++ asks 1 2 next_of_1 nobody no_vote ++ Proposes 1 next_of_1 9 ∷ tells 1 1 telling_9 nobody
    ++ tells 1 2 telling_9 nobody)
    ++ Learn 1 1 (2 + HOSTS) 9 ∷ []

-- THE HISTORY

abbrev pub history : List (Move ℕ)
history = until_empty ++ has_9_chosen
