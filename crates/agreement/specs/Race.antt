-- A race of two hosts on three disks, event by event: host 0 proposes 7, and host 1, which has not seen that, proposes 8.
use Rattle.std.specs.Prelude.{ℕ, suc, Option, Some, None, List, [], ◌∷◌, ◌++◌}
use Rattle.agreement.specs.State.{HOSTS, put, Vote, Block, no_vote, blank, Opened, Asking, Telling, none_opened, first_asking, with_best}
use Rattle.agreement.specs.Event.{Event, write_one, write_two}
use Rattle.agreement.specs.Event.Event.{Settles, Starts, Sees, Takes, Begins, Confirms, ReadsOne, Proposes, ReadsTwo}

-- what a host says in its block
abbrev pub says : ℕ → ℕ → Option ℕ → Block ℕ
says mbal bal inp = record { mbal = mbal; bal = bal; inp = inp }

-- a row of blank blocks, and one in which only host g has said something
abbrev pub nobody : ℕ → Block ℕ
nobody g = blank

abbrev pub only : ℕ → Block ℕ → ℕ → Block ℕ
only g x = put nobody g x

-- in a phase of its attempt a host writes its block on a disk, and then reads the others'
abbrev pub asks : ℕ → ℕ → Asking ℕ → (ℕ → Block ℕ) → Vote ℕ → List (Event ℕ)
asks h d a row best = Begins h d (write_one a) ∷ Confirms h d (write_one a) ∷ ReadsOne h d row a best ∷ []

abbrev pub tells : ℕ → ℕ → Telling ℕ → (ℕ → Block ℕ) → List (Event ℕ)
tells h d t row = Begins h d (write_two t) ∷ Confirms h d (write_two t) ∷ ReadsTwo h d row t ∷ []

-- HOST 0 PREPARES BALLOT 1 on disks 0 and 1, and proposes 7.

abbrev pub asking_0 : Asking ℕ
asking_0 = first_asking none_opened 1

abbrev pub telling_7 : Telling ℕ
telling_7 = record { ballot = 1; value = 7 }

abbrev pub seven_proposed : List (Event ℕ)
seven_proposed =
    (Starts 0 ∷ Sees 0 0 none_opened none_opened ∷ Sees 0 1 none_opened none_opened ∷ Takes 0 none_opened 1 ∷ [])
    ++ asks 0 0 asking_0 nobody no_vote ++ asks 0 1 asking_0 nobody no_vote ++ (Proposes 0 asking_0 7 ∷ [])

-- HOST 0 BEGINS TO VOTE on both disks. While its votes are in writing, HOST 1 PREPARES BALLOT 2 on disks 1 and 2. On disk 1
-- it reads the block that is still confirmed there, finds no vote, and proposes 8.

abbrev pub asking_1 : Asking ℕ
asking_1 = first_asking none_opened 2

abbrev pub telling_8 : Telling ℕ
telling_8 = record { ballot = 2; value = 8 }

abbrev pub eight_proposed : List (Event ℕ)
eight_proposed =
    (Begins 0 0 (write_two telling_7) ∷ Begins 0 1 (write_two telling_7) ∷ [])
    ++ (Starts 1 ∷ Sees 1 1 none_opened none_opened ∷ Sees 1 2 none_opened none_opened ∷ Takes 1 none_opened 2 ∷ [])
    ++ asks 1 1 asking_1 (only 0 (says 1 0 None)) no_vote ++ asks 1 2 asking_1 nobody no_vote ++ (Proposes 1 asking_1 8 ∷ [])

-- HOST 0 RESTARTS within the two writes, and reads its own blocks again: on disk 1 its vote has vanished, on disk 0 it stands.

abbrev pub own_7 : Opened ℕ
own_7 = record { top = 1; own = record { bal = 1; inp = Some 7 } }

abbrev pub seven_vanishes : List (Event ℕ)
seven_vanishes =
    Starts 0 ∷ Settles 0 1 (says 1 0 None) ∷ Sees 0 1 none_opened (record { top = 1; own = no_vote })
    ∷ Settles 0 0 (says 1 1 (Some 7)) ∷ Sees 0 0 (record { top = 1; own = no_vote }) own_7 ∷ []

-- HOST 1 VOTES on disks 1 and 2, and no one has entered a greater ballot there: 8 is chosen.

abbrev pub eight_chosen : List (Event ℕ)
eight_chosen = tells 1 1 telling_8 (only 0 (says 1 0 None)) ++ tells 1 2 telling_8 nobody

-- HOST 0 TRIES AGAIN, with its next ballot. On disk 0 it finds only its own vote for 7, but on disk 1 the later one for 8,
-- and so proposes 8 too.

abbrev pub again : Asking ℕ
again = first_asking own_7 (suc HOSTS)

abbrev pub vote_8 : Vote ℕ
vote_8 = record { bal = 2; inp = Some 8 }

abbrev pub telling_again : Telling ℕ
telling_again = record { ballot = suc HOSTS; value = 8 }

abbrev pub eight_again : List (Event ℕ)
eight_again =
    (Takes 0 own_7 (suc HOSTS) ∷ [])
    ++ asks 0 0 again nobody own_7.own ++ asks 0 1 again (only 1 (says 2 2 (Some 8))) vote_8
    ++ (Proposes 0 (with_best again vote_8) 8 ∷ [])
    ++ tells 0 0 telling_again nobody ++ tells 0 1 telling_again (only 1 (says 2 2 (Some 8)))

-- THE RACE

-- until host 0 has read its blocks again, and the whole
abbrev pub until_vanished : List (Event ℕ)
until_vanished = seven_proposed ++ eight_proposed ++ seven_vanishes

abbrev pub race : List (Event ℕ)
race = until_vanished ++ eight_chosen ++ eight_again
