-- Marked blocks tell what was chosen before.
use Rattle.std.proofs.Common.{◌≡◌, List, [], ◌∷◌, ◌++◌, sym, subst}
use Rattle.attempt.specs.Answers.{Answered, on, heard_as}
use Rattle.attempt.specs.Setup.{Setup}
use Rattle.attempt.specs.Status.{Ended, Decided, status}
use Rattle.rounds.specs.Look.Status as look
use Rattle.paxos_block.specs.Shape.{Shape}
use Rattle.host.specs.Host.{setup_of, look_of}
use Rattle.world.specs.Entry.{Filled}
use Rattle.world.specs.World.{IsRun}
use Rattle.world_safety.specs.Claims.{MarksChosen, DecidesChosenBefore, LooksToldChosen}
use Rattle.world_safety.specs.Tracks.{IsChosenBefore}
use Rattle.world_safety.proofs.Runs.Tracks.{all_marks_true, decided_at, looked_at}

pub marks_chosen : (c : Shape) (log : List Filled) → IsRun c log → MarksChosen c log
marks_chosen c log run i = all_marks_true c log run i

pub decides_chosen : (c : Shape) (log : List Filled) → IsRun c log → DecidesChosenBefore c log
decides_chosen c log run i s heard value hears ended =
    let own = setup_of c hears.host hears.memory hears.doing.operation in
    let all : List Answered = hears.doing.heard ++ record { disk = hears.disk; heard = heard_as hears.answer } ∷ [] in
    let here : status own (on all) ≡ Ended (Decided value) =
    subst (λ (xs : List Answered). status own (on xs) ≡ Ended (Decided value)) hears.is_heard (subst (λ (t : Setup). status t (on heard) ≡ Ended (Decided value)) hears.is_setup ended) in
    subst (λ (t : Setup). IsChosenBefore c log i t.slot value) (sym hears.is_setup)
    (decided_at c log run i hears.host hears.disk hears.call hears.answer hears.left hears.entry hears.memory hears.doing value hears.running hears.does here)

pub looks_chosen : (c : Shape) (log : List Filled) → IsRun c log → LooksToldChosen c log
looks_chosen c log run i s heard d value hears ended =
    let own = look_of c hears.memory hears.looking.first in
    let all : List Answered = hears.looking.heard ++ record { disk = hears.disk; heard = heard_as hears.answer } ∷ [] in
    let here : look.status own (on all) ≡ look.Ended (look.Decided d value) =
    subst (λ (xs : List Answered). look.status own (on xs) ≡ look.Ended (look.Decided d value)) hears.is_heard (subst (λ (t : look.Setup). look.status t (on heard) ≡ look.Ended (look.Decided d value)) hears.is_setup ended) in
    subst (λ (t : look.Setup). IsChosenBefore c log i t.slot value) (sym hears.is_setup)
    (looked_at c log run i hears.host hears.disk hears.call hears.answer hears.left hears.entry hears.memory hears.looking d value hears.running hears.looks here)
