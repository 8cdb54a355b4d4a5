-- Whether what two recoveries tell goes by what was said before them.
use Rattle.std.specs.Prelude.{◌≡◌, ◌⊎◌, ◌<◌, ℕ, List, All, Option, None, Some}
use Rattle.epoch_host.specs.declared.answer.EpochAnswer.{EpochAnswer}
use Rattle.epoch_host.specs.declared.answer.EpochAnswer.TheVariants.{Ack, Recovered}
use Rattle.epoch_host.specs.Ending.{IsTableOf, IsThere}
use Rattle.epoch_simulator.specs.Kept.{Kept}
use Rattle.epoch_simulator.specs.Doing.{OfDeeds, OfHost}
use Rattle.epoch_player.specs.declared.happening.Said.{Said}
use Rattle.epoch_sweep.specs.declared.ending.Recovery.{Recovery}

-- WHAT A RECOVERY TELLS

-- the place that a recovery tells, if this is its answer
abbrev pub told_by : Option EpochAnswer → Option ℕ
told_by None = None
told_by (Some (Recovered upto)) = Some upto
told_by (Some other) = None

-- A host answered that it has recovered, and its table is the one that is so by whatever it did. Or it did not answer so, or has no table.
abbrev pub IsFound : Kept → (h : ℕ) → Option Recovery → Type 0
IsFound k h None = OfHost k h (λ w. (told_by w.said ≡ None) ⊎ (IsThere w → ⊥))
IsFound k h (Some recovery) =
    OfHost k h (λ w. told_by w.said ≡ Some recovery.upto)
    × OfDeeds k h (λ deeds. (upto : ℕ) × IsTableOf k.shape h deeds upto recovery.table)

-- WHAT IS RIGHT

-- an acknowledged place is below this one
abbrev pub holds_answer : ℕ → EpochAnswer → Type 0
holds_answer upto (Ack place reply) = place < upto
holds_answer upto other = Unit {0}

abbrev pub Holds : ℕ → Said → Type 0
Holds upto said = holds_answer upto said.answer

abbrev pub AllHeld : ℕ → List Said → Type 0
AllHeld upto told = All (Holds upto) told

-- a recovery that answered has all that was acknowledged
abbrev pub HoldAll : List Said → Option Recovery → Type 0
HoldAll told None = Unit {0}
HoldAll told (Some recovery) = AllHeld recovery.upto told

-- two that tell one place show one table
abbrev pub ShowOne : Option Recovery → Option Recovery → Type 0
ShowOne None last = Unit {0}
ShowOne (Some first) None = Unit {0}
ShowOne (Some first) (Some last) = first.upto ≡ last.upto → first.table ≡ last.table

abbrev pub IsRight : List Said → Option Recovery → Option Recovery → Type 0
IsRight told first last = HoldAll told first × HoldAll told last × ShowOne first last
