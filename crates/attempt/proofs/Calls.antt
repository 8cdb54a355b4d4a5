-- The seventeen calls in their order: which call is behind each, and where the writes begin.
use Rattle.std.specs.Prelude.{nat_lt, slice_get, drop}
use Rattle.std.proofs.Common.{ℕ, zero, suc, ◌+◌, ◌<◌, ◌≤◌, ◌≡◌, ◌≢◌, true, Some, List, [], ◌∷◌, ◌++◌, length, refl, sym, subst, arith}
use Rattle.std.proofs.lemmas.Bool.{ltb-true}
use Rattle.torn_block.specs.declared.write_steps.WriteCall.{WriteCall}
use Rattle.torn_block.specs.declared.write_steps.WriteCall.TheVariants.{CloseGate, SyncClosed, PutBody, SyncBody, OpenGate, SyncOpened}
use Rattle.attempt.specs.Calls.{Phase, One, Two, Kind, Attaching, Syncing, Reading, Putting, seventeen, start}
use Rattle.attempt.specs.Answers.{Heard}
use Rattle.attempt.proofs.Lists.{length_more}

-- WHICH IS BEHIND WHICH

abbrev pub Then : Kind → Kind → Type 0
Then Attaching next = next ≡ Syncing
Then Syncing next = next ≡ Reading
Then Reading next = (p : Phase) × (next ≡ Putting p CloseGate)
Then (Putting p CloseGate) next = next ≡ Putting p SyncClosed
Then (Putting p SyncClosed) next = next ≡ Putting p PutBody
Then (Putting p PutBody) next = next ≡ Putting p SyncBody
Then (Putting p SyncBody) next = next ≡ Putting p OpenGate
Then (Putting p OpenGate) next = next ≡ Putting p SyncOpened
Then (Putting p SyncOpened) next = next ≡ Reading

-- behind this call come these, each behind the one before it
abbrev InTurn : Kind → List Kind → Type 0
InTurn kind [] = Unit {0}
InTurn kind (next ∷ kinds) = Then kind next × InTurn next kinds

turn_at : (kind : Kind) (kinds : List Kind) (n : ℕ) (first second : Kind) → InTurn kind kinds → slice_get (kind ∷ kinds) n ≡ Some first → slice_get (kind ∷ kinds) (suc n) ≡ Some second → Then first second
turn_at kind [] n first second turn is then = absurd (cc)
turn_at kind (next ∷ kinds) zero first second turn is then =
    let one : kind ≡ first = cc in
    let two : next ≡ second = cc in
    subst (λ (k : Kind). Then k second) one (subst (Then kind) two turn.0)
turn_at kind (next ∷ kinds) (suc n) first second turn is then = turn_at next kinds n first second turn.1 is then

turn_two : InTurn Reading (drop 10 seventeen)
turn_two = ((Two, refl), (refl, (refl, (refl, (refl, (refl, (refl, tt)))))))

all_turn : InTurn Attaching (drop 1 seventeen)
all_turn = (refl, (refl, ((One, refl), (refl, (refl, (refl, (refl, (refl, (refl, turn_two)))))))))

-- with an answer the next call is behind the one that was answered
pub next_kind : (a : List Heard) (x : Heard) (kind next : Kind) → slice_get seventeen (length a) ≡ Some kind → slice_get seventeen (length (a ++ x ∷ [])) ≡ Some next → Then kind next
next_kind a x kind next is then =
    let number : length (a ++ x ∷ []) ≡ suc (length a) = omega (arith, length_more a x) in
    turn_at Attaching (drop 1 seventeen) (length a) kind next all_turn is (subst (λ (n : ℕ). slice_get seventeen n ≡ Some next) number then)

-- THEIR NUMBERS

-- a write begins with its phase
abbrev Numbered : Kind → ℕ → Type 0
Numbered Attaching n = Unit {0}
Numbered Syncing n = Unit {0}
Numbered Reading n = Unit {0}
Numbered (Putting p CloseGate) n = n ≡ start p
Numbered (Putting p call) n = nat_lt (start p) n ≡ true

abbrev AllNumbered : List Kind → ℕ → Type 0
AllNumbered [] i = Unit {0}
AllNumbered (kind ∷ kinds) i = Numbered kind i × AllNumbered kinds (i + 1)

number_at : (kinds : List Kind) (i n : ℕ) (kind : Kind) → AllNumbered kinds i → slice_get kinds n ≡ Some kind → Numbered kind (i + n)
number_at [] i n kind all is = absurd (cc)
number_at (first ∷ kinds) i zero kind all is =
    let same : first ≡ kind = cc in
    let number : i ≡ i + 0 = omega arith in
    subst (λ (k : Kind). Numbered k (i + 0)) same (subst (Numbered first) number all.0)
number_at (first ∷ kinds) i (suc n) kind all is =
    let number : (i + 1) + n ≡ i + suc n = omega arith in
    subst (Numbered kind) number (number_at kinds (i + 1) n kind all.1 is)

numbered_two : AllNumbered (drop 10 seventeen) 10
numbered_two = (refl, (refl, (refl, (refl, (refl, (refl, (tt, tt)))))))

numbered_all : AllNumbered seventeen 0
numbered_all = (tt, (tt, (tt, (refl, (refl, (refl, (refl, (refl, (refl, (tt, numbered_two))))))))))

numbered : (n : ℕ) (kind : Kind) → slice_get seventeen n ≡ Some kind → Numbered kind n
numbered n kind is = let number : 0 + n ≡ n = omega arith in subst (Numbered kind) number (number_at seventeen 0 n kind numbered_all is)

-- its first call is the first of its phase
pub first_number : (p : Phase) (n : ℕ) → slice_get seventeen n ≡ Some (Putting p CloseGate) → n ≡ start p
first_number p n is = numbered n (Putting p CloseGate) is

-- and no other is
pub later_number : (p : Phase) (call : WriteCall) (n : ℕ) → call ≢ CloseGate → slice_get seventeen n ≡ Some (Putting p call) → start p < n
later_number p CloseGate n later is = absurd (later refl)
later_number p SyncClosed n later is = ltb-true (start p) n (numbered n (Putting p SyncClosed) is)
later_number p PutBody n later is = ltb-true (start p) n (numbered n (Putting p PutBody) is)
later_number p SyncBody n later is = ltb-true (start p) n (numbered n (Putting p SyncBody) is)
later_number p OpenGate n later is = ltb-true (start p) n (numbered n (Putting p OpenGate) is)
later_number p SyncOpened n later is = ltb-true (start p) n (numbered n (Putting p SyncOpened) is)

-- only the first of all is made of a disk that has not answered
pub has_answered : (a : List Heard) (kind : Kind) → kind ≢ Attaching → slice_get seventeen (length a) ≡ Some kind → 1 ≤ length a
has_answered [] kind later is = absurd (later (let same : Attaching ≡ kind = cc in sym same))
has_answered (y ∷ a) kind later is = omega arith
