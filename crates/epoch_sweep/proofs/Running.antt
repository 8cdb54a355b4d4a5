-- Events that happen one after the other, and how the variants end that they have.
use Rattle.std.specs.Prelude.{replicate, is_some, IsSome, if◌then◌else◌}
use Rattle.std.proofs.Common.{ℕ, ◌+◌, ◌≡◌, Bool, true≢false, List, [], ◌∷◌, ◌++◌, drop, Option, Some, None, refl, sym, ap, ◌∙◌, subst, append_assoc, append-nil}
use Rattle.std.proofs.lemmas.List.{replicate-append-replicate}
use Rattle.paxos_block.specs.Shape.{Shape}
use Rattle.lock_script.specs.declared.event.Event.{Event}
use Rattle.epoch_host.specs.declared.task.EpochTask.{EpochTask}
use Rattle.epoch_host.specs.declared.walk.Walk.{Walk}
use Rattle.epoch_simulator.specs.Kept.{Kept, IsHost}
use Rattle.epoch_simulator.specs.Doing.{IsBusy, IsIdle, due, may_tear}
use Rattle.epoch_player.specs.declared.happening.Said.{Said}
use Rattle.epoch_player.specs.Happening.{Happens}
use Rattle.epoch_sweep.specs.declared.tally.End.{End}
use Rattle.epoch_sweep.specs.Sweeping.{heard, Happen, HappenOn, IsEnded, AreEnded, AllEnd, SweptFrom, changed, changes, next_by, next_of}

-- WHAT HAPPENS

pub nothing : (c : Shape) (k : Kept) (told : List Said) → HappenOn c [] k k told told
nothing c k told = ([], (refl, refl), sym (append-nil told))

pub joined : (c : Shape) (a b : List Event) (old now new : Kept) (x y : List Said) → Happen c a old now x → Happen c b now new y → Happen c (a ++ b) old new (x ++ y)
joined c [] b old now new x y (same, none) behind =
    subst (λ (k : Kept). Happen c b k new (x ++ y)) same
    (subst (λ (l : List Said). Happen c b now new (l ++ y)) (sym none) behind)
joined c (event ∷ a) b old now new x y (mid, said, happens, (rest, more, whole)) behind =
    (mid, said, happens, (rest ++ y, joined c a b mid now new rest y more behind, ap (λ (l : List Said). l ++ y) whole ∙ append_assoc (heard said) rest y))

-- events happen, and then others
pub on : (c : Shape) (a b : List Event) (old now new : Kept) (p q r : List Said) → HappenOn c a old now p q → HappenOn c b now new q r → HappenOn c (a ++ b) old new p r
on c a b old now new p q r (x, first, is) (y, later, also) =
    (x ++ y, joined c a b old now new x y first later, also ∙ ap (λ (l : List Said). l ++ y) is ∙ append_assoc p x y)

-- one event happens
pub one_happens : (c : Shape) (event : Event) (old new : Kept) (said : Option Said) → Happens c event old new said → Happen c (event ∷ []) old new (heard said)
one_happens c event old new said happens = (new, said, happens, ([], (refl, refl), sym (append-nil (heard said))))

pub once : (c : Shape) (event : Event) (old new : Kept) (said : Option Said) (p q : List Said) → Happens c event old new said → q ≡ p ++ heard said → HappenOn c (event ∷ []) old new p q
once c event old new said p q happens is = (heard said, one_happens c event old new said happens, is)

-- an event so many times, and then once more
pub again : (c : Shape) (event : Event) (k : ℕ) (old now new : Kept) (said : Option Said) (told : List Said) → Happen c (replicate k event) old now told → Happens c event now new said
    → Happen c (replicate (k + 1) event) old new (told ++ heard said)
again c event k old now new said told before happens =
    subst (λ (l : List Event). Happen c l old new (told ++ heard said)) (replicate-append-replicate k 1 event)
    (joined c (replicate k event) (event ∷ []) old now new told (heard said) before (one_happens c event now new said happens))

-- THE CALL THAT IS DUE

-- one host has a number
pub same_host : (k : Kept) (h : ℕ) (a b : Walk) → IsHost k h a → IsHost k h b → a ≡ b
same_host k h a b is_a is_b = let same : Some a ≡ Some b = sym is_a ∙ is_b in cc

idle_by : (task : Option EpochTask) (next : Option (ℕ × Bool)) → task ≡ None → None ≡ (if is_some task then next else None)
idle_by None next is = refl
idle_by (Some task) next is = absurd (cc)

busy_by : (task : Option EpochTask) (next : Option (ℕ × Bool)) → IsSome task → next ≡ (if is_some task then next else None)
busy_by None next some = absurd (true≢false (sym some))
busy_by (Some task) next some = refl

pub idle_next : (k : Kept) (h : ℕ) → IsIdle k h → None ≡ next_of k h
idle_next k h (w, is, none) = idle_by w.task (Some ((due k h).0, may_tear k h)) none ∙ sym (ap (next_by k h) is)

pub busy_next : (k : Kept) (h : ℕ) → IsBusy k h → Some ((due k h).0, may_tear k h) ≡ next_of k h
busy_next k h (w, is, some) = busy_by w.task (Some ((due k h).0, may_tear k h)) some ∙ sym (ap (next_by k h) is)

-- VARIANTS

-- one variant more ends
ended_more : (c : Shape) (events : List Event) (i : ℕ) (a : List Event) (change : Event) (ends : List End) (end : End) → AreEnded c events i a ends → IsEnded c (changed events i change) end
    → AreEnded c events i (a ++ change ∷ []) (ends ++ end ∷ [])
ended_more c events i [] change ends end none is = (end, is, ([], refl, ap (λ (l : List End). l ++ end ∷ []) none))
ended_more c events i (first ∷ a) change ends end (begins, is_first, (rest, are, whole)) is =
    (begins, is_first, (rest ++ end ∷ [], ended_more c events i a change rest end are is, ap (λ (l : List End). l ++ end ∷ []) whole))

pub none_ends : (c : Shape) (events : List Event) (i : ℕ) (before : List End) → AllEnd c events i [] before before
none_ends c events i before = ([], refl, sym (append-nil before))

pub one_ends : (c : Shape) (events : List Event) (i : ℕ) (a : List Event) (change : Event) (before now : List End) (end : End) → AllEnd c events i a before now → IsEnded c (changed events i change) end
    → AllEnd c events i (a ++ change ∷ []) before (now ++ end ∷ [])
one_ends c events i a change before now end (ends, are, is) ended =
    (ends ++ end ∷ [], ended_more c events i a change ends end are ended, ap (λ (l : List End). l ++ end ∷ []) is ∙ append_assoc before ends (end ∷ []))

-- What is put before each event so far ended so. With how the rest ends it makes how all of it does.
abbrev pub SoFar : Shape → List Event → ℕ → (old now : Kept) → List End → Type 0
SoFar c events i old now ends = (rest : List End) → SweptFrom c events i (drop i events) now rest → SweptFrom c events 0 events old (ends ++ rest)

pub none_so_far : (c : Shape) (events : List Event) (k : Kept) → SoFar c events 0 k k []
none_so_far c events k rest swept = swept

pub one_so_far : (c : Shape) (events : List Event) (i : ℕ) (event : Event) (old now new : Kept) (said : Option Said) (before after : List End) → drop i events ≡ event ∷ drop (i + 1) events
    → SoFar c events i old now before → AllEnd c events i (changes now event) before after → Happens c event now new said → SoFar c events (i + 1) old new after
one_so_far c events i event old now new said before after left so_far (here, are, is) happens rest swept =
    subst (λ (l : List End). SweptFrom c events 0 events old l) (sym (ap (λ (l : List End). l ++ rest) is ∙ append_assoc before here rest))
    (so_far (here ++ rest)
    (subst (λ (l : List Event). SweptFrom c events i l now (here ++ rest)) (sym left)
    (here, are, (new, said, happens, (rest, swept, refl)))))

pub all_so_far : (c : Shape) (events : List Event) (i : ℕ) (old now : Kept) (ends : List End) → drop i events ≡ [] → SoFar c events i old now ends → SweptFrom c events 0 events old ends
all_so_far c events i old now ends none so_far =
    subst (λ (l : List End). SweptFrom c events 0 events old l) (append-nil ends)
    (so_far [] (subst (λ (l : List Event). SweptFrom c events i l now []) (sym none) refl))
