-- No lock whose turn it is could be granted, in every table that commands can reach.
use Rattle.std.proofs.Common.{◌≡◌, ◌≤◌, ℕ, Bool, true, false, cond, not, ◌&&◌, ◌||◌, List, [], ◌∷◌, ◌++◌, length, Option, Some, None, map, refl, sym, ap, ◌∙◌, arith}
use Rattle.std.specs.List.{filter, find, fold, list_any}
use Rattle.std.proofs.lemmas.List.{nil_from_length}
use Rattle.std.proofs.lemmas.List.Folds.{list_any-append}
use Rattle.lock_command.specs.declared.mode.Mode.{Mode}
use Rattle.lock_command.specs.Name.{same_name}
use Rattle.lock_command.specs.declared.command.Command.{Command}
use Rattle.lock_command.specs.Command.{is_carried}
use Rattle.lock_command.specs.declared.command.Action.{Action}
use Rattle.lock_command.specs.declared.command.Action.TheVariants.{Enqueue, Convert, Release, Cancel, Status, Purge, QuietPurge, Forget, CarryLock, CarryClient}
use Rattle.lock_command.specs.declared.record.LockRecord.{LockRecord}
use Rattle.lock_command.specs.declared.state.LockState.{LockState}
use Rattle.lock_command.specs.declared.state.LockState.TheVariants.{Granted, Converting, Waiting}
use Rattle.lock_command.specs.State.{is_converting, is_waiting, is_queued, goal_of, holds_against}
use Rattle.lock_command.specs.Locks.{is_lock, is_on, in_state, option_or, lock_in, without, put, converts_on, waits_on, conversions, head_of, has_queue, stands_against, admits, settled, settled_all, IsDistinct, is_through, IsSettled}
use Rattle.lock_table.specs.Apply.{CommandOutcome, purged, done, Plain, Applied, applied, no_locks}
use Rattle.lock_table.specs.Carrying.{AreOrdinary}
use Rattle.lock_table.specs.Laws.{IsSettledEverywhere}
use Rattle.lock_index.proofs.Parts.{first, find_is_first, filter-filter, filter_within, or_false}
use Rattle.lock_index.proofs.Numbered.{numbered, numbered-filter, without_absent, IsDistinct-filter, IsDistinct-put}
use Rattle.lock_index.proofs.Turns.{found_first, found_none, filter-put}
use Rattle.lock_table.proofs.Quiet.{find-append}
use Rattle.lock_index.proofs.Apart.{on, and_first, name_is, same_name-itself, admits-on, on-put_apart, on-without_apart, absent_apart, settled-apart}
use Rattle.lock_index.proofs.Queued.{head_on_name}
use Rattle.lock_index.proofs.Settled.{settled_is_settled, is_among, settled_all-on}
use Rattle.lock_table.proofs.Behave.{any-names, distinct-done}
use Rattle.lock_table.proofs.Outcomes.{after_enqueue, after_convert, after_release, after_cancel, after_status, after_forget, after_request}
use Rattle.lock_table.proofs.Reachable.{first_asked}

find_within : (P Q : LockRecord → Bool) → ((r : LockRecord) → P r ≡ true → Q r ≡ true) → (xs : List LockRecord) → find P (filter Q xs) ≡ find P xs
find_within P Q stricter xs = find_is_first P (filter Q xs) ∙ ap first (filter_within P Q stricter xs) ∙ sym (find_is_first P xs)

-- whose turn it is on a name depends on the locks of that name
head-on : (name : List ℕ) (a : List LockRecord) → head_of (on name a) name ≡ head_of a name
head-on name a = λ i. option_or (find_within (converts_on name) (is_on name) (λ r h. and_first _ _ h) a i) (find_within (waits_on name) (is_on name) (λ r h. and_first _ _ h) a i)

admits_on_own : (name : List ℕ) (a : List LockRecord) (r : LockRecord) (mode : Mode) → is_on name r ≡ true → admits (on name a) r.lock r.name mode ≡ admits a r.lock r.name mode
admits_on_own name a r mode own = rw (name_is r.name name own) (admits-on name r.lock mode a)

-- and so does that it could not be granted
settled_by_part : (name : List ℕ) (a b : List LockRecord) → on name a ≡ on name b → IsSettled a name → IsSettled b name
settled_by_part name a b same settled r turn =
    let own = head_on_name name b r turn in
    let before : head_of a name ≡ Some r = sym (head-on name a) ∙ ap (λ x. head_of x name) same ∙ head-on name b ∙ turn in
    sym (admits_on_own name b r (goal_of r.state) own) ∙ ap (λ x. admits x r.lock r.name (goal_of r.state)) (sym same) ∙ admits_on_own name a r (goal_of r.state) own ∙ settled r before

-- a change on one name
settled_after : (changed : List ℕ) (a b : List LockRecord) → IsSettledEverywhere a
    → ((name : List ℕ) → same_name changed name ≡ false → on name a ≡ on name b) → IsSettled b changed → IsSettledEverywhere b
settled_after changed a b before others now name =
    elim (same_name changed name) as (λ t. same_name changed name ≡ t → IsSettled b name) [
      | true ↦ λ e. rw (← name_is changed name e) now
      | false ↦ λ e. settled_by_part name a b (others name e) (before name)
    ] refl

-- where a lock stands
own_number : (a : List LockRecord) (r : LockRecord) → IsDistinct a → lock_in a r.lock ≡ Some r → filter (is_lock r.lock) a ≡ r ∷ []
own_number a r distinct there =
    let found = found_first (is_lock r.lock) a r there in
    let rest : length found.0 ≡ 0 = omega (arith, distinct r.lock, ap length found.1) in
    found.1 ∙ ap (λ l. r ∷ l) (nil_from_length found.0 rest)

pub own_on : (a : List LockRecord) (r : LockRecord) → IsDistinct a → lock_in a r.lock ≡ Some r → 1 ≤ numbered r.lock (on r.name a)
own_on a r distinct there =
    let one : filter (is_lock r.lock) (on r.name a) ≡ cond true (r ∷ []) [] =
    filter-filter (is_lock r.lock) (is_on r.name) a ∙ ap (filter (is_on r.name)) (own_number a r distinct there) ∙ ap (λ t. cond t (r ∷ []) []) (same_name-itself r.name) in
    omega (arith, ap length one)

absent_elsewhere : (a : List LockRecord) (r : LockRecord) (name : List ℕ) → IsDistinct a → lock_in a r.lock ≡ Some r → same_name r.name name ≡ false → numbered r.lock (on name a) ≡ 0
absent_elsewhere a r name distinct there differ = absent_apart r.name name r.lock a differ distinct (own_on a r distinct there)

absent_anywhere : (a : List LockRecord) (lock : ℕ) (name : List ℕ) → lock_in a lock ≡ None → numbered lock (on name a) ≡ 0
absent_anywhere a lock name absent = omega (arith, numbered-filter (is_on name) lock a, ap length (found_none (is_lock lock) a absent))

HasCalm : CommandOutcome → Type 0
HasCalm o = IsSettledEverywhere o.locks

-- a change of a lock, after which its name is settled
calm-settled : (a b : List LockRecord) (name : List ℕ) → IsDistinct b → IsSettledEverywhere a → ((other : List ℕ) → same_name name other ≡ false → on other b ≡ on other a) → IsSettledEverywhere (settled b name)
calm-settled a b name distinct before others =
    settled_after name a (settled b name) before (λ other differ. sym (settled-apart name other b differ distinct ∙ others other differ)) (settled_is_settled b name distinct)

calm-put_settled : (a : List LockRecord) (r : LockRecord) (state : LockState) → IsDistinct a → IsSettledEverywhere a → lock_in a r.lock ≡ Some r → IsSettledEverywhere (settled (put a (in_state r state)) r.name)
calm-put_settled a r state distinct before there =
    calm-settled a (put a (in_state r state)) r.name (IsDistinct-put a (in_state r state) distinct) before
    (λ other differ. on-put_apart other (in_state r state) a differ (absent_elsewhere a r other distinct there differ))

calm-without_settled : (a : List LockRecord) (r : LockRecord) → IsDistinct a → IsSettledEverywhere a → lock_in a r.lock ≡ Some r → IsSettledEverywhere (settled (without a r.lock) r.name)
calm-without_settled a r distinct before there =
    calm-settled a (without a r.lock) r.name (IsDistinct-filter (λ o. not (is_lock r.lock o)) a distinct) before
    (λ other differ. on-without_apart other r.lock a (absent_elsewhere a r other distinct there differ))

and_no : (b : Bool) → (b && false) ≡ false
and_no true = refl
and_no false = refl

or_no : (b : Bool) → (b || false) ≡ b
or_no true = refl
or_no false = refl

not_no : (b : Bool) → not b ≡ true → b ≡ false
not_no true h = let impossible : ⊥ = cc in absurd impossible
not_no false h = refl

-- who queues, told by the two queues
no_queue_state : (b : Bool) (s : LockState) → (b && is_queued s) ≡ false → ((b && is_converting s) ≡ false) × ((b && is_waiting s) ≡ false)
no_queue_state true (Granted m) h = (refl, refl)
no_queue_state true (Converting m w) h = let impossible : ⊥ = cc in absurd impossible
no_queue_state true (Waiting w) h = let impossible : ⊥ = cc in absurd impossible
no_queue_state false s h = (refl, refl)

queue_state : (b : Bool) (s : LockState) → (b && is_converting s) ≡ false → (b && is_waiting s) ≡ false → (b && is_queued s) ≡ false
queue_state true (Granted m) h i = refl
queue_state true (Converting m w) h i = h
queue_state true (Waiting w) h i = i
queue_state false s h i = refl

find_refused : (P : LockRecord → Bool) (x : LockRecord) (xs : List LockRecord) → find P (x ∷ xs) ≡ None → (P x ≡ false) × (find P xs ≡ None)
find_refused P x xs h = elim (P x) as (λ b. P x ≡ b → cond b (Some x) (find P xs) ≡ None → (P x ≡ false) × (find P xs ≡ None)) [
  | true ↦ λ e g. let impossible : ⊥ = cc in absurd impossible
  | false ↦ λ e g. (e, g)
] refl h

find_after_refusal : (P : LockRecord → Bool) (x : LockRecord) (xs : List LockRecord) → P x ≡ false → find P xs ≡ None → find P (x ∷ xs) ≡ None
find_after_refusal P x xs e rest = ap (λ b. cond b (Some x) (find P xs)) e ∙ rest

no_queue_finds_none : (name : List ℕ) (a : List LockRecord) → has_queue a name ≡ false → (find (converts_on name) a ≡ None) × (find (waits_on name) a ≡ None)
no_queue_finds_none name [] h = (refl, refl)
no_queue_finds_none name (x ∷ xs) h =
    let parts = or_false (is_on name x && is_queued x.state) (has_queue xs name) h in
    let states = no_queue_state (is_on name x) x.state parts.0 in
    let rest = no_queue_finds_none name xs parts.1 in
    (find_after_refusal (converts_on name) x xs states.0 rest.0, find_after_refusal (waits_on name) x xs states.1 rest.1)

no_head_no_queue : (name : List ℕ) (a : List LockRecord) → find (converts_on name) a ≡ None → find (waits_on name) a ≡ None → has_queue a name ≡ false
no_head_no_queue name [] c w = refl
no_head_no_queue name (x ∷ xs) c w =
    let first_c = find_refused (converts_on name) x xs c in
    let first_w = find_refused (waits_on name) x xs w in
    λ i. queue_state (is_on name x) x.state first_c.0 first_w.0 i || no_head_no_queue name xs first_c.1 first_w.1 i

-- a lock that is granted at once: nobody queues on its name
calm-granted : (a : List LockRecord) (new : LockRecord) (mode : Mode) → IsSettledEverywhere a → lock_in a new.lock ≡ None → has_queue a new.name ≡ false → IsSettledEverywhere (put a (in_state new (Granted mode)))
calm-granted a new mode before absent nobody =
    let g = in_state new (Granted mode) in
    let none = no_queue_finds_none new.name a nobody in
    let conversion : find (converts_on new.name) (put a g) ≡ None = find_is_first (converts_on new.name) (put a g) ∙ ap first (filter-put (converts_on new.name) a g (and_no (is_on new.name g)) ∙ ap (λ l. without l g.lock) (found_none (converts_on new.name) a none.0)) in
    let waits : find (waits_on new.name) (put a g) ≡ None = find_is_first (waits_on new.name) (put a g) ∙ ap first (filter-put (waits_on new.name) a g (and_no (is_on new.name g)) ∙ ap (λ l. without l g.lock) (found_none (waits_on new.name) a none.1)) in
    settled_after new.name a (put a g) before (λ other differ. sym (on-put_apart other g a differ (absent_anywhere a new.lock other absent)))
    (λ r turn. let clash : None ≡ Some r = sym (λ i. option_or (conversion i) (waits i)) ∙ turn in let impossible : ⊥ = cc in absurd impossible)

absent_without : (a : List LockRecord) (lock : ℕ) → lock_in a lock ≡ None → without a lock ≡ a
absent_without a lock absent = without_absent lock a (ap length (found_none (is_lock lock) a absent))

last_choice : (c w : Option LockRecord) (r : LockRecord) → option_or (option_or c None) (option_or w (Some r)) ≡ option_or (option_or c w) (Some r)
last_choice None None r = refl
last_choice None (Some x) r = refl
last_choice (Some x) w r = refl

-- a lock that waits is admitted or not as before it came
admits-waiting : (a : List LockRecord) (r : LockRecord) (wanted : Mode) (lock : ℕ) (name : List ℕ) (mode : Mode) → admits (a ++ in_state r (Waiting wanted) ∷ []) lock name mode ≡ admits a lock name mode
admits-waiting a r wanted lock name mode =
    let idle : stands_against lock name mode (in_state r (Waiting wanted)) ≡ false = ap (λ b. is_on name r && b) (and_no (not (is_lock lock r))) ∙ and_no (is_on name r) in
    ap not (list_any-append (stands_against lock name mode) a (in_state r (Waiting wanted) ∷ []) ∙ ap (λ b. list_any (stands_against lock name mode) a || (b || false)) idle ∙ or_no (list_any (stands_against lock name mode) a))

blocked : (q m : Bool) → (not q && m) ≡ false → q ≡ false → m ≡ false
blocked true m h e = let impossible : ⊥ = cc in absurd impossible
blocked false m h e = h

-- a lock that queues behind the others
calm-queued : (a : List LockRecord) (new : LockRecord) (mode : Mode) → IsSettledEverywhere a → lock_in a new.lock ≡ None → (not (has_queue a new.name) && admits a new.lock new.name mode) ≡ false → IsSettledEverywhere (put a (in_state new (Waiting mode)))
calm-queued a new mode before absent may =
    let w = in_state new (Waiting mode) in
    let name = new.name in
    let is : put a w ≡ a ++ w ∷ [] = ap (λ l. l ++ w ∷ []) (absent_without a new.lock absent) in
    let own : is_on name w ≡ true = same_name-itself name in
    let conversion : find (converts_on name) (a ++ w ∷ []) ≡ option_or (find (converts_on name) a) None = find-append (converts_on name) a (w ∷ []) ∙ ap (λ b. option_or (find (converts_on name) a) (cond b (Some w) None)) (and_no (is_on name w)) in
    let waits : find (waits_on name) (a ++ w ∷ []) ≡ option_or (find (waits_on name) a) (Some w) = find-append (waits_on name) a (w ∷ []) ∙ ap (λ b. option_or (find (waits_on name) a) (cond (b && true) (Some w) None)) own in
    let head : head_of (a ++ w ∷ []) name ≡ option_or (head_of a name) (Some w) = (λ i. option_or (conversion i) (waits i)) ∙ last_choice (find (converts_on name) a) (find (waits_on name) a) w in
    let now : IsSettled (a ++ w ∷ []) name = λ r turn.
    elim (head_of a name) as (λ h. head_of a name ≡ h → option_or h (Some w) ≡ Some r → admits (a ++ w ∷ []) r.lock r.name (goal_of r.state) ≡ false) [
      | Some x ↦ λ e found. let same : x ≡ r = cc in admits-waiting a new mode r.lock r.name (goal_of r.state) ∙ before name r (e ∙ ap Some same)
      | None ↦ λ e found.
          let same : w ≡ r = cc in
          let nobody : has_queue a name ≡ false = elim (find (converts_on name) a) as (λ c. find (converts_on name) a ≡ c → option_or c (find (waits_on name) a) ≡ None → has_queue a name ≡ false) [
            | None ↦ λ c h. no_head_no_queue name a c h
            | Some y ↦ λ c h. let impossible : ⊥ = cc in absurd impossible
          ] refl e in
          rw (← same) (admits-waiting a new mode new.lock name mode ∙ blocked (has_queue a name) (admits a new.lock name mode) may nobody)
    ] refl (sym head ∙ turn) in
    settled_after name a (put a w) before (λ other differ. sym (on-put_apart other w a differ (absent_anywhere a new.lock other absent))) (rw is now)

or_middle : (p x y : Bool) → (p || (x || y)) ≡ (x || (p || y))
or_middle true true y = refl
or_middle true false y = refl
or_middle false x y = refl

or_front : (p x y : Bool) → (p || (x || y)) ≡ ((p || x) || y)
or_front true x y = refl
or_front false x y = refl

any_parts : (P K : LockRecord → Bool) (xs : List LockRecord) → list_any P xs ≡ (list_any P (filter (λ o. not (K o)) xs) || list_any P (filter K xs))
any_parts P K [] = refl
any_parts P K (x ∷ xs) = elim (K x) as (λ k. (P x || list_any P xs) ≡ (list_any P (cond (not k) (x ∷ filter (λ o. not (K o)) xs) (filter (λ o. not (K o)) xs)) || list_any P (cond k (x ∷ filter K xs) (filter K xs)))) [
  | true ↦ ap (λ b. P x || b) (any_parts P K xs) ∙ or_middle (P x) (list_any P (filter (λ o. not (K o)) xs)) (list_any P (filter K xs))
  | false ↦ ap (λ b. P x || b) (any_parts P K xs) ∙ or_front (P x) (list_any P (filter (λ o. not (K o)) xs)) (list_any P (filter K xs))
]

-- a lock that starts to convert holds what it held
admits-converting : (a : List LockRecord) (r : LockRecord) (held wanted : Mode) (lock : ℕ) (name : List ℕ) (mode : Mode) → IsDistinct a → lock_in a r.lock ≡ Some r → r.state ≡ Granted held
    → admits (put a (in_state r (Converting held wanted))) lock name mode ≡ admits a lock name mode
admits-converting a r held wanted lock name mode distinct there is =
    let P = stands_against lock name mode in
    let alike : P (in_state r (Converting held wanted)) ≡ P r = ap (λ s. is_on name r && (not (is_lock lock r) && holds_against mode s)) (sym is) in
    ap not (list_any-append P (without a r.lock) (in_state r (Converting held wanted) ∷ []) ∙ ap (λ b. list_any P (without a r.lock) || (b || false)) alike
    ∙ sym (any_parts P (is_lock r.lock) a ∙ ap (λ l. list_any P (without a r.lock) || list_any P l) (own_number a r distinct there)))

-- a conversion that queues behind the others
calm-converting : (a : List LockRecord) (r : LockRecord) (held mode : Mode) → IsDistinct a → IsSettledEverywhere a → lock_in a r.lock ≡ Some r → r.state ≡ Granted held
    → admits a r.lock r.name mode ≡ false → IsSettledEverywhere (put a (in_state r (Converting held mode)))
calm-converting a r held mode distinct before there is may =
    let k = in_state r (Converting held mode) in
    let name = r.name in
    let own : is_on name k ≡ true = same_name-itself name in
    let idle : converts_on name r ≡ false = ap (λ s. is_on name r && is_converting s) is ∙ and_no (is_on name r) in
    let none : filter (is_lock r.lock) (conversions a name) ≡ [] = filter-filter (is_lock r.lock) (converts_on name) a ∙ ap (filter (converts_on name)) (own_number a r distinct there) ∙ ap (λ b. cond b (r ∷ []) []) idle in
    let others : filter (converts_on name) (without a r.lock) ≡ conversions a name = filter-filter (converts_on name) (λ o. not (is_lock r.lock o)) a ∙ without_absent r.lock (conversions a name) (ap length none) in
    let kept : find (converts_on name) (without a r.lock) ≡ find (converts_on name) a = find_is_first (converts_on name) (without a r.lock) ∙ ap first others ∙ sym (find_is_first (converts_on name) a) in
    let conversion : find (converts_on name) (put a k) ≡ option_or (find (converts_on name) a) (Some k) =
    find-append (converts_on name) (without a r.lock) (k ∷ []) ∙ (λ i. option_or (kept i) (cond (own i && true) (Some k) None)) in
    let now : IsSettled (put a k) name = λ x turn.
    elim (find (converts_on name) a) as (λ c. find (converts_on name) a ≡ c → option_or (option_or c (Some k)) (find (waits_on name) (put a k)) ≡ Some x → admits (put a k) x.lock x.name (goal_of x.state) ≡ false) [
      | Some y ↦ λ e found.
          let same : y ≡ x = cc in
          let head : head_of a name ≡ Some x = ap (λ c. option_or c (find (waits_on name) a)) e ∙ ap Some same in
          admits-converting a r held mode x.lock x.name (goal_of x.state) distinct there is ∙ before name x head
      | None ↦ λ e found.
          let same : k ≡ x = cc in
          rw (← same) (admits-converting a r held mode r.lock name mode distinct there is ∙ may)
    ] refl (ap (λ c. option_or c (find (waits_on name) (put a k))) (sym conversion) ∙ turn) in
    settled_after name a (put a k) before (λ other differ. sym (on-put_apart other k a differ (absent_elsewhere a r other distinct there differ))) now

and_parts : (a b : Bool) → (a && b) ≡ true → a ≡ true
and_parts true b h = refl
and_parts false b h = h

-- a name that no lock of a part is on keeps its locks without that part
part_apart : (P T : LockRecord → Bool) (xs : List LockRecord) → list_any P (filter T xs) ≡ false → filter P (filter (λ o. not (T o)) xs) ≡ filter P xs
part_apart P T [] h = refl
part_apart P T (x ∷ xs) h =
    elim (T x) as (λ t. list_any P (cond t (x ∷ filter T xs) (filter T xs)) ≡ false → filter P (cond (not t) (x ∷ filter (λ o. not (T o)) xs) (filter (λ o. not (T o)) xs)) ≡ cond (P x) (x ∷ filter P xs) (filter P xs)) [
      | true ↦ λ g.
          let parts = or_false (P x) (list_any P (filter T xs)) g in
          part_apart P T xs parts.1 ∙ ap (λ b. cond b (x ∷ filter P xs) (filter P xs)) (sym parts.0)
      | false ↦ λ g. ap (λ l. cond (P x) (x ∷ l) l) (part_apart P T xs g)
    ] h

calm-purged : (a : List LockRecord) (host : ℕ) → IsDistinct a → IsSettledEverywhere a → IsSettledEverywhere (purged a host).locks
calm-purged a host distinct before name =
    let gone = filter (is_through host) a in
    let left = filter (λ r. not (is_through host r)) a in
    let names = map (λ (r : LockRecord). r.name) gone in
    let distinct_left : IsDistinct left = IsDistinct-filter (λ r. not (is_through host r)) a distinct in
    let part = settled_all-on names name left distinct_left in
    elim (is_among names name) as (λ t. is_among names name ≡ t → on name (settled_all left names) ≡ cond t (settled (on name left) name) (on name left) → IsSettled (settled_all left names) name) [
      | true ↦ λ e is.
          settled_by_part name (settled (on name left) name) (settled_all left names)
          (ap (on name) (sym is) ∙ filter_within (is_on name) (is_on name) (λ r h. h) (settled_all left names))
          (settled_is_settled (on name left) name (IsDistinct-filter (is_on name) left distinct_left))
      | false ↦ λ e is.
          settled_by_part name a (settled_all left names) (sym (is ∙ part_apart (is_on name) (is_through host) a (sym (any-names name gone) ∙ e))) (before name)
    ] refl part

calm-done : (a : List LockRecord) (host client : ℕ) (action : Action) → is_carried action ≡ false → IsDistinct a → IsSettledEverywhere a → IsSettledEverywhere (done a host client action).locks
unfolding HasCalm
calm-done a host client (Enqueue lock name mode no_queue) asked distinct before =
    let new : LockRecord = record { lock = lock; client = client; host = host; name = name; state = Waiting mode } in
    after_enqueue HasCalm a (λ why. before) new mode no_queue
    (λ place may. calm-granted a new mode before place.free (not_no (has_queue a name) (and_parts _ _ may)))
    (λ place may. calm-queued a new mode before place.free may)
calm-done a host client (Convert lock mode no_queue value) asked distinct before =
    after_convert HasCalm a (λ why. before) client lock mode no_queue
    (λ r held there is may. calm-put_settled a r (Granted mode) distinct before there)
    (λ r held there is may. calm-converting a r held mode distinct before there is may)
calm-done a host client (Release lock value) asked distinct before = after_release HasCalm a (λ why. before) client lock (λ r found there. calm-without_settled a r distinct before there)
calm-done a host client (Cancel lock) asked distinct before =
    after_cancel HasCalm a (λ why. before) client lock
    (λ r held wanted there is. calm-put_settled a r (Granted held) distinct before there)
    (λ r found there. calm-without_settled a r distinct before there)
calm-done a host client (Status lock) asked distinct before = after_status HasCalm a (λ why. before) lock (λ r. before)
calm-done a host client (Purge gone) asked distinct before = calm-purged a gone distinct before
calm-done a host client (QuietPurge gone) asked distinct before = calm-purged a gone distinct before
calm-done a host client (Forget gone) asked distinct before = after_forget HasCalm a (λ why. before) gone before
calm-done a host client (CarryLock lock name state value) asked distinct before = let impossible : ⊥ = cc in absurd impossible
calm-done a host client (CarryClient reply) asked distinct before = before

-- the two together, which every command keeps
pub record IsCalm (locks : List LockRecord) : Type 0 where
  pub distinct : IsDistinct locks
  pub settled : IsSettledEverywhere locks

HasCalmAfter : Applied → Type 0
HasCalmAfter x = IsCalm x.table.locks

both-done : (t : Plain) (c : Command) → is_carried c.action ≡ false → IsCalm t.locks → IsCalm (done t.locks c.host c.client c.action).locks
both-done t c asked calm = record { distinct = distinct-done t.locks c.host c.client c.action calm.distinct; settled = calm-done t.locks c.host c.client c.action asked calm.distinct calm.settled }

calm-applied : (t : Plain) (c : Command) → is_carried c.action ≡ false → IsCalm t.locks → IsCalm (applied t c).table.locks
unfolding HasCalmAfter
calm-applied t c asked calm =
    let done = both-done t c asked calm in
    after_request HasCalmAfter t c (λ reply. calm) (λ unknown room. done) (λ k known later. done)

pub calm_from : (commands : List Command) (t : Plain) → AreOrdinary commands → IsCalm t.locks → IsCalm (fold (λ u c. (applied u c).table) t commands).locks
calm_from [] t all calm = calm
calm_from (c ∷ commands) t all calm = calm_from commands (applied t c).table (first_asked c commands all).1 (calm-applied t c (first_asked c commands all).0 calm)

pub no_locks_calm : IsCalm no_locks.locks
no_locks_calm = record { distinct = λ lock. omega arith; settled = λ name r turn. let impossible : ⊥ = cc in absurd impossible }
