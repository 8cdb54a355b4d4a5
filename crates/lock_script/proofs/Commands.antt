-- Words are read as a command exactly where they spell it.
use Rattle.std.proofs.Common.{◌≡◌, ◌≤◌, ◌<◌, ◌-◌, ◌^◌, ◌∙◌, inl, inr, ℕ, Bool, true, false, cond, List, [], ◌∷◌, ◌++◌, Option, Some, None, arith, refl, sym, ap, subst}
use Rattle.std.specs.Prelude.{codes, decimal}
use Rattle.lock_command.specs.declared.mode.Mode.{Mode}
use Rattle.lock_command.specs.declared.mode.Mode.TheVariants.{Null, ConcurrentRead, ConcurrentWrite, ProtectedRead, ProtectedWrite, Exclusive}
use Rattle.lock_command.specs.declared.number.TheConstants.{HOSTS}
use Rattle.lock_command.specs.declared.command.Command.{Command}
use Rattle.lock_command.specs.declared.command.Action.{Action}
use Rattle.lock_command.specs.declared.command.Action.TheVariants.{Enqueue, Convert, Release, Cancel, Status, Purge, QuietPurge, Forget, CarryLock, CarryClient}
use Rattle.lock_command.specs.Name.{IsName, is_name}
use Rattle.lock_command.specs.Command.{IsValue, FitsAction, Fits}
use Rattle.lock_command.specs.Reading.{◌>>=◌, name_of}
use Rattle.std.specs.Prelude.{bytes_eq}
use Rattle.std.proofs.lemmas.Slice.Eq.{bytes_eq-Decides}
use Rattle.lock_script.specs.Words.{last_word, begins_with, behind_word}
use Rattle.lock_script.specs.Reading.{mode_of, no_queue_at, value_of, value_at, enqueue_at, convert_at, release_at, action_at, command_at, lock_of, host_of, client_of, request_of}
use Rattle.lock_script.specs.Spelling.{AreBytes, CanBeSaid, mode_word, no_queue_words, value_words, kind_word, action_words, command_words}
use Rattle.lock_script.proofs.Readings.{bound, was_passed, is_passed, picked, one_read}
use Rattle.lock_script.proofs.Numbers.{number_in-found, number_in-only}
use Rattle.lock_script.proofs.Givens.{value_of-found, value_of-only}

mode_of-found : (word : List ℕ) (mode : Mode) → mode_of word ≡ Some mode → word ≡ mode_word mode
unfolding mode_of
mode_of-found word mode h =
    elim (picked word (codes "NL") _ _ mode h) [
      | inl p ↦ named Null p.0 p.1
      | inr other ↦ elim (picked word (codes "CR") _ _ mode other) [
        | inl p ↦ named ConcurrentRead p.0 p.1
        | inr other ↦ elim (picked word (codes "CW") _ _ mode other) [
          | inl p ↦ named ConcurrentWrite p.0 p.1
          | inr other ↦ elim (picked word (codes "PR") _ _ mode other) [
            | inl p ↦ named ProtectedRead p.0 p.1
            | inr other ↦ elim (picked word (codes "PW") _ _ mode other) [
              | inl p ↦ named ProtectedWrite p.0 p.1
              | inr other ↦ elim (picked word (codes "EX") _ _ mode other) [
                | inl p ↦ named Exclusive p.0 p.1
                | inr other ↦ absurd (cc)
              ]
            ]
          ]
        ]
      ]
    ] where
      named : (m : Mode) → word ≡ mode_word m → Some m ≡ Some mode → word ≡ mode_word mode
      named m same is = let e : m ≡ mode = cc in same ∙ ap mode_word e

mode_of-only : (mode : Mode) → mode_of (mode_word mode) ≡ Some mode
unfolding mode_of
mode_of-only Null = refl
mode_of-only ConcurrentRead = refl
mode_of-only ConcurrentWrite = refl
mode_of-only ProtectedRead = refl
mode_of-only ProtectedWrite = refl
mode_of-only Exclusive = refl

no_queue_at-found : (words : List (List ℕ)) (no_queue : Bool) → no_queue_at words ≡ Some no_queue → words ≡ no_queue_words no_queue
unfolding no_queue_at
no_queue_at-found [] no_queue h = let e : false ≡ no_queue = cc in ap no_queue_words e
no_queue_at-found (word ∷ []) no_queue h =
    elim (picked word (codes "noqueue") (Some true) None no_queue h) [
      | inl p ↦ let e : true ≡ no_queue = cc in ap (λ w. w ∷ []) p.0 ∙ ap no_queue_words e
      | inr other ↦ absurd (cc)
    ]
no_queue_at-found (word ∷ next ∷ words) no_queue h = absurd (cc)

no_queue_at-only : (no_queue : Bool) → no_queue_at (no_queue_words no_queue) ≡ Some no_queue
unfolding no_queue_at
no_queue_at-only true = refl
no_queue_at-only false = refl

value_at-found : (words : List (List ℕ)) (value : Option (List ℕ)) → value_at words ≡ Some value → (words ≡ value_words value) × IsValue value × AreBytes value
unfolding value_at
value_at-found [] value h = let e : None ≡ value = cc in (ap value_words e, subst IsValue e tt, subst AreBytes e tt)
value_at-found (word ∷ words) value h =
    elim (picked word (codes "value") _ _ value h) [
      | inl p ↦
          let bytes = bound (last_word words >>= value_of) (λ b. Some (Some b)) value p.1 in
          let one = one_read value_of words bytes.0 bytes.1 in
          let given = value_of-found one.word bytes.0 one.reads in
          let e : Some bytes.0 ≡ value = cc in
          (ap (λ w. w ∷ words) p.0 ∙ ap (λ w. codes "value" ∷ w) (one.words_are ∙ ap (λ w. w ∷ []) given.spelled) ∙ ap value_words e, subst IsValue e given.long, subst AreBytes e given.small)
      | inr other ↦ absurd (cc)
    ]

value_at-only : (value : Option (List ℕ)) → IsValue value → AreBytes value → value_at (value_words value) ≡ Some value
unfolding value_at
value_at-only None long small = refl
value_at-only (Some bytes) long small = ap (λ (found : Option (List ℕ)). found >>= λ b. Some (Some b)) (value_of-only bytes long small)

-- `noqueue`, and then a value
behind-found : (words : List (List ℕ)) (value : Option (List ℕ)) → value_at (behind_word (codes "noqueue") words) ≡ Some value
    → (words ≡ no_queue_words (begins_with (codes "noqueue") words) ++ value_words value) × IsValue value × AreBytes value
behind-found [] value h = value_at-found [] value h
behind-found (word ∷ words) value h = by_test (bytes_eq word (codes "noqueue")) (bytes_eq-Decides word (codes "noqueue")).0 h where
  by_test : (test : Bool) → (test ≡ true → word ≡ codes "noqueue") → value_at (cond test words (word ∷ words)) ≡ Some value → (word ∷ words ≡ no_queue_words test ++ value_words value) × IsValue value × AreBytes value
  by_test true same found = let v = value_at-found words value found in (ap (λ w. w ∷ words) (same refl) ∙ ap (λ w. codes "noqueue" ∷ w) v.0, v.1, v.2)
  by_test false same found = value_at-found (word ∷ words) value found

behind-only : (no_queue : Bool) (value : Option (List ℕ)) → IsValue value → AreBytes value → value_at (behind_word (codes "noqueue") (no_queue_words no_queue ++ value_words value)) ≡ Some value
behind-only true value long small = value_at-only value long small
behind-only false None long small = value_at-only None long small
behind-only false (Some bytes) long small = value_at-only (Some bytes) long small

begins-only : (no_queue : Bool) (value : Option (List ℕ)) → begins_with (codes "noqueue") (no_queue_words no_queue ++ value_words value) ≡ no_queue
begins-only true value = refl
begins-only false None = refl
begins-only false (Some bytes) = refl

name_of-found : (word name : List ℕ) → name_of word ≡ Some name → (word ≡ name) × IsName name
name_of-found word name h = let p = was_passed (is_name word) word name h in (p.1, subst IsName p.1 p.0)

-- its numbers are in their ranges, its name is one, and so is its value
pub record FitsAll (action : Action) : Type 0 where
  pub fits : FitsAction action
  pub said : CanBeSaid action

-- words that ask for this
pub record Asks (kind : List ℕ) (words : List (List ℕ)) (action : Action) : Type 0 where
  pub kind_is : kind ≡ kind_word action
  pub words_are : words ≡ action_words action
  pub fits : FitsAll action

-- no reading finds anything where the last step does not
pub nothing : {A B : Type 0} (found : Option A) (y : B) → (found >>= λ _. let none : Option B = None in none) ≡ Some y → ⊥
nothing None y h = cc
nothing (Some x) y h = cc

enqueue_at-found : (kind : List ℕ) (words : List (List ℕ)) (action : Action) → kind ≡ codes "enqueue" → enqueue_at words ≡ Some action → Asks kind words action
unfolding enqueue_at
enqueue_at-found kind [] action named h = absurd (cc)
enqueue_at-found kind (a ∷ []) action named h = absurd (nothing (lock_of a) action h)
enqueue_at-found kind (a ∷ b ∷ []) action named h = let lock = bound (lock_of a) (λ _. mode_of b >>= λ _. None) action h in absurd (nothing (mode_of b) action lock.2)
enqueue_at-found kind (a ∷ b ∷ c ∷ rest) action named h =
    let lock = bound (lock_of a) (λ l. mode_of b >>= λ m. name_of c >>= λ n. no_queue_at rest >>= λ q. Some (Enqueue l n m q)) action h in
    let mode = bound (mode_of b) (λ m. name_of c >>= λ n. no_queue_at rest >>= λ q. Some (Enqueue lock.0 n m q)) action lock.2 in
    let name = bound (name_of c) (λ n. no_queue_at rest >>= λ q. Some (Enqueue lock.0 n mode.0 q)) action mode.2 in
    let last = bound (no_queue_at rest) (λ q. Some (Enqueue lock.0 name.0 mode.0 q)) action name.2 in
    let l = number_in-found 1 65535 a lock.0 lock.1 in
    let m = mode_of-found b mode.0 mode.1 in
    let n = name_of-found c name.0 name.1 in
    let q = no_queue_at-found rest last.0 last.1 in
    let e : Enqueue lock.0 name.0 mode.0 last.0 ≡ action = cc in
    let range : lock.0 < 2 ^ 16 = omega (arith, l.high) in
    let is : a ∷ b ∷ c ∷ rest ≡ decimal lock.0 ∷ mode_word mode.0 ∷ name.0 ∷ no_queue_words last.0 = cc (l.spelled, m, n.0, q) in
    subst (Asks kind (a ∷ b ∷ c ∷ rest)) e (record { kind_is = named; words_are = is; fits = record { fits = ((l.low, range), n.1); said = tt } })

convert_at-found : (kind : List ℕ) (words : List (List ℕ)) (action : Action) → kind ≡ codes "convert" → convert_at words ≡ Some action → Asks kind words action
unfolding convert_at
convert_at-found kind [] action named h = absurd (cc)
convert_at-found kind (a ∷ []) action named h = absurd (nothing (lock_of a) action h)
convert_at-found kind (a ∷ b ∷ rest) action named h =
    let q = begins_with (codes "noqueue") rest in
    let lock = bound (lock_of a) (λ l. mode_of b >>= λ m. value_at (behind_word (codes "noqueue") rest) >>= λ v. Some (Convert l m q v)) action h in
    let mode = bound (mode_of b) (λ m. value_at (behind_word (codes "noqueue") rest) >>= λ v. Some (Convert lock.0 m q v)) action lock.2 in
    let last = bound (value_at (behind_word (codes "noqueue") rest)) (λ v. Some (Convert lock.0 mode.0 q v)) action mode.2 in
    let l = number_in-found 1 65535 a lock.0 lock.1 in
    let m = mode_of-found b mode.0 mode.1 in
    let v = behind-found rest last.0 last.1 in
    let e : Convert lock.0 mode.0 q last.0 ≡ action = cc in
    let range : lock.0 < 2 ^ 16 = omega (arith, l.high) in
    let is : a ∷ b ∷ rest ≡ decimal lock.0 ∷ mode_word mode.0 ∷ (no_queue_words q ++ value_words last.0) =
    (λ i. l.spelled i ∷ m i ∷ v.0 i) in
    subst (Asks kind (a ∷ b ∷ rest)) e (record { kind_is = named; words_are = is; fits = record { fits = ((l.low, range), v.1); said = v.2 } })

release_at-found : (kind : List ℕ) (words : List (List ℕ)) (action : Action) → kind ≡ codes "release" → release_at words ≡ Some action → Asks kind words action
unfolding release_at
release_at-found kind [] action named h = absurd (cc)
release_at-found kind (a ∷ rest) action named h =
    let lock = bound (lock_of a) (λ l. value_at rest >>= λ v. Some (Release l v)) action h in
    let last = bound (value_at rest) (λ v. Some (Release lock.0 v)) action lock.2 in
    let l = number_in-found 1 65535 a lock.0 lock.1 in
    let v = value_at-found rest last.0 last.1 in
    let e : Release lock.0 last.0 ≡ action = cc in
    let range : lock.0 < 2 ^ 16 = omega (arith, l.high) in
    let is : a ∷ rest ≡ decimal lock.0 ∷ value_words last.0 = (λ i. l.spelled i ∷ v.0 i) in
    subst (Asks kind (a ∷ rest)) e (record { kind_is = named; words_are = is; fits = record { fits = ((l.low, range), v.1); said = v.2 } })

-- one lock alone
lock_alone : (kind : List ℕ) (words : List (List ℕ)) (make : ℕ → Action) (action : Action)
    → ((lock : ℕ) → (kind ≡ kind_word (make lock)) × (action_words (make lock) ≡ decimal lock ∷ []) × ((1 ≤ lock) × (lock < 2 ^ 16) → FitsAll (make lock)))
    → ((last_word words >>= lock_of) >>= λ lock. Some (make lock)) ≡ Some action → Asks kind words action
lock_alone kind words make action known h =
    let lock = bound (last_word words >>= lock_of) (λ lock. Some (make lock)) action h in
    let one = one_read lock_of words lock.0 lock.1 in
    let l = number_in-found 1 65535 one.word lock.0 one.reads in
    let e : make lock.0 ≡ action = cc in
    let range : lock.0 < 2 ^ 16 = omega (arith, l.high) in
    let k = known lock.0 in
    subst (Asks kind words) e (record { kind_is = k.0; words_are = one.words_are ∙ ap (λ w. w ∷ []) l.spelled ∙ sym k.1; fits = k.2 (l.low, range) })

host_alone : (kind : List ℕ) (words : List (List ℕ)) (action : Action) → kind ≡ codes "purge"
    → ((last_word words >>= host_of) >>= λ host. Some (Purge host)) ≡ Some action → Asks kind words action
host_alone kind words action named h =
    let host = bound (last_word words >>= host_of) (λ host. Some (Purge host)) action h in
    let one = one_read host_of words host.0 host.1 in
    let l = number_in-found 0 (HOSTS - 1) one.word host.0 one.reads in
    let e : Purge host.0 ≡ action = cc in
    let range : host.0 < HOSTS = omega (arith, l.high) in
    subst (Asks kind words) e (record { kind_is = named; words_are = one.words_are ∙ ap (λ w. w ∷ []) l.spelled; fits = record { fits = range; said = tt } })

client_alone : (kind : List ℕ) (words : List (List ℕ)) (action : Action) → kind ≡ codes "forget"
    → ((last_word words >>= client_of) >>= λ client. Some (Forget client)) ≡ Some action → Asks kind words action
client_alone kind words action named h =
    let client = bound (last_word words >>= client_of) (λ client. Some (Forget client)) action h in
    let one = one_read client_of words client.0 client.1 in
    let l = number_in-found 0 255 one.word client.0 one.reads in
    let e : Forget client.0 ≡ action = cc in
    let range : client.0 < 2 ^ 8 = omega (arith, l.high) in
    subst (Asks kind words) e (record { kind_is = named; words_are = one.words_are ∙ ap (λ w. w ∷ []) l.spelled; fits = record { fits = range; said = tt } })

pub action_at-found : (kind : List ℕ) (words : List (List ℕ)) (action : Action) → action_at kind words ≡ Some action → Asks kind words action
unfolding action_at
action_at-found kind words action h =
    elim (picked kind (codes "enqueue") _ _ action h) [
      | inl p ↦ enqueue_at-found kind words action p.0 p.1
      | inr other ↦ elim (picked kind (codes "convert") _ _ action other) [
        | inl p ↦ convert_at-found kind words action p.0 p.1
        | inr other ↦ elim (picked kind (codes "release") _ _ action other) [
          | inl p ↦ release_at-found kind words action p.0 p.1
          | inr other ↦ elim (picked kind (codes "cancel") _ _ action other) [
            | inl p ↦ lock_alone kind words Cancel action (λ lock. (p.0, refl, λ fits. record { fits = fits; said = tt })) p.1
            | inr other ↦ elim (picked kind (codes "status") _ _ action other) [
              | inl p ↦ lock_alone kind words Status action (λ lock. (p.0, refl, λ fits. record { fits = fits; said = tt })) p.1
              | inr other ↦ elim (picked kind (codes "purge") _ _ action other) [
                | inl p ↦ host_alone kind words action p.0 p.1
                | inr other ↦ elim (picked kind (codes "forget") _ _ action other) [
                  | inl p ↦ client_alone kind words action p.0 p.1
                  | inr other ↦ absurd (cc)
                ]
              ]
            ]
          ]
        ]
      ]
    ]

lock_of-only : (lock : ℕ) → (1 ≤ lock) × (lock < 2 ^ 16) → lock_of (decimal lock) ≡ Some lock
lock_of-only lock fits = number_in-only 1 65535 lock fits.0 (omega (arith, fits.1)) (omega (arith, fits.1))

name_of-only : (name : List ℕ) → IsName name → name_of name ≡ Some name
name_of-only name is = is_passed (is_name name) name is

pub action_at-only : (action : Action) → FitsAction action → CanBeSaid action → action_at (kind_word action) (action_words action) ≡ Some action
unfolding action_at enqueue_at convert_at release_at
action_at-only (Enqueue lock name mode no_queue) fits said =
    ap (λ (found : Option ℕ). found >>= λ l. mode_of (mode_word mode) >>= λ m. name_of name >>= λ n. no_queue_at (no_queue_words no_queue) >>= λ q. Some (Enqueue l n m q)) (lock_of-only lock fits.0)
    ∙ ap (λ (found : Option Mode). found >>= λ m. name_of name >>= λ n. no_queue_at (no_queue_words no_queue) >>= λ q. Some (Enqueue lock n m q)) (mode_of-only mode)
    ∙ ap (λ (found : Option (List ℕ)). found >>= λ n. no_queue_at (no_queue_words no_queue) >>= λ q. Some (Enqueue lock n mode q)) (name_of-only name fits.1)
    ∙ ap (λ (found : Option Bool). found >>= λ q. Some (Enqueue lock name mode q)) (no_queue_at-only no_queue)
action_at-only (Convert lock mode no_queue value) fits said =
    let rest = no_queue_words no_queue ++ value_words value in
    let q = begins_with (codes "noqueue") rest in
    let last = value_at (behind_word (codes "noqueue") rest) in
    ap (λ (found : Option ℕ). found >>= λ l. mode_of (mode_word mode) >>= λ m. last >>= λ v. Some (Convert l m q v)) (lock_of-only lock fits.0)
    ∙ ap (λ (found : Option Mode). found >>= λ m. last >>= λ v. Some (Convert lock m q v)) (mode_of-only mode)
    ∙ ap (λ (found : Option (Option (List ℕ))). found >>= λ v. Some (Convert lock mode q v)) (behind-only no_queue value fits.1 said)
    ∙ ap (λ b. Some (Convert lock mode b value)) (begins-only no_queue value)
action_at-only (Release lock value) fits said =
    ap (λ (found : Option ℕ). found >>= λ l. value_at (value_words value) >>= λ v. Some (Release l v)) (lock_of-only lock fits.0)
    ∙ ap (λ (found : Option (Option (List ℕ))). found >>= λ v. Some (Release lock v)) (value_at-only value fits.1 said)
action_at-only (Cancel lock) fits said = ap (λ (found : Option ℕ). found >>= λ l. Some (Cancel l)) (lock_of-only lock fits)
action_at-only (Status lock) fits said = ap (λ (found : Option ℕ). found >>= λ l. Some (Status l)) (lock_of-only lock fits)
action_at-only (Purge host) fits said = ap (λ (found : Option ℕ). found >>= λ h. Some (Purge h)) (number_in-only 0 (HOSTS - 1) host (omega arith) (omega arith) (omega arith))
action_at-only (QuietPurge host) fits said = absurd said
action_at-only (Forget client) fits said = ap (λ (found : Option ℕ). found >>= λ n. Some (Forget n)) (number_in-only 0 255 client (omega arith) (omega (arith, fits)) (omega (arith, fits)))
action_at-only (CarryLock lock name state value) fits said = absurd said
action_at-only (CarryClient reply) fits said = absurd said

-- words that spell this command, through a host
pub record Commands (host : ℕ) (words : List (List ℕ)) (c : Command) : Type 0 where
  pub host_is : c.host ≡ host
  pub words_are : words ≡ command_words c
  pub client : c.client < 2 ^ 8
  pub request : (1 ≤ c.request) × (c.request ≤ 2 ^ 62)
  pub action : FitsAction c.action
  pub said : CanBeSaid c.action

pub command_at-found : (host : ℕ) (words : List (List ℕ)) (c : Command) → command_at host words ≡ Some c → Commands host words c
unfolding command_at
command_at-found host [] c h = absurd (cc)
command_at-found host (a ∷ []) c h = absurd (cc)
command_at-found host (a ∷ b ∷ []) c h = absurd (nothing (client_of b) c h)
command_at-found host (a ∷ b ∷ d ∷ rest) c h =
    let client = bound (client_of b) (λ n. request_of d >>= λ r. action_at a rest >>= λ x. Some (record { host = host; client = n; request = r; action = x })) c h in
    let request = bound (request_of d) (λ r. action_at a rest >>= λ x. Some (record { host = host; client = client.0; request = r; action = x })) c client.2 in
    let action = bound (action_at a rest) (λ x. Some (record { host = host; client = client.0; request = request.0; action = x })) c request.2 in
    let n = number_in-found 0 255 b client.0 client.1 in
    let r = number_in-found 1 (2 ^ 62) d request.0 request.1 in
    let x = action_at-found a rest action.0 action.1 in
    let made : Command = record { host = host; client = client.0; request = request.0; action = action.0 } in
    let e : made ≡ c = cc in
    let small : client.0 < 2 ^ 8 = omega (arith, n.high) in
    let is : a ∷ b ∷ d ∷ rest ≡ kind_word action.0 ∷ decimal client.0 ∷ decimal request.0 ∷ action_words action.0 = cc (x.kind_is, n.spelled, r.spelled, x.words_are) in
    subst (Commands host (a ∷ b ∷ d ∷ rest)) e (record { host_is = refl; words_are = is; client = small; request = (r.low, r.high); action = x.fits.fits; said = x.fits.said })

pub command_at-only : (c : Command) → Fits c → CanBeSaid c.action → command_at c.host (command_words c) ≡ Some c
unfolding command_at
command_at-only c fits said =
    ap (λ (found : Option ℕ). found >>= λ n. request_of (decimal c.request) >>= λ r. action_at (kind_word c.action) (action_words c.action) >>= λ x. Some (record { host = c.host; client = n; request = r; action = x })) (number_in-only 0 255 c.client (omega arith) (omega (arith, fits.client)) (omega (arith, fits.client)))
    ∙ ap (λ (found : Option ℕ). found >>= λ r. action_at (kind_word c.action) (action_words c.action) >>= λ x. Some (record { host = c.host; client = c.client; request = r; action = x })) (number_in-only 1 (2 ^ 62) c.request fits.request.0 fits.request.1 (omega (arith, fits.request.1)))
    ∙ ap (λ (found : Option Action). found >>= λ x. Some (record { host = c.host; client = c.client; request = c.request; action = x })) (action_at-only c.action fits.action said)
