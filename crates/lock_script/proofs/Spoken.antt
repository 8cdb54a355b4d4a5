-- Words are read as a line exactly where they spell it.
use Rattle.std.proofs.Common.{◌≡◌, ◌<◌, ◌≤◌, ◌-◌, ◌∙◌, inl, inr, ℕ, List, [], ◌∷◌, Option, Some, arith, refl, sym, ap, subst}
use Rattle.std.specs.Prelude.{codes, decimal}
use Rattle.torn_block.specs.declared.layout.TheConstants.{DISKS, SLOTS}
use Rattle.paxos_block.specs.Shape.{Shape}
use Rattle.lock_command.specs.declared.number.TheConstants.{HOSTS}
use Rattle.lock_command.specs.declared.command.Command.{Command}
use Rattle.lock_command.specs.Command.{Fits as FitsCommand}
use Rattle.lock_command.specs.Reading.{◌>>=◌}
use Rattle.lock_script.specs.declared.event.Event.TheVariants.{Start, Stop, Submit, Recover, Look, Beat, Mark, Step, Tear, FailCall, DiskCrash, DiskGone}
use Rattle.lock_script.specs.declared.line.Line.{Line}
use Rattle.lock_script.specs.declared.show.View.{View}
use Rattle.lock_script.specs.declared.show.View.TheVariants.{Queues, Blocking}
use Rattle.lock_script.specs.declared.line.Line.TheVariants.{Cluster, Log, Once, Steps, Show}
use Rattle.lock_script.specs.Words.{first_word, words_behind, last_word}
use Rattle.lock_script.specs.Reading.{number_in, host_of, disk_of, slot_of, tries_of, times_of, given_of, command_at, cluster_at, log_at, submit_at, recover_at, mark_at, step_at, tear_at, fail_at, crash_at, plain_at, show_at, said_at, line_at}
use Rattle.lock_script.specs.Spelling.{hex_word, command_words, view_word, line_words, AreGiven, IsTries, FitsSubmitted, FitsEvent, FitsFirst, FitsBehind}
use Rattle.lock_script.proofs.Readings.{bound, picked, one_read}
use Rattle.lock_script.proofs.Numbers.{number_in-found, number_in-only}
use Rattle.lock_script.proofs.Givens.{given_of-found, given_of-only}
use Rattle.lock_script.proofs.Commands.{nothing, command_at-found, command_at-only}

-- the largest cluster
abbrev pub largest : Shape
largest = record { disks = DISKS; slots = SLOTS }

-- the numbers of a line are in their ranges, whatever the cluster
abbrev pub FitsLine : Line → Type 0
FitsLine (Cluster shape) = FitsFirst shape
FitsLine (Log command) = FitsSubmitted command
FitsLine (Once event) = FitsEvent largest event
FitsLine (Steps host times) = FitsBehind largest (Steps host times)
FitsLine (Show view host) = FitsBehind largest (Show view host)

-- words that spell this line
pub record Spells (words : List (List ℕ)) (line : Line) : Type 0 where
  pub words_are : words ≡ line_words line
  pub fits : FitsLine line

-- two words
record ReadTwo {A B : Type 0} (read : List ℕ → Option A) (next : List ℕ → Option B) (make : A → B → Line) (words : List (List ℕ)) (line : Line) : Type 0 where
  first : List ℕ
  second : List ℕ
  a : A
  b : B
  words_are : words ≡ first ∷ second ∷ []
  reads : read first ≡ Some a
  then_reads : next second ≡ Some b
  made : make a b ≡ line

two_read : {A B : Type 0} (read : List ℕ → Option A) (next : List ℕ → Option B) (make : A → B → Line) (words : List (List ℕ)) (line : Line)
    → ((first_word words >>= read) >>= λ x. (last_word (words_behind words) >>= next) >>= λ y. Some (make x y)) ≡ Some line → ReadTwo read next make words line
two_read read next make [] line h = absurd (cc)
two_read read next make (u ∷ []) line h = absurd (nothing (read u) line h)
two_read read next make (u ∷ v ∷ []) line h =
    let one = bound (read u) (λ x. next v >>= λ y. Some (make x y)) line h in
    let two = bound (next v) (λ y. Some (make one.0 y)) line one.2 in
    let e : make one.0 two.0 ≡ line = cc in
    record { first = u; second = v; a = one.0; b = two.0; words_are = refl; reads = one.1; then_reads = two.1; made = e }
two_read read next make (u ∷ v ∷ w ∷ words) line h = absurd (nothing (read u) line h)

-- two words, each the only one that is read so
two_spelled : {A B : Type 0} (read : List ℕ → Option A) (next : List ℕ → Option B) (make : A → B → Line) (u v : List ℕ) (a : A) (b : B) → read u ≡ Some a → next v ≡ Some b
    → (read u >>= λ x. next v >>= λ y. Some (make x y)) ≡ Some (make a b)
two_spelled read next make u v a b one two =
    ap (λ found. found >>= λ x. next v >>= λ y. Some (make x y)) one ∙ ap (λ found. found >>= λ y. Some (make a y)) two

cluster_found : (kind : List ℕ) (words : List (List ℕ)) (line : Line) → kind ≡ codes "cluster" → cluster_at words ≡ Some line → Spells (kind ∷ words) line
unfolding cluster_at
cluster_found kind words line named h =
    let make : ℕ → ℕ → Line = λ d s. Cluster (record { disks = d; slots = s }) in
    let r = two_read (number_in 1 7) (number_in 1 4096) make words line h in
    let d = number_in-found 1 7 r.first r.a r.reads in
    let s = number_in-found 1 4096 r.second r.b r.then_reads in
    let is : kind ∷ words ≡ codes "cluster" ∷ decimal r.a ∷ decimal r.b ∷ [] = cc (named, r.words_are, d.spelled, s.spelled) in
    subst (Spells (kind ∷ words)) r.made (record { words_are = is; fits = record { disks = (d.low, d.high); slots = (s.low, s.high) } })

recover_found : (kind : List ℕ) (words : List (List ℕ)) (line : Line) → kind ≡ codes "recover" → recover_at words ≡ Some line → Spells (kind ∷ words) line
unfolding recover_at
recover_found kind words line named h =
    let r = two_read host_of tries_of (λ x y. Once (Recover x y)) words line h in
    let d = number_in-found 0 (HOSTS - 1) r.first r.a r.reads in
    let s = number_in-found 1 255 r.second r.b r.then_reads in
    let is : kind ∷ words ≡ codes "recover" ∷ decimal r.a ∷ decimal r.b ∷ [] = cc (named, r.words_are, d.spelled, s.spelled) in
    let host : r.a < HOSTS = omega (arith, d.high) in
    subst (Spells (kind ∷ words)) r.made (record { words_are = is; fits = (host, (s.low, s.high)) })

-- a number from 0 on, and given bytes
given_found : (most : ℕ) (make : ℕ → List ℕ → Line) (kind name : List ℕ) (words : List (List ℕ)) (line : Line) → kind ≡ name
    → ((first_word words >>= number_in 0 most) >>= λ x. (last_word (words_behind words) >>= given_of) >>= λ y. Some (make x y)) ≡ Some line
    → ((a : ℕ) (given : List ℕ) → line_words (make a given) ≡ name ∷ decimal a ∷ hex_word given ∷ [])
    → ((a : ℕ) (given : List ℕ) → a ≤ most → AreGiven given → FitsLine (make a given)) → Spells (kind ∷ words) line
given_found most make kind name words line named h spelled fits =
    let r = two_read (number_in 0 most) given_of make words line h in
    let d = number_in-found 0 most r.first r.a r.reads in
    let s = given_of-found r.second r.b r.then_reads in
    let is : kind ∷ words ≡ name ∷ decimal r.a ∷ hex_word r.b ∷ [] = cc (named, r.words_are, d.spelled, s.spelled) in
    subst (Spells (kind ∷ words)) r.made (record { words_are = is ∙ sym (spelled r.a r.b); fits = fits r.a r.b d.high s.fits })

tear_found : (kind : List ℕ) (words : List (List ℕ)) (line : Line) → kind ≡ codes "tear" → tear_at words ≡ Some line → Spells (kind ∷ words) line
unfolding tear_at
tear_found kind words line named h = given_found (HOSTS - 1) (λ x y. Once (Tear x y)) kind (codes "tear") words line named h (λ a given. refl) (λ a given few are. (omega (arith, few), are))

fail_found : (kind : List ℕ) (words : List (List ℕ)) (line : Line) → kind ≡ codes "fail" → fail_at words ≡ Some line → Spells (kind ∷ words) line
unfolding fail_at
fail_found kind words line named h = given_found (HOSTS - 1) (λ x y. Once (FailCall x y)) kind (codes "fail") words line named h (λ a given. refl) (λ a given few are. (omega (arith, few), are))

crash_found : (kind : List ℕ) (words : List (List ℕ)) (line : Line) → kind ≡ codes "crash" → crash_at words ≡ Some line → Spells (kind ∷ words) line
unfolding crash_at
crash_found kind words line named h = given_found (DISKS - 1) (λ x y. Once (DiskCrash x y)) kind (codes "crash") words line named h (λ a given. refl) (λ a given few are. (omega (arith, few), are))

step_found : (kind : List ℕ) (words : List (List ℕ)) (line : Line) → kind ≡ codes "step" → step_at words ≡ Some line → Spells (kind ∷ words) line
unfolding step_at
step_found kind [] line named h = absurd (cc)
step_found kind (a ∷ []) line named h =
    let host = bound (host_of a) (λ x. Some (Once (Step x))) line h in
    let d = number_in-found 0 (HOSTS - 1) a host.0 host.1 in
    let e : Once (Step host.0) ≡ line = cc in
    let is : kind ∷ a ∷ [] ≡ codes "step" ∷ decimal host.0 ∷ [] = cc (named, d.spelled) in
    let range : host.0 < HOSTS = omega (arith, d.high) in
    subst (Spells (kind ∷ a ∷ [])) e (record { words_are = is; fits = range })
step_found kind (a ∷ b ∷ []) line named h =
    let host = bound (host_of a) (λ x. times_of b >>= λ y. Some (Steps x y)) line h in
    let times = bound (times_of b) (λ y. Some (Steps host.0 y)) line host.2 in
    let d = number_in-found 0 (HOSTS - 1) a host.0 host.1 in
    let s = number_in-found 1 100000 b times.0 times.1 in
    let e : Steps host.0 times.0 ≡ line = cc in
    let is : kind ∷ a ∷ b ∷ [] ≡ codes "step" ∷ decimal host.0 ∷ decimal times.0 ∷ [] = cc (named, d.spelled, s.spelled) in
    let range : host.0 < HOSTS = omega (arith, d.high) in
    subst (Spells (kind ∷ a ∷ b ∷ [])) e (record { words_are = is; fits = (range, s.low, s.high) })
step_found kind (a ∷ b ∷ c ∷ words) line named h = absurd (nothing (host_of a) line h)

-- a host's word, and those of a command that it submits
command_read : (word : List ℕ) (rest : List (List ℕ)) (host : ℕ) (c : Command) → host_of word ≡ Some host → command_at host rest ≡ Some c → (word ≡ decimal c.host) × (rest ≡ command_words c) × FitsSubmitted c
command_read word rest host c named found =
    let d = number_in-found 0 (HOSTS - 1) word host named in
    let s = command_at-found host rest c found in
    let range : c.host < HOSTS = omega (arith, d.high, s.host_is) in
    let fits : FitsCommand c = record { host = range; client = s.client; request = s.request; action = s.action } in
    (d.spelled ∙ ap decimal (sym s.host_is), s.words_are, record { fits = fits; said = s.said })

log_found : (kind : List ℕ) (words : List (List ℕ)) (line : Line) → kind ≡ codes "log" → log_at words ≡ Some line → Spells (kind ∷ words) line
unfolding log_at
log_found kind [] line named h = absurd (cc)
log_found kind (a ∷ rest) line named h =
    let host = bound (host_of a) (λ x. command_at x rest >>= λ z. Some (Log z)) line h in
    let command = bound (command_at host.0 rest) (λ z. Some (Log z)) line host.2 in
    let c = command_read a rest host.0 command.0 host.1 command.1 in
    let e : Log command.0 ≡ line = cc in
    let is : kind ∷ a ∷ rest ≡ codes "log" ∷ decimal command.0.host ∷ command_words command.0 = cc (named, c.0, c.1) in
    subst (Spells (kind ∷ a ∷ rest)) e (record { words_are = is; fits = c.2 })

submit_found : (kind : List ℕ) (words : List (List ℕ)) (line : Line) → kind ≡ codes "submit" → submit_at words ≡ Some line → Spells (kind ∷ words) line
unfolding submit_at
submit_found kind [] line named h = absurd (cc)
submit_found kind (a ∷ []) line named h = absurd (nothing (host_of a) line h)
submit_found kind (a ∷ b ∷ rest) line named h =
    let host = bound (host_of a) (λ x. tries_of b >>= λ y. command_at x rest >>= λ z. Some (Once (Submit z y))) line h in
    let tries = bound (tries_of b) (λ y. command_at host.0 rest >>= λ z. Some (Once (Submit z y))) line host.2 in
    let command = bound (command_at host.0 rest) (λ z. Some (Once (Submit z tries.0))) line tries.2 in
    let s = number_in-found 1 255 b tries.0 tries.1 in
    let c = command_read a rest host.0 command.0 host.1 command.1 in
    let e : Once (Submit command.0 tries.0) ≡ line = cc in
    let is : kind ∷ a ∷ b ∷ rest ≡ codes "submit" ∷ decimal command.0.host ∷ decimal tries.0 ∷ command_words command.0 = cc (named, c.0, s.spelled, c.1) in
    subst (Spells (kind ∷ a ∷ b ∷ rest)) e (record { words_are = is; fits = (c.2, (s.low, s.high)) })

-- a host alone
host_alone : (kind : List ℕ) (words : List (List ℕ)) (make : ℕ → Line) (line : Line)
    → ((host : ℕ) → (line_words (make host) ≡ kind ∷ decimal host ∷ []) × (host < HOSTS → FitsLine (make host)))
    → ((last_word words >>= host_of) >>= λ host. Some (make host)) ≡ Some line → Spells (kind ∷ words) line
host_alone kind words make line known h =
    let host = bound (last_word words >>= host_of) (λ host. Some (make host)) line h in
    let one = one_read host_of words host.0 host.1 in
    let d = number_in-found 0 (HOSTS - 1) one.word host.0 one.reads in
    let e : make host.0 ≡ line = cc in
    let range : host.0 < HOSTS = omega (arith, d.high) in
    let k = known host.0 in
    subst (Spells (kind ∷ words)) e (record { words_are = ap (λ w. kind ∷ w) (one.words_are ∙ ap (λ w. w ∷ []) d.spelled) ∙ sym k.0; fits = k.1 range })

gone_found : (kind : List ℕ) (words : List (List ℕ)) (line : Line) → kind ≡ codes "gone" → ((last_word words >>= disk_of) >>= λ disk. Some (Once (DiskGone disk))) ≡ Some line → Spells (kind ∷ words) line
gone_found kind words line named h =
    let disk = bound (last_word words >>= disk_of) (λ disk. Some (Once (DiskGone disk))) line h in
    let one = one_read disk_of words disk.0 disk.1 in
    let d = number_in-found 0 6 one.word disk.0 one.reads in
    let e : Once (DiskGone disk.0) ≡ line = cc in
    let range : disk.0 < 7 = omega (arith, d.high) in
    let is : kind ∷ words ≡ codes "gone" ∷ decimal disk.0 ∷ [] = cc (named, one.words_are, d.spelled) in
    subst (Spells (kind ∷ words)) e (record { words_are = is; fits = range })

mark_found : (kind : List ℕ) (words : List (List ℕ)) (line : Line) → kind ≡ codes "mark" → mark_at words ≡ Some line → Spells (kind ∷ words) line
unfolding mark_at
mark_found kind words line named h =
    let r = two_read host_of slot_of (λ x y. Once (Mark x y)) words line h in
    let d = number_in-found 0 (HOSTS - 1) r.first r.a r.reads in
    let s = number_in-found 0 4095 r.second r.b r.then_reads in
    let host : r.a < HOSTS = omega (arith, d.high) in
    let slot : r.b < 4096 = omega (arith, s.high) in
    let is : kind ∷ words ≡ codes "mark" ∷ decimal r.a ∷ decimal r.b ∷ [] = cc (named, r.words_are, d.spelled, s.spelled) in
    subst (Spells (kind ∷ words)) r.made (record { words_are = is; fits = (host, slot) })

show_found : (view : View) (kind : List ℕ) (words : List (List ℕ)) (line : Line) → kind ≡ view_word view → show_at view words ≡ Some line → Spells (kind ∷ words) line
unfolding show_at
show_found view kind words line named h = host_alone kind words (Show view) line (λ host. (ap (λ w. w ∷ decimal host ∷ []) (sym named), λ fits. fits)) h

plain_found : (kind : List ℕ) (words : List (List ℕ)) (line : Line) → plain_at kind words ≡ Some line → Spells (kind ∷ words) line
unfolding plain_at
plain_found kind words line h =
    elim (picked kind (codes "step") _ _ line h) [
      | inl p ↦ step_found kind words line p.0 p.1
      | inr other ↦ elim (picked kind (codes "submit") _ _ line other) [
        | inl p ↦ submit_found kind words line p.0 p.1
        | inr other ↦ elim (picked kind (codes "recover") _ _ line other) [
          | inl p ↦ recover_found kind words line p.0 p.1
          | inr other ↦ elim (picked kind (codes "look") _ _ line other) [
            | inl p ↦ host_alone kind words (λ host. Once (Look host)) line (λ host. (ap (λ w. w ∷ decimal host ∷ []) (sym p.0), λ fits. fits)) p.1
            | inr other ↦ elim (picked kind (codes "beat") _ _ line other) [
              | inl p ↦ host_alone kind words (λ host. Once (Beat host)) line (λ host. (ap (λ w. w ∷ decimal host ∷ []) (sym p.0), λ fits. fits)) p.1
              | inr other ↦ elim (picked kind (codes "mark") _ _ line other) [
                | inl p ↦ mark_found kind words line p.0 p.1
                | inr other ↦ elim (picked kind (codes "start") _ _ line other) [
                  | inl p ↦ host_alone kind words (λ host. Once (Start host)) line (λ host. (ap (λ w. w ∷ decimal host ∷ []) (sym p.0), λ fits. fits)) p.1
                  | inr other ↦ elim (picked kind (codes "stop") _ _ line other) [
                    | inl p ↦ host_alone kind words (λ host. Once (Stop host)) line (λ host. (ap (λ w. w ∷ decimal host ∷ []) (sym p.0), λ fits. fits)) p.1
                    | inr other ↦ elim (picked kind (codes "gone") _ _ line other) [
                      | inl p ↦ gone_found kind words line p.0 p.1
                      | inr other ↦ elim (picked kind (codes "show") _ _ line other) [
                        | inl p ↦ show_found Queues kind words line p.0 p.1
                        | inr other ↦ elim (picked kind (codes "blocking") _ _ line other) [
                          | inl p ↦ show_found Blocking kind words line p.0 p.1
                          | inr other ↦ elim (picked kind (codes "log") _ _ line other) [
                            | inl p ↦ log_found kind words line p.0 p.1
                            | inr other ↦ elim (picked kind (codes "cluster") _ _ line other) [
                              | inl p ↦ cluster_found kind words line p.0 p.1
                              | inr other ↦ absurd (cc)
                            ]
                          ]
                        ]
                      ]
                    ]
                  ]
                ]
              ]
            ]
          ]
        ]
      ]
    ]

pub line_at-found : (words : List (List ℕ)) (line : Line) → line_at words ≡ Some line → Spells words line
unfolding line_at said_at
line_at-found [] line h = absurd (cc)
line_at-found (kind ∷ words) line h =
    elim (picked kind (codes "tear") _ _ line h) [
      | inl p ↦ tear_found kind words line p.0 p.1
      | inr other ↦ elim (picked kind (codes "fail") _ _ line other) [
        | inl p ↦ fail_found kind words line p.0 p.1
        | inr other ↦ elim (picked kind (codes "crash") _ _ line other) [
          | inl p ↦ crash_found kind words line p.0 p.1
          | inr other ↦ plain_found kind words line other
        ]
      ]
    ]

host_of-only : (host : ℕ) → host < HOSTS → host_of (decimal host) ≡ Some host
host_of-only host small = number_in-only 0 (HOSTS - 1) host (omega arith) (omega arith) (omega arith)

disk_of-only : (disk : ℕ) → disk < 7 → disk_of (decimal disk) ≡ Some disk
disk_of-only disk small = number_in-only 0 6 disk (omega arith) (omega arith) (omega arith)

slot_of-only : (slot : ℕ) → slot < 4096 → slot_of (decimal slot) ≡ Some slot
slot_of-only slot small = number_in-only 0 4095 slot (omega arith) (omega arith) (omega arith)

tries_of-only : (tries : ℕ) → IsTries tries → tries_of (decimal tries) ≡ Some tries
tries_of-only tries is = number_in-only 1 255 tries is.0 is.1 (omega (arith, is.1))

pub line_at-only : (line : Line) → FitsLine line → line_at (line_words line) ≡ Some line
unfolding line_at said_at plain_at show_at cluster_at log_at submit_at recover_at mark_at step_at tear_at fail_at crash_at
line_at-only (Cluster shape) fits =
    two_spelled (number_in 1 7) (number_in 1 4096) (λ d s. Cluster (record { disks = d; slots = s })) (decimal shape.disks) (decimal shape.slots) shape.disks shape.slots
    (number_in-only 1 7 shape.disks fits.disks.0 fits.disks.1 (omega (arith, fits.disks.1)))
    (number_in-only 1 4096 shape.slots fits.slots.0 fits.slots.1 (omega (arith, fits.slots.1)))
line_at-only (Log command) fits =
    ap (λ (found : Option ℕ). found >>= λ h. command_at h (command_words command) >>= λ c. Some (Log c)) (host_of-only command.host fits.fits.host)
    ∙ ap (λ (found : Option Command). found >>= λ c. Some (Log c)) (command_at-only command fits.fits fits.said)
line_at-only (Once (Start host)) fits = ap (λ (found : Option ℕ). found >>= λ h. Some (Once (Start h))) (host_of-only host fits)
line_at-only (Once (Stop host)) fits = ap (λ (found : Option ℕ). found >>= λ h. Some (Once (Stop h))) (host_of-only host fits)
line_at-only (Once (Submit command tries)) fits =
    ap (λ (found : Option ℕ). found >>= λ h. tries_of (decimal tries) >>= λ t. command_at h (command_words command) >>= λ c. Some (Once (Submit c t))) (host_of-only command.host fits.0.fits.host)
    ∙ ap (λ (found : Option ℕ). found >>= λ t. command_at command.host (command_words command) >>= λ c. Some (Once (Submit c t))) (tries_of-only tries fits.1)
    ∙ ap (λ (found : Option Command). found >>= λ c. Some (Once (Submit c tries))) (command_at-only command fits.0.fits fits.0.said)
line_at-only (Once (Recover host tries)) fits =
    two_spelled host_of tries_of (λ h t. Once (Recover h t)) (decimal host) (decimal tries) host tries (host_of-only host fits.0) (tries_of-only tries fits.1)
line_at-only (Once (Look host)) fits = ap (λ (found : Option ℕ). found >>= λ h. Some (Once (Look h))) (host_of-only host fits)
line_at-only (Once (Beat host)) fits = ap (λ (found : Option ℕ). found >>= λ h. Some (Once (Beat h))) (host_of-only host fits)
line_at-only (Once (Mark host slot)) fits =
    two_spelled host_of slot_of (λ h s. Once (Mark h s)) (decimal host) (decimal slot) host slot (host_of-only host fits.0) (slot_of-only slot fits.1)
line_at-only (Once (Step host)) fits = ap (λ (found : Option ℕ). found >>= λ h. Some (Once (Step h))) (host_of-only host fits)
line_at-only (Once (Tear host given)) fits =
    two_spelled host_of given_of (λ h g. Once (Tear h g)) (decimal host) (hex_word given) host given (host_of-only host fits.0) (given_of-only given fits.1)
line_at-only (Once (FailCall host given)) fits =
    two_spelled host_of given_of (λ h g. Once (FailCall h g)) (decimal host) (hex_word given) host given (host_of-only host fits.0) (given_of-only given fits.1)
line_at-only (Once (DiskCrash disk given)) fits =
    two_spelled disk_of given_of (λ d g. Once (DiskCrash d g)) (decimal disk) (hex_word given) disk given (disk_of-only disk fits.0) (given_of-only given fits.1)
line_at-only (Once (DiskGone disk)) fits = ap (λ (found : Option ℕ). found >>= λ d. Some (Once (DiskGone d))) (disk_of-only disk fits)
line_at-only (Steps host times) fits =
    two_spelled host_of times_of Steps (decimal host) (decimal times) host times (host_of-only host fits.0) (number_in-only 1 100000 times fits.1 fits.2 (omega (arith, fits.2)))
line_at-only (Show Queues host) fits = ap (λ (found : Option ℕ). found >>= λ h. Some (Show Queues h)) (host_of-only host fits)
line_at-only (Show Blocking host) fits = ap (λ (found : Option ℕ). found >>= λ h. Some (Show Blocking h)) (host_of-only host fits)
