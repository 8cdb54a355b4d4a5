-- What lines tell of the log of the first submission, computed: and what no line may tell.
use Rattle.std.specs.Prelude.{take, filter, replicate, Contains}
use Rattle.std.proofs.Common.{ℕ, zero, suc, ◌<◌, ◌≡◌, ◌⊎◌, inl, inr, true, false, Some, None, List, [], ◌∷◌, slice_get, refl, sym, subst, ap, ◌∙◌, arith}
use Rattle.disk.specs.Simulated.{fresh_disk}
use Rattle.torn_block.specs.Block.{sequence_of, body_of, number_bytes, tail_with}
use Rattle.torn_block.specs.Place.{copy_in}
use Rattle.paxos_block.specs.Row.{decoded_row}
use Rattle.paxos_block.specs.Saying.{zeros, heading, body_saying, number_at, claim_of, is_said}
use Rattle.lock_command.specs.declared.command.Command.{Command}
use Rattle.lock_command.specs.Command.{number, spelling}
use Rattle.lock_command.specs.Reading.{lock_at, request_at, mode_of, name_at, enqueue_at, action_at, command_at}
use Rattle.lock_command.specs.declared.reply.Reply.{Reply}
use Rattle.lock_table.specs.Apply.{applied, granted}
use Rattle.lock_table.specs.Picture.{Shown}
use Rattle.lock_command.specs.Locks.{is_lock}
use Rattle.host.specs.declared.answer.HostAnswer.TheVariants.{Ack, Recovered}
use Rattle.host.specs.declared.task.Task.TheVariants.{Submit}
use Rattle.host.specs.Host.{Submitting, idles, reply_after}
use Rattle.world.specs.Happens.{Begin, Step, Line}
use Rattle.world.specs.Opening.{blank}
use Rattle.world.specs.Told.{host_before, IsSubmittedBefore, IsAcknowledged, goes_by, BeganSince, MissesNothing}
use Rattle.world.specs.Examples.{one_disk, takes_db, submitting, told_at}
use Rattle.world.proofs.ShortRuns.{operation_of, operation_in, busy_with, operation_told}

-- WHAT WAS SUBMITTED

pub submitted : IsSubmittedBefore submitting 2 (spelling takes_db)
submitted = record { place = 1; host = 0; command = takes_db; tries = 1; before = omega arith; event = refl; spelled = refl }

-- steps submit nothing
only_steps : (n k host tries : ℕ) (command : Command) → slice_get (replicate n (Step 0)) k ≡ Some (Begin host (Submit command tries)) → ⊥
only_steps zero k host tries command at = cc
only_steps (suc n) zero host tries command at = cc
only_steps (suc n) (suc k) host tries command at = only_steps n k host tries command at

-- so it is event 1 that does
which : (place host tries : ℕ) (command : Command) → slice_get submitting place ≡ Some (Begin host (Submit command tries)) → (place ≡ 1) × (takes_db ≡ command)
which zero host tries command at = absurd (cc)
which (suc zero) host tries command at = (refl, cc)
which (suc (suc k)) host tries command at = absurd (only_steps 17 k host tries command at)

pub not_submitted : (value : List ℕ) → IsSubmittedBefore submitting 1 value → ⊥
not_submitted value is = let at = (which is.place is.host is.tries is.command is.event).0 in let before = is.before in omega arith

pub only_submitted : (i : ℕ) (value : List ℕ) → IsSubmittedBefore submitting i value → value ≡ spelling takes_db
only_submitted i value is = is.spelled ∙ ap spelling (sym (which is.place is.host is.tries is.command is.event).1)

-- WHAT IS ACKNOWLEDGED

busy_then : operation_of (host_before (blank one_disk) submitting 18 0) ≡ Some (Submitting takes_db)
unfolding operation_in fresh_disk sequence_of body_of number_bytes tail_with copy_in decoded_row zeros heading body_saying number_at claim_of is_said number lock_at request_at mode_of name_at enqueue_at action_at command_at applied
busy_then = refl

reply_then : reply_after [] takes_db ≡ granted
unfolding fresh_disk sequence_of body_of number_bytes tail_with copy_in decoded_row zeros heading body_saying number_at claim_of is_said number lock_at request_at mode_of name_at enqueue_at action_at command_at applied
reply_then = refl

pub acknowledged : goes_by (blank one_disk) submitting (takes_db ∷ []) (told_at 18 (Ack 0 granted)) None (Ack 0 granted)
acknowledged =
    let busy = busy_with (host_before (blank one_disk) submitting 18 0) (Submitting takes_db) busy_then in
    record {
      command = takes_db;
      submitting = record { memory = busy.memory; doing = busy.doing; running = busy.running; does = busy.does; is = busy.is };
      in_log = refl;
      replied = sym reply_then;
    }

one_there : (slot : ℕ) (command : Command) → slice_get (takes_db ∷ []) slot ≡ Some command → (slot ≡ 0) × (takes_db ≡ command)
one_there zero command at = (refl, cc)
one_there (suc slot) command at = absurd (cc)

pub only_acknowledged : (place slot : ℕ) (reply : Reply) → IsAcknowledged (blank one_disk) submitting (takes_db ∷ []) (told_at place (Ack slot reply)) slot reply → (slot ≡ 0) × (reply ≡ granted)
only_acknowledged place slot reply is =
    let there = one_there slot is.command is.in_log in
    (there.0, is.replied ∙ ap (λ (n : ℕ). reply_after (take n (takes_db ∷ [])) is.command) there.0 ∙ ap (reply_after []) (sym there.1) ∙ reply_then)

idle_then : operation_of (host_before (blank one_disk) submitting 19 0) ≡ None
unfolding operation_in fresh_disk sequence_of body_of number_bytes tail_with copy_in decoded_row zeros heading body_saying number_at claim_of is_said number lock_at request_at mode_of name_at enqueue_at action_at command_at applied
idle_then = refl

pub not_idle : (slot : ℕ) (reply : Reply) → IsAcknowledged (blank one_disk) submitting (takes_db ∷ []) (told_at 19 (Ack slot reply)) slot reply → ⊥
not_idle slot reply is =
    let carries = is.submitting in
    let told = operation_told (host_before (blank one_disk) submitting 19 0) carries.memory carries.doing (Submitting is.command) carries.running carries.does carries.is in
    let neither : None ≡ Some (Submitting is.command) = sym idle_then ∙ told in
    cc

-- WHAT IS RECOVERED

pub of_none : (place : ℕ) (picture : Shown) → goes_by (blank one_disk) submitting (takes_db ∷ []) (told_at place (Recovered 0)) (Some picture) (Recovered 0) → filter (is_lock 1) picture.locks ≡ []
of_none place picture is = is.table.locks.numbers 1

-- WHAT IS MISSED

idles_then : idles (host_before (blank one_disk) submitting 19 0) ≡ true
unfolding fresh_disk sequence_of body_of number_bytes tail_with copy_in decoded_row zeros heading body_saying number_at claim_of is_said number lock_at request_at mode_of name_at enqueue_at action_at command_at applied
idles_then = refl

works_then : idles (host_before (blank one_disk) submitting 4 0) ≡ false
unfolding fresh_disk sequence_of body_of number_bytes tail_with copy_in decoded_row zeros heading body_saying number_at claim_of is_said number lock_at request_at mode_of name_at enqueue_at action_at command_at applied
works_then = refl

-- one of two lines
either : (a b x : Line) → Contains (a ∷ b ∷ []) x → (a ≡ x) ⊎ (b ≡ x)
either a b x (zero, below, is) = inl is
either a b x (suc zero, below, is) = inr is
either a b x (suc (suc k), below, is) = absurd (omega (arith, below))

module _ (slot p q n : ℕ) where
  abbrev lines : List Line
  lines = told_at p (Ack slot granted) ∷ told_at q (Recovered n) ∷ []

  -- the recovery is the second, and the acknowledgement the first
  recovery_is : (x : Line) (m : ℕ) → Contains lines x → x.said ≡ Recovered m → (x ≡ told_at q (Recovered n)) × (m ≡ n)
  recovery_is x m in_x says = elim (either (told_at p (Ack slot granted)) (told_at q (Recovered n)) x in_x) [
    | inl first ↦ absurd (let other : Ack slot granted ≡ Recovered m = ap (λ (l : Line). l.said) first ∙ says in cc)
    | inr second ↦ (sym second, let same : Recovered n ≡ Recovered m = ap (λ (l : Line). l.said) second ∙ says in cc)
  ]

  ack_is : (y : Line) (s : ℕ) (reply : Reply) → Contains lines y → y.said ≡ Ack s reply → (y ≡ told_at p (Ack slot granted)) × (s ≡ slot)
  ack_is y s reply in_y says = elim (either (told_at p (Ack slot granted)) (told_at q (Recovered n)) y in_y) [
    | inl first ↦ (sym first, let same : Ack slot granted ≡ Ack s reply = ap (λ (l : Line). l.said) first ∙ says in cc)
    | inr second ↦ absurd (let other : Recovered n ≡ Ack s reply = ap (λ (l : Line). l.said) second ∙ says in cc)
  ]

  -- so nothing is missed where nothing is by that recovery
  missed_by : ((i : ℕ) → p < i → BeganSince (blank one_disk) submitting i (told_at q (Recovered n)) → slot < n) → MissesNothing (blank one_disk) submitting lines
  missed_by holds x y i m s reply in_x x_says since in_y y_says before =
      let r = recovery_is x m in_x x_says in
      let a = ack_is y s reply in_y y_says in
      let there : y.place ≡ p = ap (λ (l : Line). l.place) a.0 in
      let early : p < i = omega arith in
      let below : slot < n = holds i early (subst (BeganSince (blank one_disk) submitting i) r.0 since) in
      omega (arith, r.1, a.1, below)

pub misses : MissesNothing (blank one_disk) submitting (told_at 18 (Ack 0 granted) ∷ told_at 19 (Recovered 0) ∷ []) → ⊥
misses all =
    let below : 0 < 0 = all (told_at 19 (Recovered 0)) (told_at 18 (Ack 0 granted)) 19 0 0 granted (1, omega arith, refl) refl (record { order = omega arith; idle = idles_then }) (0, omega arith, refl) refl (omega arith) in
    omega arith

pub holds : MissesNothing (blank one_disk) submitting (told_at 18 (Ack 0 granted) ∷ told_at 19 (Recovered 1) ∷ [])
holds = missed_by 0 18 19 1 (λ i before since. omega arith)

pub at_once : MissesNothing (blank one_disk) submitting (told_at 18 (Ack 0 granted) ∷ told_at 18 (Recovered 0) ∷ [])
at_once = missed_by 0 18 18 0 (λ i before since. let order = since.order in absurd (omega arith))

pub busy : MissesNothing (blank one_disk) submitting (told_at 3 (Ack 0 granted) ∷ told_at 4 (Recovered 0) ∷ [])
busy = missed_by 0 3 4 0 (λ i before since.
    let order = since.order in
    let here : i ≡ 4 = omega arith in
    let idle : idles (host_before (blank one_disk) submitting 4 0) ≡ true = subst (λ (k : ℕ). idles (host_before (blank one_disk) submitting k 0) ≡ true) here since.idle in
    let both : true ≡ false = sym idle ∙ works_then in
    absurd (cc))
