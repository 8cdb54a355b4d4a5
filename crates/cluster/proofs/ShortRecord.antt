-- A short record, computed: what its definitions say of it, and of nothing beside.
use Rattle.std.specs.Prelude.{◌==◌}
use Rattle.std.specs.Option.{option_map}
use Rattle.std.proofs.Common.{ℕ, zero, suc, ◌+◌, ◌≡◌, ◌≢◌, Bool, true, false, cond, Option, Some, None, List, [], ◌∷◌, length, take, slice_get, refl, sym, subst, ap, ◌∙◌, arith}
use Rattle.std.proofs.lemmas.Bool.{eqb-true}
use Rattle.std.proofs.lemmas.Option.{slice_get-map}
use Rattle.disk.specs.Simulated.{fresh_disk}
use Rattle.torn_block.specs.Block.{sequence_of, body_of, number_bytes, tail_with}
use Rattle.torn_block.specs.Place.{copy_in}
use Rattle.paxos_block.specs.Row.{decoded_row}
use Rattle.paxos_block.specs.Saying.{zeros, heading, body_saying, number_at, claim_of, is_said}
use Rattle.lock_command.specs.declared.command.Command.{Command}
use Rattle.lock_command.specs.Command.{number}
use Rattle.lock_command.specs.Reading.{lock_at, request_at, mode_of, name_at, enqueue_at, action_at, command_at}
use Rattle.lock_table.specs.Apply.{applied, granted}
use Rattle.host.specs.declared.task.Task.TheVariants.{Submit}
use Rattle.host.specs.Host.{learned_of, reply_after}
use Rattle.world.specs.Entry.{Filled, Start, Stop, Begin, Called, Torn, Crashed, Lost, Migrated, is_of}
use Rattle.world.specs.World.{IsFreshRun}
use Rattle.world.specs.Plain.{plain, plains}
use Rattle.world.specs.Headline.{HasOneLog}
use Rattle.world.specs.declared.entry.Entry.{Entry}
use Rattle.world.specs.declared.entry.Entry.TheVariants as kept
use Rattle.world.specs.Examples.{one_disk, takes_db, submitting, submission}
use Rattle.world.proofs.Runs as runs
use Rattle.world.proofs.ShortRuns.{acknowledged, only_acknowledged}
use Rattle.cluster_tie.specs.Parts.{Placed, placed, of_host}
use Rattle.cluster_tie.proofs.Places.{stands}
use Rattle.cluster.specs.Examples.{first_seat, first_receipt}
use Rattle.cluster.specs.Receipts.{receipts_of}
use Rattle.cluster.specs.Record.{HasSeat, AreCovered, ArePartsOf, IsReceipt, GoesBy, IsRecord}
use Rattle.cluster.specs.Seat.{host_in}
use Rattle.cluster.specs.declared.receipt.Receipt.{Receipt}
use Rattle.cluster.proofs.Recording.{recorded}

-- COMPUTED

learned : learned_of (host_in one_disk first_seat) ≡ takes_db ∷ []
unfolding submission fresh_disk sequence_of body_of number_bytes tail_with copy_in decoded_row zeros heading body_saying number_at claim_of is_said number lock_at request_at mode_of name_at enqueue_at action_at command_at applied
learned = refl

pub receipts : receipts_of one_disk first_seat ≡ first_receipt ∷ []
unfolding submission fresh_disk sequence_of body_of number_bytes tail_with copy_in decoded_row zeros heading body_saying number_at claim_of is_said number lock_at request_at mode_of name_at enqueue_at action_at command_at applied
receipts = refl

second : slice_get (of_host 0 submission) 1 ≡ Some (1, Begin 0 (Submit takes_db 1))
unfolding submission fresh_disk sequence_of body_of number_bytes tail_with copy_in decoded_row zeros heading body_saying number_at claim_of is_said number lock_at request_at mode_of name_at enqueue_at action_at command_at applied
second = refl

first_kept : slice_get (plains submission) 0 ≡ Some (kept.Start 0)
unfolding submission fresh_disk sequence_of body_of number_bytes tail_with copy_in decoded_row zeros heading body_saying number_at claim_of is_said number lock_at request_at mode_of name_at enqueue_at action_at command_at applied
first_kept = refl

-- each entry is host 0's
abbrev are_of : ℕ → List Filled → Bool
are_of h [] = true
are_of h (e ∷ es) = cond (is_of h e) (are_of h es) false

all_its : are_of 0 submission ≡ true
unfolding submission fresh_disk sequence_of body_of number_bytes tail_with copy_in decoded_row zeros heading body_saying number_at claim_of is_said number lock_at request_at mode_of name_at enqueue_at action_at command_at applied
all_its = refl

replied : granted ≡ reply_after [] takes_db
unfolding submission fresh_disk sequence_of body_of number_bytes tail_with copy_in decoded_row zeros heading body_saying number_at claim_of is_said number lock_at request_at mode_of name_at enqueue_at action_at command_at applied
replied = refl

-- ITS SEAT

not_both : (g h : ℕ) → (g == 0) ≡ true → h ≢ 0 → (g == h) ≡ false
not_both g h is other = go (g == h) refl
  where
    go : (b : Bool) → (g == h) ≡ b → (g == h) ≡ false
    go true same = absurd (other (sym (eqb-true g h same) ∙ eqb-true g 0 is))
    go false off = off

of_one : (h : ℕ) → h ≢ 0 → (e : Filled) → is_of 0 e ≡ true → is_of h e ≡ false
of_one h other (Start g) is = not_both g h is other
of_one h other (Stop g) is = not_both g h is other
of_one h other (Begin g task) is = not_both g h is other
of_one h other (Called g k call answer left) is = not_both g h is other
of_one h other (Torn g k call left) is = not_both g h is other
of_one h other (Crashed k left) is = refl
of_one h other (Lost k) is = refl
of_one h other (Migrated disks log) is = refl

both : (s t : Bool) → cond s t false ≡ true → (s ≡ true) × (t ≡ true)
both true t is = (refl, is)
both false t is = absurd (cc is)

-- no other host has an entry then
none_other : (h : ℕ) → h ≢ 0 → (at : ℕ) (log : List Filled) → are_of 0 log ≡ true → placed at false h log ≡ []
none_other h other at [] all = refl
none_other h other at (e ∷ es) all =
    let here = both (is_of 0 e) (are_of 0 es) all in
    (λ i. cond (of_one h other e here.0 i) ((at, e) ∷ placed (at + 1) false h es) (placed (at + 1) false h es)) ∙ none_other h other (at + 1) es here.1

covers : AreCovered submission (first_seat ∷ [])
covers h some = go (h == 0) refl
  where
    go : (b : Bool) → (h == 0) ≡ b → HasSeat (first_seat ∷ []) h
    go true same = (0, first_seat, omega arith, refl, sym (eqb-true h 0 same))
    go false off = absurd (some (none_other h (λ same. let no : true ≡ false = sym (ap (λ (n : ℕ). n == 0) same) ∙ off in cc no) 0 submission all_its))

part : ArePartsOf submission (first_seat ∷ [])
part zero d less = refl
part (suc i) d less = absurd (omega arith)

pub run : IsFreshRun one_disk submission
unfolding submission
run = runs.run_is_fresh one_disk submitting

pub is_record : HasOneLog one_disk submission → IsRecord one_disk (plains submission) (first_seat ∷ [])
is_record one = recorded one_disk submission (plains submission) (first_seat ∷ []) refl run covers part one

-- WHAT IS NO RECORD

starts : (e : Filled) → plain e ≡ kept.Start 0 → e ≡ Start 0
starts (Start h) is = let same : h ≡ 0 = cc is in ap Start same
starts (Stop h) is = absurd (cc is)
starts (Begin h (Submit command tries)) is = absurd (cc is)
starts (Begin h other) is = absurd (cc is)
starts (Called h k call answer left) is = absurd (cc is)
starts (Torn h k call left) is = absurd (cc is)
starts (Crashed k left) is = absurd (cc is)
starts (Lost k) is = absurd (cc is)
starts (Migrated disks log) is = absurd (cc is)

has_started : (log : List Filled) → slice_get (plains log) 0 ≡ Some (kept.Start 0) → of_host 0 log ≢ []
has_started [] at none = let no : None ≡ Some (kept.Start 0) = at in cc no
has_started (e ∷ es) at none =
    let first : plain e ≡ kept.Start 0 = cc at in
    let no : (0, Start 0) ∷ placed 1 false 0 es ≡ [] = ap (λ (x : Filled). of_host 0 (x ∷ es)) (sym (starts e first)) ∙ none in
    cc no

pub no_seats : IsRecord one_disk (plains submission) [] → ⊥
no_seats r =
    let seat = r.covers 0 (has_started r.log (sym (ap (λ (l : List Entry). slice_get l 0) r.kept_is) ∙ first_kept)) in
    omega (arith, seat.2)

pub submits : (entries : List Entry) → IsRecord one_disk entries (first_seat ∷ []) → slice_get entries 1 ≡ Some (kept.Submit 0 takes_db 1)
submits entries r =
    let there : slice_get (of_host 0 r.log) 1 ≡ Some (1, Begin 0 (Submit takes_db 1)) = ap (λ (l : List Placed). slice_get l 1) (sym (r.parts 0 first_seat (omega arith))) ∙ second in
    let stood : slice_get r.log 1 ≡ Some (Begin 0 (Submit takes_db 1)) = (stands 0 false 0 r.log 1 (1, Begin 0 (Submit takes_db 1)) there).1 in
    ap (λ (l : List Entry). slice_get l 1) r.kept_is ∙ slice_get-map plain r.log 1 ∙ ap (λ (o : Option Filled). option_map plain o) stood

-- THE RECEIPT

pub receipt : IsReceipt one_disk submission 0 first_receipt
receipt = record { host = refl; acknowledged = acknowledged }

pub only_receipt : (h : ℕ) (r : Receipt) → IsReceipt one_disk submission h r → (h ≡ 0) × (r ≡ first_receipt)
only_receipt h r is =
    let that = only_acknowledged r.place h r.slot r.command r.reply is.acknowledged in
    (that.1, λ i. record { host = (is.host ∙ that.1) i; command = that.3 i; slot = that.2 i; reply = that.4 i; place = that.0 i })

one_receipt : (x r : Receipt) (k : ℕ) → slice_get (x ∷ []) k ≡ Some r → x ≡ r
one_receipt x r zero at = cc at
one_receipt x r (suc k) at = absurd (cc at)

its_one : (k : ℕ) (r : Receipt) → slice_get (receipts_of one_disk first_seat) k ≡ Some r → first_receipt ≡ r
its_one k r at = one_receipt first_receipt r k (sym (ap (λ (l : List Receipt). slice_get l k) receipts) ∙ at)

pub goes : GoesBy one_disk (takes_db ∷ []) first_seat
goes = record {
  prefix = learned ∙ ap (λ (l : List Command). take (length l) (takes_db ∷ [])) (sym learned);
  placed = λ k r at. subst (λ (x : Receipt). slice_get (takes_db ∷ []) x.slot ≡ Some x.command) (its_one k r at) refl;
  replied = λ k r at. subst (λ (x : Receipt). x.reply ≡ reply_after (take x.slot (takes_db ∷ [])) x.command) (its_one k r at) replied;
}

pub only_by : (commands : List Command) → GoesBy one_disk commands first_seat → take 1 commands ≡ takes_db ∷ []
only_by commands by = ap (λ (l : List Command). take (length l) commands) (sym learned) ∙ sym by.prefix ∙ learned
