-- One short operation, computed: it is what it is said to be, and nothing else may come of it.
use Rattle.std.specs.Prelude.{is_none}
use Rattle.std.proofs.Common.{ℕ, zero, suc, ◌≡◌, true, Option, Some, None, List, [], ◌∷◌, ◌++◌, length, slice_get, slice_set, refl, sym, subst, ap, ◌∙◌, true≢false}
use Rattle.disk.specs.Disk.{DiskState, Call, Attach, Read, Write, Sync, Answer, Booted, Told, Done, Fault, success_of, done_by}
use Rattle.disk.specs.Simulated.{fresh_disk}
use Rattle.torn_block.specs.Block.{sequence_of, body_of, number_bytes, tail_with}
use Rattle.torn_block.specs.Place.{copy_in}
use Rattle.paxos_block.specs.Row.{decoded_row}
use Rattle.paxos_block.specs.Saying.{zeros, heading, body_saying, number_at, claim_of, is_said}
use Rattle.attempt.specs.Answers.{heard_as}
use Rattle.attempt.specs.History.{Fits}
use Rattle.lock_command.specs.declared.command.Command.{Command}
use Rattle.lock_command.specs.Command.{number}
use Rattle.lock_command.specs.Reading.{lock_at, request_at, mode_of, name_at, enqueue_at, action_at, command_at}
use Rattle.lock_command.specs.declared.reply.Reply.{Reply}
use Rattle.lock_table.specs.Apply.{applied, granted}
use Rattle.host.specs.declared.answer.HostAnswer.TheVariants.{Ack}
use Rattle.host.specs.Host.{Memory, Doing, Submitting, fresh, next_in, next_doing, is_idle, reply_after}
use Rattle.host.specs.Kept.{LeadsTo}
use Rattle.host.proofs.Hosts.{idle_is}
use Rattle.dlm_images.specs.Operations.{Made, GaveOne, Gave, after_call, after_made, IsDue, AreDue, Standing, HasOperated, IsAcknowledged}
use Rattle.dlm_images.specs.Examples.{one_disk, blank, takes_db, begun, AlwaysSucceeds, IsBootOrFault}

-- THE CALLS OF A HOST OVER ONE DISK

-- what the disk gives to a call
abbrev made_of : DiskState → ℕ × Call → Made
made_of d due = record { disk = 0; call = due.1; answer = success_of d due.1 }

-- the calls of a host, so many of them where it goes on so long, and the disk after them
abbrev calls_by : ℕ → Memory → DiskState → Option (ℕ × Call) → List Made
calls_by zero m d due = []
calls_by (suc n) m d None = []
calls_by (suc n) m d (Some due) =
    let k = after_call one_disk 0 m (made_of d due) in
    made_of d due ∷ calls_by n k (done_by d due.1) (next_in one_disk 0 k)

abbrev disk_by : DiskState → List Made → DiskState
disk_by d [] = d
disk_by d (x ∷ xs) = disk_by (done_by d x.call) xs

abbrev calls_on : ℕ → Memory → DiskState → List Made
calls_on n m d = calls_by n m d (next_in one_disk 0 m)

-- one disk alone is called
only_disk : (d before : DiskState) (k : ℕ) → slice_get (d ∷ []) k ≡ Some before → (k ≡ 0) × (before ≡ d)
only_disk d before zero is = (refl, (cc))
only_disk d before (suc k) is = absurd (cc)

-- what is known of a call that is due, and given by such a disk
record IsThat (d : DiskState) (due : ℕ × Call) (x : Made) (new : List DiskState) : Type 0 where
  same : x ≡ made_of d due
  left : new ≡ done_by d due.1 ∷ []

is_that : (m : Memory) (d : DiskState) (due : ℕ × Call) (x : Made) (new : List DiskState) → next_in one_disk 0 m ≡ Some due → IsDue one_disk 0 m x → GaveOne AlwaysSucceeds (d ∷ []) x new → IsThat d due x new
is_that m d due x new next is_due one =
    let both : Some due ≡ Some (x.disk, x.call) = sym next ∙ is_due.next in
    let same : due ≡ (x.disk, x.call) = cc in
    let call : x.call ≡ due.1 = sym (ap (λ (p : ℕ × Call). p.1) same) in
    let (none, is) = only_disk d one.before x.disk one.is in
    let answer : x.answer ≡ success_of d due.1 = one.gave.0 ∙ ap (λ (e : DiskState). success_of e x.call) is ∙ ap (success_of d) call in
    let after : one.after ≡ done_by d due.1 = one.gave.1 ∙ ap (λ (e : DiskState). done_by e x.call) is ∙ ap (done_by d) call in record {
      same = ap (λ (k : ℕ). record { disk = k; call = x.call; answer = x.answer }) none
          ∙ ap (λ (c : Call). record { disk = 0; call = c; answer = x.answer }) call
          ∙ ap (λ (a : Answer). record { disk = 0; call = due.1; answer = a }) answer;
      left = one.others ∙ ap (λ (k : ℕ). slice_set (d ∷ []) k one.after) none ∙ ap (λ (e : DiskState). e ∷ []) after;
    }

some_is_not_none : {X : Type 0} (x : X) → Some x ≡ None → ⊥
some_is_not_none x is = cc

-- whatever calls were made until no more was due, they are these, where these end so, too
only_calls : (n : ℕ) (m : Memory) (d : DiskState) (o : Option (ℕ × Call)) → next_in one_disk 0 m ≡ o → (made : List Made) (new : List DiskState)
    → AreDue one_disk 0 m made → Gave AlwaysSucceeds (d ∷ []) made new
    → next_in one_disk 0 (after_made one_disk 0 m made) ≡ None → next_in one_disk 0 (after_made one_disk 0 m (calls_by n m d o)) ≡ None → made ≡ calls_by n m d o
only_calls zero m d o next [] new due gave ended ends = refl
only_calls zero m d o next (x ∷ xs) new due gave ended ends =
    absurd (some_is_not_none (x.disk, x.call) (sym due.0.next ∙ ends))
only_calls (suc n) m d None next [] new due gave ended ends = refl
only_calls (suc n) m d None next (x ∷ xs) new due gave ended ends =
    absurd (some_is_not_none (x.disk, x.call) (sym due.0.next ∙ next))
only_calls (suc n) m d (Some call) next [] new due gave ended ends =
    absurd (some_is_not_none call (sym next ∙ ended))
only_calls (suc n) m d (Some call) next (x ∷ xs) new due gave ended ends =
    let that = is_that m d call x gave.0 next due.0 gave.1 in
    let y = made_of d call in
    let k = after_call one_disk 0 m y in
    let due_then : AreDue one_disk 0 k xs = subst (λ (z : Made). AreDue one_disk 0 (after_call one_disk 0 m z) xs) that.same due.1 in
    let gave_then : Gave AlwaysSucceeds (done_by d call.1 ∷ []) xs new = subst (λ (ds : List DiskState). Gave AlwaysSucceeds ds xs new) that.left gave.2 in
    let ended_then : next_in one_disk 0 (after_made one_disk 0 k xs) ≡ None =
    subst (λ (z : Made). next_in one_disk 0 (after_made one_disk 0 (after_call one_disk 0 m z) xs) ≡ None) that.same ended in
    let rest : xs ≡ calls_by n k (done_by d call.1) (next_in one_disk 0 k) =
    only_calls n k (done_by d call.1) (next_in one_disk 0 k) refl xs new due_then gave_then ended_then ends in
    ap (λ (z : Made). z ∷ xs) that.same ∙ ap (λ (zs : List Made). y ∷ zs) rest

-- an idle host makes no call
none_due : (m : Memory) (o : Option Doing) → is_none o ≡ true → next_doing one_disk 0 m o ≡ None
none_due m None idle = refl
none_due m (Some t) idle = absurd (true≢false (sym idle))

-- THE FIRST SUBMISSION

abbrev first_calls : List Made
first_calls = calls_on 17 begun blank

-- each is the call that is due and fits, and the disk gives it
abbrev AreGiven : ℕ → Memory → DiskState → Option (ℕ × Call) → Type 0
AreGiven zero m d due = Unit {0}
AreGiven (suc n) m d None = Unit {0}
AreGiven (suc n) m d (Some due) = (due.0 ≡ 0) × AreGiven n (after_call one_disk 0 m (made_of d due)) (done_by d due.1) (next_in one_disk 0 (after_call one_disk 0 m (made_of d due)))

success_fits : (d : DiskState) (call : Call) → Fits call (heard_as (success_of d call))
success_fits d Attach = tt
success_fits d (Read boot at len) = tt
success_fits d (Write boot at from) = tt
success_fits d (Sync boot) = tt

are_due : (n : ℕ) (m : Memory) (d : DiskState) (o : Option (ℕ × Call)) → next_in one_disk 0 m ≡ o → AreGiven n m d o → AreDue one_disk 0 m (calls_by n m d o)
are_due zero m d o next given = tt
are_due (suc n) m d None next given = tt
are_due (suc n) m d (Some due) next given =
    let k = after_call one_disk 0 m (made_of d due) in
    (record { next = next ∙ ap (λ (i : ℕ). Some (i, due.1)) given.0; fits = success_fits d due.1 }, are_due n k (done_by d due.1) (next_in one_disk 0 k) refl given.1)

are_given : (xs : List Made) (d : DiskState) (n : ℕ) (m : Memory) (o : Option (ℕ × Call)) → xs ≡ calls_by n m d o → Gave AlwaysSucceeds (d ∷ []) (calls_by n m d o) (disk_by d (calls_by n m d o) ∷ [])
are_given xs d zero m o is = refl
are_given xs d (suc n) m None is = refl
are_given xs d (suc n) m (Some due) is =
    let k = after_call one_disk 0 m (made_of d due) in
    (done_by d due.1 ∷ [], record { before = d; after = done_by d due.1; is = refl; gave = (refl, refl); others = refl }, are_given (calls_by n k (done_by d due.1) (next_in one_disk 0 k)) (done_by d due.1) n k (next_in one_disk 0 k) refl)

given_first : AreGiven 17 begun blank (next_in one_disk 0 begun)
unfolding fresh_disk sequence_of body_of number_bytes tail_with copy_in decoded_row zeros heading body_saying number_at claim_of is_said number lock_at request_at mode_of name_at enqueue_at action_at command_at applied
given_first = (refl, (refl, (refl, (refl, (refl, (refl, (refl, (refl, (refl, (refl, (refl, (refl, (refl, (refl, (refl, (refl, (refl, tt)))))))))))))))))

after_first : is_idle (after_made one_disk 0 begun first_calls) ≡ true
unfolding fresh_disk sequence_of body_of number_bytes tail_with copy_in decoded_row zeros heading body_saying number_at claim_of is_said number lock_at request_at mode_of name_at enqueue_at action_at command_at applied
after_first = refl

count_first : length first_calls ≡ 17
unfolding fresh_disk sequence_of body_of number_bytes tail_with copy_in decoded_row zeros heading body_saying number_at claim_of is_said number lock_at request_at mode_of name_at enqueue_at action_at command_at applied
count_first = refl

said_first : (after_made one_disk 0 begun first_calls).said ≡ Some (Ack 0 granted)
unfolding fresh_disk sequence_of body_of number_bytes tail_with copy_in decoded_row zeros heading body_saying number_at claim_of is_said number lock_at request_at mode_of name_at enqueue_at action_at command_at applied
said_first = refl

learned_first : (after_made one_disk 0 begun first_calls).learned ≡ takes_db ∷ []
unfolding fresh_disk sequence_of body_of number_bytes tail_with copy_in decoded_row zeros heading body_saying number_at claim_of is_said number lock_at request_at mode_of name_at enqueue_at action_at command_at applied
learned_first = refl

pub made : (made : List Made) × (left : DiskState) × AreDue one_disk 0 begun made × Gave AlwaysSucceeds (blank ∷ []) made (left ∷ []) × (is_idle (after_made one_disk 0 begun made) ≡ true)
made = (first_calls, disk_by blank first_calls, are_due 17 begun blank (next_in one_disk 0 begun) refl given_first, are_given first_calls blank 17 begun (next_in one_disk 0 begun) refl, after_first)

pub only_then : (old new : Standing DiskState) → LeadsTo one_disk 0 fresh old.core → old.disks ≡ blank ∷ [] → (done : HasOperated AlwaysSucceeds (Submitting takes_db) 1 old new)
    → (length done.made ≡ 17) × (new.core.said ≡ Some (Ack 0 granted)) × (new.core.prefix ≡ takes_db ∷ [])
only_then old new leads disks done =
    let n = after_made one_disk 0 begun done.made in
    let leads_then : LeadsTo one_disk 0 n new.core = done.leads one_disk 0 fresh leads in
    let idle : is_idle n ≡ true = sym (idle_is one_disk 0 n new.core leads_then) ∙ done.ended in
    let gave : Gave AlwaysSucceeds (blank ∷ []) done.made new.disks = subst (λ (ds : List DiskState). Gave AlwaysSucceeds ds done.made new.disks) disks done.gave in
    let these : done.made ≡ first_calls =
    only_calls 17 begun blank (next_in one_disk 0 begun) refl done.made new.disks (done.due one_disk 0 fresh leads) gave (none_due n n.doing idle)
    (let e = after_made one_disk 0 begun first_calls in none_due e e.doing after_first) in (
      ap length these ∙ count_first,
      leads_then.said ∙ ap (λ (xs : List Made). (after_made one_disk 0 begun xs).said) these ∙ said_first,
      leads_then.prefix ∙ ap (λ (xs : List Made). (after_made one_disk 0 begun xs).learned) these ∙ learned_first,
    )

-- THE FIRST CALL

attach_first : next_in one_disk 0 begun ≡ Some (0, Attach)
unfolding fresh_disk zeros
attach_first = refl

boot_or_fault : (answer : Answer) → Fits Attach (heard_as answer) → IsBootOrFault answer
boot_or_fault (Booted boot) fits = tt
boot_or_fault (Told bytes) fits = absurd fits
boot_or_fault Done fits = absurd fits
boot_or_fault (Fault fault) fits = tt

pub first : (x : Made) → IsDue one_disk 0 begun x → (x.disk ≡ 0) × (x.call ≡ Attach) × IsBootOrFault x.answer
first x due =
    let both : Some (x.disk, x.call) ≡ Some (0, Attach) = sym due.next ∙ attach_first in
    let same : (x.disk, x.call) ≡ (0, Attach) = cc in
    let call : x.call ≡ Attach = ap (λ (p : ℕ × Call). p.1) same in
    (ap (λ (p : ℕ × Call). p.0) same, call, boot_or_fault x.answer (subst (λ (c : Call). Fits c (heard_as x.answer)) call due.fits))

-- ACKNOWLEDGED

reply_first : reply_after [] takes_db ≡ granted
unfolding applied
reply_first = refl

pub acknowledged : IsAcknowledged takes_db 0 granted (takes_db ∷ [])
acknowledged = record { before = []; last = refl; at = refl; replied = sym reply_first }

-- the last of one is that one
last_of_one : (x y : Command) (before : List Command) → x ∷ [] ≡ before ++ y ∷ [] → (before ≡ []) × (y ≡ x)
last_of_one x y [] is = (refl, (cc))
last_of_one x y (z ∷ []) is = absurd (cc)
last_of_one x y (z ∷ w ∷ before) is = absurd (cc)

pub only_acknowledged : (command : Command) (slot : ℕ) (reply : Reply) → IsAcknowledged command slot reply (takes_db ∷ []) → (command ≡ takes_db) × (slot ≡ 0) × (reply ≡ granted)
only_acknowledged command slot reply is =
    let (none, same) = last_of_one takes_db command is.before is.last in
    (same, is.at ∙ ap length none, is.replied ∙ ap (λ (b : List Command). reply_after b command) none ∙ ap (λ (c : Command). reply_after [] c) same ∙ reply_first)
