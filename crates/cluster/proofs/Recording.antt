-- What is left of a cluster goes by one log.
use Rattle.std.proofs.Common.{◌≡◌, ◌≢◌, ◌+◌, ◌≤◌, ◌<◌, ℕ, zero, suc, Bool, true, false, cond, List, [], ◌∷◌, ◌++◌, length, take, slice_get, get_or, Option, Some, None, refl, sym, ap, subst, ◌∙◌, arith, append-nil}
use Rattle.std.specs.Prelude.{nat_lt}
use Rattle.std.proofs.lemmas.Bool.{ltb-true, ltb-false}
use Rattle.std.proofs.lemmas.List.{length-take}
use Rattle.std.proofs.lemmas.Option.{slice_get-get_or}
use Rattle.std.proofs.Math.Seq.{take-length}
use Rattle.torn_block.specs.declared.layout.TheConstants.{HOSTS}
use Rattle.lock_command.specs.declared.command.Command.{Command}
use Rattle.lock_command.specs.declared.reply.Reply.{Reply}
use Rattle.paxos_block.specs.Shape.{Shape}
use Rattle.host.specs.declared.answer.HostAnswer.{HostAnswer}
use Rattle.host.specs.declared.answer.HostAnswer.TheVariants.{Ack, Recovered, Looked, Beaten, Marked, Refused}
use Rattle.host.specs.Host.{Operation, Submitting, Recovering, Attempt, Doing, Attempts, Memory, Host, Stopped, Running, said_of, learned_of}
use Rattle.world.specs.Entry.{Filled, Start, is_of, host_step}
use Rattle.world.specs.World.{world, IsFreshRun}
use Rattle.world.specs.Plain.{plains}
use Rattle.world.specs.Chosen.{at}
use Rattle.world.specs.Headline.{IsPrefix, HasOneLog, IsSafe}
use Rattle.world.specs.declared.entry.Entry.{Entry}
use Rattle.world_safety.proofs.Runs.Places.{host_next}
use Rattle.cluster_tie.specs.Parts.{Own, own_of, of_host}
use Rattle.cluster_tie.proofs.Steps.{part_grows}
use Rattle.cluster.specs.declared.receipt.Receipt.{Receipt}
use Rattle.cluster.specs.Receipts.{still, receipt_for, receipt_by, receipts_at, receipts_of, doing_of}
use Rattle.cluster.specs.Record.{HasSeat, AreCovered, ArePartsOf, IsReceipt, HasReceipts, GoesBy, IsRecord}
use Rattle.cluster.specs.Seat.{host_in}
use Rattle.cluster.proofs.Adding.{receipts_adds}
use Rattle.cluster.proofs.Parts.{host_is, none_above}

take_next : (l : List Filled) (i : ℕ) (x : Filled) → slice_get l i ≡ Some x → take (suc i) l ≡ take i l ++ x ∷ []
take_next [] i x is = absurd (cc)
take_next (y ∷ l) zero x is = let same : y ≡ x = cc in ap (λ z. z ∷ []) same
take_next (y ∷ l) (suc i) x is = ap (λ z. y ∷ z) (take_next l i x is)

-- EACH RECEIPT STANDS AT ITS PLACE

module _ (c : Shape) (log : List Filled) (h : ℕ) where
  -- so it is with each of these
  abbrev HaveAll : List Receipt → Type 0
  HaveAll [] = Unit {0}
  HaveAll (r ∷ rs) = IsReceipt c log h r × HaveAll rs

  both : (xs ys : List Receipt) → HaveAll xs → HaveAll ys → HaveAll (xs ++ ys)
  both [] ys first second = second
  both (x ∷ xs) ys first second = (first.0, both xs ys first.1 second)

  each : (xs : List Receipt) (k : ℕ) (r : Receipt) → HaveAll xs → slice_get xs k ≡ Some r → IsReceipt c log h r
  each [] k r all is = absurd (cc)
  each (x ∷ xs) zero r all is = let same : x ≡ r = cc in subst (IsReceipt c log h) same all.0
  each (x ∷ xs) (suc k) r all is = each xs k r all.1 is

  still_all : (xs : List Receipt) (e : Filled) → HaveAll xs → HaveAll (still xs e)
  still_all xs (Start g) all = tt
  still_all xs other all = all

  -- an entry of the host, with what the host says then
  module _ (i : ℕ) (e : Filled) (is : slice_get log i ≡ Some e) (of : is_of h e ≡ true) (m : Memory) (running : (at c log i).host h ≡ Running m) (t : Attempt) (does : m.doing ≡ Some (Attempts t)) where
    for_operation : (slot : ℕ) (reply : Reply) → said_of ((at c log (i + 1)).host h) ≡ Some (Ack slot reply) → (o : Operation) → t.operation ≡ o → HaveAll (receipt_for h i o slot reply)
    for_operation slot reply says (Submitting command) same = (
      record {
        host = refl;
        acknowledged = record { says = record { entry = e; is = is; of_host = of; says = says }; memory = m; running = running; doing = t; does = does; submitting = same };
      },
      tt,
    )
    for_operation slot reply says Recovering same = tt

    for_saying : (said : Option HostAnswer) → said_of ((at c log (i + 1)).host h) ≡ said → HaveAll (receipt_by h i (Some (Attempts t)) said)
    for_saying None says = tt
    for_saying (Some (Ack slot reply)) says = for_operation slot reply says t.operation refl
    for_saying (Some (Recovered n)) says = tt
    for_saying (Some (Looked n)) says = tt
    for_saying (Some (Beaten host)) says = tt
    for_saying (Some (Marked count)) says = tt
    for_saying (Some (Refused r)) says = tt

  for_doing : (i : ℕ) (e : Filled) → slice_get log i ≡ Some e → is_of h e ≡ true → (host : Host) → (at c log i).host h ≡ host → (o : Option Doing) → doing_of host ≡ o → (said : Option HostAnswer) → said_of ((at c log (i + 1)).host h) ≡ said → HaveAll (receipt_by h i o said)
  for_doing i e is of host running None does said says = tt
  for_doing i e is of Stopped running (Some doing) does said says = absurd (cc does)
  for_doing i e is of (Running m) running (Some (Attempts t)) does said says = for_saying i e is of m running t does said says
  for_doing i e is of (Running m) running (Some other) does said says = tt

  -- the host's own list before entry i
  abbrev own_at : ℕ → Own
  own_at i = own_of h (of_host h (take i log))

  next_all : (i : ℕ) (e : Filled) → i < length log → slice_get log i ≡ Some e → HaveAll (receipts_of c (own_at i)) → HaveAll (receipts_of c (own_at (suc i)))
  next_all i e less is all = subst (λ (o : Own). HaveAll (receipts_of c o)) (sym grown) (go (is_of h e) refl)
    where
      before : List Filled
      before = take i log

      place : length before ≡ i
      place = omega (arith, less, length-take i log)

      grown : own_at (suc i) ≡ own_of h (of_host h before ++ cond (is_of h e) ((length before, e) ∷ []) [])
      grown = ap (λ (l : List Filled). own_of h (of_host h l)) (take_next log i e is) ∙ ap (own_of h) (part_grows false h before e)

      here : (at c log i).host h ≡ host_in c (own_at i)
      here = host_is c before (own_at i) refl

      now : is_of h e ≡ true → said_of ((at c log (i + 1)).host h) ≡ said_of (host_step c h (host_in c (own_at i)) e)
      now of = let number : suc i ≡ i + 1 = omega arith in
          subst (λ (j : ℕ). said_of ((at c log j).host h) ≡ said_of (host_step c h (host_in c (own_at i)) e)) number
          (ap said_of (host_next c log i e h is of) ∙ ap (λ (s : Host). said_of (host_step c h s e)) here)

      go : (b : Bool) → is_of h e ≡ b → HaveAll (receipts_of c (own_of h (of_host h before ++ cond b ((length before, e) ∷ []) [])))
      go false off = subst (λ l. HaveAll (receipts_of c (own_of h l))) (sym (append-nil (of_host h before))) all
      go true of =
          let new : HaveAll (receipts_at c h (host_in c (own_at i)) i e) = for_doing i e is of (host_in c (own_at i)) here (doing_of (host_in c (own_at i))) refl (said_of (host_step c h (host_in c (own_at i)) e)) (now of) in
          let there : HaveAll (receipts_at c h (host_in c (own_at i)) (length before) e) = subst (λ (j : ℕ). HaveAll (receipts_at c h (host_in c (own_at i)) j e)) (sym place) new in
          subst HaveAll (sym (receipts_adds c (own_at i) (length before) e))
          (both (still (receipts_of c (own_at i)) e) (receipts_at c h (host_in c (own_at i)) (length before) e) (still_all (receipts_of c (own_at i)) e all) there)

  all_at : (i : ℕ) → i ≤ length log → HaveAll (receipts_of c (own_at i))
  all_at zero less = tt
  all_at (suc i) less = next_all i (get_or log i (Start 0)) (omega (arith, less)) (slice_get-get_or log i (Start 0) (omega (arith, less))) (all_at i (omega (arith, less)))

module _ (c : Shape) (log : List Filled) (own : Own) (part : own.entries ≡ of_host own.number log) where
  -- all receipts of a host stand in the log at their places
  pub has_receipts : HasReceipts c log own
  has_receipts k r is =
      let same : own_at c log own.number (length log) ≡ own = ap (λ (l : List Filled). own_of own.number (of_host own.number l)) (take-length log) ∙ ap (own_of own.number) (sym part) in
      let all : HaveAll c log own.number (receipts_of c own) = subst (λ (o : Own). HaveAll c log own.number (receipts_of c o)) same (all_at c log own.number (length log) (omega arith)) in
      each c log own.number (receipts_of c own) k r all is

  -- and go by its commands
  pub goes_by : (commands : List Command) → IsSafe c log commands → GoesBy c commands own
  goes_by commands safe =
      let there : (at c log (length log)).host own.number ≡ host_in c own = ap (λ (l : List Filled). (world c l).host own.number) (take-length log) ∙ host_is c log own part in
      record {
        prefix = subst (λ (s : Host). IsPrefix (learned_of s) commands) there (safe.prefix (length log) own.number);
        placed = λ k r is. safe.acknowledged r.place own.number r.slot r.command r.reply (has_receipts k r is).acknowledged;
        replied = λ k r is. safe.reply r.place own.number r.slot r.command r.reply (has_receipts k r is).acknowledged;
      }

-- WHAT IS LEFT

-- each host with an entry has a seat where those do whose numbers there are
pub covered : (c : Shape) (log : List Filled) (seats : List Own) → IsFreshRun c log → ((h : ℕ) → h < HOSTS → of_host h log ≢ [] → HasSeat seats h) → AreCovered log seats
covered c log seats run has h some = go (nat_lt h HOSTS) refl
  where
    go : (b : Bool) → nat_lt h HOSTS ≡ b → HasSeat seats h
    go true below = has h (ltb-true h HOSTS below) some
    go false above = absurd (some (none_above c log h (ltb-false h HOSTS above) run))

pub recorded : (c : Shape) (log : List Filled) (kept : List Entry) (seats : List Own) → kept ≡ plains log → IsFreshRun c log → AreCovered log seats → ArePartsOf log seats → HasOneLog c log → IsRecord c kept seats
recorded c log kept seats is run covers parts one =
    record {
      log = log;
      kept_is = is;
      run = run;
      covers = covers;
      parts = parts;
      hosts = λ i d less. sym (host_is c log (get_or seats i d) (parts i d less));
      receipts = λ i d less. has_receipts c log (get_or seats i d) (parts i d less);
      commands = one.commands;
      safe = one.is_safe;
      no_other = one.no_other;
      seats_go = λ i d less. goes_by c log (get_or seats i d) (parts i d less) one.commands one.is_safe;
    }
