-- What a seat keeps, before and behind an answer.
use Rattle.std.proofs.Common.{◌≡◌, ◌≤◌, ℕ, false, List, ◌++◌, length, Option, Some, None, refl, sym, ap, ◌∙◌, arith, length-append}
use Rattle.std.specs.Prelude.{is_none}
use Rattle.disk.specs.Disk.{Call, Answer}
use Rattle.lock_command.specs.declared.command.Command.{Command}
use Rattle.paxos_block.specs.Shape.{Shape}
use Rattle.host.specs.Host.{Host, Running, Memory, Doing, hears_from, is_idle, next_doing, next_in, next_of}
use Rattle.host.specs.Kept.{Kept, LeadsTo}
use Rattle.world.specs.Entry.{Called, host_step}
use Rattle.cluster_tie.specs.Parts.{Own, adds}
use Rattle.cluster.specs.declared.receipt.Receipt.{Receipt}
use Rattle.cluster.specs.Receipts.{receipt_by, receipts_said, receipts_at, receipts_of}
use Rattle.cluster.specs.Seat.{host_in, due_in, IsDueOn, IsRunning}
use Rattle.cluster.proofs.Adding.{host_adds, receipts_adds}
use Rattle.cluster.proofs.Heard.{IsHeard, hears}

due_busy : (c : Shape) (h : ℕ) (m : Memory) (o : Option Doing) (due : ℕ × Call) → next_doing c h m o ≡ Some due → is_none o ≡ false
due_busy c h m None due is = absurd (cc is)
due_busy c h m (Some doing) due is = refl

module _ (c : Shape) (own : Own) (core : Kept) (sub : Option Command) (r : IsRunning c own core sub) where
  pub next_is : next_of c own.number (host_in c own) ≡ next_in c own.number r.memory
  next_is = ap (next_of c own.number) r.is

  -- a call is due where a task is under way
  pub busy : (k : ℕ) → IsDueOn c own k → is_idle r.memory ≡ false
  busy k due = due_busy c own.number r.memory r.memory.doing (k, (due_in c own).1) (sym next_is ∙ due)

  module _ (new : Kept) (at k : ℕ) (call : Call) (answer : Answer) (left : List ℕ) (at_work : is_idle r.memory ≡ false)
      (next : (c : Shape) (h : ℕ) (m : Memory) → LeadsTo c h m core → LeadsTo c h (hears_from c h m m.doing k answer) new) where
    abbrev after : Memory
    after = hears_from c own.number r.memory r.memory.doing k answer

    is_after : host_in c (adds own at (Called own.number k call answer left)) ≡ Running after
    is_after = host_adds c own at (Called own.number k call answer left) ∙ ap (λ (s : Host). host_step c own.number s (Called own.number k call answer left)) r.is

    leads_after : LeadsTo c own.number after new
    leads_after = next c own.number r.memory r.leads

    heard : IsHeard c own.number at sub r.memory r.memory.doing after
    heard = hears c own.number at sub r.memory r.memory.doing k answer at_work r.doing

    pub runs_on : IsRunning c (adds own at (Called own.number k call answer left)) new sub
    runs_on = record { memory = after; is = is_after; leads = leads_after; doing = heard.keeps }

    -- what was written down is what the entry acknowledges
    said : receipts_said own.number at sub new.said ≡ receipt_by own.number at r.memory.doing after.said
    said = ap (receipts_said own.number at sub) leads_after.said ∙ heard.said

    pub acknowledged : (before acks : List Receipt) → before ≡ receipts_of c own → acks ≡ before ++ receipts_said own.number at sub new.said → acks ≡ receipts_of c (adds own at (Called own.number k call answer left))
    acknowledged before acks was is =
        is
        ∙ (λ i. was i ++ said i)
        ∙ sym (receipts_adds c own at (Called own.number k call answer left) ∙ ap (λ (s : Host). receipts_of c own ++ receipts_at c own.number s at (Called own.number k call answer left)) r.is)

    pub counted : (before acks : List Receipt) → acks ≡ before ++ receipts_said own.number at sub new.said → length before ≤ length core.prefix → length acks ≤ length new.prefix
    counted before acks is less =
        let more = heard.counts in
        let all = ap (λ (l : List Receipt). length l) (is ∙ ap (λ (l : List Receipt). before ++ l) said) ∙ length-append before (receipt_by own.number at r.memory.doing after.said) in
        let was = ap (λ (l : List Command). length l) r.leads.prefix in
        let now = ap (λ (l : List Command). length l) leads_after.prefix in
        omega (arith, more, all, was, now, less)
