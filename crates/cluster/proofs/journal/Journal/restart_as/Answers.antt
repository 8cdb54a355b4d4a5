use Rattle.std.proofs.Common.{◌≡◌, ◌<◌, ◌++◌, ◌∷◌, [], ℕ, None, false, List, length, sym, ap, subst, ◌∙◌, arith}
use Rattle.torn_block.specs.declared.layout.TheConstants.{HOSTS}
use Rattle.paxos_block.specs.Shape.{Shape}
use Rattle.host.specs.Host.{fresh, is_stopped}
use Rattle.host.specs.Kept.{LeadsTo}
use Rattle.world.specs.Entry.{Filled, Start, Stop}
use Rattle.world.specs.Plain.{plains}
use Rattle.world.specs.World.{IsFreshRun}
use Rattle.world.specs.declared.entry.Entry.TheVariants as kept
use Rattle.cluster_tie.specs.Parts.{Own, adds}
use Rattle.cluster.specs.Receipts.{receipts_of}
use Rattle.cluster.specs.Seat.{host_in, IsRunning}
use Rattle.cluster.specs.declared.receipt.Receipt.{Receipt}
use Rattle.cluster.proofs.Begun.{restarts, restarted, none_restarted}
use Rattle.cluster.proofs.Journals.{plains_more, keeps_tokens}
use Rattle.cluster.proofs.journal.Journal.restart_as.Goals as goal

pub invariant_of-self-2 : goal.invariant_of-self-2
invariant_of-self-2 g c =
    let shape = g.N.ClusterName.shape in
    let j = c.self.invariant in
    let p = c.push_reserved.ensures in
    let q = c.push_reserved-2.ensures in
    let a = c.append_host.ensures in
    let b = c.append_host-2.ensures in
    let ok = c.in_ok-has_room_for_two.ensures.ok in
    let own = c.seat.inside.tie in
    let log = c.self.inside.tie in
    let s = Stop own.number in
    let t = Start own.number in
    let stop : g.S.TiedEntry.entry ≡ s = c.requires.stop ∙ ap (λ (o : Own). Stop o.number) (sym c.seat.view_is) in
    let start : g.T.TiedEntry.entry ≡ t = c.requires.start ∙ ap (λ (o : Own). Start o.number) (sym c.seat.view_is) in
    let same_host = c.host-host.ensures ∙ c.seat.invariant.running.leads.learner.is_host in
    let is_host : own.number < HOSTS = omega (arith, c.get-number.ensures.value, c.get-number.ensures.range, same_host) in
    let up : is_stopped (host_in shape own) ≡ false = ap is_stopped c.seat.invariant.running.is in
    let is_log : (log ++ s ∷ []) ++ t ∷ [] ≡ c.append_host-2.new.journal = (λ i. (log ++ sym stop i ∷ []) ++ sym start i ∷ []) ∙ sym (b.journal ∙ ap (λ (l : List Filled). l ++ g.T.TiedEntry.entry ∷ []) a.journal) in
    let first : c.push_reserved.new.self.items ≡ plains (log ++ s ∷ []) = p.items ∙ (λ i. (c.has_room_for_two.ensures.items ∙ j.kept) i ++ kept.Stop (same_host i) ∷ []) ∙ sym (plains_more log s) in
    record {
      config = j.config;
      kept = q.items ∙ (λ i. first i ++ kept.Start (same_host i) ∷ []) ∙ sym (plains_more (log ++ s ∷ []) t) ∙ ap plains is_log;
      run = subst (IsFreshRun shape) is_log (restarts shape log own j.run a.parts up is_host);
      room = omega (arith, p.len, p.capacity, q.len, q.capacity, ok.0);
      most = omega (arith, p.len, q.len, ok.1);
      total = j.total;
      parts = j.parts;
      enough = j.enough;
      empty = j.empty;
      tokens = keeps_tokens _ _ _ _ b.journal (keeps_tokens _ _ _ _ a.journal j.tokens);
    }

pub invariant_of-seat : goal.invariant_of-seat
invariant_of-seat g c =
    let shape = g.N.ClusterName.shape in
    let j = c.self.invariant in
    let a = c.append_host.ensures in
    let b = c.append_host-2.ensures in
    let made = c.in_ok-core.ensures in
    let own = c.seat.inside.tie in
    let log = c.self.inside.tie in
    let at = length log in
    let next = length c.append_host.new.journal in
    let s = Stop own.number in
    let t = Start own.number in
    let stop : g.S.TiedEntry.entry ≡ s = c.requires.stop ∙ ap (λ (o : Own). Stop o.number) (sym c.seat.view_is) in
    let start : g.T.TiedEntry.entry ≡ t = c.requires.start ∙ ap (λ (o : Own). Start o.number) (sym c.seat.view_is) in
    let same_host = c.host-host.ensures ∙ c.seat.invariant.running.leads.learner.is_host in
    let new_is : adds (adds own at s) next t ≡ c.append_host-2.new.host = (λ i. adds (adds own at (sym stop i)) next (sym start i)) ∙ sym (b.host ∙ ap (λ (o : Own). adds o next g.T.TiedEntry.entry) a.host) in
    let none = ap (λ (l : List Receipt). length l) made.acks.0 in
    let slots = ap (λ (k : Shape). k.slots) j.config in
    let leads : LeadsTo shape own.number fresh c.in_ok-core.core = subst (λ (h : ℕ). LeadsTo shape h fresh c.in_ok-core.core) same_host (subst (λ (k : Shape). LeadsTo k c.host-host.result fresh c.in_ok-core.core) j.config made.core) in
    record {
      running = subst (λ (o : Own). IsRunning shape o c.in_ok-core.core None) new_is (record { memory = fresh; is = restarted shape own at next; leads = leads; doing = tt });
      acks = made.acks.0 ∙ none_restarted shape own at next ∙ ap (receipts_of shape) new_is;
      few = omega (arith, none);
      room = omega (arith, made.acks.1, slots);
    }
