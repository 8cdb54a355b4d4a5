use Rattle.std.proofs.Common.{◌≡◌, ◌++◌, ◌∷◌, [], ℕ, None, List, length, set, refl, sym, ap, subst, ◌∙◌, arith}
use Rattle.paxos_block.specs.Shape.{Shape}
use Rattle.host.specs.Host.{fresh}
use Rattle.host.specs.Kept.{LeadsTo}
use Rattle.world.specs.Entry.{Filled, Start, is_of}
use Rattle.world.specs.Plain.{plain, plains}
use Rattle.world.specs.World.{IsFreshRun}
use Rattle.world.specs.declared.entry.Entry.{Entry}
use Rattle.cluster_tie.specs.Parts.{Own, own_of, adds, of_host}
use Rattle.cluster.specs.Receipts.{receipts_of}
use Rattle.cluster.specs.Seat.{IsRunning}
use Rattle.cluster.specs.declared.receipt.Receipt.{Receipt}
use Rattle.cluster.proofs.Begun.{is_itself, starts}
use Rattle.cluster.proofs.Journals.{plains_more, takes_token}
use Rattle.cluster.proofs.journal.Journal.seat_as.Goals as goal

module _ (g : _) (c : goal.After-push_reserved g) where
  number : c.into.result ≡ c.args.host
  number = c.into.ensures ∙ c.get.ensures.value

  waits : c.in-Some.tie ≡ own_of c.args.host []
  waits = c.in-Some.ensures.token ∙ ap (λ (n : ℕ). own_of n []) number

  new_is : adds (own_of c.args.host []) (length c.self.inside.tie) (Start c.args.host) ≡ c.append_host.new.host
  new_is = (λ i. adds (sym waits i) (length c.self.inside.tie) (sym c.requires.told i)) ∙ sym c.append_host.ensures.host

pub invariant_of-result : goal.invariant_of-result
invariant_of-result g c =
    let shape = g.N.ClusterName.shape in
    let j = c.self.invariant in
    let made = c.in_ok-core.ensures in
    let none = ap (λ (l : List Receipt). length l) made.acks.0 in
    let slots = ap (λ (s : Shape). s.slots) j.config in
    record {
      running = subst (λ (o : Own). IsRunning shape o c.in_ok-core.core None) (new_is g c)
          (record { memory = fresh; is = refl; leads = subst (λ (s : Shape). LeadsTo s c.args.host fresh c.in_ok-core.core) j.config made.core; doing = tt });
      acks = made.acks.0 ∙ ap (receipts_of shape) (new_is g c);
      few = omega (arith, none);
      room = omega (arith, made.acks.1, slots);
    }

pub invariant_of-self-2 : goal.invariant_of-self-2
invariant_of-self-2 g c =
    let shape = g.N.ClusterName.shape in
    let j = c.self.invariant in
    let p = c.push_reserved.ensures in
    let a = c.append_host.ensures in
    let ok = c.in_ok-has_room.ensures.ok in
    let log = c.self.inside.tie in
    let e = Start c.args.host in
    let part : [] ≡ of_host c.args.host log = subst (λ (o : Own). o.entries ≡ of_host o.number log) (waits g c) a.parts in
    let run = starts shape log c.args.host j.run part (omega (arith, c.get.ensures.value, c.get.ensures.range)) in
    record {
      config = j.config;
      kept = p.items ∙ ap (λ (l : List Entry). l ++ plain e ∷ []) (c.has_room.ensures.items ∙ j.kept) ∙ sym (plains_more log e) ∙ ap (λ (x : Filled). plains (log ++ x ∷ [])) (sym c.requires.told) ∙ ap plains (sym a.journal);
      run = subst (IsFreshRun shape) (ap (λ (x : Filled). log ++ x ∷ []) (sym c.requires.told) ∙ sym a.journal) run;
      room = omega (arith, p.len, p.capacity, ok.0);
      most = omega (arith, p.len, ok.1);
      total = j.total;
      parts = j.parts;
      enough = j.enough;
      empty = j.empty;
      tokens = takes_token _ _ c.args.host log _ g.E.TiedEntry.entry (c.in-Some.ensures.rest ∙ ap (λ (n : ℕ). set c.self.inside.hosts.items n None) (number g c)) a.journal (ap (is_of c.args.host) c.requires.told ∙ is_itself c.args.host) j.tokens;
    }
