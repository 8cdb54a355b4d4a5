use Rattle.std.specs.Prelude.{take, drop, replicate}
use Rattle.std.proofs.Common.{ℕ, ◌≡◌, ◌++◌, List, None, length, append-nil, ap, ◌∙◌, subst, arith}
use Rattle.std.proofs.lemmas.List.{take_all, drop_all}
use Rattle.torn_block.specs.declared.layout.TheConstants.{HOSTS}
use Rattle.host.specs.Kept as hosts
use Rattle.std.specs.Prelude.{Option}
use Rattle.world.specs.Opening.{begun_with}
use Rattle.simulator.specs.Kept.{Kept, LeadsTo}
use Rattle.simulator.proofs.Moved.{opens_with}
use Rattle.simulator.proofs.simulated_cluster.SimulatedCluster.restart.Goals as goal

-- all that stood there is written over
written_over : {X : Type 0} (n : ℕ) (new old : List X) → n ≡ length new → length old ≡ length new → take n (new ++ drop (length new) old) ≡ new
written_over n new old many as_many =
    ap (λ l. take n (new ++ l)) (drop_all (length new) old (omega (arith, as_many))) ∙ ap (take n) (append-nil new) ∙ take_all n new (omega (arith, many))

-- what is left
abbrev left : goal.After-self-2-1 → Kept
left c = record {
  shape = c.self.inside.config;
  disks = take c.self.inside.disks.len (c.migrate_again.new.disks ++ drop (length c.migrate_again.new.disks) c.self.inside.disks.items);
  hosts = take c.self.inside.hosts.len (c.stop_all.new.hosts ++ drop (length c.stop_all.new.hosts) c.self.inside.hosts.items);
}

restarted : (c : goal.After-self-2-1) → LeadsTo (begun_with c.self.inside.config c.args.log.now) (left c)
restarted c =
    let s = c.self.inside in
    let disks = c.migrate_again.new.disks in
    let stopped = c.stop_all.new.hosts in
    let none : Option hosts.Kept = None in
    let disks_are = written_over s.disks.len disks s.disks.items (omega (arith, c.deref_mut.ensures.len, c.migrate_again.auto.disks)) (omega (arith, ap length c.deref_mut.ensures.value, c.migrate_again.auto.disks)) in
    let hosts_are = written_over s.hosts.len stopped s.hosts.items (omega (arith, c.deref_mut-2.ensures.len, c.stop_all.auto.hosts)) (omega (arith, ap length c.deref_mut-2.ensures.value, c.stop_all.auto.hosts)) in
    let many : length c.deref_mut-2.result.now ≡ HOSTS = ap length c.deref_mut-2.ensures.value ∙ c.self.invariant.leads.shows.host_count in
    opens_with s.config c.args.log.now _ _ c.in_ok-migrate_again.ensures.can (disks_are ∙ c.in_ok-migrate_again.ensures.disks)
    (hosts_are ∙ c.stop_all.ensures ∙ ap (λ (n : ℕ). replicate n none) many)

pub invariant_of-self-2 : goal.invariant_of-self-2
invariant_of-self-2 c = record { log = _; leads = restarted c }

pub returns-clause-leads : goal.returns-clause-leads
returns-clause-leads c =
    subst (λ (k : Kept). LeadsTo (begun_with k.shape c.args.log.now) (left c)) c.self.view_is (restarted c)
