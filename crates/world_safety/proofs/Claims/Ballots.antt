-- What is chosen in a ballot binds the proposals of it and of greater ones; a ballot has one proposal; and slots get theirs in order.
use Rattle.std.proofs.Common.{◌%◌, ◌-◌, ℕ, suc, ◌+◌, ◌<◌, ◌≤◌, ◌≡◌, List, length, sym, subst, ap, ◌∙◌, arith}
use Rattle.torn_block.specs.Layout.{Version, cluster_version, hosts_in}
use Rattle.torn_block.specs.declared.layout.TheConstants.{HOSTS}
use Rattle.paxos_block.proofs.VoteLemmas.{above, owned}
use Rattle.attempt.specs.Answers.{on}
use Rattle.attempt.specs.Proposal.{highest, ballot}
use Rattle.attempt.specs.Setup.{Setup}
use Rattle.lock_command.specs.Command.{spelling}
use Rattle.paxos_block.specs.Shape.{Shape}
use Rattle.world.specs.Entry.{Filled}
use Rattle.world.specs.World.{IsRun}
use Rattle.world.specs.Chosen.{at}
use Rattle.agreement.specs.State.{owner_of}
use Rattle.agreement.specs.Chosen.{IsProposed, IsChosenBy}
use Rattle.agreement.specs.Log.{events_of_slot}
use Rattle.agreement.proofs.Agreeing.{bound, one_proposed}
use Rattle.agreement.proofs.Invariant.{Holds}
use Rattle.agreement.proofs.Runs.{holds_reached}
use Rattle.agreement.proofs.Slots.{value_below}
use Rattle.world_safety.specs.Claims.{IsProposedAt, BindsGreater, BindsAll, OneProposal, ProposesInOrder}
use Rattle.world_safety.specs.Tied.{machine, IsRunning, HostAt}
use Rattle.world_safety.specs.Tracks.{IsChosenBefore, IsTrue, IsTrueOf}
use Rattle.world_safety.proofs.Runs.Tracks.{all_true}
use Rattle.world_safety.proofs.Moves.Machines.{machine_runs}
use Rattle.world_safety.proofs.Runs.Tracks.{moves_at, tied_at, carries_then, proposed_by, chosen_by_then, migrated_by_then, stays_by}

module _ (c : Shape) (log : List Filled) (run : IsRun c log) where
  -- the machine of a slot at a place is sound
  holds_at : (n slot : ℕ) → Holds c.disks (machine (moves_at c log run n) slot)
  holds_at n slot = holds_reached c.disks (events_of_slot slot (moves_at c log run n)) (machine_runs c.disks (moves_at c log run n) slot (tied_at c log run n).history)

  -- A PROPOSAL IN THE MACHINE

  module _ (i slot b : ℕ) (v : List ℕ) (is : IsProposedAt c log i slot b v) where
    -- by its ballot the value is proposed there
    proposed_then : IsProposed (machine (moves_at c log run (suc i)) slot).proposed b v
    proposed_then =
        subst (λ (d : ℕ). IsProposed (machine (moves_at c log run (suc i)) slot).proposed d v) is.in_ballot
        (subst (λ (k : ℕ). IsProposed (machine (moves_at c log run (suc i)) k).proposed (ballot is.setup (on is.heard)) v) is.on_slot
        ((carries_then c log run i is.setup is.heard is.hears).proposed v is.proposes))

    -- its host is one of the cluster's
    host_below : is.hears.host < HOSTS
    host_below =
        let running : IsRunning c (at c log i) (moves_at c log run i) is.hears.host is.hears.memory =
        subst (HostAt c (at c log i) (moves_at c log run i) is.hears.host) is.hears.running ((tied_at c log run i).hosts is.hears.host) in
        running.below

    -- and owns the ballot
    ballot_owned : owner_of b ≡ is.hears.host
    ballot_owned =
        let host : is.setup.host ≡ is.hears.host = ap (λ (s : Setup). s.host) is.hears.is_setup in
        let below = host_below in
        let version : is.setup.version ≡ cluster_version = ap (λ (s : Setup). s.version) is.hears.is_setup in
        let low : is.setup.host < hosts_in cluster_version = omega arith in
        ap owner_of (sym is.in_ballot)
        ∙ ap (λ (v : Version). (ballot is.setup (on is.heard) - 1) % hosts_in v) (sym version)
        ∙ owned is.setup.version is.setup.host (highest is.setup (on is.heard)) (subst (λ (v : Version). is.setup.host < hosts_in v) (sym version) low)
        ∙ host

    -- all slots before have chosen values
    chosen_below : (k : ℕ) → k < slot → (u : List ℕ) × IsChosenBefore c log i k u
    chosen_below k below =
        let m = is.hears.memory in
        let here : length m.learned ≡ slot = ap (λ (s : Setup). s.slot) (sym is.hears.is_setup) ∙ is.on_slot in
        let known : IsTrue c log i is.hears.host m = subst (IsTrueOf c log i is.hears.host) is.hears.running (all_true c log run i is.hears.host) in
        let found = value_below m.learned k (omega arith) in
        (spelling found.0, (known.learned k found.0 found.1).1)

  -- WHAT IS CLAIMED

  pub binds_greater : BindsGreater c log
  binds_greater i j slot b d value other chosen le proposed =
      let n = suc (i + j) in
      let by : IsChosenBy c.disks (machine (moves_at c log run (suc i)) slot) b value =
      subst (λ (k : ℕ). IsChosenBy c.disks (machine (moves_at c log run (suc i)) slot) k value) chosen.in_ballot (chosen_by_then c log run i slot value chosen.is) in
      bound c.disks (machine (moves_at c log run n) slot) (holds_at n slot) b value (stays_by c log run (suc i) n slot b value (omega arith) by) d other le
      (proposed_by c log run (suc j) n slot d other (omega arith) (proposed_then j slot d other proposed))

  -- a ballot is above 0
  positive : (j slot d : ℕ) (other : List ℕ) → IsProposedAt c log j slot d other → 1 ≤ d
  positive j slot d other is = let over = above is.setup.version is.setup.host (highest is.setup (on is.heard)) in let same = is.in_ballot in omega arith

  pub binds_all : BindsAll c log
  binds_all j slot d value other migrated proposed =
      let n = suc j in
      bound c.disks (machine (moves_at c log run n) slot) (holds_at n slot) 1 value (migrated_by_then c log run n slot value (omega arith) migrated) d other (positive j slot d other proposed) (proposed_then j slot d other proposed)

  pub one_proposal : OneProposal c log
  one_proposal i j slot b value other first second =
      let n = suc (i + j) in
      record {
        same_host = sym (ballot_owned j slot b other second) ∙ ballot_owned i slot b value first;
        same_value = one_proposed (machine (moves_at c log run n) slot).proposed b value other
            (proposed_by c log run (suc i) n slot b value (omega arith) (proposed_then i slot b value first)) (proposed_by c log run (suc j) n slot b other (omega arith) (proposed_then j slot b other second));
      }

  pub proposes_in_order : ProposesInOrder c log
  proposes_in_order i slot b k value proposed below = chosen_below i slot b value proposed k below
