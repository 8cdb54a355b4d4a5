use Rattle.std.proofs.Common.{rules, ◌≡◌, ◌<◌, ◌+◌, ◌∙◌, ℕ, List, sym, subst, arith, refl, inl, inr, get_or, set}
use Rattle.std.proofs.lemmas.List.{get_or-set_same, get_or-set_other, length-set}
use Rattle.std.proofs.lemmas.Bool.{cases_lt}
use Rattle.torn_block.specs.Layout.{cluster_version}
use Rattle.torn_block.specs.declared.layout.TheConstants.{HOSTS}
use Rattle.torn_block.specs.Damage.{block_of}
use Rattle.torn_block.proofs.DamageLaws.{sound_is_not_damaged}
use Rattle.heartbeat.specs.Beat.{IsCounter}
use Rattle.heartbeat.proofs.AreaLemmas.{damaged_area, sound_area, counters_are}
use Rattle.heartbeat.proofs.area.decode_area.Invariants.{Counters}
use Rattle.heartbeat.proofs.area.decode_area.Goals as goal

next_done : (area counters : List ℕ) (host number : ℕ) → Counters area counters host → host < HOSTS → IsCounter area host number → Counters area (set counters host number) (host + 1)
next_done area counters host number sofar below is =
    record {
      count = length-set counters host number ∙ sofar.count;
      done =
          λ k under.
          elim (cases_lt k host) [
            | inl lt ↦ subst (IsCounter area k) (sym (get_or-set_other counters host k number 0 (λ same. absurd (omega arith)))) (sofar.done k lt)
            | inr ge ↦
                (let same : host ≡ k = omega arith in
                subst (λ (j : ℕ). IsCounter area j (get_or (set counters host number) j 0)) same (subst (IsCounter area host) (sym (get_or-set_same counters host number 0 (omega (arith, sofar.count)))) is))
          ];
    }

pub loop-host-init : goal.loop-host-init
loop-host-init c = record { count = refl; done = λ k below. absurd (omega arith) }

pub loop-host-preserved : goal.loop-host-preserved
loop-host-preserved c =
    next_done c.args.bytes.now c.loop-host.counters c.loop-host.host c.in_ok-counters.field-0 c.loop-host.invariant (omega arith) (record { sound = c.in_ok-counters.ensures.sound; counts = c.in_ok-counters.ensures.counter })

pub returns-clause-counters : goal.returns-clause-counters
returns-clause-counters c = λ host below. c.loop-host.invariant.done host (omega arith)

pub returns-clause-damaged : goal.returns-clause-damaged
returns-clause-damaged c = (
  (λ t. absurd cc),
  (λ damage.
      absurd (sound_is_not_damaged (block_of cluster_version damage.0 c.args.bytes.now) (c.loop-host.invariant.done damage.0 (let below = damage.1 in omega arith)).sound damage.2)),
)

pub returns-in_err-counters-clause-unsaid : goal.returns-in_err-counters-clause-unsaid
returns-in_err-counters-clause-unsaid c =
    let none = damaged_area c.args.bytes.now c.told-bytes (λ i. omega (arith, c.fits-bytes i)) (c.loop-host.host, omega arith, c.in_err-counters.ensures.damaged) in
    ((λ t. none), (λ is. search rules))

pub returns-clause-unsaid : goal.returns-clause-unsaid
returns-clause-unsaid c =
    ((λ t. absurd cc), (λ none. absurd (let some = sound_area c.args.bytes.now c.told-bytes (λ host below. (c.loop-host.invariant.done host (omega arith)).sound) in cc)))

pub returns-clause-said : goal.returns-clause-said
returns-clause-said c = sound_area c.args.bytes.now c.told-bytes (λ host below. (c.loop-host.invariant.done host (omega arith)).sound)

pub returns-clause-exact : goal.returns-clause-exact
returns-clause-exact c = counters_are c.args.bytes.now c.loop-host.counters c.loop-host.invariant.count (λ host below. c.loop-host.invariant.done host (omega arith))
