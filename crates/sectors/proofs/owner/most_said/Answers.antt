use Rattle.std.proofs.Common.{◌+◌, ◌∙◌, ◌<◌, ap, subst, arith, get_or}
use Rattle.std.specs.Prelude.{Option, Some, None, slice_get}
use Rattle.std.specs.List.{count_by}
use Rattle.std.proofs.lemmas.Bool.{both_ways}
use Rattle.std.proofs.lemmas.Option.{slice_get-get_or}
use Rattle.sectors.specs.declared.name.MachineName.{MachineName}
use Rattle.sectors.specs.Owners.{says, IsAnother}
use Rattle.sectors.proofs.Owners.{best_is, best_kept, best_taken, best_ends, one_name, nothing_said}
use Rattle.sectors.proofs.owner.most_said.Goals as goal
use Rattle.sectors.proofs.owner.most_said.Goals.{in-Some+then-is_another+then-count-most, in-Some+else-is_another, else-is_another-via-then-is_another+else-count-most, else-is_another-via-else-is_another, in_default}

pub loop-one-preserved : goal.loop-one-preserved
loop-one-preserved c =
    let m = c.args.machine.now in
    let s = c.args.said.now in
    let i = c.loop-one.one-index in
    let at = slice_get-get_or s i None c.loop-one-test.true in
    let kept = best_kept m s i c.loop-one.most c.loop-one.found c.loop-one.invariant in
    let is = best_is m s (i + 1) in
    elim c.match-one.branch [
      | in-Some+then-is_another+then-count-most w ↦
          (let name = w.in-Some.name in
          let here = at ∙ ap (λ (o : Option MachineName). Some o) w.in-Some.is in
          let more : c.loop-one.most < count_by (says name) s = omega (arith, w.if-count-most.true, w.count_of-count.ensures) in
          is (count_by (says name) s) c.match-one.most (Some name) c.match-one.found (w.most-is ∙ w.count_of-count.ensures) w.found-is
          (best_taken m s i c.loop-one.most c.loop-one.found c.loop-one.invariant name here (w.is_another.ensures.0 w.if-is_another.true) more))
      | in-Some+else-is_another w ↦
          (let here = at ∙ ap (λ (o : Option MachineName). Some o) w.in-Some.is in
          is c.loop-one.most c.match-one.most c.loop-one.found c.match-one.found w.most-is w.found-is
          (kept (λ rival there other.
          let one = one_name rival w.in-Some.name (slice_get s i) there here in
          elim w.else-is_another.branch [
            | else-is_another-via-then-is_another+else-count-most v ↦
                (let e = ap (λ (r : MachineName). count_by (says r) s) one in
                let n = w.count_of-count.ensures in
                let less = v.if-count-most.false in
                omega (arith, e, n, less))
            | else-is_another-via-else-is_another v ↦
                absurd (both_ways w.is_another.result v.if-is_another.false (w.is_another.ensures.1 (subst (λ (r : MachineName). IsAnother m r) one other)))
          ])))
      | in_default w ↦
          is c.loop-one.most c.match-one.most c.loop-one.found c.match-one.found w.most-is w.found-is
          (kept (λ rival there other. absurd (w.in_default.not-Some rival (nothing_said rival (slice_get s i) (get_or s i None) at there))))
    ]

pub returns-clause-none : goal.returns-clause-none
returns-clause-none c =
    (best_ends c.args.machine.now c.args.said.now c.loop-one.one-index c.loop-one.most c.loop-one.found c.loop-one-test.false c.loop-one.invariant).0

pub returns-clause-some : goal.returns-clause-some
returns-clause-some c =
    (best_ends c.args.machine.now c.args.said.now c.loop-one.one-index c.loop-one.most c.loop-one.found c.loop-one-test.false c.loop-one.invariant).1
