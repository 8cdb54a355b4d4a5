use Rattle.std.proofs.Common.{◌≡◌, ℕ, true, length, refl, sym, ap, subst, ◌∙◌, arith, rules}
use Rattle.std.specs.Prelude.{All}
use Rattle.host.specs.Host.{idles}
use Rattle.cluster_tie.specs.Parts.{Own}
use Rattle.cluster.specs.Seat.{host_in}
use Rattle.race.specs.Race.{AreByHost}
use Rattle.race.proofs.Lists.{each_push}
use Rattle.race.proofs.seats.seats_of.Goals as goal

pub loop-number-preserved : goal.loop-number-preserved
loop-number-preserved g c =
    let is = c.in_ok-seat.ensures.ok in
    let items = c.loop-number.seats.items in
    let long : length items ≡ c.loop-number.number = omega arith in
    let host : c.in-Some.host ≡ c.loop-number.number = search rules in
    record {
      len = omega arith;
      room = omega arith;
      hosts =
          subst AreByHost (sym c.push_reserved.ensures.items)
          (each_push (λ (i : ℕ) (own : Own). own.number ≡ i) items c.in_ok-seat.field-0 c.loop-number.invariant.hosts (ap (λ (own : Own). own.number) is.is ∙ host ∙ sym long));
      idle =
          subst (All (λ (own : Own). idles (host_in g.N.ClusterName.shape own) ≡ true)) (sym c.push_reserved.ensures.items)
          (each_push (λ (i : ℕ) (own : Own). idles (host_in g.N.ClusterName.shape own) ≡ true) items c.in_ok-seat.field-0 c.loop-number.invariant.idle (subst (λ (own : Own). idles (host_in g.N.ClusterName.shape own) ≡ true) (sym is.is) refl));
    }
