use Rattle.std.specs.Prelude.{map}
use Rattle.std.specs.List.{range_with_len}
use Rattle.std.proofs.Common.{ℕ, ◌≡◌, ◌+◌, [], ◌∷◌, ◌++◌, sym, ap, ◌∙◌, subst, arith}
use Rattle.std.proofs.lemmas.List.FromFn.{map-range_with_len_more}
use Rattle.world.specs.Happens.{Stop}
use Rattle.fault_sweep.specs.Replayed.{GoesOn}
use Rattle.fault_sweep.proofs.Replaying.{goes_further}
use Rattle.fault_sweep.proofs.replay.Replay.stop_all.Goals as goal

pub loop-number-preserved : goal.loop-number-preserved
loop-number-preserved c =
    let at = c.loop-number in
    let start = c.args.self.now in
    let one_more : map Stop (range_with_len 0 at.number) ++ Stop c.in-Some.host ∷ [] ≡ map Stop (range_with_len 0 (at.number + 1)) =
    ap (λ (h : ℕ). map Stop (range_with_len 0 at.number) ++ Stop h ∷ []) c.in-Some.ensures.host.1 ∙ sym (map-range_with_len_more Stop 0 at.number at.number (omega arith)) in
    record {
      counted = omega (arith, c.in_ok-happen.ensures.counted);
      happened =
          subst (GoesOn start c.happen.new.self) one_more
          (goes_further start at.self c.happen.new.self (map Stop (range_with_len 0 at.number)) (Stop c.in-Some.host ∷ []) at.invariant.happened c.in_ok-happen.ensures.happened);
    }
