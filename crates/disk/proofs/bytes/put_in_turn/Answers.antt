use Rattle.std.proofs.Common.{◌≡◌, ◌+◌, ◌%◌, ℕ, List, length, get_or, set, sym, ◌∙◌, ap, arith, length-set}
use Rattle.std.proofs.Math.Nat.{mod-add-mod}
use Rattle.std.proofs.lemmas.Nat.{mod_below}
use Rattle.disk.specs.Disk.{put_at}
use Rattle.disk.specs.Filling.{spread, nth_given}
use Rattle.disk.proofs.FillingLemmas.{length-spread, spread_split, put_more}
use Rattle.disk.proofs.bytes.put_in_turn.Goals as goal

pub bounds-given-turn : goal.bounds-given-turn
bounds-given-turn c =
    omega (arith, c.loop-i.invariant.turn, mod_below (c.args.first + c.loop-i.i) (length c.args.given.now) c.requires.given)

pub turn_after-turn-requires : goal.turn_after-turn-requires
turn_after-turn-requires c =
    omega (arith, c.loop-i.invariant.turn, mod_below (c.args.first + c.loop-i.i) (length c.args.given.now) c.requires.given)

pub loop-i-preserved : goal.loop-i-preserved
loop-i-preserved c =
    let old = c.args.bytes.now.items in
    let at = c.args.at in
    let given = c.args.given.now in
    let first = c.args.first in
    let i = c.loop-i.i in
    let xs = spread given first i in
    let n : i ≡ length xs = sym (length-spread given first i) in
    let next : first + i + 1 ≡ first + (i + 1) = omega arith in
    record {
      turn =
          c.turn_after-turn.ensures
          ∙ ap (λ (k : ℕ). (k + 1) % length given) c.loop-i.invariant.turn
          ∙ mod-add-mod (first + i) (length given) 1
          ∙ ap (λ (k : ℕ). k % length given) next;
      as_many = length-set _ _ _ ∙ c.loop-i.invariant.as_many;
      so_far =
          ap (λ (k : ℕ). set c.loop-i.bytes.items (at + i) (get_or given k 0)) c.loop-i.invariant.turn
          ∙ ap (λ (l : List ℕ). set l (at + i) (nth_given given (first + i))) c.loop-i.invariant.so_far
          ∙ ap (λ (k : ℕ). set (put_at old at xs) (at + k) (nth_given given (first + i))) n
          ∙ put_more old xs at (nth_given given (first + i)) (omega (arith, n))
          ∙ ap (put_at old at) (sym (spread_split given first i 1));
    }
