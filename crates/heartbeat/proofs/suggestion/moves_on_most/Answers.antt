use Rattle.std.proofs.Common.{◌≡◌, ◌≤◌, ◌-◌, ◌*◌, ◌∙◌, ℕ, length, take, ap, sym, inl, inr, arith}
use Rattle.std.specs.Prelude.{nat_lt}
use Rattle.std.specs.List.{count_by, zip}
use Rattle.std.proofs.lemmas.Bool.{cases_lt, lt-ltb, le-ltb}
use Rattle.heartbeat.specs.Suggesting.{moves_in}
use Rattle.heartbeat.proofs.Hosts.{one_more, none_more, all_counted}
use Rattle.heartbeat.proofs.suggestion.moves_on_most.Goals as goal
use Rattle.heartbeat.proofs.suggestion.moves_on_most.Goals.{then-has_moved, else-has_moved}

pub loop-disk-preserved : goal.loop-disk-preserved
loop-disk-preserved c = elim c.if-has_moved.branch [
  | then-has_moved w ↦
      (let more = one_more c.args.host c.args.before.now c.args.after.now c.loop-disk.disk (omega arith) c.requires.disks (sym c.has_moved.ensures ∙ w.if-has_moved.true) in
      record { is = omega (arith, more, w.moves-is); few = omega (arith, w.moves-is) })
  | else-has_moved w ↦
      (let same = none_more c.args.host c.args.before.now c.args.after.now c.loop-disk.disk (omega arith) c.requires.disks (sym c.has_moved.ensures ∙ w.if-has_moved.false) in
      record { is = omega (arith, same, w.moves-is); few = omega (arith, w.moves-is) })
]

-- fewer stay than move where more than half move
half : (all moves : ℕ) → moves ≤ all → nat_lt (all - moves) moves ≡ nat_lt all (2 * moves)
half all moves few = elim (cases_lt all (2 * moves)) [
  | inl less ↦ lt-ltb (all - moves) moves (omega arith) ∙ sym (lt-ltb all (2 * moves) less)
  | inr not ↦ le-ltb (all - moves) moves (omega arith) ∙ sym (le-ltb all (2 * moves) not)
]

pub returns : goal.returns
returns c =
    let before = c.args.before.now in
    let after = c.args.after.now in
    let last : c.loop-disk.disk ≡ length before = omega arith in
    let few : c.loop-disk.moves ≤ length before = omega arith in
    let all : c.loop-disk.moves ≡ count_by (moves_in c.args.host) (zip before after) =
    c.loop-disk.invariant.is ∙ ap (λ (n : ℕ). count_by (moves_in c.args.host) (take n (zip before after))) last ∙ all_counted c.args.host before after c.requires.disks in
    half (length before) c.loop-disk.moves few ∙ ap (λ (n : ℕ). nat_lt (length before) (2 * n)) all
