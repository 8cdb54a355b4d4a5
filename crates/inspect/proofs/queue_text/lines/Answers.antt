use Rattle.std.proofs.Common.{◌<◌, ◌≤◌, ◌⊎◌, inl, inr, ℕ, false, List, [], length, get_or, subst, arith}
use Rattle.std.proofs.lemmas.List.{get_or_default}
use Rattle.std.proofs.lemmas.Bool.{cases_lt}
use Rattle.std.specs.Io.KnownBytes.{Appends}
use Rattle.lock_command.specs.declared.reply.LockValue.{LockValue}
use Rattle.inspect.specs.Text.{name_line}
use Rattle.inspect.proofs.LineLemmas.{one_more, all_written}
use Rattle.inspect.proofs.queue_text.lines.Goals as goal

-- what stands where a list of values has none
abbrev no_value : LockValue
no_value = record { bytes = []; valid = false }

pub loop-at-preserved : goal.loop-at-preserved
loop-at-preserved g c =
    let r = c.index-locks-at.result in
    let v : LockValue = get_or c.args.values.now c.loop-at.at no_value in
    let inside : c.loop-at.at < length c.args.locks.now = omega arith in
    let valued : c.loop-at.at < length c.args.values.now = omega arith in
    let named = subst (λ (n : List ℕ). Appends (g.W.Write.contents c.loop-at.out) (g.W.Write.contents c.name_line.new.out) (name_line c.loop-at.before.now n v)) c.as_bytes-name.ensures.value c.in_ok-name_line.ensures in
    one_more (g.W.Write.contents c.args.out.now) (g.W.Write.contents c.loop-at.out) (g.W.Write.contents c.name_line.new.out) (g.W.Write.contents c.lock_line.new.out) c.loop-at.before.now c.as_bytes-name.result.now _ c.args.locks.now c.args.values.now c.loop-at.at r v inside valued c.index-locks-at.is (get_or_default c.args.values.now c.loop-at.at no_value v valued) c.as_bytes-name.ensures.value c.loop-at.invariant named c.in_ok-lock_line.ensures

pub returns : goal.returns
returns g c =
    let last : (length c.args.locks.now ≤ c.loop-at.at) ⊎ (length c.args.values.now ≤ c.loop-at.at) =
    elim (cases_lt c.loop-at.at (length c.args.locks.now)) [
      | inl within ↦ inr (omega arith)
      | inr past ↦ inl past
    ] in
    all_written (g.W.Write.contents c.args.out.now) (g.W.Write.contents c.loop-at.out) c.loop-at.before.now _ c.args.locks.now c.args.values.now c.loop-at.at last c.loop-at.invariant
