use Rattle.std.proofs.Common.{◌≡◌, ◌∙◌, ℕ, Option, Some, ap, sym, inl, inr, arith}
use Rattle.std.specs.List.{find, range_with_len}
use Rattle.std.specs.Option.{unwrap_or}
use Rattle.std.proofs.lemmas.Bool.{cases_eq}
use Rattle.torn_block.specs.declared.layout.TheConstants.{HOSTS}
use Rattle.heartbeat.specs.Suggesting.{moves_on_most}
use Rattle.heartbeat.proofs.Hosts.{first_found, none_found}
use Rattle.heartbeat.proofs.suggestion.suggest.Goals as goal

pub returns-then-moves_on_most : goal.returns-then-moves_on_most
returns-then-moves_on_most c =
    let p = moves_on_most c.args.before.now c.args.after.now in
    let found : find p (range_with_len 0 HOSTS) ≡ Some c.loop-host.host =
    first_found p HOSTS c.loop-host.host c.loop-host.invariant (omega arith) (sym c.moves_on_most.ensures ∙ c.if-moves_on_most.true) in
    sym (ap (λ (o : Option ℕ). unwrap_or o c.args.me) found)

pub returns : goal.returns
returns c =
    let none = none_found (moves_on_most c.args.before.now c.args.after.now) HOSTS (λ host below. c.loop-host.invariant host (omega arith)) in
    sym (ap (λ (o : Option ℕ). unwrap_or o c.args.me) none)

pub loop-host-preserved : goal.loop-host-preserved
loop-host-preserved c = λ k below. elim (cases_eq k c.loop-host.host) [
  | inl same ↦ ap (moves_on_most c.args.before.now c.args.after.now) same ∙ sym c.moves_on_most.ensures ∙ c.if-moves_on_most.false
  | inr off ↦ c.loop-host.invariant k (omega arith)
]
