use Rattle.std.proofs.Common.{rules, ◌≤◌, ℕ, List, refl, subst, sym, arith, inl, replicate, ap}
use Rattle.std.proofs.lemmas.List.{take-replicate, length-replicate}
use Rattle.disk.specs.Disk.{Write, Done, Fault}
use Rattle.folders.specs.Formatting.{EndsInFault, nothing, and_then}
use Rattle.folders.specs.Layout.{none, more}
use Rattle.folders.proofs.Laying.{fails_in, on_err}
use Rattle.log_folders.specs.Formatting.{OpensNoGate}
use Rattle.log_folders.proofs.layout.put_zeros.Goals as goal

pub loop-at-init : goal.loop-at-init
loop-at-init g c = record { within = omega arith; device = refl; zeros = none 0 c.args.device.now; closed = λ header. nothing c.args.device.now }

pub loop-at-preserved : goal.loop-at-preserved
loop-at-preserved g c =
    let len = c.min-len.result in
    let few : len ≤ 4096 = search rules in
    let gave =
    subst (λ (bytes : List ℕ). g.D.Disk.gives c.loop-at.device (Write c.args.boot.number c.loop-at.at bytes) Done c.write.new.self)
    (take-replicate len 4096 0 few) c.in_ok-write.ensures.gives in
    record {
      within = search rules;
      device = search rules;
      zeros = more 0 c.loop-at.at _ c.args.device.now c.loop-at.device c.write.new.self c.loop-at.invariant.zeros len gave refl;
      closed = λ header.
          and_then c.args.device.now c.loop-at.device c.write.new.self (c.loop-at.invariant.closed header) (Write c.args.boot.number c.loop-at.at (replicate len 0))
          (inl (ap (λ (n : ℕ). replicate n 0) (sym (length-replicate len 0)))) Done gave;
    }

pub returns-in_err-write-clause-closed : goal.returns-in_err-write-clause-closed
returns-in_err-write-clause-closed g c = λ header.
    let len = c.min-len.result in
    let few : len ≤ 4096 = search rules in
    let gave =
    subst (λ (bytes : List ℕ). g.D.Disk.gives c.loop-at.device (Write c.args.boot.number c.loop-at.at bytes) (Fault c.in_err-write.field-0.0) c.write.new.self)
    (take-replicate len 4096 0 few) c.in_err-write.ensures.gives in
    and_then c.args.device.now c.loop-at.device c.write.new.self (c.loop-at.invariant.closed header) (Write c.args.boot.number c.loop-at.at (replicate len 0))
    (inl (ap (λ (n : ℕ). replicate n 0) (sym (length-replicate len 0)))) (Fault c.in_err-write.field-0.0) gave

pub returns-in_err-write-clause-failed : goal.returns-in_err-write-clause-failed
returns-in_err-write-clause-failed g c =
    let len = c.min-len.result in
    let few : len ≤ 4096 = search rules in
    let gave =
    subst (λ (bytes : List ℕ). g.D.Disk.gives c.loop-at.device (Write c.args.boot.number c.loop-at.at bytes) (Fault c.in_err-write.field-0.0) c.write.new.self)
    (take-replicate len 4096 0 few) c.in_err-write.ensures.gives in
    on_err ((header : List ℕ) → EndsInFault g.D.Disk.gives (OpensNoGate header) c.args.device.now c.write.new.self)
    (λ header. fails_in g.D.Disk.gives (OpensNoGate header) c.args.device.now c.loop-at.device c.write.new.self (c.loop-at.invariant.closed header) (Write c.args.boot.number c.loop-at.at (replicate len 0))
    (inl (ap (λ (n : ℕ). replicate n 0) (sym (length-replicate len 0)))) c.in_err-write.field-0.0 gave)
    c.from_residual.result
