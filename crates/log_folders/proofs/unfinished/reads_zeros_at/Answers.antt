use Rattle.std.proofs.Common.{rules, ◌≡◌, ◌∙◌, ℕ, length, sym, subst}
use Rattle.disk.specs.Disk.{Read, Told, Fault}
use Rattle.attempt.specs.Looking.{OnlyReads}
use Rattle.folders.specs.Finishing.{not_zero, failed}
use Rattle.folders.proofs.Laying.{on_err, one_call}
use Rattle.folders.proofs.OnlyReading.{told_zeros}
use Rattle.log_folders.proofs.unfinished.reads_zeros_at.Goals as goal

pub returns-in_err-read-clause-read : goal.returns-in_err-read-clause-read
returns-in_err-read-clause-read g c = one_call g.D.Disk.gives OnlyReads c.args.device.now c.read.new.self (Read c.args.boot.number c.args.at _) tt _ c.in_err-read.ensures.gives

pub returns-clause-zeros : goal.returns-clause-zeros
returns-clause-zeros g c = λ zero.
    let long : length c.read.new.into ≡ c.args.len = search rules in
    told_zeros g.D.Disk.gives c.args.device.now c.read.new.self c.args.boot.number c.args.at c.args.len c.read.new.into long (sym c.is_zero.ensures ∙ zero)
    (subst (λ (n : ℕ). g.D.Disk.gives c.args.device.now (Read c.args.boot.number c.args.at n) (Told c.read.new.into) c.read.new.self) (search rules) c.in_ok-read.ensures.gives)

pub returns-clause-read : goal.returns-clause-read
returns-clause-read g c = one_call g.D.Disk.gives OnlyReads c.args.device.now c.read.new.self (Read c.args.boot.number c.args.at _) tt _ c.in_ok-read.ensures.gives

pub returns-in_err-read-clause-failed : goal.returns-in_err-read-clause-failed
returns-in_err-read-clause-failed g c =
    on_err _
    (failed c.in_err-read.field-0.0 (subst (λ (n : ℕ). g.D.Disk.gives c.args.device.now (Read c.args.boot.number c.args.at n) (Fault c.in_err-read.field-0.0) c.read.new.self) (search rules) c.in_err-read.ensures.gives))
    c.from_residual.result

pub returns-clause-more : goal.returns-clause-more
returns-clause-more g c = λ no.
    not_zero c.read.new.into (sym c.is_zero.ensures ∙ no)
    (subst (λ (n : ℕ). g.D.Disk.gives c.args.device.now (Read c.args.boot.number c.args.at n) (Told c.read.new.into) c.read.new.self) (search rules) c.in_ok-read.ensures.gives)
