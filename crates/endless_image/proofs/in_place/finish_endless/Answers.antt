use Rattle.std.specs.Prelude.{IfErr}
use Rattle.std.proofs.Common.{Result, Ok, Err, inl, inr}
use Rattle.std.proofs.lemmas.Result.{err_from_is_err_and}
use Rattle.disk.specs.declared.fault.DiskFault.{DiskFault}
use Rattle.disk.specs.Disk.{Call, Sync, Answer, Fault, done_answer}
use Rattle.endless_image.specs.InPlace.{StopsBy, finishing}
use Rattle.endless_image.proofs.in_place.finish_endless.Goals as goal

-- what holds of the fault with which the last call is answered
err_by : {D T : Type 0} (gives : D → Call → Answer → D → Type 0) (P : DiskFault → Type 0) (last new : D) (call : Call) → ((fault : DiskFault) → gives last call (Fault fault) new → P fault)
    → (result : Result T DiskFault) → gives last call (done_answer result) new → IfErr result P
err_by gives P last new call so (Ok done) gave = tt
err_by gives P last new call so (Err fault) gave = so fault gave

pub returns-in_err-write-2-clause-stopped : goal.returns-in_err-write-2-clause-stopped
returns-in_err-write-2-clause-stopped g c =
    let p = err_from_is_err_and c.from_residual-in_err-write-2.result c.from_residual-in_err-write-2.ensures.1 in
    let stops : StopsBy g.D.Disk.gives (finishing c.args.boot.number) c.in_err-write-2.field-0.0 c.args.device.now c.write-2.new.self =
    inr (c.sync.new.self, c.in_ok-sync.ensures.gives, inr (c.write.new.self, c.in_ok-write.ensures.gives, inr (c.sync-2.new.self, c.in_ok-sync-2.ensures.gives, inl c.in_err-write-2.ensures.gives))) in
    rw (p.1, p.2) stops

pub returns-clause-stopped : goal.returns-clause-stopped
returns-clause-stopped g c =
    err_by g.D.Disk.gives (λ fault. StopsBy g.D.Disk.gives (finishing c.args.boot.number) fault c.args.device.now c.sync-3.new.self) c.write-2.new.self c.sync-3.new.self (Sync c.args.boot.number)
    (λ fault gave.
    inr (c.sync.new.self, c.in_ok-sync.ensures.gives, inr (c.write.new.self, c.in_ok-write.ensures.gives, inr (c.sync-2.new.self, c.in_ok-sync-2.ensures.gives, inr (c.write-2.new.self, c.in_ok-write-2.ensures.gives, inl gave)))))
    c.sync-3.result
    c.sync-3.ensures.gives
