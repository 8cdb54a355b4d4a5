use Rattle.std.proofs.Common.{arith, ◌∙◌, length, subst}
use Rattle.std.proofs.lemmas.List.{drop-set-lt}
use Rattle.std.proofs.lemmas.Option.{slice_get_within, get_or_from_slice_get}
use Rattle.lock_command.specs.declared.record.LockRecord.{LockRecord}
use Rattle.c_host.specs.Views.{ShowsLock}
use Rattle.c_host.proofs.Shown.{shown_put}
use Rattle.c_epochs.proofs.showing.show_locks.Goals as goal

pub loop-place-preserved : goal.loop-place-preserved
loop-place-preserved c = record {
  shown = shown_put ShowsLock c.loop-place.into c.args.locks.now c.loop-place.place c.of.result (λ r there. let e = c.index-locks-place.is ∙ get_or_from_slice_get c.args.locks.now c.loop-place.place r c.index-locks-place.result there in subst (λ (s : LockRecord). ShowsLock c.of.result s) e c.of.ensures) c.loop-place.invariant.shown;
  rest = λ n low. drop-set-lt n c.loop-place.into c.loop-place.place c.of.result (omega (arith, low)) ∙ c.loop-place.invariant.rest n (omega (arith, low));
}

pub returns-clause-shown : goal.returns-clause-shown
returns-clause-shown c = λ k view r low at there. c.loop-place.invariant.shown k view r (omega (arith, slice_get_within c.args.locks.now k r there, c.loop-place-test.false, c.min-place-end.ensures, c.loop-place.auto)) at there

pub returns-clause-rest : goal.returns-clause-rest
returns-clause-rest c = c.loop-place.invariant.rest (length c.args.locks.now) (omega (arith, c.min-place-end.ensures, c.loop-place.auto))
