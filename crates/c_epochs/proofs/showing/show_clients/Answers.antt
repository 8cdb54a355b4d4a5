use Rattle.std.proofs.Common.{arith, ◌∙◌, length, subst}
use Rattle.std.proofs.lemmas.List.{drop-set-lt}
use Rattle.std.proofs.lemmas.Option.{slice_get_within, get_or_from_slice_get}
use Rattle.lock_table.specs.declared.known_client.KnownClient.{KnownClient}
use Rattle.c_host.specs.Views.{ShowsClient}
use Rattle.c_host.proofs.Shown.{shown_put}
use Rattle.c_epochs.proofs.showing.show_clients.Goals as goal

pub loop-place-preserved : goal.loop-place-preserved
loop-place-preserved c = record {
  shown = shown_put ShowsClient c.loop-place.into c.args.clients.now c.loop-place.place c.of.result (λ r there. let e = c.index-clients-place.is ∙ get_or_from_slice_get c.args.clients.now c.loop-place.place r c.index-clients-place.result there in subst (λ (s : KnownClient). ShowsClient c.of.result s) e c.of.ensures) c.loop-place.invariant.shown;
  rest = λ n low. drop-set-lt n c.loop-place.into c.loop-place.place c.of.result (omega (arith, low)) ∙ c.loop-place.invariant.rest n (omega (arith, low));
}

pub returns-clause-shown : goal.returns-clause-shown
returns-clause-shown c = λ k view r low at there. c.loop-place.invariant.shown k view r (omega (arith, slice_get_within c.args.clients.now k r there, c.loop-place-test.false, c.min-place-end.ensures, c.loop-place.auto)) at there

pub returns-clause-rest : goal.returns-clause-rest
returns-clause-rest c = c.loop-place.invariant.rest (length c.args.clients.now) (omega (arith, c.min-place-end.ensures, c.loop-place.auto))
