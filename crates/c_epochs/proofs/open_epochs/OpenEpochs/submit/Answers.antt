use Rattle.std.proofs.Common.{rules, ◌∙◌, ◌≤◌, ℕ, inr, refl, sym, subst}
use Rattle.c_host.specs.Requests.{IsAsked}
use Rattle.c_epochs.proofs.Asked.{may_be_asked, none_of, nothing_asked}
use Rattle.c_epochs.proofs.open_epochs.OpenEpochs.submit.Goals as goal

pub begin-requires-clause-may : goal.begin-requires-clause-may
begin-requires-clause-may c = (
  subst (λ (n : ℕ). 1 ≤ n) (sym c.in-Some.ensures.1) c.in-Some.ensures.0.0,
  c.in-Some-command.ensures.asked.same_host ∙ c.host.ensures,
  may_be_asked c.args.request.now c.args.name.now c.host.result c.in-Some-command.command c.in-Some-command.ensures.asked,
)

pub returns-in_default-command : goal.returns-in_default-command
returns-in_default-command c = inr (record {
  same = refl;
  told = inr (
    refl,
    search rules,
    nothing_asked c.args.request.now c.args.name.now c.args.tries c.args.self.now.host.host
        (λ command fits asked.
        c.command.ensures.none (none_of c.command.result c.in_default-command.not-Some) command fits
        (subst (λ (h : ℕ). IsAsked c.args.request.now c.args.name.now h command) (sym c.host.ensures) asked)),
  );
})
