-- What is printed is how many slots were filled.
use Rattle.std.proofs.Common.{ℕ, refl}
use Rattle.host.specs.Host.{fresh, looks_on}
use Rattle.host.specs.Kept.{LeadsTo}
use Rattle.dlm_images.specs.Operations.{after_made}
use Rattle.dlm_tasks.specs.Faults.{of_filling}
use Rattle.dlm_tasks.specs.Refusing.{RefusesFilling}
use Rattle.dlm_tasks.specs.declared.fault.Fault.{Fault}
use Rattle.dlm_tasks.proofs.Refusing.{refused}
use Rattle.dlm_tasks.proofs.ending.fill_through.Goals as goal

pub fill_log-requires : goal.fill_log-requires
fill_log-requires g c =
    let over = c.requires in
    let done = c.look.ensures.looked in
    record { over = (over.0, after_made c.args.config over.0 (looks_on c.args.config over.1 0) done.made, done.leads c.args.config over.0 over.1 over.2) }

pub returns-in_err-count-clause-refused : goal.returns-in_err-count-clause-refused
returns-in_err-count-clause-refused g c =
    let cause = c.in_err-count.field-0.0 in
    refused (λ (fault : Fault). (number : ℕ) → LeadsTo c.args.config number fresh c.args.host.now.core → RefusesFilling number fault) (of_filling cause)
    (λ number started. record {
      shape = c.args.config;
      old = c.args.host.now;
      looked = c.look.new.self;
      new = c.fill_log.new.host;
      cause = cause;
      started = started;
      looks = c.look.ensures.looked;
      stops = c.in_err-count.ensures.stopped;
      told = refl;
    })
    c.from_residual.result c.from_residual.ensures.1

pub returns-clause-written : goal.returns-clause-written
returns-clause-written g c = λ number started. record {
  shape = c.args.config;
  old = c.args.host.now;
  looked = c.look.new.self;
  new = c.fill_log.new.host;
  count = c.in_ok-count.count;
  started = started;
  looks = c.look.ensures.looked;
  fills = c.in_ok-count.ensures.filled;
  written = c.in_ok-print_filled.ensures;
}
