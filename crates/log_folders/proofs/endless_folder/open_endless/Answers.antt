use Rattle.std.proofs.Common.{subst}
use Rattle.endless_image.specs.declared.kind.Kind.{Kind}
use Rattle.log_folders.specs.AnySets.{HasAnyNumbers}
use Rattle.log_folders.proofs.Opened.{refused}
use Rattle.log_folders.proofs.endless_folder.open_endless.Goals as goal

pub returns-in_err-set-clause-fault : goal.returns-in_err-set-clause-fault
returns-in_err-set-clause-fault g c =
    refused c.in_ok-looked.looked.found c.in_ok-looked.ensures.images c.in_err-set.field-0.0 c.in_err-set.ensures.fault c.from_residual-in_err-set.result c.from_residual-in_err-set.ensures.1

pub returns-in-Ending-clause-ending : goal.returns-in-Ending-clause-ending
returns-in-Ending-clause-ending g c = λ none.
    record {
      found = c.in_ok-looked.looked.found;
      config = c.in_ok-set.set.config;
      cluster = c.in_ok-set.set.cluster;
      images = c.in_ok-looked.ensures.images;
      numbers = subst (λ (kind : Kind). HasAnyNumbers c.in_ok-looked.looked.found kind c.in_ok-set.set.config c.in_ok-set.set.cluster) c.in-Ending.is c.in_ok-set.ensures.set;
    }
