use Rattle.std.proofs.Common.{◌≡◌, List, drop, length, ap, subst}
use Rattle.lock_table.specs.declared.known_client.KnownClient.{KnownClient}
use Rattle.c_host.specs.Views.{ShowBelow, ShowsClient}
use Rattle.c_epochs.proofs.open_epochs.OpenEpochs.clients.Goals as goal

pub returns-clause-shown : goal.returns-clause-shown
returns-clause-shown c = λ k h deeds leads.
    let known = c.in_ok-picture.ensures.shown k h deeds leads in (
      known.0,
      known.1,
      known.2,
      record {
        picture = c.in_ok-picture.picture;
        of_table = known.3;
        counted = ap length c.clients.ensures.clients;
        shown = subst (λ (them : List KnownClient). ShowBelow ShowsClient c.show_clients.new.into them (length c.show_clients.new.into)) c.clients-2.ensures.clients c.show_clients.ensures.shown;
        rest = subst (λ (them : List KnownClient). drop (length them) c.show_clients.new.into ≡ drop (length them) c.args.into.now) c.clients-2.ensures.clients c.show_clients.ensures.rest;
      },
    )
