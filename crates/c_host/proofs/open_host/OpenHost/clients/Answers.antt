use Rattle.std.proofs.Common.{◌≡◌, List, drop, length, ap, subst}
use Rattle.lock_table.specs.declared.known_client.KnownClient.{KnownClient}
use Rattle.c_host.specs.Views.{ShowBelow, ShowsClient}
use Rattle.c_host.proofs.open_host.OpenHost.clients.Goals as goal

pub returns-clause-shown : goal.returns-clause-shown
returns-clause-shown c = record {
  picture = c.in_ok-picture.picture;
  of_table = c.in_ok-picture.ensures.shown;
  counted = ap length c.clients.ensures.clients;
  shown = subst (λ (known : List KnownClient). ShowBelow ShowsClient c.show_clients.new.into known (length c.show_clients.new.into))
      c.clients-2.ensures.clients c.show_clients.ensures.shown;
  rest = subst (λ (known : List KnownClient). drop (length known) c.show_clients.new.into ≡ drop (length known) c.args.into.now)
      c.clients-2.ensures.clients c.show_clients.ensures.rest;
}
