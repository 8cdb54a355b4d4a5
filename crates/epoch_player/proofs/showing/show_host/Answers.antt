-- Where the host is comes first, and then its table.
use Rattle.std.proofs.Common.{◌++◌, refl}
use Rattle.std.proofs.KnownBytes.{Appends-trans}
use Rattle.std.proofs.lemmas.Result.{on_ok_weaker}
use Rattle.epoch_player.specs.Text.{epoch_text}
use Rattle.epoch_player.proofs.showing.show_host.Goals as goal

pub returns : goal.returns
returns g c =
    let at = c.epoch_of.result in
    let first = epoch_text c.args.show.now.host at in
    let before = g.O.Write.contents c.args.out.now in
    let mid = g.O.Write.contents c.print_epoch.new.out in
    let after = g.O.Write.contents c.show_table.new.out in
    on_ok_weaker c.show_table.result
    (λ table. (first ++ table.0, (at, c.epoch_of.ensures, (table.0, table.1, refl)), Appends-trans before mid after first table.0 c.in_ok-print_epoch.ensures table.2))
    c.show_table.ensures
