use Rattle.std.proofs.Common.{ℕ, Option, None, sym, subst}
use Rattle.std.proofs.lemmas.Result.{on_ok_weaker}
use Rattle.std.specs.Io.KnownBytes.{Appends}
use Rattle.epoch_player.specs.Text.{epoch_text}
use Rattle.epoch_player.proofs.showing.print_epoch.Goals as goal

pub returns-in-None : goal.returns-in-None
returns-in-None g c =
    let before = g.O.Write.contents c.args.out.now in
    let after = g.O.Write.contents c.writeln-in-None.new.self in
    on_ok_weaker c.writeln-in-None.result
    (λ written.
    subst (λ (at : Option ℕ). Appends before after (epoch_text c.args.host at)) (sym c.in-None.is)
    (subst (λ (h : ℕ). Appends before after (epoch_text h None)) c.get-host.ensures.value written))
    c.writeln-in-None.ensures.bytes
