-- What the events made of the new cluster is led to, and so it is one log.
use Rattle.std.proofs.Common.{[]}
use Rattle.std.proofs.lemmas.Result.{on_ok_weaker}
use Rattle.epoch_player.proofs.Leading.{played}
use Rattle.epoch_player.proofs.playing.play.Goals as goal

pub returns : goal.returns
returns g c =
    let script = c.args.script.now in
    let old = c.in_ok-cluster.cluster in
    let new = c.happen_all.new.cluster in
    on_ok_weaker c.happen_all.result
    (λ plays.
    let led = played script.config 0 script.events script.shows.items old new plays.text plays.played ([], c.in_ok-cluster.ensures.leads) in
    record {
      old = old;
      new = new;
      shape = c.in_ok-cluster.ensures.shape;
      hosts = c.in_ok-cluster.ensures.hosts;
      leads = c.in_ok-cluster.ensures.leads;
      plays = plays;
      one_log = record { entries = led.0; leads = led.1; one_log = c.runs_have_one_log.ensures led.0 new led.1 };
    })
    c.happen_all.ensures
