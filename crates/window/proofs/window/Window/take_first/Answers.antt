use Rattle.window.specs.Calls.{length_of}
use Rattle.window.proofs.Readings.{first_good, first_hidden}
use Rattle.window.proofs.window.Window.take_first.Goals as goal

pub returns-in-Ok : goal.returns-in-Ok
returns-in-Ok c =
    let w = c.args.self.now in
    let row = c.args.standings.now in
    first_good w c.args.disk c.args.at c.args.boot row c.requires.due c.see.new.self c.in-Ok.first
    (record {
      rest = c.see.ensures.rest;
      others = c.see.ensures.others;
      sure = c.see.ensures.sure;
      known = c.see.ensures.known;
      keeps = c.see.ensures.keeps;
      knows = λ past. c.see.ensures.knows (length_of w) w.standpoint.host w.standpoint.epoch past row c.in-Ok.ensures.numbers c.in-Ok.ensures.good.inside;
    })
    c.in-Ok.ensures.numbers c.in-Ok.ensures.good

pub returns-in-Err : goal.returns-in-Err
returns-in-Err c =
    first_hidden c.args.self.now c.args.disk c.args.at c.args.boot c.args.standings.now c.requires.due c.hide.new.self c.hide.result c.in-Err.hidden c.in-Err.ensures.hidden c.hide.ensures.step c.hide.ensures.fails
