use Rattle.std.specs.Prelude.{slice_index_or}
use Rattle.std.proofs.Common.{◌∙◌, ap, List, Bool, false}
use Rattle.standings.specs.Reading.{masked}
use Rattle.window.specs.Calls.{length_of}
use Rattle.window.proofs.Readings.{Sees, second_again, second_hidden, second_last, second_shown}
use Rattle.window.proofs.window.Window.take_second.Goals as goal

pub returns-in-Err : goal.returns-in-Err
returns-in-Err c =
    second_hidden c.args.self.now c.args.disk c.args.at c.args.boot c.args.standings.now c.args.first.now c.args.is_last c.requires.due c.hide.new.self c.hide.result c.in-Err.hidden c.in-Err.ensures.hidden
    c.hide.ensures.step c.hide.ensures.fails

pub returns-in-Some : goal.returns-in-Some
returns-in-Some c =
    let w = c.args.self.now in
    let row = c.args.standings.now in
    let sees : Sees w c.see.new.self c.args.disk c.args.boot.number row = record {
      rest = c.see.ensures.rest;
      others = c.see.ensures.others;
      sure = c.see.ensures.sure;
      known = c.see.ensures.known;
      keeps = c.see.ensures.keeps;
      knows = λ past. c.see.ensures.knows (length_of w) w.standpoint.host w.standpoint.epoch past row c.in-Ok.ensures.numbers c.in-Ok.ensures.good.inside;
    } in
    second_shown w c.args.disk c.args.at c.args.boot row c.args.first.now c.args.is_last c.requires.due c.see.new.self c.in-Ok.second sees c.in-Ok.ensures.numbers c.in-Ok.ensures.good
    c.in-Some.ensures.0 c.mask.new.row
    (c.mask.ensures ∙ ap (λ (l : List Bool). masked (λ host. slice_index_or l host false) c.see.new.self.row) c.in-Some.ensures.1)

pub returns-in-None : goal.returns-in-None
returns-in-None c =
    let w = c.args.self.now in
    let row = c.args.standings.now in
    let sees : Sees w c.see.new.self c.args.disk c.args.boot.number row = record {
      rest = c.see.ensures.rest;
      others = c.see.ensures.others;
      sure = c.see.ensures.sure;
      known = c.see.ensures.known;
      keeps = c.see.ensures.keeps;
      knows = λ past. c.see.ensures.knows (length_of w) w.standpoint.host w.standpoint.epoch past row c.in-Ok.ensures.numbers c.in-Ok.ensures.good.inside;
    } in
    second_last w c.args.disk c.args.at c.args.boot row c.args.first.now c.args.is_last c.requires.due c.see.new.self c.in-Ok.second sees c.in-Ok.ensures.numbers c.in-Ok.ensures.good
    c.in-None.ensures c.if-is_last.true

pub returns-in-None-2 : goal.returns-in-None-2
returns-in-None-2 c =
    let w = c.args.self.now in
    let row = c.args.standings.now in
    let sees : Sees w c.see.new.self c.args.disk c.args.boot.number row = record {
      rest = c.see.ensures.rest;
      others = c.see.ensures.others;
      sure = c.see.ensures.sure;
      known = c.see.ensures.known;
      keeps = c.see.ensures.keeps;
      knows = λ past. c.see.ensures.knows (length_of w) w.standpoint.host w.standpoint.epoch past row c.in-Ok.ensures.numbers c.in-Ok.ensures.good.inside;
    } in
    second_again w c.args.disk c.args.at c.args.boot row c.args.first.now c.args.is_last c.requires.due c.see.new.self c.in-Ok.second sees c.in-Ok.ensures.numbers c.in-Ok.ensures.good
    c.in-None-2.ensures c.if-is_last.false
