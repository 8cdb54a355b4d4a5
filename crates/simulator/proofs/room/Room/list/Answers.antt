use Rattle.simulator.proofs.room.Room.list.Goals as goal

pub returns : goal.returns
returns c =
    record {
      answer = c.listed-answer.result;
      added = c.push_reserved.ensures.items;
      line = c.listed-answer.ensures.line;
      picture = c.listed-answer.ensures.picture;
    }
