use Rattle.mg_words.proofs.told.table_in.Goals as goal

pub returns : goal.returns
returns c = record { line = c.in_ok-line.line.now; word = c.in_ok-line.ensures; number = c.in_ok-recovered.ensures }
