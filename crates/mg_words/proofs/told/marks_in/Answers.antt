use Rattle.mg_words.proofs.told.marks_in.Goals as goal

pub returns : goal.returns
returns c = record {
  line = c.in_ok-line.line.now;
  rest = c.in_ok-recovered.rest.now;
  second = c.in_ok-second.second.now;
  slots = c.in_ok-marked._slots.now;
  word = c.in_ok-line.ensures;
  number = c.in_ok-recovered.ensures;
  next = c.in_ok-second.ensures;
  count = c.in_ok-marked.ensures;
}
