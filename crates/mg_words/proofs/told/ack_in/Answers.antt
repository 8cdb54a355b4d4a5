use Rattle.mg_words.proofs.told.ack_in.Goals as goal

pub returns : goal.returns
returns c = record {
  line = c.in_ok-line.line.now;
  rest = c.in_ok-place.rest.now;
  word = c.in_ok-line.ensures;
  number = c.in_ok-place.ensures;
  ends = c.in_ok-reply.ensures;
}
