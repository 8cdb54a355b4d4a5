use Rattle.std.proofs.Common.{map, arith}
use Rattle.std.proofs.lemmas.List.{length-map}
use Rattle.mg_words.proofs.Lines.{at_place}
use Rattle.mg_words.proofs.request.word_in.Goals as goal

pub bounds-words-place : goal.bounds-words-place
bounds-words-place c =
    let inside = (at_place c.args.form (map (λ word. word.now) c.args.words.now) c.args.place c.requires.taken c.requires.inside).0 in
    let long = simp length-map at inside in
    omega (arith, long)
