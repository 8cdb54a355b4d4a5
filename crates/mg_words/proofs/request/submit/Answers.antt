use Rattle.std.proofs.Common.{map, arith}
use Rattle.std.proofs.lemmas.List.{length-map}
use Rattle.mg_words.proofs.Lines.{at_place}
use Rattle.mg_words.proofs.request.submit.Goals as goal

pub command_in-requires : goal.command_in-requires
command_in-requires c =
    let inside = (at_place c.args.form (map (λ word. word.now) c.args.words.now) c.args.place c.requires.taken (omega (arith, c.requires.last))).0 in
    let long = simp length-map at inside in
    omega (arith, long)
