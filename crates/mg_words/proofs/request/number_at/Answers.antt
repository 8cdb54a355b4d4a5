-- In a line of the form the word there spells a number.
use Rattle.std.proofs.Common.{◌≡◌, ◌∙◌, None, map, ap, sym}
use Rattle.lock_script.specs.Reading.{number_in}
use Rattle.mg_words.specs.Asking.{word_at}
use Rattle.mg_words.proofs.Lines.{never_some, number_there}
use Rattle.mg_words.proofs.request.number_at.Goals as goal

pub unreachable-requires : goal.unreachable-requires
unreachable-requires c =
    let word = word_at (map (λ word. word.now) c.args.words.now) c.args.place in
    let same : c.as_bytes.result.now ≡ word = c.as_bytes.ensures.value ∙ c.word_in.ensures in
    let none : number_in c.args.least c.args.most word ≡ None = ap (number_in c.args.least c.args.most) (sym same) ∙ (sym c.number_in.ensures.exact ∙ c.in-None.is) in
    never_some (number_in c.args.least c.args.most word) none
    (number_there c.args.form (map (λ word. word.now) c.args.words.now) c.args.place c.args.least c.args.most c.requires.taken c.requires.reads)
