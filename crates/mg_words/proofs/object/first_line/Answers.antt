use Rattle.std.proofs.Common.{Some, None, lit<}
use Rattle.std.proofs.lemmas.Str.Pattern.{split_once_first}
use Rattle.mg_words.proofs.FirstLine.{cut, shorter, whole}
use Rattle.mg_words.proofs.object.first_line.Goals as goal

pub returns-in-Some-clause-lines : goal.returns-in-Some-clause-lines
returns-in-Some-clause-lines c =
    let at = split_once_first 10 c.args.text.now (Some c.in-Some.cut) c.in-Some.ensures.cases (lit< tt) in
    cut c.args.text.now c.in-Some.cut.0.now c.in-Some.cut.1.now c.requires at.1 at.2

pub returns-in-Some-clause-shorter : goal.returns-in-Some-clause-shorter
returns-in-Some-clause-shorter c =
    let at = split_once_first 10 c.args.text.now (Some c.in-Some.cut) c.in-Some.ensures.cases (lit< tt) in
    shorter c.args.text.now c.in-Some.cut.1.now c.requires at.2

pub returns-in-None-clause-lines : goal.returns-in-None-clause-lines
returns-in-None-clause-lines c = whole c.args.text.now c.requires (split_once_first 10 c.args.text.now None c.in-None.ensures.cases (lit< tt))
