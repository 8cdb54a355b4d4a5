use Rattle.std.proofs.Common.{◌∷◌, ◌∙◌, ℕ, List, sym, ap, subst}
use Rattle.std.specs.List.{after_first}
use Rattle.lock_script.specs.Lines.{lines_of}
use Rattle.lock_script.proofs.LineLemmas.{ends, first}
use Rattle.epoch_script.specs.Scripts.{HasNoEnd}
use Rattle.epoch_script.proofs.Cutting.{first_whole}
use Rattle.epoch_script.proofs.lines.first_line.Goals as goal

pub returns-clause-lines : goal.returns-clause-lines
returns-clause-lines c =
    first c.args.bytes.now c.requires
    ∙ ap (λ (l : List ℕ). l ∷ lines_of (after_first ends c.args.bytes.now)) (sym c.cut.ensures.line)
    ∙ ap (λ (r : List ℕ). c.cut.result.0.now ∷ lines_of r) (sym c.cut.ensures.behind)

pub returns-clause-whole : goal.returns-clause-whole
returns-clause-whole c = subst HasNoEnd (sym c.cut.ensures.line) (first_whole c.args.bytes.now)
