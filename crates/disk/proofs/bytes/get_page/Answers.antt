use Rattle.std.proofs.Common.{ℕ, replicate, ◌∙◌, ap}
use Rattle.disk.proofs.bytes.get_page.Goals as goal

pub returns-else-page-clause-blank : goal.returns-else-page-clause-blank
returns-else-page-clause-blank c =
    λ none. c.fill-else-page.ensures.after (λ y e. e) ∙ ap (λ (n : ℕ). replicate n 0) c.requires.whole
