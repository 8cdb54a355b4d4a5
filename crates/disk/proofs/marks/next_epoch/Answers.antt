use Rattle.std.proofs.Common.{◌≡◌, ◌+◌, List, get_or, ◌∙◌, ap, arith}
use Rattle.std.proofs.lemmas.List.{get_or-replicate}
use Rattle.disk.specs.declared.word.Word.{Word}
use Rattle.disk.specs.Marks.{blank}
use Rattle.disk.proofs.MarkLemmas.{marks_later}
use Rattle.disk.proofs.marks.next_epoch.Goals as goal

pub returns-then-epoch-eq18446744073709551615-clause-none : goal.returns-then-epoch-eq18446744073709551615-clause-none
returns-then-epoch-eq18446744073709551615-clause-none c =
    λ size. marks_later 1 c.fill.new.self.items size (omega arith) (λ j within.
    let e : (get_or c.fill.new.self.items j blank).stamp ≡ 0 =
    ap (λ (l : List Word). (get_or l j blank).stamp) (c.fill.ensures.items (λ y h. h))
    ∙ ap (λ (w : Word). w.stamp) (get_or-replicate _ j blank blank (omega arith)) in
    omega arith)

pub returns-else-epoch-eq18446744073709551615-clause-none : goal.returns-else-epoch-eq18446744073709551615-clause-none
returns-else-epoch-eq18446744073709551615-clause-none c =
    λ size. marks_later (c.args.epoch + 1) c.args.words.now.items size (omega arith) (λ j within. omega (arith, c.requires j blank within))
