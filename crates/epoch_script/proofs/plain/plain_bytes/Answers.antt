use Rattle.std.proofs.Common.{◌≡◌, ◌++◌, ◌∷◌, ◌∙◌, ℕ, true, false, List, [], Some, sym, ap, subst}
use Rattle.lock_script.specs.Lines.{lines_of, is_passed_over}
use Rattle.epoch_script.proofs.Plains.{IsPlain, one_passed, word}
use Rattle.epoch_script.proofs.plain.plain_bytes.Goals as goal

pub returns-then-not-is_passed_over : goal.returns-then-not-is_passed_over
returns-then-not-is_passed_over c =
    let line = c.first_line.result.0.now in
    let behind = c.first_line.result.1.now in
    let first = c.in-Some.first.now in
    let says : is_passed_over line ≡ false = sym c.is_passed_over.ensures ∙ c.if-not-is_passed_over.true in
    let whole : (c.lines.plain.items ++ (first ++ 10 ∷ [])) ++ behind ≡ c.extend_from_slice.new.self.items =
    ap (λ (l : List ℕ). l ++ behind) (sym c.in_ok-push_line.ensures) ∙ sym c.in_ok-extend_from_slice.ensures.items in
    word (lines_of c.args.bytes.now) c.lines.rest.now c.lines.plain.items line behind c.lines.invariant c.first_line.ensures.lines c.first_line.ensures.whole first says c.in-Some.ensures
    ∙ ap (λ (l : List ℕ). Some (lines_of l)) whole

pub lines-preserved : goal.lines-preserved
lines-preserved c =
    let line = c.first_line.result.0.now in
    let behind = c.first_line.result.1.now in
    let over : is_passed_over line ≡ true = sym c.is_passed_over.ensures ∙ c.if-not-is_passed_over.false in
    subst (IsPlain (lines_of c.args.bytes.now) behind) (sym c.in_ok-push_line-2.ensures)
    (one_passed (lines_of c.args.bytes.now) c.lines.rest.now c.lines.plain.items line behind c.lines.invariant c.first_line.ensures.lines c.first_line.ensures.whole over)
