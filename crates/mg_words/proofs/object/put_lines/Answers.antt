-- A line is written for each that the text has.
use Rattle.std.proofs.Common.{◌≡◌, ◌∙◌, [], ◌∷◌, ◌++◌, length, map, arith, rules, refl, sym, ap, subst, append_assoc, append-nil}
use Rattle.json.specs.Token.{string}
use Rattle.lock_script.specs.Lines.{lines_of}
use Rattle.mg_words.specs.Objects.{Adds}
use Rattle.mg_words.proofs.Adding.{both, none, one}
use Rattle.mg_words.proofs.FirstLine.{no_line}
use Rattle.mg_words.proofs.object.put_lines.Goals as goal

pub lines-init : goal.lines-init
lines-init c = record { text = search rules; so_far = ([], none c.args.object.now, refl) }

pub lines-preserved : goal.lines-preserved
lines-preserved c =
    let so_far = c.lines.invariant.so_far in
    let line = c.first_line.result.0.now in
    let behind = c.first_line.result.1.now in
    record {
      text = search rules;
      so_far = (
        so_far.0 ++ string line ∷ [],
        both _ _ _ _ _ so_far.1 (one _ _ _ _ c.in_ok-string.ensures),
        append_assoc so_far.0 (string line ∷ []) (map string (lines_of behind)) ∙ (ap (λ lines. so_far.0 ++ map string lines) (sym c.first_line.ensures.lines) ∙ so_far.2),
      );
    }

pub returns : goal.returns
returns c =
    let so_far = c.lines.invariant.so_far in
    let empty : length c.lines.left.now ≡ 0 = grind (arith, c.is_empty.ensures, c.lines-test.false) in
    let all : so_far.0 ≡ map string (lines_of c.args.text.now) =
    sym (append-nil so_far.0) ∙ (ap (λ lines. so_far.0 ++ map string lines) (sym (no_line c.lines.left.now empty)) ∙ so_far.2) in
    subst (Adds c.args.object.now c.lines.object) all so_far.1
