-- The list of lines ends before the object does.
use Rattle.std.proofs.Common.{◌≡◌, ◌∙◌, ℕ, List, [], ◌∷◌, ◌++◌, codes, map, ap}
use Rattle.std.specs.Prelude.{decimal}
use Rattle.std.proofs.lemmas.Result.{IfOk-weaker}
use Rattle.json.specs.Print.{print}
use Rattle.json.specs.Token.{Token, begin_object, end_object, begin_array, end_array, key, string, number}
use Rattle.lock_script.specs.Lines.{lines_of}
use Rattle.mg_words.specs.Results.{tabled}
use Rattle.mg_words.proofs.Adding.{closed}
use Rattle.mg_words.proofs.results.tabled.Goals as goal

with_lines : (folder : List ℕ) (recovered : ℕ) (lines : List ℕ)
    → (begin_object ∷ key (codes "folder") ∷ string folder ∷ key (codes "recovered") ∷ number (decimal recovered) ∷ key (codes "lines") ∷ begin_array
    ∷ (((map string (lines_of lines) ++ end_array ∷ []) ++ []) ++ end_object ∷ [])) ≡ tabled folder recovered lines
with_lines folder recovered lines =
    ap (λ (l : List Token). begin_object ∷ key (codes "folder") ∷ string folder ∷ key (codes "recovered") ∷ number (decimal recovered) ∷ key (codes "lines") ∷ begin_array ∷ l) (closed (map string (lines_of lines)))

pub returns-clause-text : goal.returns-clause-text
returns-clause-text c = IfOk-weaker c.object_of.result _ _ (λ object is. is ∙ ap print (with_lines c.args.folder.now c.args.recovered c.args.lines.now)) c.object_of.ensures.text

pub returns-clause-read : goal.returns-clause-read
returns-clause-read c = IfOk-weaker c.object_of.result _ _ (λ object is. is ∙ with_lines c.args.folder.now c.args.recovered c.args.lines.now) c.object_of.ensures.read
