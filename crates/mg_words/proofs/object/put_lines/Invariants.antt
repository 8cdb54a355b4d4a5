use denote.Shadow.{shadow}
use denote.Text.{Utf8}
use Rattle.std.proofs.Common.{◌≡◌, ◌++◌, List, length, map}
use Rattle.json.specs.Token.{Token, string}
use Rattle.lock_script.specs.Lines.{lines_of}
use Rattle.mg_words.specs.Objects.{Adds}
use Rattle.mg_words.proofs.object.put_lines.Given as goal

-- the lines before what is left are written
abbrev pub invariant-lines : goal.invariant-lines
invariant-lines l = record {
  text : shadow (Utf8 l.left);
  so_far : (done : List Token) × Adds l.initial.object l.object done × (done ++ map string (lines_of l.left) ≡ map string (lines_of l.fn.text));
}

abbrev pub decreases-lines : goal.decreases-lines
decreases-lines l = length l.left
