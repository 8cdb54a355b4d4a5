-- A text without a word at its front, or without an end.
use Rattle.std.proofs.Common.{◌≡◌, ◌∙◌, ℕ, List, ◌++◌, Bor, Option, Some, None, sym, ap}
use Rattle.std.specs.Option.{IfSome, MatchOption}
use Rattle.std.specs.Str.Pattern.{FindsTextPrefix, FindsTextSuffix, StripsPrefix, StripsSuffix}

pub behind_is : (text word : List ℕ) (r : Option (Bor (List ℕ))) → MatchOption r (FindsTextPrefix word text None) (λ x. StripsPrefix (FindsTextPrefix word) text x.now) → IfSome r (λ rest. text ≡ word ++ rest.now)
behind_is text word None strips = tt
behind_is text word (Some rest) strips = strips.1.1 ∙ ap (λ (l : List ℕ). word ++ l) (sym strips.2)

pub before_is : (text end : List ℕ) (r : Option (Bor (List ℕ))) → MatchOption r (FindsTextSuffix end text None) (λ x. StripsSuffix (FindsTextSuffix end) text x.now) → IfSome r (λ front. text ≡ front.now ++ end)
before_is text end None strips = tt
before_is text end (Some front) strips = strips.1.1 ∙ ap (λ (l : List ℕ). l ++ end) (sym strips.2)
