-- The line of an object is its text with a line end.
use Rattle.std.proofs.Common.{◌≡◌, ◌∙◌, ℕ, List, [], ◌∷◌, ◌++◌, Option, subst}
use Rattle.std.specs.Io.KnownBytes.{Appends}
use Rattle.json.specs.Print.{print}
use Rattle.json.specs.Token.{Token}
use Rattle.mg.specs.Json.{line_of}

pub printed : (slice items : List ℕ) (object : List Token) (before after : Option (List ℕ)) → items ≡ print object → slice ≡ items → Appends before after (slice ++ 10 ∷ []) → Appends before after (line_of object)
printed slice items object before after made same written = subst (λ (text : List ℕ). Appends before after (text ++ 10 ∷ [])) (same ∙ made) written
