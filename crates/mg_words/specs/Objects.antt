-- Objects of JSON: which tokens stand for their members.
use Rattle.std.specs.Prelude.{◌≡◌, List, [], ◌∷◌, ◌++◌, decimal, map, ℕ, Option, Some, None}
use Rattle.std.specs.List.{flat_map}
use Rattle.json.specs.Token.{Token, begin_object, end_object, begin_array, end_array, key, string, number, boolean, null}
use Rattle.json.specs.Written.{Written}
use Rattle.lock_script.specs.Lines.{lines_of}
use Rattle.mg_words.specs.declared.object.Member.{Member}
use Rattle.mg_words.specs.declared.object.Value.{Value}
use Rattle.mg_words.specs.declared.object.Value.TheVariants.{Text, Quoted, Number, Count, Flag, Lines}

-- how many there are, or null
abbrev pub count_token : Option ℕ → Token
count_token None = null
count_token (Some count) = number (decimal count)

abbrev pub value_tokens : Value → List Token
value_tokens (Text text) = string text.now ∷ []
value_tokens (Quoted count) = string (decimal count) ∷ []
value_tokens (Number count) = number (decimal count) ∷ []
value_tokens (Count count) = count_token count ∷ []
value_tokens (Flag flag) = boolean flag ∷ []
value_tokens (Lines text) = begin_array ∷ (map string (lines_of text.now) ++ end_array ∷ [])

-- a name and its value
abbrev pub member_tokens : Member → List Token
member_tokens member = key member.name.now ∷ value_tokens member.value

abbrev pub object_tokens : List Member → List Token
object_tokens members = begin_object ∷ (flat_map member_tokens members ++ end_object ∷ [])

-- These tokens were written behind those that were there.
pub record Adds (old new : Written) (more : List Token) : Type 0 where
  pub kept : new.before ≡ old.before
  pub added : new.tokens ≡ old.tokens ++ more
