-- What is written behind what was written.
use Rattle.std.proofs.Common.{◌≡◌, ◌<◌, ◌+◌, ◌∙◌, ℕ, List, [], ◌∷◌, ◌++◌, length, take, get_or, refl, sym, ap, subst, append_assoc, append-nil, add-one, take-suc}
use Rattle.std.specs.Prelude.{Result, Ok, OnOk}
use Rattle.std.specs.List.{flat_map}
use Rattle.std.proofs.lemmas.Grind.{flat_map-append}
use Rattle.std.proofs.lemmas.Result.{on_ok_weaker}
use Rattle.json.specs.Token.{Token, end_array, end_object}
use Rattle.json.specs.Written.{Written, Writes}
use Rattle.mg_words.specs.Objects.{Adds, member_tokens}
use Rattle.mg_words.specs.declared.object.Member.{Member}

-- nothing
pub none : (a : Written) → Adds a a []
none a = record { kept = refl; added = sym (append-nil a.tokens) }

-- a token
pub one : {E : Type 0} (u : Unit {0}) (a b : Written) (t : Token) → Writes {E = E} (Ok u) a b t → Adds a b (t ∷ [])
one u a b t w = record { kept = w.room.0; added = w.ok }

-- some, and then more
pub both : (a b c : Written) (xs ys : List Token) → Adds a b xs → Adds b c ys → Adds a c (xs ++ ys)
both a b c xs ys first more = record { kept = more.kept ∙ first.kept; added = more.added ∙ (ap (λ (l : List Token). l ++ ys) first.added ∙ append_assoc a.tokens xs ys) }

-- the same of a write that may fail
pub only : {E : Type 0} (r : Result (Unit {0}) E) (a b : Written) (t : Token) → Writes r a b t → OnOk r (Adds a b (t ∷ []))
only r a b t w = on_ok_weaker r (λ tokens. record { kept = w.room.0; added = tokens }) w.ok

pub last : {E : Type 0} (r : Result (Unit {0}) E) (a b c : Written) (xs : List Token) (t : Token) → Adds a b xs → Writes r b c t → OnOk r (Adds a c (xs ++ t ∷ []))
last r a b c xs t first w = on_ok_weaker r (λ (more : Adds b c (t ∷ [])). both a b c xs (t ∷ []) first more) (only r b c t w)

-- a member more
pub one_more : (a b c : Written) (members : List Member) (i : ℕ) (d : Member) → i < length members → Adds a b (flat_map member_tokens (take i members))
    → Adds b c (member_tokens (get_or members i d)) → Adds a c (flat_map member_tokens (take (i + 1) members))
one_more a b c members i d inside first more =
    let so_far = flat_map member_tokens (take i members) in
    let next : flat_map member_tokens (take (i + 1) members) ≡ so_far ++ member_tokens (get_or members i d) =
    ap (λ (k : ℕ). flat_map member_tokens (take k members)) (add-one i)
    ∙ (ap (flat_map member_tokens) (take-suc members i d inside)
    ∙ (flat_map-append member_tokens (take i members) (get_or members i d ∷ [])
    ∙ ap (λ (l : List Token). so_far ++ l) (append-nil (member_tokens (get_or members i d))))) in
    subst (Adds a c) (sym next) (both a b c so_far (member_tokens (get_or members i d)) first more)

-- a list at the end of an object
pub closed : (items : List Token) → ((items ++ end_array ∷ []) ++ []) ++ end_object ∷ [] ≡ items ++ end_array ∷ end_object ∷ []
closed items = ap (λ (l : List Token). l ++ end_object ∷ []) (append-nil (items ++ end_array ∷ [])) ∙ append_assoc items (end_array ∷ []) (end_object ∷ [])
