-- The words of a line, cut off one by one.
use Rattle.std.proofs.Common.{◌≡◌, ◌≤◌, ◌<◌, ◌+◌, ◌-◌, ◌∙◌, ℕ, Bool, true, false, cond, not, Bor, nat_lt, nat_eq, List, [], ◌∷◌, Option, Some, None, length, length-drop, subst, take, drop, arith, refl, sym, ap, ltb-true, ltb-false}
use Rattle.std.specs.Prelude.{position}
use Rattle.std.specs.Option.{option_copied, is_some}
use Rattle.std.proofs.Math.Seq.{take-length}
use Rattle.std.specs.List.{position_or_len}
use Rattle.std.proofs.lemmas.List.Splits.{slice_split_first, slice_split_none, length-slice_split}
use Rattle.std.proofs.lemmas.List.Sums.{fails_before_first}
use Rattle.lock_script.specs.Words.{words_of, words_left, first_word, words_behind, no_words}

abbrev pub is_space : ℕ → Bool
is_space byte = nat_eq byte 32

found : (b : Bool) (n place : ℕ) → cond b (Some n) None ≡ Some place → (b ≡ true) × (n ≡ place)
found true n place h = (refl, cc)
found false n place h = absurd (cc)

not_found : (b : Bool) (n : ℕ) → cond b (Some n) None ≡ None → b ≡ false
not_found true n h = absurd (cc)
not_found false n h = refl

-- the word in front of the first space, and those behind it
pub cut : (rest : List ℕ) (place : ℕ) → position is_space rest ≡ Some place → words_of rest ≡ take place rest ∷ words_of (drop (place + 1) rest)
cut rest place h =
    let n = position_or_len is_space rest in
    let k = found (nat_lt n (length rest)) n place h in
    let inside : n < length rest = ltb-true n (length rest) k.0 in
    slice_split_first is_space rest 0 inside ∙ ap (λ (m : ℕ). take m rest ∷ words_of (drop (m + 1) rest)) k.1

-- without a space all bytes are one word
pub whole : (rest : List ℕ) → position is_space rest ≡ None → words_of rest ≡ rest ∷ []
whole rest h =
    let n = position_or_len is_space rest in
    let far : length rest ≤ n = ltb-false n (length rest) (not_found (nat_lt n (length rest)) n h) in
    slice_split_none is_space rest (λ k d inside. fails_before_first is_space rest k d (omega arith))

-- a line has a word, though it may be empty
pub some_word : (rest : List ℕ) → words_of rest ≡ [] → ⊥
some_word rest h = let one = length-slice_split is_space rest in let none : length (words_of rest) ≡ 0 = ap length h in omega arith

-- there is no word left exactly where the last one was read
pub nothing_left : (rest : Option (Bor (List ℕ))) (words : List (List ℕ)) (answer : Bool) → words ≡ words_left (option_copied rest) → is_some rest ≡ not answer → answer ≡ no_words words
nothing_left None words true seen told = ap no_words (sym seen)
nothing_left None words false seen told = absurd (cc)
nothing_left (Some rest) words true seen told = absurd (cc)
nothing_left (Some rest) [] false seen told = absurd (some_word rest.now (sym seen))
nothing_left (Some rest) (word ∷ words) false seen told = refl

-- the part behind a place, taken whole
pub take_rest : (k : ℕ) (bytes : List ℕ) → take (length bytes - k) (drop k bytes) ≡ drop k bytes
take_rest k bytes = subst (λ (n : ℕ). take n (drop k bytes) ≡ drop k bytes) (length-drop k bytes) (take-length (drop k bytes))

module _ (left : Option (Bor (List ℕ))) (rest : Bor (List ℕ)) (words : List (List ℕ)) (seen : words ≡ words_left (option_copied left)) (is : left ≡ Some rest) where
  behind_a_space : (place : ℕ) → Some place ≡ position is_space rest.now → words ≡ take place rest.now ∷ words_of (drop (place + 1) rest.now)
  behind_a_space place at = seen ∙ ap (λ o. words_left (option_copied o)) is ∙ cut rest.now place (sym at)

  pub next_word : (place : ℕ) → Some place ≡ position is_space rest.now → Some (take place rest.now) ≡ first_word words
  next_word place at = ap first_word (sym (behind_a_space place at))

  pub next_behind : (place : ℕ) → Some place ≡ position is_space rest.now → words_of (take (length rest.now - (place + 1)) (drop (place + 1) rest.now)) ≡ words_behind words
  next_behind place at = ap words_of (take_rest (place + 1) rest.now) ∙ ap words_behind (sym (behind_a_space place at))

  alone : None ≡ position is_space rest.now → words ≡ rest.now ∷ []
  alone at = seen ∙ ap (λ o. words_left (option_copied o)) is ∙ whole rest.now (sym at)

  pub last_one : None ≡ position is_space rest.now → Some rest.now ≡ first_word words
  last_one at = ap first_word (sym (alone at))

  pub nothing_behind : None ≡ position is_space rest.now → [] ≡ words_behind words
  nothing_behind at = ap words_behind (sym (alone at))
