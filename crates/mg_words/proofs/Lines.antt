-- What stands at the places of a line, and which form is found.
use Rattle.std.proofs.Common.{◌≡◌, ◌<◌, ◌≤◌, ℕ, zero, suc, Bool, true, false, cond, ◌&&◌, ◌||◌, ◌==◌, ◌+◌, List, [], ◌∷◌, ◌++◌, map, codes, Bor, Option, Some, None, length, get_or, min, refl, sym, ap, ap₂, ◌∙◌, arith}
use Rattle.std.specs.Prelude.{is_some, zip}
use Rattle.std.specs.List.{find, flat_map, join_by, prefix_len}
use Rattle.std.proofs.lemmas.Bool.{eqb-true}
use Rattle.std.proofs.lemmas.List.{drop-map, get_or-map, get_or_default, length-map}
use Rattle.std.proofs.lemmas.List.Sums.{prefix_len-le-length, prefix_len_is, prefix_len_passes}
use Rattle.std.proofs.lemmas.Slice.Zip.{get_or-zip, length-zip}
use Rattle.lock_script.specs.Reading.{number_in}
use Rattle.mg_words.specs.Asking.{Reads, spaced, takes, word_at}
use Rattle.mg_words.specs.Forms.{fits, fits_at, fits_pair, fitting, may_go_on, slots}
use Rattle.mg_words.specs.declared.form.Form.{Form}
use Rattle.mg_words.specs.declared.form.Form.TheVariants.{Create}
use Rattle.mg_words.specs.declared.slot.Slot.{Slot}
use Rattle.mg_words.specs.declared.slot.Slot.TheVariants.{Folder}

-- so many words fit, and the next one does not, or there is none
pub fits_upto : (form : Form) (words : List (List ℕ)) (n : ℕ) → n ≤ length (slots form) → n ≤ length words → ((k : ℕ) → k < n → fits_at (slots form) words k ≡ true)
    → (n < length (slots form) → n < length words → fits_at (slots form) words n ≡ false) → n ≡ fitting form words
unfolding fitting
fits_upto form words n places few each stops =
    let these = slots form in
    let long : length (zip these words) ≡ min (length these) (length words) = length-zip these words in
    sym
    (prefix_len_is fits_pair (zip these words) n (Folder, []) (omega (arith, long))
    (λ k below. ap fits_pair (get_or-zip these words k (Folder, []) (omega arith) (omega arith)) ∙ each k below)
    (λ inside. ap fits_pair (get_or-zip these words n (Folder, []) (omega (arith, long)) (omega (arith, long))) ∙ stops (omega (arith, long)) (omega (arith, long))))

-- the same of words behind references
pub upto : (form : Form) (these : List Slot) (words : List (Bor (List ℕ))) (n : ℕ) → these ≡ slots form → n ≤ length these → n ≤ length words
    → ((k : ℕ) → k < n → fits_at (slots form) (map (λ (word : Bor (List ℕ)). word.now) words) k ≡ true)
    → (n < length these → n < length words → fits_at (slots form) (map (λ (word : Bor (List ℕ)). word.now) words) n ≡ false) → n ≡ fitting form (map (λ (word : Bor (List ℕ)). word.now) words)
upto form these words n is places few each stops =
    let same : length these ≡ length (slots form) = ap length is in
    let long : length (map (λ (word : Bor (List ℕ)). word.now) words) ≡ length words = length-map words (λ (word : Bor (List ℕ)). word.now) in
    fits_upto form (map (λ (word : Bor (List ℕ)). word.now) words) n (omega (arith, same)) (omega (arith, long)) each
    (λ inside there. stops (omega (arith, same)) (omega (arith, long)))

-- what a slot says of the word at its place
pub fits_here : (form : Form) (these : List Slot) (words : List (Bor (List ℕ))) (i : ℕ) (d : Slot) (word : Bor (List ℕ)) (r : Bool) → these ≡ slots form → i < length these → i < length words
    → word ≡ get_or words i word → r ≡ fits (get_or these i d) word.now → fits_at (slots form) (map (λ (word : Bor (List ℕ)). word.now) words) i ≡ r
fits_here form these words i d word r is inside there found fit =
    let slot : get_or (slots form) i Folder ≡ get_or these i d = ap (λ (l : List Slot). get_or l i Folder) (sym is) ∙ get_or_default these i Folder d inside in
    let text : get_or (map (λ (w : Bor (List ℕ)). w.now) words) i [] ≡ word.now = get_or-map (λ (w : Bor (List ℕ)). w.now) words i word [] there ∙ ap (λ (w : Bor (List ℕ)). w.now) (sym found) in
    ap₂ fits slot text ∙ sym fit

-- what two tests in a row say
both : (a b : Bool) → (a && b) ≡ true → (a ≡ true) × (b ≡ true)
both true b h = (refl, h)
both false b h = absurd (cc)

-- in a line of a form each place has a word, which fits
pub at_place : (form : Form) (words : List (List ℕ)) (k : ℕ) → takes form words ≡ true → k < length (slots form) → (k < length words) × (fits_at (slots form) words k ≡ true)
unfolding fitting
at_place form words k taken inside =
    let these = slots form in
    let full : prefix_len fits_pair (zip these words) ≡ length these = eqb-true (prefix_len fits_pair (zip these words)) (length these) (both (prefix_len fits_pair (zip these words) == length these) ((length words == length these) || may_go_on form) taken).0 in
    let long : length (zip these words) ≡ min (length these) (length words) = length-zip these words in
    let within : prefix_len fits_pair (zip these words) ≤ length (zip these words) = prefix_len-le-length fits_pair (zip these words) in
    let there : k < length words = omega arith in (
      there,
      ap fits_pair (sym (get_or-zip these words k (Folder, []) inside there)) ∙ prefix_len_passes fits_pair (zip these words) k (Folder, []) (omega arith),
    )

-- where the place is for a number, one stands there
pub number_there : (form : Form) (words : List (List ℕ)) (place least most : ℕ) → takes form words ≡ true → Reads (slots form) place least most
    → is_some (number_in least most (word_at words place)) ≡ true
number_there form words place least most taken reads = sym (reads.1 (word_at words place)) ∙ (at_place form words place taken reads.0).1

-- FINDING

-- a test does not both pass and fail
pub never_both : (test : Bool) → test ≡ true → test ≡ false → ⊥
never_both true passes fails = cc
never_both false passes fails = cc

-- something is there, or is not
pub never_some : (found : Option ℕ) → found ≡ None → is_some found ≡ true → ⊥
never_some None none some = cc
never_some (Some n) none some = cc

-- the form that is found passes
pub found_passes : (p : Form → Bool) (these : List Form) (f : Form) → find p these ≡ Some f → p f ≡ true
found_passes p [] f h = absurd (cc)
found_passes p (x ∷ rest) f h = by (p x) refl (found_passes p rest f) h where
  by : (b : Bool) → p x ≡ b → (find p rest ≡ Some f → p f ≡ true) → cond b (Some x) (find p rest) ≡ Some f → p f ≡ true
  by true passes later found = let same : x ≡ f = cc in ap p (sym same) ∙ passes
  by false fails later found = later found

-- where none is found, none passes
pub none_passes : (p : Form → Bool) (these : List Form) → find p these ≡ None → (k : ℕ) → k < length these → p (get_or these k Create) ≡ false
none_passes p [] h k inside = absurd (omega arith)
none_passes p (x ∷ rest) h k inside = by (p x) refl (none_passes p rest) h k inside where
  by : (b : Bool) → p x ≡ b → (find p rest ≡ None → (k : ℕ) → k < length rest → p (get_or rest k Create) ≡ false) → cond b (Some x) (find p rest) ≡ None → (k : ℕ)
      → k < suc (length rest) → p (get_or (x ∷ rest) k Create) ≡ false
  by true passes later found k inside = absurd (cc)
  by false fails later found zero inside = fails
  by false fails later found (suc k) inside = later found k (omega arith)

-- WORDS IN A ROW

further : (words : List (Bor (List ℕ))) → flat_map (λ (word : Bor (List ℕ)). codes " " ++ word.now) words ≡ flat_map (λ (word : List ℕ). codes " " ++ word) (map (λ (word : Bor (List ℕ)). word.now) words)
further [] = refl
further (word ∷ words) = ap (λ (rest : List ℕ). (codes " " ++ word.now) ++ rest) (further words)

-- words behind references, with a space between two
pub join_texts : (words : List (Bor (List ℕ))) → join_by (λ (word : Bor (List ℕ)). word.now) (codes " ") words ≡ spaced (map (λ (word : Bor (List ℕ)). word.now) words)
join_texts [] = refl
join_texts (word ∷ words) = ap (λ (rest : List ℕ). word.now ++ rest) (further words)

-- the texts of the words from a place on
pub ruleset parts = (drop-map, length-map, get_or-map)
