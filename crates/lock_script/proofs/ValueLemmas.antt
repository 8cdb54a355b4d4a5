-- A word of 32 digits is read as 16 bytes.
use Rattle.std.proofs.Common.{◌≡◌, ◌≢◌, ◌≤◌, ◌<◌, ◌+◌, ◌*◌, ◌==◌, ◌∙◌, ℕ, suc, List, [], ◌∷◌, ◌++◌, Option, Some, None, length, take, drop, get_or, length-append, append-nil, arith, refl, sym, ap, subst}
use Rattle.std.proofs.Math.ListN.{set}
use Rattle.std.proofs.Math.Seq.{drop-cons, drop-length, take-suc-set}
use Rattle.std.proofs.lemmas.List.{take_all}
use Rattle.std.proofs.lemmas.Bool.{eq-eqb, eqb-true}
use Rattle.lock_command.specs.Reading.{◌>>=◌, passed}
use Rattle.lock_script.proofs.Readings.{is_passed, not_passed}
use Rattle.lock_script.proofs.GivenLemmas.{behind, IsRead, joined, hex_long}
use Rattle.lock_script.specs.Reading.{byte_of, hex_bytes, value_of}

-- two digits, and those behind them
two_of : (word : List ℕ) (at : ℕ) → 2 * at + 1 < length word → drop (2 * at) word ≡ get_or word (2 * at) 0 ∷ get_or word (2 * at + 1) 0 ∷ drop (2 * (at + 1)) word
two_of word at inside =
    let first : 2 * at < length word = omega arith in
    let second : suc (2 * at) < length word = omega arith in
    let low : suc (2 * at) ≡ 2 * at + 1 = omega arith in
    let rest : suc (suc (2 * at)) ≡ 2 * (at + 1) = omega arith in
    drop-cons word (2 * at) 0 first
    ∙ ap (λ l. get_or word (2 * at) 0 ∷ l) (drop-cons word (suc (2 * at)) 0 second)
    ∙ ap (λ k. get_or word (2 * at) 0 ∷ get_or word k 0 ∷ drop (suc (suc (2 * at))) word) low
    ∙ ap (λ k. get_or word (2 * at) 0 ∷ get_or word (2 * at + 1) 0 ∷ drop k word) rest

-- one byte more
pub next_byte : (word bytes : List ℕ) (at byte : ℕ) → 2 * at + 1 < length word → at < length bytes → IsRead word (take at bytes) (drop (2 * at) word)
    → Some byte ≡ byte_of (get_or word (2 * at) 0) (get_or word (2 * at + 1) 0) → IsRead word (take (at + 1) (set bytes at byte)) (drop (2 * (at + 1)) word)
next_byte word bytes at byte inside room read spelled =
    let parts = two_of word at inside in
    let left = drop (2 * (at + 1)) word in
    let front = take at bytes in
    let grown = length-append front (byte ∷ []) in
    let was = read.long in
    let cut : length (drop (2 * at) word) ≡ suc (suc (length left)) = ap length parts in
    let now : IsRead word (front ++ byte ∷ []) left =
    record {
      same = read.same ∙ ap (λ l. behind front (hex_bytes l)) parts
          ∙ ap (λ (found : Option ℕ). behind front (found >>= λ b. hex_bytes left >>= λ more. Some (b ∷ more))) (sym spelled) ∙ joined byte front (hex_bytes left);
      long = omega arith;
    } in
    let next : suc at ≡ at + 1 = omega arith in
    subst (λ (b : List ℕ). IsRead word b left) (sym (take-suc-set bytes at byte room) ∙ ap (λ n. take n (set bytes at byte)) next) now

-- no byte is spelled by other digits
pub no_value : (word bytes : List ℕ) (at : ℕ) → 2 * at + 1 < length word → IsRead word (take at bytes) (drop (2 * at) word)
    → None ≡ byte_of (get_or word (2 * at) 0) (get_or word (2 * at + 1) 0) → None ≡ value_of word
unfolding value_of
no_value word bytes at inside read none =
    let left = drop (2 * (at + 1)) word in
    let unread : hex_bytes word ≡ None =
    read.same ∙ ap (λ l. behind (take at bytes) (hex_bytes l)) (two_of word at inside)
    ∙ ap (λ (found : Option ℕ). behind (take at bytes) (found >>= λ b. hex_bytes left >>= λ more. Some (b ∷ more))) (sym none) in
    ap (λ (found : Option (List ℕ)). found >>= λ b. passed (length b == 16) b) (sym unread)

-- all digits are read
pub value_read : (word bytes : List ℕ) (at : ℕ) → length word ≡ 32 → length bytes ≡ 16 → at ≡ 16 → IsRead word (take at bytes) (drop (2 * at) word) → Some bytes ≡ value_of word
unfolding value_of
value_read word bytes at long whole end read =
    let few : length bytes ≤ at = omega arith in
    let last : 2 * at ≡ length word = omega arith in
    let all : hex_bytes word ≡ Some bytes =
    read.same ∙ ap (λ n. behind (take at bytes) (hex_bytes (drop n word))) last ∙ ap (λ l. behind (take at bytes) (hex_bytes l)) (drop-length word)
    ∙ ap Some (append-nil (take at bytes) ∙ take_all at bytes few) in
    sym (ap (λ (found : Option (List ℕ)). found >>= λ b. passed (length b == 16) b) all ∙ is_passed (length bytes == 16) bytes (eq-eqb (length bytes) 16 whole))

-- a word of another length spells none
pub value_length : (word : List ℕ) → length word ≢ 32 → None ≡ value_of word
unfolding value_of
value_length word other = refused (hex_bytes word) (hex_long word) where
  refused : (found : Option (List ℕ)) → ((bytes : List ℕ) → found ≡ Some bytes → length word ≡ 2 * length bytes) → None ≡ (found >>= λ b. passed (length b == 16) b)
  refused None is = refl
  refused (Some bytes) is = not_passed (length bytes == 16) bytes (λ yes. other (omega (arith, is bytes refl, eqb-true (length bytes) 16 yes)))
