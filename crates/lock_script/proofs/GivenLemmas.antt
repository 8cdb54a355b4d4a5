-- Words that spell bytes, two digits each.
use Rattle.std.proofs.Common.{◌≡◌, ◌≤◌, ◌<◌, ◌+◌, ◌-◌, ◌*◌, ◌∙◌, ◌⊎◌, inl, inr, ℕ, true, ◌&&◌, nat_le, List, [], ◌∷◌, ◌++◌, Option, Some, None, length, take, drop, get_or, leb-true, le-leb, length-append, append_assoc, append-nil, arith, refl, sym, ap, subst}
use Rattle.lock_command.specs.Reading.{◌>>=◌, passed}
use Rattle.std.specs.Cmp.Derive.{both_true}
use Rattle.lock_script.proofs.Readings.{bound, both_are, not_passed}
use Rattle.lock_script.proofs.WordLemmas.{take_rest}
use Rattle.lock_script.specs.Reading.{byte_of, hex_bytes, given_of}

-- bytes in front of those that the rest spells
abbrev pub behind : List ℕ → Option (List ℕ) → Option (List ℕ)
behind bytes None = None
behind bytes (Some more) = Some (bytes ++ more)

-- of a word these bytes were read, and this is left
pub record IsRead (word bytes rest : List ℕ) : Type 0 where
  pub same : hex_bytes word ≡ behind bytes (hex_bytes rest)
  pub long : length word ≡ 2 * length bytes + length rest

pub joined : (byte : ℕ) (bytes : List ℕ) (rest : Option (List ℕ)) → behind bytes (rest >>= λ more. Some (byte ∷ more)) ≡ behind (bytes ++ byte ∷ []) rest
joined byte bytes None = refl
joined byte bytes (Some more) = ap Some (sym (append_assoc bytes (byte ∷ []) more))

-- two digits more
pub one_more : (word bytes rest : List ℕ) (byte : ℕ) → 2 ≤ length rest → IsRead word bytes rest → Some byte ≡ byte_of (get_or rest 0 0) (get_or rest 1 0)
    → IsRead word (bytes ++ byte ∷ []) (take (length rest - 2) (drop 2 rest))
one_more word bytes [] byte two read spelled = absurd (omega arith)
one_more word bytes (high ∷ []) byte two read spelled = absurd (omega arith)
one_more word bytes (high ∷ low ∷ rest) byte two read spelled =
    let now : IsRead word (bytes ++ byte ∷ []) rest =
    record {
      same = read.same ∙ ap (λ (found : Option ℕ). behind bytes (found >>= λ b. hex_bytes rest >>= λ more. Some (b ∷ more))) (sym spelled) ∙ joined byte bytes (hex_bytes rest);
      long = let grown = length-append bytes (byte ∷ []) in let was = read.long in omega arith;
    } in
    subst (IsRead word (bytes ++ byte ∷ [])) (sym (take_rest 2 (high ∷ low ∷ rest))) now

-- no byte is spelled by other digits
pub no_byte : (word bytes rest : List ℕ) → 2 ≤ length rest → IsRead word bytes rest → None ≡ byte_of (get_or rest 0 0) (get_or rest 1 0) → None ≡ given_of word
unfolding given_of
no_byte word bytes [] two read none = absurd (omega arith)
no_byte word bytes (high ∷ []) two read none = absurd (omega arith)
no_byte word bytes (high ∷ low ∷ rest) two read none =
    let unread : hex_bytes word ≡ None = read.same ∙ ap (λ (found : Option ℕ). behind bytes (found >>= λ b. hex_bytes rest >>= λ more. Some (b ∷ more))) (sym none) in
    ap (λ (found : Option (List ℕ)). found >>= λ g. passed (nat_le 1 (length g) && nat_le (length g) 64) g) (sym unread)

-- all digits are read
pub whole_read : (word bytes rest : List ℕ) → length rest ≡ 0 → 2 ≤ length word → length word ≤ 128 → IsRead word bytes rest → Some bytes ≡ given_of word
unfolding given_of
whole_read word bytes [] empty some few read =
    let long = read.long in
    let all : hex_bytes word ≡ Some bytes = read.same ∙ ap Some (append-nil bytes) in
    let least : nat_le 1 (length bytes) ≡ true = le-leb 1 (length bytes) (omega arith) in
    let most : nat_le (length bytes) 64 ≡ true = le-leb (length bytes) 64 (omega arith) in
    sym (ap (λ (found : Option (List ℕ)). found >>= λ g. passed (nat_le 1 (length g) && nat_le (length g) 64) g) all ∙ ap (λ test. passed test bytes) (both_true least most))
whole_read word bytes (byte ∷ rest) empty some few read = absurd (omega arith)

-- one digit is left
pub one_left : (word bytes rest : List ℕ) → length rest ≡ 1 → IsRead word bytes rest → None ≡ given_of word
unfolding given_of
one_left word bytes [] one read = absurd (omega arith)
one_left word bytes (digit ∷ []) one read = sym (ap (λ (found : Option (List ℕ)). found >>= λ g. passed (nat_le 1 (length g) && nat_le (length g) 64) g) read.same)
one_left word bytes (high ∷ low ∷ rest) one read = absurd (omega arith)

-- two digits for each byte
pub hex_long : (word bytes : List ℕ) → hex_bytes word ≡ Some bytes → length word ≡ 2 * length bytes
hex_long [] bytes h = let e : [] ≡ bytes = cc in let l : 0 ≡ length bytes = ap length e in omega arith
hex_long (high ∷ []) bytes h = absurd (cc)
hex_long (high ∷ low ∷ rest) bytes h =
    let one = bound (byte_of high low) (λ b. hex_bytes rest >>= λ more. Some (b ∷ more)) bytes h in
    let more = bound (hex_bytes rest) (λ more. Some (one.0 ∷ more)) bytes one.2 in
    let behind = hex_long rest more.0 more.1 in
    let e : one.0 ∷ more.0 ≡ bytes = cc in
    let l : length (one.0 ∷ more.0) ≡ length bytes = ap length e in
    omega arith

-- a word of another length spells none
pub other_length : (word : List ℕ) → (length word < 2) ⊎ (128 < length word) → None ≡ given_of word
unfolding given_of
other_length word long = refused (hex_bytes word) (hex_long word) where
  refused : (found : Option (List ℕ)) → ((bytes : List ℕ) → found ≡ Some bytes → length word ≡ 2 * length bytes) → None ≡ (found >>= λ g. passed (nat_le 1 (length g) && nat_le (length g) 64) g)
  refused None is = refl
  refused (Some bytes) is =
      let n : length word ≡ 2 * length bytes = is bytes refl in
      not_passed (nat_le 1 (length bytes) && nat_le (length bytes) 64) bytes (λ yes.
      let both = both_are (nat_le 1 (length bytes)) (nat_le (length bytes) 64) yes in
      let least = leb-true 1 (length bytes) both.0 in
      let most = leb-true (length bytes) 64 both.1 in
      elim long [ inl few ↦ omega arith | inr many ↦ omega arith ])
