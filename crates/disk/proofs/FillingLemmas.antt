-- How a loop fills a range, or the marked positions, one at a time.
use Rattle.std.proofs.Common.{◌≡◌, ℕ, ◌+◌, ◌-◌, ◌%◌, ◌<◌, ◌≤◌, min, zero, suc, Bool, true, false, List, [], ◌∷◌, ◌++◌, length, get_or, set, take, drop, refl, sym, ◌∙◌, ap, arith, append_assoc, length-append}
use Rattle.std.proofs.Math.Nat.{mod-eq_of_lt, mod-add-mod, mod-mod}
use Rattle.std.proofs.lemmas.List.{take_all, drop_all, append-nil, drop_more, drop-set-lt, take_more_set, take_more, set_at, length-take-le}
use Rattle.disk.specs.Disk.{put_at, KeepsSynced}
use Rattle.disk.specs.Filling.{nth_given, spread, filled}

pub length-spread : (given : List ℕ) (i n : ℕ) → length (spread given i n) ≡ n
length-spread given i zero = refl
length-spread given i (suc n) = omega (arith, length-spread given (i + 1) n)

pub put_more : (old xs : List ℕ) (at y : ℕ) → at + length xs < length old → set (put_at old at xs) (at + length xs) y ≡ put_at old at (xs ++ y ∷ [])
put_more old xs at y within =
    let p = take at old ++ xs in
    let front : length (take at old) ≡ at = length-take-le at old (omega arith) in
    let long : length p ≡ at + length xs = omega (arith, length-append (take at old) xs) in
    let next : at + length (xs ++ y ∷ []) ≡ at + length xs + 1 = omega (arith, length-append xs (y ∷ [])) in
    ap (λ (l : List ℕ). set (p ++ l) (at + length xs) y) (drop_more old (at + length xs) 0 within)
    ∙ set_at p _ _ y _ long
    ∙ sym (append_assoc p (y ∷ []) (drop (at + length xs + 1) old))
    ∙ ap (λ (l : List ℕ). l ++ drop (at + length xs + 1) old) (append_assoc (take at old) xs (y ∷ []))
    ∙ ap (λ (k : ℕ). take at old ++ (xs ++ y ∷ []) ++ drop k old) (sym next)

pub spread_split : (given : List ℕ) (i m n : ℕ) → spread given i (m + n) ≡ spread given i m ++ spread given (i + m) n
spread_split given i zero n =
    let e : i ≡ i + 0 = omega arith in
    let z : 0 + n ≡ n = omega arith in
    ap (λ (k : ℕ). spread given i k) z ∙ ap (λ (k : ℕ). spread given k n) e
spread_split given i (suc m) n =
    let shift : suc m + n ≡ suc (m + n) = omega arith in
    let e : (i + 1) + m ≡ i + suc m = omega arith in
    ap (spread given i) shift
    ∙ ap (λ (l : List ℕ). nth_given given i ∷ l) (spread_split given (i + 1) m n)
    ∙ ap (λ (k : ℕ). nth_given given i ∷ (spread given (i + 1) m ++ spread given k n)) e

-- where the given bytes do not end before, they are taken as they stand
part : (given : List ℕ) (i n : ℕ) → i + n ≤ length given → take n (drop i given) ≡ spread given i n
part given i zero fits = refl
part given i (suc n) fits =
    let here : i % length given ≡ i = mod-eq_of_lt (omega (arith, fits)) in
    let first : get_or given i 0 ≡ nth_given given i = ap (λ (k : ℕ). get_or given k 0) (sym here) in
    ap (λ (l : List ℕ). take (suc n) l) (drop_more given i 0 (omega (arith, fits)))
    ∙ ap (λ (x : ℕ). x ∷ take n (drop (i + 1) given)) first
    ∙ ap (λ (l : List ℕ). nth_given given i ∷ l) (part given (i + 1) n (omega (arith, fits)))

pub spread_part : (given : List ℕ) (i n : ℕ) → i + n ≤ length given → take ((i + n) - i) (drop i given) ≡ spread given i n
spread_part given i n fits =
    let e : (i + n) - i ≡ n = omega arith in
    ap (λ (k : ℕ). take k (drop i given)) e ∙ part given i n fits

pub spread_all : (given : List ℕ) → spread given 0 (length given) ≡ given
spread_all given =
    sym (part given 0 (length given) (omega arith)) ∙ take_all (length given) given (omega arith)

module _ (given : List ℕ) (next : ℕ) (flags : List Bool) (bytes : List ℕ) (i : ℕ) (within : i < length bytes) (same : length flags ≡ length bytes) where
  flags_at : (b : Bool) → get_or flags i false ≡ b → drop i flags ≡ b ∷ drop (i + 1) flags
  flags_at b is = drop_more flags i false (omega arith) ∙ ap (λ (c : Bool). c ∷ drop (i + 1) flags) is

  bytes_at : drop i bytes ≡ get_or bytes i 0 ∷ drop (i + 1) bytes
  bytes_at = drop_more bytes i 0 within

  pub filled_true : get_or flags i false ≡ true → take i bytes ++ filled given next (drop i flags) (drop i bytes) ≡ take (i + 1) (set bytes i (nth_given given next)) ++ filled given (next + 1) (drop (i + 1) flags) (drop (i + 1) (set bytes i (nth_given given next)))
  filled_true is =
      let v = nth_given given next in
      let rest = filled given (next + 1) (drop (i + 1) flags) (drop (i + 1) bytes) in
      ap (λ (l : List Bool). take i bytes ++ filled given next l (drop i bytes)) (flags_at true is)
      ∙ ap (λ (l : List ℕ). take i bytes ++ filled given next (true ∷ drop (i + 1) flags) l) bytes_at
      ∙ sym (append_assoc (take i bytes) (v ∷ []) rest)
      ∙ ap (λ (l : List ℕ). l ++ rest) (sym (take_more_set bytes i v within))
      ∙ ap (λ (l : List ℕ). take (i + 1) (set bytes i v) ++ filled given (next + 1) (drop (i + 1) flags) l) (sym (drop-set-lt (i + 1) bytes i v (omega arith)))

  pub filled_false : get_or flags i false ≡ false → take i bytes ++ filled given next (drop i flags) (drop i bytes) ≡ take (i + 1) bytes ++ filled given next (drop (i + 1) flags) (drop (i + 1) bytes)
  filled_false is =
      let rest = filled given next (drop (i + 1) flags) (drop (i + 1) bytes) in
      ap (λ (l : List Bool). take i bytes ++ filled given next l (drop i bytes)) (flags_at false is)
      ∙ ap (λ (l : List ℕ). take i bytes ++ filled given next (false ∷ drop (i + 1) flags) l) bytes_at
      ∙ sym (append_assoc (take i bytes) (get_or bytes i 0 ∷ []) rest)
      ∙ ap (λ (l : List ℕ). l ++ rest) (sym (take_more bytes i 0 within))

-- a turn counts only by what is left of it once the given bytes are taken away as often as can be
pub filled_turn : (given : List ℕ) (i j : ℕ) (flags : List Bool) (bytes : List ℕ) → i % length given ≡ j % length given → filled given i flags bytes ≡ filled given j flags bytes
filled_turn given i j [] bytes same = refl
filled_turn given i j (flag ∷ flags) [] same = refl
filled_turn given i j (true ∷ flags) (b ∷ bytes) same =
    let n = length given in
    let next : (i + 1) % n ≡ (j + 1) % n = sym (mod-add-mod i n 1) ∙ ap (λ (k : ℕ). (k + 1) % n) same ∙ mod-add-mod j n 1 in
    ap (λ (k : ℕ). get_or given k 0 ∷ filled given (i + 1) flags bytes) same
    ∙ ap (λ (l : List ℕ). nth_given given j ∷ l) (filled_turn given (i + 1) (j + 1) flags bytes next)
filled_turn given i j (false ∷ flags) (b ∷ bytes) same = ap (λ (l : List ℕ). b ∷ l) (filled_turn given i j flags bytes same)

-- what the bytes come to, with those before the i-th filled, and the byte at `turn` next
abbrev pub when_filled : List ℕ → ℕ → List Bool → List ℕ → ℕ → List ℕ
when_filled given turn flags bytes i = take i bytes ++ filled given turn (drop i flags) (drop i bytes)

filled_unmarked : (given : List ℕ) (next : ℕ) (flags : List Bool) (bytes : List ℕ) (i n : ℕ) → i + n ≤ length bytes → length flags ≡ length bytes → ((k : ℕ) → i ≤ k → k < i + n → get_or flags k false ≡ false) → take i bytes ++ filled given next (drop i flags) (drop i bytes) ≡ take (i + n) bytes ++ filled given next (drop (i + n) flags) (drop (i + n) bytes)
filled_unmarked given next flags bytes i zero fits same clear =
    let e : i ≡ i + 0 = omega arith in
    ap (λ (k : ℕ). take k bytes ++ filled given next (drop k flags) (drop k bytes)) e
filled_unmarked given next flags bytes i (suc n) fits same clear =
    let e : (i + 1) + n ≡ i + suc n = omega arith in
    filled_false given next flags bytes i (omega arith) same (clear i (omega arith) (omega arith))
    ∙ filled_unmarked given next flags bytes (i + 1) n (omega arith) same (λ k from under. clear k (omega arith) (omega arith))
    ∙ ap (λ (k : ℕ). take k bytes ++ filled given next (drop k flags) (drop k bytes)) e

-- positions that are not marked are passed at once, up to the end or to some position before it
pub passed : (given : List ℕ) (turn : ℕ) (flags : List Bool) (bytes : List ℕ) (i j size : ℕ) → length bytes ≡ size → length flags ≡ size → i < size → i ≤ j → ((k : ℕ) → i ≤ k → k < j → get_or flags k false ≡ false) → when_filled given turn flags bytes (min i size) ≡ when_filled given turn flags bytes (min j size)
passed given turn flags bytes i j size long same inside order clear =
    let n = min j size - i in
    let first : min i size ≡ i = omega (arith, inside) in
    let last : i + n ≡ min j size = omega (arith, inside, order) in
    ap (when_filled given turn flags bytes) first
    ∙ filled_unmarked given turn flags bytes i n (omega (arith, long, last)) (same ∙ sym long) (λ k from under. clear k from (omega (arith, under, last)))
    ∙ ap (when_filled given turn flags bytes) last

-- one position: if it is marked it takes the byte whose turn it is
pub taken : (given : List ℕ) (turn : ℕ) (flags : List Bool) (bytes : List ℕ) (i : ℕ) → turn < length given → i < length bytes → length flags ≡ length bytes → get_or flags i false ≡ true → when_filled given turn flags bytes i ≡ when_filled given ((turn + 1) % length given) flags (set bytes i (get_or given turn 0)) (i + 1)
taken given turn flags bytes i under within same is =
    let n = length given in
    let own : nth_given given turn ≡ get_or given turn 0 = ap (λ (k : ℕ). get_or given k 0) (mod-eq_of_lt under) in
    let new = set bytes i (get_or given turn 0) in
    filled_true given turn flags bytes i within same is
    ∙ ap (λ (v : ℕ). when_filled given (turn + 1) flags (set bytes i v) (i + 1)) own
    ∙ ap (λ (l : List ℕ). take (i + 1) new ++ l) (filled_turn given (turn + 1) ((turn + 1) % n) (drop (i + 1) flags) (drop (i + 1) new) (sym (mod-mod (turn + 1) n)))

-- at the end all are filled
pub all_filled : (given : List ℕ) (turn : ℕ) (flags : List Bool) (bytes : List ℕ) (i : ℕ) → length bytes ≤ i → length flags ≤ i → when_filled given turn flags bytes i ≡ bytes
all_filled given turn flags bytes i long marked =
    ap (λ (l : List ℕ). l ++ filled given turn (drop i flags) (drop i bytes)) (take_all i bytes long)
    ∙ ap (λ (l : List Bool). bytes ++ filled given turn l (drop i bytes)) (drop_all i flags marked)
    ∙ ap (λ (l : List ℕ). bytes ++ l) (drop_all i bytes long)
    ∙ append-nil bytes

-- no byte is lost or gained, however many flags there are
pub filled_length : (given : List ℕ) (next : ℕ) (flags : List Bool) (bytes : List ℕ) → length (filled given next flags bytes) ≡ length bytes
filled_length given next [] bytes = refl
filled_length given next (flag ∷ flags) [] = refl
filled_length given next (true ∷ flags) (b ∷ bytes) = ap suc (filled_length given (next + 1) flags bytes)
filled_length given next (false ∷ flags) (b ∷ bytes) = ap suc (filled_length given next flags bytes)

pub unmarked_stays : (given : List ℕ) (next : ℕ) (flags : List Bool) (bytes : List ℕ) (k : ℕ) → get_or flags k false ≡ false → get_or (filled given next flags bytes) k 0 ≡ get_or bytes k 0
unmarked_stays given next [] bytes k synced = refl
unmarked_stays given next (flag ∷ flags) [] k synced = refl
unmarked_stays given next (true ∷ flags) (b ∷ bytes) zero synced = cc
unmarked_stays given next (true ∷ flags) (b ∷ bytes) (suc k) synced = unmarked_stays given (next + 1) flags bytes k synced
unmarked_stays given next (false ∷ flags) (b ∷ bytes) zero synced = refl
unmarked_stays given next (false ∷ flags) (b ∷ bytes) (suc k) synced = unmarked_stays given next flags bytes k synced

-- only marked positions are filled
pub filled_only : (given : List ℕ) (next : ℕ) (flags : List Bool) (bytes : List ℕ) → KeepsSynced flags bytes (filled given next flags bytes)
filled_only given next flags bytes =
    record { as_many = filled_length given next flags bytes; same = λ k synced. unmarked_stays given next flags bytes k synced }

pub filled_keeps : (given : List ℕ) (next : ℕ) (flags : List Bool) (bytes : List ℕ) → length flags ≡ length bytes → KeepsSynced flags bytes (filled given next flags bytes)
filled_keeps given next flags bytes same = filled_only given next flags bytes
