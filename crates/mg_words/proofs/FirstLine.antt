-- A text, its first line, and what stands behind it.
use Rattle.std.proofs.Common.{◌≡◌, ◌<◌, ◌+◌, ◌-◌, ◌∙◌, ℕ, List, [], ◌∷◌, length, arith, refl, sym, ap, ap₂, length-drop, take_all, drop_of_length-le}
use Rattle.std.specs.List.{after_first, before_first, position_or_len}
use Rattle.lock_script.specs.Lines.{lines_of}
use Rattle.lock_script.proofs.LineLemmas.{ends, first}

-- a line end is there
pub cut : (text line behind : List ℕ) → 0 < length text → line ≡ before_first ends text → behind ≡ after_first ends text → lines_of text ≡ line ∷ lines_of behind
cut text line behind some before after = first text some ∙ ap₂ (λ (l r : List ℕ). l ∷ lines_of r) (sym before) (sym after)

pub shorter : (text behind : List ℕ) → 0 < length text → behind ≡ after_first ends text → length behind < length text
shorter text behind some after =
    let long : length behind ≡ length text - (position_or_len ends text + 1) = ap length after ∙ length-drop (position_or_len ends text + 1) text in
    omega (arith, long)

-- none is there
pub whole : (text : List ℕ) → 0 < length text → position_or_len ends text ≡ length text → lines_of text ≡ text ∷ []
whole text some none =
    let n = position_or_len ends text in
    let line : before_first ends text ≡ text = take_all n text (omega (arith, none)) in
    let behind : after_first ends text ≡ [] = drop_of_length-le text (omega (arith, none)) in
    first text some ∙ ap₂ (λ (l r : List ℕ). l ∷ lines_of r) line behind

-- an empty text has no line
pub no_line : (text : List ℕ) → length text ≡ 0 → lines_of text ≡ []
no_line [] empty = refl
no_line (byte ∷ bytes) empty = absurd (omega (arith, empty))
