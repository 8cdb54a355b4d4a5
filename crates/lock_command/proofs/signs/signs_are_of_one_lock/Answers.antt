use Rattle.std.proofs.Common.{◌≡◌, ◌++◌, ◌∙◌, ℕ, List, ◌∷◌, sym, append_assoc}
use Rattle.std.specs.Prelude.{codes, decimal}
use Rattle.std.proofs.lemmas.Fmt.{decimal_injective}
use Rattle.lock_command.proofs.Points.{numbers_parted}
use Rattle.lock_command.proofs.signs.signs_are_of_one_lock.Goals as goal

-- words with points between them, joined from the left and from the right
pointed : (start a b c : List ℕ) → start ++ a ++ codes "." ++ b ++ codes "." ++ c ≡ start ++ (a ++ 46 ∷ (b ++ 46 ∷ c))
pointed start a b c =
    append_assoc (start ++ a ++ codes "." ++ b) (codes ".") c
    ∙ append_assoc (start ++ a ++ codes ".") b (codes "." ++ c)
    ∙ append_assoc (start ++ a) (codes ".") (b ++ (codes "." ++ c))
    ∙ append_assoc start a (codes "." ++ (b ++ (codes "." ++ c)))

-- what stands behind the same eight characters
behind : (a b : List ℕ) → codes "mg-lock." ++ a ≡ codes "mg-lock." ++ b → a ≡ b
behind a b e = cc

-- src/signs.rt
pub returns : goal.returns
returns c set host lock other_set other_host other_lock s h l s2 h2 l2 e =
    let text : ℕ → ℕ → ℕ → List ℕ = λ x y z. decimal x ++ 46 ∷ (decimal y ++ 46 ∷ decimal z) in
    let same : text set host lock ≡ text other_set other_host other_lock =
    behind (text set host lock) (text other_set other_host other_lock)
    (sym (pointed (codes "mg-lock.") (decimal set) (decimal host) (decimal lock)) ∙ e ∙ pointed (codes "mg-lock.") (decimal other_set) (decimal other_host) (decimal other_lock)) in
    let sets = numbers_parted set other_set (decimal host ++ 46 ∷ decimal lock) (decimal other_host ++ 46 ∷ decimal other_lock) s s2 same in
    let hosts = numbers_parted host other_host (decimal lock) (decimal other_lock) h h2 sets.1 in
    (sets.0, hosts.0, decimal_injective lock other_lock l l2 hosts.1)
