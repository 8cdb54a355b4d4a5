-- How a list is sorted so that elements that tie keep their order: one after the other is put in its place.
use Rattle.std.specs.Prelude.{List, [], ◌∷◌, fold, if◌then◌else◌}
use Rattle.std.specs.Ordering.{is_lt}
use Rattle.std.specs.declared.cmp.Ordering.{Ordering}

-- the element put in front of the first that it stands before, else last
abbrev pub placed : {X : Type 0} → (X → X → Ordering) → X → List X → List X
placed cmp x [] = x ∷ []
placed cmp x (y ∷ ys) = if is_lt (cmp x y) then x ∷ (y ∷ ys) else y ∷ placed cmp x ys

-- the elements placed one after the other
abbrev pub in_order : {X : Type 0} → (X → X → Ordering) → List X → List X
in_order cmp xs = fold (λ sorted x. placed cmp x sorted) [] xs
