use Rattle.std.proofs.Common.{◌≡◌, ◌∙◌, ℕ, List, Bool, true, false, take, drop, refl, sym, ap}
use Rattle.std.specs.Prelude.{◌==◌, ◌&&◌, if◌then◌else◌}
use Rattle.std.specs.List.{list_all}
use Rattle.std.proofs.lemmas.List.{take-append-drop}
use Rattle.std.proofs.lemmas.List.Folds.{list_all-append}
use Rattle.torn_block.specs.Layout.{value_length}
use Rattle.paxos_block.proofs.block.has_zeros.Goals as goal

-- all are zeros where the first so many are, and the others
parted : (n : ℕ) (bytes : List ℕ) → list_all (λ b. b == 0) bytes ≡ (list_all (λ b. b == 0) (take n bytes) && list_all (λ b. b == 0) (drop n bytes))
parted n bytes =
    ap (list_all (λ b. b == 0)) (sym (take-append-drop n bytes)) ∙ list_all-append (λ b. b == 0) (take n bytes) (drop n bytes)

and-false : (a : Bool) → (a && false) ≡ false
and-false true = refl
and-false false = refl

and-true : (a : Bool) → (a && true) ≡ a
and-true true = refl
and-true false = refl

module _ (voted : Bool) (n : ℕ) (bytes : List ℕ) where
  abbrev zeros_behind : Bool
  zeros_behind = list_all (λ b. b == 0) (drop n bytes)

  abbrev tested : Bool → Bool
  tested v = list_all (λ b. b == 0) (if v then drop n bytes else bytes)

  -- the test of the last ones fails
  unfilled_at : (v : Bool) → zeros_behind ≡ false → false ≡ tested v
  unfilled_at true f = sym f
  unfilled_at false f =
      sym (parted n bytes ∙ ap (λ (b : Bool). list_all (λ x. x == 0) (take n bytes) && b) f ∙ and-false (list_all (λ x. x == 0) (take n bytes)))

  unfilled : zeros_behind ≡ false → false ≡ tested voted
  unfilled f = unfilled_at voted f

  with_input : voted ≡ true → zeros_behind ≡ true → voted ≡ tested voted
  with_input is t = is ∙ sym t ∙ ap tested (sym is)

  without_input : (blank : Bool) → voted ≡ false → zeros_behind ≡ true → blank ≡ list_all (λ b. b == 0) (take n bytes) → blank ≡ tested voted
  without_input blank is t blank_is =
      blank_is
      ∙ sym (parted n bytes ∙ ap (λ (b : Bool). list_all (λ x. x == 0) (take n bytes) && b) t ∙ and-true (list_all (λ x. x == 0) (take n bytes)))
      ∙ ap tested (sym is)

pub returns-else-is_padding : goal.returns-else-is_padding
returns-else-is_padding g c =
    let n : ℕ = value_length g.L.Layout.version in
    let behind = ap (λ (k : ℕ). list_all (λ b. b == 0) (drop k c.args.end.now)) (sym (c.VALUE_LENGTH.ensures ∙ g.met.L.Layout.value_is)) ∙ ap (list_all (λ b. b == 0)) (sym c.split_at.ensures.back) ∙ sym c.is_padding.ensures ∙ c.if-is_padding.false in
    c.if-is_padding.false ∙ unfilled c.args.voted n c.args.end.now behind

pub returns-then-voted : goal.returns-then-voted
returns-then-voted g c =
    let n : ℕ = value_length g.L.Layout.version in
    let behind = ap (λ (k : ℕ). list_all (λ b. b == 0) (drop k c.args.end.now)) (sym (c.VALUE_LENGTH.ensures ∙ g.met.L.Layout.value_is)) ∙ ap (list_all (λ b. b == 0)) (sym c.split_at.ensures.back) ∙ sym c.is_padding.ensures ∙ c.if-is_padding.true in
    with_input c.args.voted n c.args.end.now c.if-voted.true behind

pub returns-else-voted : goal.returns-else-voted
returns-else-voted g c =
    let n : ℕ = value_length g.L.Layout.version in
    let long = c.VALUE_LENGTH.ensures ∙ g.met.L.Layout.value_is in
    let behind = ap (λ (k : ℕ). list_all (λ b. b == 0) (drop k c.args.end.now)) (sym long) ∙ ap (list_all (λ b. b == 0)) (sym c.split_at.ensures.back) ∙ sym c.is_padding.ensures ∙ c.if-is_padding.true in
    without_input c.args.voted n c.args.end.now c.is_blank.result c.if-voted.false behind (c.is_blank.ensures ∙ ap (list_all (λ b. b == 0)) (c.split_at.ensures.front ∙ ap (λ (k : ℕ). take k c.args.end.now) long))
