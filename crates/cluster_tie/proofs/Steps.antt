-- Each step of a token keeps the rule.
use Rattle.std.proofs.Common.{◌≡◌, ◌≢◌, ◌⊎◌, ℕ, zero, suc, ◌+◌, ◌-◌, ◌<◌, ◌==◌, List, [], ◌∷◌, ◌++◌, length, map, take, drop, set, cond, Bool, true, false, true≢false, refl, sym, ap, ◌∙◌, subst, ⊎_elim, inl, inr, arith, get_or, length-append}
use Rattle.std.specs.Prelude.{Option, Some, None}
use mathlib.Core.Option.{some, none, some-ne-none, some-injective}
use lib.ListN.{get_elem?}
use Rattle.std.proofs.lemmas.Bool.Decides.{nat_tests}
use Rattle.std.proofs.lemmas.List.{get_or_push, get_or_append_left}
use native.Mathlib.Decide.{dec_lt}
use Rattle.atomic_table.specs.Table.{keeps, Me, step, Allows, Splits, Joins}
use Rattle.atomic_table.proofs.Lists.{at_set, set_again}
use Rattle.torn_block.specs.declared.layout.TheConstants.{HOSTS}
use Rattle.world.specs.Entry.{Filled, Lost, Migrated}
use Rattle.cluster_tie.specs.Parts.{Placed, belongs, placed, disk_of, host_of, Own, own_of, AreFresh}
use Rattle.cluster_tie.specs.View.{Part, Known, part, keeper, holder, kept_back, handed, lent, own, parts_from, host_parts, all_parts}
use Rattle.cluster_tie.specs.Rules.{same_role, Each, IsPartOf, Fits, Kept, Tied, grown, Agrees, appended, seen}

off : false ≡ true → ⊥
off e = true≢false (sym e)

fits_set : (seat : ℕ) (owner : Bool → ℕ → ℕ) (log : List Filled) (views : List Known) (by : ℕ) (w : Known) → ((j : ℕ) (u : Known) → j ≢ by → get_elem? views j ≡ some u → Fits seat owner log j u) → Fits seat owner log by w → (j : ℕ) (u : Known) → get_elem? (set views by w) j ≡ some u → Fits seat owner log j u
fits_set seat owner log views by w others mine j u e =
    ⊎_elim
    (λ (x : (j ≡ by) × (w ≡ u)). subst (λ (y : ℕ × Known). Fits seat owner log y.0 y.1) (λ i. (sym x.0 i, x.1 i)) mine)
    (λ (x : (j ≢ by) × (get_elem? views j ≡ some u)). others j u x.0 x.1)
    (at_set views by j w u e)

-- the parts of one seat, one by one
all_more : (P Q : Part → Type 0) (ps : List Part) → ((p : Part) → P p → Q p) → Each P ps → Each Q ps
all_more P Q [] f h = tt
all_more P Q (p ∷ ps) f h = (f p h.0, all_more P Q ps f h.1)

all_append : (P : Part → Type 0) (ps qs : List Part) → Each P ps → Each P qs → Each P (ps ++ qs)
all_append P [] qs a b = b
all_append P (p ∷ ps) qs a b = (a.0, all_append P ps qs a.1 b)

all_map : (P Q : Part → Type 0) (f : Part → Part) (ps : List Part) → ((p : Part) → P p → Q (f p)) → Each P ps → Each Q (map f ps)
all_map P Q f [] g h = tt
all_map P Q f (p ∷ ps) g h = (g p h.0, all_map P Q f ps g h.1)

-- some part has this role
abbrev pub HasRole : Bool → ℕ → List Part → Type 0
HasRole kind n [] = ⊥
HasRole kind n (p ∷ ps) = ((p.of_disk ≡ kind) × (p.number ≡ n)) ⊎ HasRole kind n ps

abbrev pub Covers : Filled → List Part → Type 0
Covers e ps = (kind : Bool) (n : ℕ) → belongs kind n e ≡ true → HasRole kind n ps

owner_of : (by : ℕ) (owner : Bool → ℕ → ℕ) (log : List Filled) (ps : List Part) (kind : Bool) (n : ℕ) → Each (IsPartOf by owner log) ps → HasRole kind n ps → owner kind n ≡ by
owner_of by owner log [] kind n h r = absurd r
owner_of by owner log (p ∷ ps) kind n h (inl r) = (λ i. owner (sym r.0 i) (sym r.1 i)) ∙ h.0.0
owner_of by owner log (p ∷ ps) kind n h (inr r) = owner_of by owner log ps kind n h.1 r

then_grows : (b c : Bool) (x : ℕ × Filled) (xs ys t : List Placed) → ys ≡ xs ++ t → cond b (x ∷ ys) ys ≡ cond b (x ∷ xs) xs ++ t
then_grows true c x xs ys t is = ap (λ (l : List Placed). x ∷ l) is
then_grows false c x xs ys t is = is

placed_grows : (at : ℕ) (kind : Bool) (n : ℕ) (log : List Filled) (e : Filled) (end : ℕ) → end ≡ at + length log → placed at kind n (log ++ e ∷ []) ≡ placed at kind n log ++ cond (belongs kind n e) ((end, e) ∷ []) []
placed_grows at kind n [] e end is = let same : at ≡ end = omega (arith, is) in ap (λ (k : ℕ). cond (belongs kind n e) ((k, e) ∷ []) []) same
placed_grows at kind n (x ∷ log) e end is = then_grows (belongs kind n x) true (at, x) (placed (at + 1) kind n log) (placed (at + 1) kind n (log ++ e ∷ [])) (cond (belongs kind n e) ((end, e) ∷ []) []) (placed_grows (at + 1) kind n log e end (omega (arith, is)))

pub part_grows : (kind : Bool) (n : ℕ) (log : List Filled) (e : Filled) → placed 0 kind n (log ++ e ∷ []) ≡ placed 0 kind n log ++ cond (belongs kind n e) ((length log, e) ∷ []) []
part_grows kind n log e = placed_grows 0 kind n log e (length log) (omega arith)

append_nil : {A : Type 0} (xs : List A) → xs ++ [] ≡ xs
append_nil [] = refl
append_nil (x ∷ xs) = ap (λ ys. x ∷ ys) (append_nil xs)

-- a part to which the entry does not belong stays
part_else : (by : ℕ) (owner : Bool → ℕ → ℕ) (log : List Filled) (e : Filled) (p : Part) (b : Bool) → belongs p.of_disk p.number e ≡ b → (b ≡ true → ⊥) → IsPartOf by owner log p → IsPartOf by owner (log ++ e ∷ []) p
part_else by owner log e p true is other h = absurd (other refl)
part_else by owner log e p false is other h = (h.0, h.1 ∙ sym (append_nil (placed 0 p.of_disk p.number log)) ∙ ap (λ (b : Bool). placed 0 p.of_disk p.number log ++ cond b ((length log, e) ∷ []) []) (sym is) ∙ sym (part_grows p.of_disk p.number log e))

part_grown : (by : ℕ) (owner : Bool → ℕ → ℕ) (log : List Filled) (e : Filled) (p : Part) → IsPartOf by owner log p → IsPartOf by owner (log ++ e ∷ []) (grown (length log) e p)
part_grown by owner log e p h = (h.0, ap (λ xs. xs ++ cond (belongs p.of_disk p.number e) ((length log, e) ∷ []) []) h.1 ∙ sym (part_grows p.of_disk p.number log e))

agrees : (by : ℕ) (owner : Bool → ℕ → ℕ) (log now : List Filled) → now ≡ log → (ps : List Part) → Each (IsPartOf by owner log) ps → Each (Agrees now) ps
agrees by owner log now same ps h = all_more (IsPartOf by owner log) (Agrees now) ps (λ p s. s.1 ∙ ap (placed 0 p.of_disk p.number) (sym same)) h

pub appends : (id : ℕ) (log : List Filled) (ps : List Part) (e : Filled) → Covers e ps → (views : List Known) → Kept views → get_elem? views id ≡ some (keeper log ps)
    → Kept (set views id (keeper (log ++ e ∷ []) (map (grown (length log) e) ps))) × Each (Agrees log) ps
appends id log ps e covers views h at =
    let mine = h.3 id (keeper log ps) at in
    let same : log ≡ h.2 = (mine.0 refl).1 in
    let parts : Each (IsPartOf id h.1 log) ps = subst (λ (l : List Filled). Each (IsPartOf id h.1 l) ps) (sym same) mine.1 in
    let w = keeper (log ++ e ∷ []) (map (grown (length log) e) ps) in
    let now : List Filled = log ++ e ∷ [] in
    let others : (j : ℕ) (u : Known) → j ≢ id → get_elem? views j ≡ some u → Fits h.0 h.1 now j u
    = λ j u apart is. let f = h.3 j u is in (
      (λ k. absurd (apart ((f.0 k).0 ∙ sym (mine.0 refl).0))),
      all_more (IsPartOf j h.1 log) (IsPartOf j h.1 now) u.parts
          (λ p s. part_else j h.1 log e p (belongs p.of_disk p.number e) refl (λ b. apart (sym s.0 ∙ owner_of id h.1 log ps p.of_disk p.number parts (covers p.of_disk p.number b))) s)
          (subst (λ (l : List Filled). Each (IsPartOf j h.1 l) u.parts) (sym same) f.1),
    ) in (
      (
        h.0,
        h.1,
        now,
        fits_set h.0 h.1 now views id w others ((λ _. ((mine.0 refl).0, refl)), all_map (IsPartOf id h.1 log) (IsPartOf id h.1 now) (grown (length log) e) ps (λ p s. part_grown id h.1 log e p s) parts),
      ),
      agrees id h.1 h.2 log same ps mine.1,
    )

pub sees : (id : ℕ) (log : List Filled) (ps : List Part) (views : List Known) → Kept views → get_elem? views id ≡ some (keeper log ps) → Each (Agrees log) ps
sees id log ps views h at = let mine = h.3 id (keeper log ps) at in agrees id h.1 h.2 log (mine.0 refl).1 ps mine.1

-- one more view, behind the others
at_end : {A : Type 0} (l : List A) (a b : A) (j : ℕ) → get_elem? (l ++ a ∷ []) j ≡ some b → (get_elem? l j ≡ some b) ⊎ ((a ≡ b) × (j ≡ length l))
at_end [] a b zero e = inr (some-injective a b e, refl)
at_end [] a b (suc j) e = absurd (some-ne-none b (sym e))
at_end (x ∷ xs) a b zero e = inl e
at_end (x ∷ xs) a b (suc j) e = ⊎_elim (λ h. inl h) (λ (h : (a ≡ b) × (j ≡ length xs)). inr (h.0, omega (arith, h.1))) (at_end xs a b j e)

same_number : (n m : ℕ) → (n == m) ≡ true → n ≡ m
same_number n m e = grind (arith, nat_tests)

-- two parts of one role have one owner
role_owner : (owner : Bool → ℕ → ℕ) (kind kind' : Bool) (n n' : ℕ) (xs xs' : List Placed) → same_role kind n (part kind' n' xs) ≡ true → owner kind n ≡ owner kind' n'
role_owner owner true true n n' xs xs' e = ap (owner true) (sym (same_number n' n e))
role_owner owner true false n n' xs xs' e = absurd (off e)
role_owner owner false true n n' xs xs' e = absurd (off e)
role_owner owner false false n n' xs xs' e = ap (owner false) (sym (same_number n' n e))

same_itself : (kind : Bool) (n : ℕ) (xs : List Placed) → same_role kind n (part kind n xs) ≡ true
same_itself true n xs = grind (arith, nat_tests)
same_itself false n xs = grind (arith, nat_tests)

-- the owners once the part p has gone to the seat `to`
abbrev given : (Bool → ℕ → ℕ) → Part → ℕ → Bool → ℕ → ℕ
given owner p to kind n = cond (same_role kind n p) to (owner kind n)

abbrev pub Apart : Part → Part → Type 0
Apart p q = same_role q.of_disk q.number p ≡ false

stays_given : (by : ℕ) (owner : Bool → ℕ → ℕ) (log : List Filled) (p : Part) (to : ℕ) (q : Part) → Apart p q → IsPartOf by owner log q → IsPartOf by (given owner p to) log q
stays_given by owner log p to q apart h = (ap (λ (b : Bool). cond b to (owner q.of_disk q.number)) apart ∙ h.0, h.1)

all_given : (by : ℕ) (owner : Bool → ℕ → ℕ) (log : List Filled) (p : Part) (to : ℕ) (qs : List Part) → Each (Apart p) qs → Each (IsPartOf by owner log) qs → Each (IsPartOf by (given owner p to) log) qs
all_given by owner log p to [] a h = tt
all_given by owner log p to (q ∷ qs) a h = (stays_given by owner log p to q a.0 h.0, all_given by owner log p to qs a.1 h.1)

others_given : (j id : ℕ) (owner : Bool → ℕ → ℕ) (log : List Filled) (p : Part) (to : ℕ) → j ≢ id → owner p.of_disk p.number ≡ id → (q : Part) → (b : Bool) → same_role q.of_disk q.number p ≡ b → IsPartOf j owner log q → IsPartOf j (given owner p to) log q
others_given j id owner log p to apart its q true is h = absurd (apart (sym h.0 ∙ role_owner owner q.of_disk p.of_disk q.number p.number p.entries [] is ∙ its))
others_given j id owner log p to apart its q false is h = stays_given j owner log p to q is h

pub splits : (id : ℕ) (v : Known) (p : Part) (ps : List Part) → v.parts ≡ p ∷ ps → Each (Apart p) ps → (views : List Known) → Kept views → get_elem? views id ≡ some v
    → Kept (set views id (kept_back v) ++ handed v ∷ [])
splits id v p ps is apart views h at =
    let mine = h.3 id v at in
    let parts : Each (IsPartOf id h.1 h.2) (p ∷ ps) = subst (Each (IsPartOf id h.1 h.2)) is mine.1 in
    let to : ℕ = length (set views id (kept_back v)) in
    let owner = given h.1 p to in
    let rest : kept_back v ≡ record { is_journal = v.is_journal; log = v.log; parts = ps } = ap (λ (l : List Part). record { is_journal = v.is_journal; log = v.log; parts = drop 1 l }) is in
    let one : handed v ≡ holder (p ∷ []) = ap (λ (l : List Part). holder (take 1 l)) is in
    let fits_rest : Fits h.0 owner h.2 id (kept_back v) = subst (Fits h.0 owner h.2 id) (sym rest) (mine.0, all_given id h.1 h.2 p to ps apart parts.1) in
    let fits_one : Fits h.0 owner h.2 to (handed v) = subst (Fits h.0 owner h.2 to) (sym one) ((λ k. absurd (off k)), ((ap (λ (b : Bool). cond b to (h.1 p.of_disk p.number)) (same_itself p.of_disk p.number p.entries), parts.0.1), tt)) in
    let others : (j : ℕ) (u : Known) → j ≢ id → get_elem? views j ≡ some u → Fits h.0 owner h.2 j u
    = λ j u away there. let f = h.3 j u there in (f.0, all_more (IsPartOf j h.1 h.2) (IsPartOf j owner h.2) u.parts (λ q s. others_given j id h.1 h.2 p to away parts.0.0 q (same_role q.of_disk q.number p) refl s) f.1) in (
      h.0,
      owner,
      h.2,
      λ j u there. ⊎_elim
          (λ was. fits_set h.0 owner h.2 views id (kept_back v) others fits_rest j u was)
          (λ (new : (handed v ≡ u) × (j ≡ to)). subst (λ (y : ℕ × Known). Fits h.0 owner h.2 y.0 y.1) (λ i. (sym new.1 i, new.0 i)) fits_one)
          (at_end (set views id (kept_back v)) (handed v) u j there),
    )

-- the owners once all parts of the seat `other` have gone to the seat `id`
abbrev moved : (Bool → ℕ → ℕ) → ℕ → ℕ → Bool → ℕ → ℕ
moved owner other id kind n = cond (owner kind n == other) id (owner kind n)

is_itself : (n : ℕ) → (n == n) ≡ true
is_itself n = grind (arith, nat_tests)

not_other : (n m : ℕ) → n ≢ m → (n == m) ≡ false
not_other n m apart = grind (arith, nat_tests)

part_moved : (id other : ℕ) (owner : Bool → ℕ → ℕ) (log : List Filled) (p : Part) → IsPartOf other owner log p → IsPartOf id (moved owner other id) log p
part_moved id other owner log p h = (ap (λ (n : ℕ). cond (n == other) id n) h.0 ∙ ap (λ (b : Bool). cond b id other) (is_itself other), h.1)

part_stays : (j id other : ℕ) → j ≢ other → (owner : Bool → ℕ → ℕ) (log : List Filled) (p : Part) → IsPartOf j owner log p → IsPartOf j (moved owner other id) log p
part_stays j id other apart owner log p h = (ap (λ (n : ℕ). cond (n == other) id n) h.0 ∙ ap (λ (b : Bool). cond b id j) (not_other j other apart), h.1)

pub joins : (id : ℕ) (v : Known) (other : ℕ) (w : Known) (views : List Known) → Kept views → get_elem? views id ≡ some v → (other ≡ id → ⊥) → get_elem? (set views id (lent v w)) other ≡ some w
    → Kept (set (set views id (lent v w)) other (holder []))
joins id v other w views h at apart there =
    let mine = h.3 id v at in
    let away : id ≢ other = λ e. apart (sym e) in
    let theirs = ⊎_elim (λ (t : (other ≡ id) × (lent v w ≡ w)). absurd (apart t.0)) (λ (t : (other ≢ id) × (get_elem? views other ≡ some w)). h.3 other w t.1) (at_set views id other (lent v w) w there) in
    let owner = moved h.1 other id in
    let both : Fits h.0 owner h.2 id (lent v w) = (mine.0, all_append (IsPartOf id owner h.2) v.parts w.parts (all_more (IsPartOf id h.1 h.2) (IsPartOf id owner h.2) v.parts (part_stays id id other away h.1 h.2) mine.1) (all_more (IsPartOf other h.1 h.2) (IsPartOf id owner h.2) w.parts (part_moved id other h.1 h.2) theirs.1)) in (
      h.0,
      owner,
      h.2,
      fits_set h.0 owner h.2 (set views id (lent v w)) other (holder [])
          (λ j u far e. ⊎_elim
          (λ (x : (j ≡ id) × (lent v w ≡ u)). subst (λ (y : ℕ × Known). Fits h.0 owner h.2 y.0 y.1) (λ i. (sym x.0 i, x.1 i)) both)
          (λ (x : (j ≢ id) × (get_elem? views j ≡ some u)). let f = h.3 j u x.1 in (f.0, all_more (IsPartOf j h.1 h.2) (IsPartOf j owner h.2) u.parts (part_stays j id other far h.1 h.2) f.1))
          (at_set views id j (lent v w) u e))
          ((λ k. absurd (off k)), tt),
    )

-- the same, as the table asks for them
pub splits_as : (id : ℕ) (v : Known) (p : Part) (ps : List Part) → v.parts ≡ p ∷ ps → Each (Apart p) ps → Splits Tied id v (kept_back v) (handed v)
splits_as id v p ps is apart s h at = splits id v p ps is apart s.views h at

pub joins_as : (id : ℕ) (v : Known) (other : ℕ) (w : Known) → Joins Tied id v other w (lent v w) (holder [])
joins_as id v other w s h at apart there = joins id v other w s.views h at apart there

sees_keeper : (slots id word : ℕ) (log : List Filled) (ps : List Part) → Allows Tied slots id (keeper log ps, []) word (λ n. n) (seen (step slots word 0 0 none) (keeper log ps, []))
sees_keeper slots id word log ps s h size at low =
    (keeper log ps, keeps, tt, subst Kept (sym (set_again s.views id (keeper log ps) at)) h, (refl, sees id log ps s.views h at))

pub sees_as : (slots id word : ℕ) (me : Me ℕ Known) (log : List Filled) (ps : List Part) → me ≡ (keeper log ps, []) → Allows Tied slots id me word (λ n. n) (seen (step slots word 0 0 none) me)
sees_as slots id word me log ps is = subst (λ (m : Me ℕ Known). Allows Tied slots id m word (λ n. n) (seen (step slots word 0 0 none) m)) (sym is) (sees_keeper slots id word log ps)

appends_keeper : (slots id word : ℕ) (log : List Filled) (ps : List Part) (e : Filled) → Covers e ps → Allows Tied slots id (keeper log ps, []) word (λ n. n) (appended e (step slots word 0 0 none) (keeper log ps, []))
appends_keeper slots id word log ps e covers s h size at low =
    let a = appends id log ps e covers s.views h at in
    (keeper (log ++ e ∷ []) (map (grown (length log) e) ps), keeps, tt, a.0, ((refl, a.1), refl))

pub appends_as : (slots id word : ℕ) (me : Me ℕ Known) (log : List Filled) (ps : List Part) (e : Filled) → me ≡ (keeper log ps, []) → Covers e ps → Allows Tied slots id me word (λ n. n) (appended e (step slots word 0 0 none) me)
appends_as slots id word me log ps e is covers = subst (λ (m : Me ℕ Known). Allows Tied slots id m word (λ n. n) (appended e (step slots word 0 0 none) m)) (sym is) (appends_keeper slots id word log ps e covers)

-- whether it is this number
abbrev named : ℕ → Option ℕ → Bool
named n None = false
named n (Some k) = k == n

-- the number of the disk, or of the host, that an entry names
abbrev number_of : Bool → Filled → Option ℕ
number_of true e = disk_of e
number_of false e = host_of e

-- it is of one disk, of one host, or of one of each
abbrev IsOne : Filled → Type 0
IsOne (Migrated disks log) = ⊥
IsOne other = Unit {0}

one_by : (kind : Bool) (n : ℕ) (e : Filled) → number_of kind e ≡ Some n → IsOne e
one_by true n (Migrated disks log) is = cc
one_by true n (Lost k) is = tt
one_by true n other is = tt
one_by false n (Migrated disks log) is = cc
one_by false n (Lost k) is = tt
one_by false n other is = tt

-- it belongs there, and nowhere else
belongs_named : (kind : Bool) (n : ℕ) (e : Filled) → IsOne e → belongs kind n e ≡ named n (number_of kind e)
belongs_named true n (Migrated disks log) one = absurd one
belongs_named true n (Lost k) one = refl
belongs_named true n other one = refl
belongs_named false n (Migrated disks log) one = absurd one
belongs_named false n (Lost k) one = refl
belongs_named false n other one = refl

belongs_to : (kind : Bool) {k : ℕ} {xs : List Placed} {o : Own} (n : ℕ) (e : Filled) → own_of k xs ≡ o → number_of kind e ≡ Some o.number → belongs kind n e ≡ true → (kind ≡ kind) × (k ≡ n)
belongs_to kind {k} {o = o} n e own is b = (refl, same_number k n (sym (belongs_named kind n e (one_by kind o.number e is) ∙ ap (named n) (is ∙ ap (λ (z : Own). Some z.number) (sym own))) ∙ b))

belongs_to_none : (kind : Bool) (n : ℕ) (e : Filled) → IsOne e → number_of kind e ≡ None → belongs kind n e ≡ true → ⊥
belongs_to_none kind n e one is b = off (sym (belongs_named kind n e one ∙ ap (named n) is) ∙ b)

-- So the part of this disk and that of this host are all to which an entry of the two belongs; or the one, where it is of one alone.
pub covers_two : {k h : ℕ} {xs zs : List Placed} {d o : Own} (e : Filled) → own_of k xs ≡ d → own_of h zs ≡ o → (disk_of e ≡ Some d.number) × (host_of e ≡ Some o.number) → Covers e (part true k xs ∷ part false h zs ∷ [])
covers_two e disk host is true n b = inl (belongs_to true n e disk is.0 b)
covers_two e disk host is false n b = inr (inl (belongs_to false n e host is.1 b))

pub covers_disk : {k : ℕ} {xs : List Placed} {d : Own} (e : Filled) → own_of k xs ≡ d → (disk_of e ≡ Some d.number) × (host_of e ≡ None) → Covers e (part true k xs ∷ [])
covers_disk e disk is true n b = inl (belongs_to true n e disk is.0 b)
covers_disk {d = d} e disk is false n b = absurd (belongs_to_none false n e (one_by true d.number e is.0) is.1 b)

pub covers_host : {h : ℕ} {zs : List Placed} {o : Own} (e : Filled) → own_of h zs ≡ o → (disk_of e ≡ None) × (host_of e ≡ Some o.number) → Covers e (part false h zs ∷ [])
covers_host {o = o} e host is true n b = absurd (belongs_to_none true n e (one_by false o.number e is.1) is.0 b)
covers_host e host is false n b = inl (belongs_to false n e host is.1 b)

each_is_part : (kind : Bool) (n count : ℕ) → Each (IsPartOf 0 (λ _ _. 0) []) (parts_from kind n count)
each_is_part kind n zero = tt
each_is_part kind n (suc count) = ((refl, refl), each_is_part kind (n + 1) count)

pub opens : (disks : ℕ) → Kept (keeper [] (all_parts disks) ∷ [])
opens disks = (0, (λ _ _. 0), [], one)
  where
    one : (by : ℕ) (v : Known) → get_elem? (keeper [] (all_parts disks) ∷ []) by ≡ some v → Fits 0 (λ _ _. 0) [] by v
    one zero v e = subst (Fits 0 (λ _ _. 0) [] 0) (some-injective _ _ e) ((λ _. (refl, refl)), all_append (IsPartOf 0 (λ _ _. 0) []) (parts_from true 0 disks) host_parts (each_is_part true 0 disks) (each_is_part false 0 HOSTS))
    one (suc by) v e = absurd (some-ne-none v (sym e))

-- the parts that are still to be dealt
pub parts_less : (kind : Bool) (n disks : ℕ) (rest : List Part) → n < disks → parts_from kind n (disks - n) ++ rest ≡ part kind n [] ∷ (parts_from kind (n + 1) (disks - (n + 1)) ++ rest)
parts_less kind n disks rest less = let one : disks - n ≡ suc (disks - (n + 1)) = omega arith in ap (λ (c : ℕ). parts_from kind n c ++ rest) one

later_apart : (kind : Bool) (n m count : ℕ) → n < m → Each (Apart (part kind n [])) (parts_from kind m count)
later_apart kind n m zero less = tt
later_apart true n m (suc count) less = (not_other n m (λ e. omega (arith, e)), later_apart true n (m + 1) count (omega arith))
later_apart false n m (suc count) less = (not_other n m (λ e. omega (arith, e)), later_apart false n (m + 1) count (omega arith))

hosts_apart : (n m count : ℕ) → Each (Apart (part true n [])) (parts_from false m count)
hosts_apart n m zero = tt
hosts_apart n m (suc count) = (refl, hosts_apart n (m + 1) count)

pub disks_apart : (n count : ℕ) → Each (Apart (part true n [])) (parts_from true (n + 1) count ++ host_parts)
disks_apart n count = all_append (Apart (part true n [])) (parts_from true (n + 1) count) host_parts (later_apart true n (n + 1) count (omega arith)) (hosts_apart n 0 HOSTS)

pub rest_apart : (n count : ℕ) → Each (Apart (part false n [])) (parts_from false (n + 1) count ++ [])
rest_apart n count = all_append (Apart (part false n [])) (parts_from false (n + 1) count) [] (later_apart false n (n + 1) count (omega arith)) tt

-- one more token
pub fresh_more : (n : ℕ) (tokens now : List Own) (t : Own) → now ≡ tokens ++ t ∷ [] → t ≡ own_of n [] → AreFresh n tokens → AreFresh (n + 1) now
fresh_more n tokens now t is is_t h = (
  (let all = ap length is in omega (arith, length-append tokens (t ∷ []), h.0)),
  λ k d less. ap (λ (l : List Own). get_or l k d) is ∙ at k d less (dec_lt k n),
)
  where
    at : (k : ℕ) (d : Own) → k < n + 1 → Dec (k < n) → get_or (tokens ++ t ∷ []) k d ≡ own_of k []
    at k d less (yes below) = get_or_append_left tokens (t ∷ []) d k (omega (arith, h.0)) ∙ h.1 k d below
    at k d less (no over) = let same : k ≡ length tokens = omega (arith, h.0) in ap (λ (j : ℕ). get_or (tokens ++ t ∷ []) j d) same ∙ get_or_push tokens t d (length tokens) refl ∙ is_t ∙ ap (λ (j : ℕ). own_of j []) (sym h.0 ∙ sym same)
