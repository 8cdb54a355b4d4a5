-- Lists that end in the same way, parts of what is lived, and deeds one after another.
use Rattle.std.proofs.Common.{ℕ, ◌≡◌, ◌==◌, Bool, true, false, cond, List, [], ◌∷◌, ◌++◌, refl, sym, ◌∙◌, ap}
use Rattle.std.proofs.lemmas.Bool.{eqb-true, eqb-false, eq-eqb, ne_eqb}
use Rattle.std.proofs.lemmas.List.Elements.{filter-append}
use Rattle.paxos_block.specs.Shape.{Shape}
use Rattle.host.specs.Host.{Host}
use Rattle.standings.specs.Past.{Made, Past}
use Rattle.world.specs.Entry.{Filled, Crashed, Lost, is_on, is_of, on_disk, of_host, host_step, host_after}
use Rattle.at_once.specs.AtOnce as acting
use Rattle.endless.specs.Lived.{Lived, In, Crash, Loss, part}
use Rattle.epoch_deeds.specs.Deeds.{Deed, Deeds, Calls, CallsIn, Starts, Begins, Stops, past_on, core_step, core_after}
use Rattle.epoch_runs.specs.World.{with_deeds}

-- THE LAST OF A LIST

last_from : {A : Type 0} → A → List A → A
last_from x [] = x
last_from x (y ∷ ys) = last_from y ys

last_is : {A : Type 0} (xs : List A) (other x : A) → last_from other (xs ++ x ∷ []) ≡ x
unfolding last_from
last_is [] other x = refl
last_is (y ∷ xs) other x = last_is xs y x

first_of : {A : Type 0} → List A → List A
first_of [] = []
first_of (x ∷ []) = []
first_of (x ∷ y ∷ ys) = x ∷ first_of (y ∷ ys)

first_is : {A : Type 0} (xs : List A) (x : A) → first_of (xs ++ x ∷ []) ≡ xs
unfolding first_of
first_is [] x = refl
first_is (y ∷ []) x = refl
first_is {A = A} (y ∷ z ∷ xs) x = ap (λ (l : List A). y ∷ l) (first_is (z ∷ xs) x)

pub last_same : {A : Type 0} (xs ys : List A) (x y : A) → xs ++ x ∷ [] ≡ ys ++ y ∷ [] → x ≡ y
last_same xs ys x y same = sym (last_is xs x x) ∙ ap (last_from x) same ∙ last_is ys x y

pub first_same : {A : Type 0} (xs ys : List A) (x y : A) → xs ++ x ∷ [] ≡ ys ++ y ∷ [] → xs ≡ ys
first_same xs ys x y same = sym (first_is xs x) ∙ ap first_of same ∙ first_is ys y

pub not_nil : {A : Type 0} (xs : List A) (x : A) → [] ≡ xs ++ x ∷ [] → ⊥
not_nil [] x same = absurd (cc)
not_nil (y ∷ xs) x same = absurd (cc)

-- PARTS

pub part_both : (e : ℕ) (one more : List Lived) → part e (one ++ more) ≡ part e one ++ part e more
part_both e [] more = refl
part_both e (Crash disk left ∷ one) more = ap (λ (l : List Filled). Crashed disk (left e) ∷ l) (part_both e one more)
part_both e (Loss disk ∷ one) more = ap (λ (l : List Filled). Lost disk ∷ l) (part_both e one more)
part_both e (In epoch entry ∷ one) more = either (epoch == e) (part_both e one more)
  where
    either : (b : Bool) → part e (one ++ more) ≡ part e one ++ part e more → cond b (entry ∷ part e (one ++ more)) (part e (one ++ more)) ≡ cond b (entry ∷ part e one) (part e one) ++ part e more
    either true rest = ap (λ (l : List Filled). entry ∷ l) rest
    either false rest = rest

pub of_host_both : (h e : ℕ) (one more : List Lived) → of_host h (part e (one ++ more)) ≡ of_host h (part e one) ++ of_host h (part e more)
of_host_both h e one more = ap (of_host h) (part_both e one more) ∙ filter-append (is_of h) (part e one) (part e more)

pub on_disk_both : (k e : ℕ) (one more : List Lived) → on_disk k (part e (one ++ more)) ≡ on_disk k (part e one) ++ on_disk k (part e more)
on_disk_both k e one more = ap (on_disk k) (part_both e one more) ∙ filter-append (is_on k) (part e one) (part e more)

-- DEEDS

pub does_both : (c : Shape) (h : ℕ) (host : Host) (es more : List Filled) → acting.Does c h host es → acting.Does c h (host_after c h host es) more → acting.Does c h host (es ++ more)
does_both c h host [] more first then = then
does_both c h host (e ∷ es) more first then = (first.0, does_both c h (host_step c h host e) es more first.1 then)

pub after_both : (c : Shape) (h : ℕ) (host : Host) (es more : List Filled) → host_after c h host (es ++ more) ≡ host_after c h (host_after c h host es) more
after_both c h host [] more = refl
after_both c h host (e ∷ es) more = after_both c h (host_step c h host e) es more

-- a deed more
pub core_more : (c : Shape) (h e : ℕ) (core : Host) (deeds : Deeds) (deed : Deed) → core_after c h e core (deeds ++ deed ∷ []) ≡ core_step c h e (core_after c h e core deeds) deed
core_more c h e core [] deed = refl
core_more c h e core (x ∷ deeds) deed = core_more c h e (core_step c h e core x) deeds deed

past_either : (b : Bool) (made : Made) (past more : Past) (whole : Past) → whole ≡ past ++ more → cond b (made ∷ whole) whole ≡ cond b (made ∷ past) past ++ more
past_either true made past more whole is = ap (λ (l : Past). made ∷ l) is
past_either false made past more whole is = is

pub past_more : (k : ℕ) (deeds : Deeds) (deed : Deed) → past_on k (deeds ++ deed ∷ []) ≡ past_on k deeds ++ past_on k (deed ∷ [])
past_more k [] deed = refl
past_more k (Calls d made ∷ deeds) deed = past_either (d == k) made (past_on k deeds) (past_on k (deed ∷ [])) (past_on k (deeds ++ deed ∷ [])) (past_more k deeds deed)
past_more k (CallsIn epoch d made call heard ∷ deeds) deed = past_either (d == k) made (past_on k deeds) (past_on k (deed ∷ [])) (past_on k (deeds ++ deed ∷ [])) (past_more k deeds deed)
past_more k (Starts epoch ∷ deeds) deed = past_more k deeds deed
past_more k (Begins epoch task ∷ deeds) deed = past_more k deeds deed
past_more k (Stops epoch ∷ deeds) deed = past_more k deeds deed

-- WHOSE

pub differ_back : (g h : ℕ) → (g == h) ≡ false → (h == g) ≡ false
differ_back g h differ = ne_eqb h g (λ same. eqb-false g h differ (sym same))

pub same_back : (g h : ℕ) → (g == h) ≡ true → (h == g) ≡ true
same_back g h same = eq-eqb h g (sym (eqb-true g h same))

pub same_self : (h : ℕ) → (h == h) ≡ true
same_self h = eq-eqb h h refl

-- the host's deeds, and those of another
pub deeds_there : (deeds : ℕ → Deeds) (g h : ℕ) (left : Deeds) → (g == h) ≡ false → with_deeds deeds g left h ≡ deeds h
deeds_there deeds g h left differ = ap (λ (b : Bool). cond b left (deeds h)) (differ_back g h differ)

pub deeds_here : (deeds : ℕ → Deeds) (h : ℕ) (left : Deeds) → with_deeds deeds h left h ≡ left
deeds_here deeds h left = ap (λ (b : Bool). cond b left (deeds h)) (same_self h)
