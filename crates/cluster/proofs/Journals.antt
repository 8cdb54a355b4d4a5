-- The tokens that wait in a journal.
use Rattle.std.proofs.Common.{◌≡◌, ◌≢◌, ◌⊎◌, ℕ, zero, suc, Bool, true, false, cond, Option, map, set, slice_get, None, List, [], ◌∷◌, Some, inl, inr, sym, ap, ◌∙◌, ◌<◌, ◌+◌, length, get_or, arith, ◌++◌, length-append, refl, subst}
use Rattle.std.proofs.lemmas.List.{get_or_append_left, get_or_push, length-map, length-set}
use Rattle.torn_block.specs.declared.layout.TheConstants.{HOSTS}
use Rattle.world.specs.Entry.{Filled, is_of}
use Rattle.world.specs.Plain.{plain, plains}
use Rattle.world.specs.declared.entry.Entry.{Entry}
use Rattle.cluster_tie.specs.Parts.{Own, own_of, AreFresh, of_host}
use Rattle.cluster_tie.proofs.Steps.{part_grows}
use Rattle.cluster.specs.Journal.{AreWaiting, HaveStarted, KeepsTokens}

got : {A : Type 0} (xs : List A) (k : ℕ) (t : A) → slice_get (map (λ (x : A). Some x) xs) k ≡ Some (Some t) → (k < length xs) × (get_or xs k t ≡ t)
got [] k t h = absurd (cc h)
got (x ∷ xs) zero t h = (omega arith, cc h)
got (x ∷ xs) (suc k) t h = let r = got xs k t h in let less = r.0 in (omega arith, r.1)

-- fresh tokens that wait
fresh_waiting : (n : ℕ) (tokens : List Own) (hosts : List (Option Own)) → hosts ≡ map (λ (t : Own). Some t) tokens → AreFresh n tokens → AreWaiting hosts
fresh_waiting n tokens hosts is h k t at =
    let r = got tokens k t (sym (ap (λ (l : List (Option Own)). slice_get l k) is) ∙ at) in
    let less : k < n = omega (arith, r.0, h.0) in
    sym r.1 ∙ h.1 k t less

still : {A : Type 0} (xs : List (Option A)) (i k : ℕ) (t : A) → slice_get (set xs i None) k ≡ Some (Some t) → slice_get xs k ≡ Some (Some t)
still [] i k t at = at
still (x ∷ xs) zero zero t at = absurd (cc at)
still (x ∷ xs) zero (suc k) t at = at
still (x ∷ xs) (suc i) zero t at = at
still (x ∷ xs) (suc i) (suc k) t at = still xs i k t at

none_gone : {A : Type 0} (xs : List A) (k : ℕ) → slice_get (map (λ (x : A). Some x) xs) k ≡ Some None → ⊥
none_gone [] k at = cc
none_gone (x ∷ xs) zero at = cc
none_gone (x ∷ xs) (suc k) at = none_gone xs k at

-- and none of them is taken
pub fresh_wait : (tokens : List Own) (hosts : List (Option Own)) → hosts ≡ map (λ (t : Own). Some t) tokens → AreFresh HOSTS tokens → KeepsTokens hosts []
fresh_wait tokens hosts is h = record {
  all = ap (λ (l : List (Option Own)). length l) is ∙ length-map tokens (λ (t : Own). Some t) ∙ h.0;
  waiting = fresh_waiting HOSTS tokens hosts is h;
  started = λ k gone none. none_gone tokens k (sym (ap (λ (l : List (Option Own)). slice_get l k) is) ∙ gone);
}

-- WHO HAS STARTED

none_before : {A : Type 0} (xs ys : List A) → xs ++ ys ≡ [] → xs ≡ []
none_before [] ys none = refl
none_before (x ∷ xs) ys none = absurd (cc)

some_after : {A : Type 0} (xs : List A) (y : A) → xs ++ y ∷ [] ≡ [] → ⊥
some_after [] y none = cc
some_after (x ∷ xs) y none = cc

-- with one entry more they have still
pub have_started : (hosts : List (Option Own)) (log now : List Filled) (e : Filled) → now ≡ log ++ e ∷ [] → HaveStarted hosts log → HaveStarted hosts now
have_started hosts log now e is started h gone none =
    started h gone (none_before (of_host h log) (cond (is_of h e) ((length log, e) ∷ []) []) (sym (part_grows false h log e) ∙ ap (of_host h) (sym is) ∙ none))

pub keeps_tokens : (hosts : List (Option Own)) (log now : List Filled) (e : Filled) → now ≡ log ++ e ∷ [] → KeepsTokens hosts log → KeepsTokens hosts now
keeps_tokens hosts log now e is k = record { all = k.all; waiting = k.waiting; started = have_started hosts log now e is k.started }

-- its own entry starts a host
pub has_started : (h : ℕ) (log now : List Filled) (e : Filled) → now ≡ log ++ e ∷ [] → is_of h e ≡ true → of_host h now ≢ []
has_started h log now e is own none =
    some_after (of_host h log) (length log, e) (ap (λ (b : Bool). of_host h log ++ cond b ((length log, e) ∷ []) []) (sym own) ∙ sym (part_grows false h log e) ∙ ap (of_host h) (sym is) ∙ none)

gone_or_here : {A : Type 0} (xs : List (Option A)) (i k : ℕ) → slice_get (set xs i None) k ≡ Some None → (slice_get xs k ≡ Some None) ⊎ (k ≡ i)
gone_or_here [] i k at = inl at
gone_or_here (x ∷ xs) zero zero at = inr refl
gone_or_here (x ∷ xs) zero (suc k) at = inl at
gone_or_here (x ∷ xs) (suc i) zero at = inl at
gone_or_here (x ∷ xs) (suc i) (suc k) at = elim (gone_or_here xs i k at) [ inl gone ↦ inl gone | inr same ↦ inr (ap (λ (n : ℕ). suc n) same) ]

-- a token that is taken is that of the host that starts
pub takes_token : (hosts now : List (Option Own)) (i : ℕ) (log after : List Filled) (e : Filled) → now ≡ set hosts i None → after ≡ log ++ e ∷ [] → is_of i e ≡ true → KeepsTokens hosts log → KeepsTokens now after
takes_token hosts now i log after e is grown own k = record {
  all = ap (λ (l : List (Option Own)). length l) is ∙ length-set hosts i None ∙ k.all;
  waiting = λ j t at. k.waiting j t (still hosts i j t (sym (ap (λ (l : List (Option Own)). slice_get l j) is) ∙ at));
  started = λ j gone. started_by j (gone_or_here hosts i j (sym (ap (λ (l : List (Option Own)). slice_get l j) is) ∙ gone));
}
  where
    started_by : (j : ℕ) → (slice_get hosts j ≡ Some None) ⊎ (j ≡ i) → of_host j after ≢ []
    started_by j (inl gone) = have_started hosts log after e grown k.started j gone
    started_by j (inr same) = subst (λ (h : ℕ). of_host h after ≢ []) (sym same) (has_started i log after e grown own)

pub plains_more : (log : List Filled) (e : Filled) → plains (log ++ e ∷ []) ≡ plains log ++ plain e ∷ []
plains_more [] e = refl
plains_more (x ∷ log) e = ap (λ (l : List Entry). plain x ∷ l) (plains_more log e)

-- the next place is behind the entries
pub place_is : (items : List Entry) (log : List Filled) → items ≡ plains log → length items ≡ length log
place_is items log is = ap (λ (l : List Entry). length l) is ∙ length-map log plain

-- what holds of each holds of each but the last
pub all_less : {A : Type 0} (P : A → Type 0) (all rest : List A) (x : A) → all ≡ rest ++ x ∷ [] → ((k : ℕ) (d : A) → k < length all → P (get_or all k d)) → (k : ℕ) (d : A) → k < length rest → P (get_or rest k d)
all_less P all rest x is holds k d less =
    let longer = ap (λ l. length l) is ∙ length-append rest (x ∷ []) in
    subst P (ap (λ l. get_or l k d) is ∙ get_or_append_left rest (x ∷ []) d k less) (holds k d (omega (arith, longer, less)))

-- it holds of the last, too
pub of_last : {A : Type 0} (P : A → Type 0) (all rest : List A) (x : A) → all ≡ rest ++ x ∷ [] → ((k : ℕ) (d : A) → k < length all → P (get_or all k d)) → P x
of_last P all rest x is holds =
    let longer = ap (λ l. length l) is ∙ length-append rest (x ∷ []) in
    subst P (ap (λ l. get_or l (length rest) x) is ∙ get_or_push rest x x (length rest) refl) (holds (length rest) x (omega (arith, longer)))

-- the last of fresh tokens has the number of those before it
pub fresh_last : (n m : ℕ) (all rest : List Own) (t : Own) → all ≡ rest ++ t ∷ [] → m + 1 ≡ n → AreFresh n all → t ≡ own_of m []
fresh_last n m all rest t is one h =
    let longer = ap (λ (l : List Own). length l) is ∙ length-append rest (t ∷ []) in
    sym (get_or_push rest t t m (omega (arith, longer, one, h.0))) ∙ ap (λ (l : List Own). get_or l m t) (sym is) ∙ h.1 m t (omega (arith, one))

-- fresh tokens but the last
pub fresh_rest : (n m : ℕ) (all tokens : List Own) (t : Own) → all ≡ tokens ++ t ∷ [] → m + 1 ≡ n → AreFresh n all → AreFresh m tokens
fresh_rest n m all tokens t is one h =
    let longer = ap (λ (l : List Own). length l) is ∙ length-append tokens (t ∷ []) in (
      omega (arith, longer, one, h.0),
      λ k d less. sym (get_or_append_left tokens (t ∷ []) d k (omega (arith, less, longer, one, h.0))) ∙ ap (λ (l : List Own). get_or l k d) (sym is) ∙ h.1 k d (omega (arith, less, one)),
    )
