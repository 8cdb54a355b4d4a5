-- The text of a check, from what was printed of each image.
use Rattle.std.proofs.Common.{◌≡◌, ◌≤◌, ◌<◌, ◌+◌, ◌++◌, ℕ, zero, suc, Bool, List, [], ◌∷◌, Option, Some, Result, Ok, Err, length, map, slice_get, slice_set, refl, sym, ◌∙◌, ap, subst, arith, inl, inr}
use Rattle.std.specs.Prelude.{IsTrue}
use Rattle.std.specs.List.{concat}
use Rattle.std.proofs.lemmas.List.{append-nil}
use Rattle.std.proofs.lemmas.Option.{slice_get_within}
use Rattle.std.proofs.lemmas.List.Folds.{concat-append}
use Rattle.std.specs.Io.KnownBytes.{Appends}
use Rattle.std.proofs.KnownBytes.{Appends-trans}
use Rattle.disk.specs.Disk.{Device, DiskState}
use Rattle.disk.specs.declared.fault.DiskFault.{DiskFault}
use Rattle.disk.specs.declared.fault.ImageFault.{ImageFault}
use Rattle.disk.specs.declared.fault.ImageFault.TheVariants.{Unreadable}
use Rattle.paxos_block.specs.declared.header.Header.{Header}
use Rattle.folders.specs.Sets.{Found}
use Rattle.folders.specs.declared.check.CheckFault.{CheckFault}
use Rattle.folders.specs.declared.check.CheckFault.TheVariants.{Device as OfDevice}
use Rattle.folders.specs.Damage.{IfDevice, IsLeftAt, IsTextOf, IsTextOfUsed, AllTell, WritesTextOf, WritesTexts, fault_line, image_text}

-- the lines of an image that was read to its end
pub read_whole : (disk slots : ℕ) (bytes : List ℕ) (failed : Type 0) (a b : Option (List ℕ)) → Appends a b (image_text disk slots bytes) → (text : List ℕ) × IsTextOfUsed disk slots bytes failed text × Appends a b text
read_whole disk slots bytes failed a b wrote = (image_text disk slots bytes, inl refl, wrote)

-- of one that was not, the line that says so is the last
pub read_in_part : (fault : CheckFault) (cause : DiskFault) (disk slots : ℕ) (bytes : List ℕ) (failed : Type 0) (first any : Bool) (a b c : Option (List ℕ)) → fault ≡ OfDevice cause → failed → IsLeftAt fault disk slots bytes a b first any
    → Appends b c (fault_line disk Unreadable) → (text : List ℕ) × IsTextOfUsed disk slots bytes failed text × Appends a c text
read_in_part fault cause disk slots bytes failed first any a b c is why left told =
    let left_by : IsLeftAt (OfDevice cause) disk slots bytes a b first any = subst (λ (f : CheckFault). IsLeftAt f disk slots bytes a b first any) is left in
    elim left_by [
      | inl none ↦ (fault_line disk Unreadable, inr (why, inl refl), subst (λ (x : Option (List ℕ)). Appends x c (fault_line disk Unreadable)) none.0 told)
      | inr some ↦ (
        image_text disk some.0 bytes ++ fault_line disk Unreadable,
        inr (why, inr (some.0, some.1, refl)),
        Appends-trans a b c (image_text disk some.0 bytes) (fault_line disk Unreadable) some.2.text told,
      )
    ]

-- what the device failed with is why
pub why_left : (P : DiskFault → Type 0) (fault : CheckFault) (cause : DiskFault) → fault ≡ OfDevice cause → IfDevice fault P → P cause
why_left P fault cause is why = subst (λ (f : CheckFault). IfDevice f P) is why

-- a text stays one where its disk failed still
text_still : (image : Result Header ImageFault) (disk slots : ℕ) (bytes : List ℕ) (F G : Type 0) (text : List ℕ) → (F → G) → IsTextOf image disk slots bytes F text → IsTextOf image disk slots bytes G text
text_still (Err fault) disk slots bytes F G text still is = is
text_still (Ok header) disk slots bytes F G text still is = elim is [ inl whole ↦ inl whole | inr part ↦ inr (still part.0, part.1) ]

-- what is said of each of these texts, and of one more
snoc_each : (P : ℕ → List ℕ → Type 0) (texts : List (List ℕ)) (more : List ℕ) → ((k : ℕ) (text : List ℕ) → slice_get texts k ≡ Some text → P k text) → P (length texts) more → (k : ℕ) (text : List ℕ) → slice_get (texts ++ more ∷ []) k ≡ Some text → P k text
snoc_each P [] more all last zero text is = let e : more ≡ text = cc in subst (P zero) e last
snoc_each P [] more all last (suc k) text is = absurd (cc)
snoc_each P (x ∷ xs) more all last zero text is = all zero text is
snoc_each P (x ∷ xs) more all last (suc k) text is = snoc_each (λ j y. P (suc j) y) xs more (λ j y e. all (suc j) y e) last k text is

concat_snoc : (texts : List (List ℕ)) (more : List ℕ) → concat (texts ++ more ∷ []) ≡ concat texts ++ more
concat_snoc texts more = concat-append texts (more ∷ []) ∙ ap (λ (t : List ℕ). concat texts ++ t) (append-nil more)

length_snoc : (texts : List (List ℕ)) (more : List ℕ) → length (texts ++ more ∷ []) ≡ length texts + 1
length_snoc [] more = refl
length_snoc (x ∷ xs) more = let e = length_snoc xs more in omega (arith, e)

-- what a function says of the elements stays where one is set of which it says the same
map_set : {X Y : Type 0} (f : X → Y) (xs : List X) (n : ℕ) (x y : X) → slice_get xs n ≡ Some x → f y ≡ f x → map f (slice_set xs n y) ≡ map f xs
map_set f [] n x y there same = refl
map_set f (z ∷ zs) zero x y there same = let e : z ≡ x = cc in ap (λ v. v ∷ map f zs) (same ∙ ap f (sym e))
map_set f (z ∷ zs) (suc n) x y there same = ap (λ l. f z ∷ l) (map_set f zs n x y there same)

module _ {D : Type 0} (device : D → Device) (state : D → DiskState) (slots : ℕ) (found : Found) (old : List D) where
  -- the text of the next one is written
  pub one_written : (F G : ℕ → Type 0) (now : List D) (n : ℕ) (x : D) (image : Result Header ImageFault) (failed : Type 0) (a b c : Option (List ℕ))
      → ((k : ℕ) → n ≤ k → slice_get now k ≡ slice_get old k) → slice_get now n ≡ Some x → slice_get found n ≡ Some image
      → ((k : ℕ) → k < n → F k → G k) → (failed → G n)
      → (IsTrue (device x).tells → WritesTextOf image n slots (state x).bytes failed b c) → AllTell device old → WritesTexts state slots found old F n a b → WritesTexts state slots found old G (n + 1) a c
  one_written F G now n x image failed a b c rest there imaged still here writes all before =
      let at : slice_get old n ≡ Some x = sym (rest n (omega arith)) ∙ there in
      let next = writes (all n x at) in
      let texts = before.0 in (
        texts ++ next.0 ∷ [],
        length_snoc texts next.0 ∙ ap (λ (m : ℕ). m + 1) before.1,
        (λ k disk other text disk_at image_at is.
            snoc_each (λ (j : ℕ) (t : List ℕ). (d : D) (i : Result Header ImageFault) → slice_get old j ≡ Some d → slice_get found j ≡ Some i → IsTextOf i j slots (state d).bytes (G j) t) texts next.0
            (λ j t e d i d_at i_at.
            let within = slice_get_within texts j t e in
            let as_many = before.1 in
            text_still i j slots (state d).bytes (F j) (G j) t (still j (omega (arith, within, as_many))) (before.2 j d i t d_at i_at e))
            (subst (λ (j : ℕ). (d : D) (i : Result Header ImageFault) → slice_get old j ≡ Some d → slice_get found j ≡ Some i → IsTextOf i j slots (state d).bytes (G j) next.0) (sym before.1)
            (λ d i d_at i_at.
            let d_is : x ≡ d = (let both : Some x ≡ Some d = sym at ∙ d_at in cc) in
            let i_is : image ≡ i = (let both : Some image ≡ Some i = sym imaged ∙ i_at in cc) in
            subst (λ (e : D). IsTextOf i n slots (state e).bytes (G n) next.0) d_is (subst (λ (e : Result Header ImageFault). IsTextOf e n slots (state x).bytes (G n) next.0) i_is
            (text_still image n slots (state x).bytes failed (G n) next.0 here next.1))))
            k text is disk other disk_at image_at),
        subst (λ (t : List ℕ). Appends a c t) (sym (concat_snoc texts next.0)) (Appends-trans a b c (concat texts) next.0 before.3 next.2),
      )

  -- and it stays as it is
  pub one_kept : (now : List D) (n : ℕ) (x y : D) → ((k : ℕ) → n ≤ k → slice_get now k ≡ slice_get old k) → slice_get now n ≡ Some x → (IsTrue (device x).tells → state y ≡ state x) → AllTell device old → map state now ≡ map state old
      → map state (slice_set now n y) ≡ map state old
  one_kept now n x y rest there same all before = map_set state now n x y there (same (all n x (sym (rest n (omega arith)) ∙ there))) ∙ before
