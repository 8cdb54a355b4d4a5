-- Bytes that are read line by line.
use Rattle.std.proofs.Common.{◌≡◌, ◌≤◌, ◌<◌, ◌+◌, ◌-◌, ◌∙◌, ℕ, zero, suc, true, false, List, [], ◌∷◌, ◌++◌, Option, Some, None, length, length-drop, take, drop, arith, refl, sym, ap, subst}
use Rattle.std.proofs.Math.Seq.{take-length}
use Rattle.paxos_block.specs.Shape.{Shape}
use Rattle.lock_script.specs.declared.script.ScriptFault.TheVariants.{BadLine}
use Rattle.lock_script.specs.declared.draft.LineFault.{LineFault}
use Rattle.lock_script.specs.declared.draft.LineFault.TheVariants.{Bad, NoMemory}
use Rattle.lock_script.specs.Faults.{fault_at}
use Rattle.lock_script.specs.Lines.{lines_of, is_passed_over}
use Rattle.lock_script.specs.Script.{IsScript, AreGood, IsFirstBad}
use Rattle.lock_script.specs.Draft.{SoFar, read_line, Says}
use Rattle.lock_script.proofs.Saying.{added_says, passed_says, says_good}
use Rattle.lock_script.proofs.Refusing.{refused_breaks}

-- one line more is cut off
record IsCut (all : List (List ℕ)) (n : ℕ) (line : List ℕ) (rest : List (List ℕ)) : Type 0 where
  front : take (n + 1) all ≡ take n all ++ line ∷ []
  behind : drop (n + 1) all ≡ rest
  inside : n + 1 ≤ length all

cut : (all : List (List ℕ)) (n : ℕ) (line : List ℕ) (rest : List (List ℕ)) → line ∷ rest ≡ drop n all → IsCut all n line rest
cut [] zero line rest h = absurd (let e : [] ≡ line ∷ rest = sym h in let never : ⊥ = cc in never)
cut [] (suc n) line rest h = absurd (let e : [] ≡ line ∷ rest = sym h in let never : ⊥ = cc in never)
cut (first ∷ all) zero line rest h =
    let e : line ≡ first = cc in
    let f : rest ≡ all = cc in
    record { front = ap (λ l. l ∷ []) (sym e); behind = sym f; inside = omega arith }
cut (first ∷ all) (suc n) line rest h =
    let c = cut all n line rest h in
    let s : suc n + 1 ≡ suc (n + 1) = omega arith in
    record {
      front = ap (λ k. take k (first ∷ all)) s ∙ ap (λ l. first ∷ l) c.front;
      behind = ap (λ k. drop k (first ∷ all)) s ∙ c.behind;
      inside = let i = c.inside in omega arith;
    }

-- of the bytes so many lines were read, which say this, and this is left
pub record IsRead (bytes : List ℕ) (n : ℕ) (rest : List ℕ) (said : SoFar) : Type 0 where
  pub left : lines_of rest ≡ drop n (lines_of bytes)
  pub says : Says (take n (lines_of bytes)) said
  pub inside : n ≤ length (lines_of bytes)
  pub in_range : n + length rest ≤ length bytes

module _ (bytes : List ℕ) (n : ℕ) (rest : List ℕ) (said : SoFar) (read : IsRead bytes n rest said) where
  module _ (line behind : List ℕ) (lines : lines_of rest ≡ line ∷ lines_of behind) (shorter : length behind < length rest) where
    one : IsCut (lines_of bytes) n line (lines_of behind)
    one = cut (lines_of bytes) n line (lines_of behind) (sym lines ∙ read.left)

    pub one_passed : is_passed_over line ≡ true → IsRead bytes (n + 1) behind said
    one_passed over =
        record {
          left = sym one.behind;
          says = subst (λ (l : List (List ℕ)). Says l said) (sym one.front) (passed_says (take n (lines_of bytes)) line said over read.says);
          inside = one.inside;
          in_range = let r = read.in_range in omega arith;
        }

    pub one_added : (next : SoFar) → is_passed_over line ≡ false → Some next ≡ read_line said line → IsRead bytes (n + 1) behind next
    one_added next says added =
        record {
          left = sym one.behind;
          says = subst (λ (l : List (List ℕ)). Says l next) (sym one.front) (added_says (take n (lines_of bytes)) line says said next read.says (sym added));
          inside = one.inside;
          in_range = let r = read.in_range in omega arith;
        }

    -- a line that is refused is the first bad one
    pub one_refused : (fault : LineFault) (m : ℕ) → is_passed_over line ≡ false → (fault ≡ Bad → read_line said line ≡ None) → fault_at (n + 1) fault ≡ BadLine m → IsFirstBad (lines_of bytes) m
    one_refused NoMemory m says refused is = absurd (cc)
    one_refused Bad m says refused is =
        let number : n + 1 ≡ m = cc in
        let before : n + 1 - 1 ≡ n = omega arith in
        let i = one.inside in
        subst (IsFirstBad (lines_of bytes)) number (record {
          numbered = omega arith;
          before = subst (λ (k : ℕ). AreGood (take k (lines_of bytes))) (sym before) (says_good (take n (lines_of bytes)) said read.says);
          breaks = λ _ good. refused_breaks (take n (lines_of bytes)) line says said read.says (refused refl) (subst AreGood one.front good);
          behind = λ far. absurd (omega arith);
        })

  -- all lines are read
  whole : length rest ≡ 0 → (n ≡ length (lines_of bytes)) × (take n (lines_of bytes) ≡ lines_of bytes)
  whole empty = by_rest rest read.left empty where
    by_rest : (left : List ℕ) → lines_of left ≡ drop n (lines_of bytes) → length left ≡ 0 → (n ≡ length (lines_of bytes)) × (take n (lines_of bytes) ≡ lines_of bytes)
    by_rest [] none zero_left =
        let i = read.inside in
        let long = length-drop n (lines_of bytes) in
        let no_line = ap length none in
        let all : n ≡ length (lines_of bytes) = omega arith in
        (all, ap (λ k. take k (lines_of bytes)) all ∙ take-length (lines_of bytes))
    by_rest (byte ∷ left) none zero_left = absurd (omega arith)

  pub is_script : (shape : Shape) → length rest ≡ 0 → said.shape ≡ Some shape → IsScript (lines_of bytes) (record { shape = shape; log = said.log; events = said.events; shows = said.shows })
  is_script shape empty opened =
      let at_end : Says (lines_of bytes) said = subst (λ (l : List (List ℕ)). Says l said) (whole empty).1 read.says in
      subst (λ (o : Option Shape). Says (lines_of bytes) (record { shape = o; log = said.log; events = said.events; shows = said.shows })) opened at_end

  pub no_cluster : (m : ℕ) → length rest ≡ 0 → said.shape ≡ None → n + 1 ≡ m → IsFirstBad (lines_of bytes) m
  no_cluster m empty unopened number =
      let end = whole empty in
      let at_end : Says (lines_of bytes) said = subst (λ (l : List (List ℕ)). Says l said) end.1 read.says in
      let none : Says (lines_of bytes) (record { shape = None; log = said.log; events = said.events; shows = said.shows }) =
      subst (λ (o : Option Shape). Says (lines_of bytes) (record { shape = o; log = said.log; events = said.events; shows = said.shows })) unopened at_end in
      let before : n + 1 - 1 ≡ n = omega arith in
      let all = end.0 in
      subst (IsFirstBad (lines_of bytes)) number (record {
        numbered = omega arith;
        before = subst (λ (k : ℕ). AreGood (take k (lines_of bytes))) (sym before) (says_good (take n (lines_of bytes)) said read.says);
        breaks = λ far. absurd (omega arith);
        behind = λ _. (ap (λ k. k + 1) all, none.0);
      })
