-- Phase 2: a host reads the other hosts' blocks on a disk, and its ballot is accepted there.
use Rattle.std.proofs.Common.{ℕ, ◌<◌, ◌≤◌, ◌≡◌, ◌≢◌, inl, inr, Bool, true, Some, refl, sym, subst, ◌∙◌, arith}
use Rattle.std.proofs.lemmas.Bool.{cases_eq}
use Rattle.agreement.specs.State.{HOSTS, owner_of, put, Block, Cell, read_one, read_two, Asking, Telling, Mind, Proposal, State}
use Rattle.agreement.specs.State.Mind.{Idle, Opening, One, Two}
use Rattle.agreement.specs.Event.{write_two, at_stage, Allowed, after}
use Rattle.agreement.specs.Event.Event.{ReadsTwo}
use Rattle.agreement.proofs.Invariant.{Accepted, Holds, IsRegister, IsInStage, IsMind, IsAsked, IsTold, IsTelling}
use Rattle.agreement.proofs.Puts.{put_same, all_put, all_put_at}
use Rattle.agreement.proofs.Frames.{restaged, stage_at, mind_at}
use Rattle.agreement.proofs.Reading.{owner_below, row_below}
use Rattle.agreement.proofs.Writing.{write_passed}

-- ballot b is accepted on d too
module _ (accepted : Accepted) (b d : ℕ) where
  abbrev pub now : Accepted
  now = put accepted b (put (accepted b) d true)

  -- what holds of what is accepted
  pub all_now : (P : ℕ → ℕ → Bool → Type 0) → P b d true → ((e f : ℕ) → P e f (accepted e f)) → (e f : ℕ) → P e f (now e f)
  all_now P here there = all_put_at P accepted b d true here there

  -- what was accepted stays so
  pub stays : (e f : ℕ) → accepted e f ≡ true → now e f ≡ true
  stays = all_now (λ e f t. accepted e f ≡ true → t ≡ true) (λ was. refl) (λ e f was. was)

  -- b is accepted on d
  pub is_now : now b d ≡ true
  is_now = subst (λ (g : ℕ → Bool). g d ≡ true) (sym (put_same accepted b (put (accepted b) d true))) (put_same (accepted b) d true)

module _ {Value : Type 0} (disks : ℕ) (s : State Value) (i : Holds disks s) (h d : ℕ) (row : ℕ → Block Value) (t : Telling Value) where
  -- The ballot that is accepted stands on the disk, in no one's way: no other host has entered a greater one there.
  pub keeps_reads_two : Allowed disks s (ReadsTwo h d row t) → Holds disks (after s (ReadsTwo h d row t))
  keeps_reads_two (is, stage, is_row) = record {
    registers = all_put_at (IsRegister s.proposed acc) s.cell h d (at_stage (s.cell h d) read_two) (restaged (s.cell h d) read_two (register h d)) register;
    stages = all_put (λ g cells. (f : ℕ) → IsInStage acc f (s.mind g) (cells f)) s.cell h (put (s.cell h) d (at_stage (s.cell h d) read_two))
        (all_put (λ f x. IsInStage acc f (s.mind h) x) (s.cell h) d (at_stage (s.cell h d) read_two) here (λ f ne. stages_own f))
        (λ g ne f. stages_other g f ne (s.mind g) (i.minds g) (i.stages g f));
    minds = i.minds;
    proposals = λ b p made. let k = i.proposals b p made in record {
      positive = k.positive;
      majority = k.majority;
      same = k.same;
      below = k.below;
      between = λ f e. between e f b p made;
    };
  }
    where
      acc : Accepted
      acc = now s.accepted t.ballot d

      mind : IsTelling s.proposed h t
      mind = mind_at disks s i h (Two t) is

      wrote : IsTold s.accepted d t (s.cell h d)
      wrote = stage_at disks s i h d (Two t) is (omega arith)

      -- no other host has on this disk an mbal above the ballot
      under : (g : ℕ) → g < HOSTS → g ≢ h → (s.cell g d).confirmed.mbal ≤ t.ballot
      under = row_below disks s i h d t.ballot row is_row

      -- what is accepted stands there
      kept : (e f : ℕ) → acc e f ≡ true → (g : ℕ) → owner_of e ≡ g → e ≤ (s.cell g f).confirmed.bal
      kept = all_now s.accepted t.ballot d (λ e f a. a ≡ true → (g : ℕ) → owner_of e ≡ g → e ≤ (s.cell g f).confirmed.bal)
          (λ a g own. subst (λ x. t.ballot ≤ (s.cell x d).confirmed.bal) (sym mind.owned ∙ own) (wrote.write.wrote_bal (omega arith)))
          (λ e f a g own. (i.registers g f).kept e a own)

      -- so the registers are as they were
      register : (g f : ℕ) → IsRegister s.proposed acc g f (s.cell g f)
      register g f = let r = i.registers g f in record { confirmed = r.confirmed; writing = r.writing; kept = λ e a own. kept e f a g own; promised = r.promised }

      -- in phase 2 what a host counts on can only grow
      told_now : (f : ℕ) (u : Telling Value) (c : Cell Value) → IsTold s.accepted f u c → IsTold acc f u c
      told_now f u c k = record { write = k.write; told = λ l. stays s.accepted t.ballot d u.ballot f (k.told l) }

      here : IsInStage acc d (s.mind h) (at_stage (s.cell h d) read_two)
      here = subst (λ m. IsInStage acc d m (at_stage (s.cell h d) read_two)) (sym is)
          (λ k. record { write = write_passed (write_two t) (s.cell h d) wrote.write read_two (omega arith) (omega arith); told = λ l. is_now s.accepted t.ballot d })

      stages_own : (f : ℕ) → IsInStage acc f (s.mind h) (s.cell h f)
      stages_own f = subst (λ m. IsInStage acc f m (s.cell h f)) (sym is) (λ k. told_now f t (s.cell h f) (stage_at disks s i h f (Two t) is k))

      -- Another host that has read the disk in phase 1 has its ballot there, so this one is not below that.
      found : (e f : ℕ) → acc e f ≡ true → (g : ℕ) (a : Asking Value) → g ≢ h → owner_of a.ballot ≡ g → IsAsked s.accepted f a (s.cell g f) → read_one ≤ (s.cell g f).stage → e < a.ballot → e ≤ a.best.bal
      found = all_now s.accepted t.ballot d
          (λ e f x. x ≡ true → (g : ℕ) (a : Asking Value) → g ≢ h → owner_of a.ballot ≡ g → IsAsked s.accepted f a (s.cell g f) → read_one ≤ (s.cell g f).stage → e < a.ballot → e ≤ a.best.bal)
          (λ x g a other own k l lt. (let low = k.write.wrote_mbal (omega arith) in let top = under g (omega (arith, own, owner_below a.ballot)) other in absurd (omega (arith, low, top))))
          (λ e f x g a other own k l lt. k.found l e x lt)

      stages_other : (g f : ℕ) → g ≢ h → (m : Mind Value) → IsMind s.proposed g m → IsInStage s.accepted f m (s.cell g f) → IsInStage acc f m (s.cell g f)
      stages_other g f other Idle k old = tt
      stages_other g f other (Opening o) k old = old
      stages_other g f other (One a) k old = λ l. let u = old l in record { stage = u.stage; write = u.write; found = λ r e x lt. found e f x g a other k.owned u r lt }
      stages_other g f other (Two u) k old = λ l. told_now f u (s.cell g f) (old l)

      -- Nor has a greater ballot been prepared on the disk.
      none_above : (b : ℕ) (p : Proposal Value) → s.proposed b ≡ Some p → p.on d ≡ true → t.ballot < b → ⊥
      none_above b p made on lt = elim (cases_eq (owner_of b) h) [
        | inl mine ↦ (let top = mind.last b p made mine in omega arith)
        | inr other ↦ (let low = (i.registers (owner_of b) d).promised b p made on refl in
            let top = under (owner_of b) (owner_below b) other in omega arith)
      ]

      between : (e f : ℕ) (b : ℕ) (p : Proposal Value) → s.proposed b ≡ Some p → p.on f ≡ true → acc e f ≡ true → e < b → e ≤ p.follows
      between e f b p made on x = all_now s.accepted t.ballot d (λ e f y. y ≡ true → p.on f ≡ true → e < b → e ≤ p.follows)
          (λ y on lt. absurd (none_above b p made on lt))
          (λ e f y on lt. (i.proposals b p made).between f e on y lt)
          e f x on
