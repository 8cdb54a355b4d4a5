-- Places that are marked one after another.
use Rattle.std.specs.Prelude.{unwrap_or, IfSome}
use Rattle.std.proofs.Common.{◌≡◌, ◌≤◌, ◌+◌, ◌-◌, ◌∙◌, ℕ, Bool, false, List, Option, Some, None, refl, sym, ap, subst, arith, inl, inr, if◌then◌else◌}
use Rattle.paxos_block.specs.Shape.{Shape}
use Rattle.disk.specs.Disk.{Call, Answer}
use Rattle.lock_command.specs.declared.command.Command.{Command}
use Rattle.epoch_deeds.specs.Deeds.{Deeds}
use Rattle.epoch_host.specs.declared.answer.EpochAnswer.{EpochAnswer}
use Rattle.epoch_host.specs.declared.task.EpochTask.TheVariants.{Mark}
use Rattle.epoch_host.specs.declared.walk.Walk.{Walk}
use Rattle.epoch_host.specs.Ending.{HasLearnedUpto}
use Rattle.epoch_host.specs.Leading.{LeadsTo}
use Rattle.epoch_images.specs.declared.fault.EpochFault.{EpochFault}
use Rattle.epoch_images.specs.declared.fault.EpochFault.TheVariants.{NoMemory, Refused}
use Rattle.epoch_images.specs.Marking.{HadLearned, MarksFrom, none, more, leaves_a_mark}
use Rattle.epoch_images.specs.Working.{Standing, HasWorked, said_by}

-- a marking that ended without a mark left none
pub unmarked : (given : EpochFault) → false ≡ leaves_a_mark (said_by given)
unmarked NoMemory = refl
unmarked (Refused refusal) = refl

-- what a host had learned, or nothing
pub had_learned : (w : Walk) (o : Option ℕ) (before : ℕ) → before ≡ unwrap_or o 0 → IfSome o (λ upto. (c : Shape) (h : ℕ) (deeds : Deeds) → LeadsTo c h deeds w → (learned : List Command) × HasLearnedUpto c h deeds upto learned) → HadLearned w before
had_learned w None before is known = inl is
had_learned w (Some upto) before is known = subst (λ (n : ℕ). HadLearned w n) (sym is) (inr known)

module _ {D : Type 0} (gives : D → Call → Answer → D → Type 0) (from : ℕ) where
  pub marked_none : (places : ℕ) (s : Standing D) → places ≡ 0 → MarksFrom gives from places 0 s s
  marked_none places s is_zero = subst (λ (n : ℕ). MarksFrom gives from n 0 s s) (sym is_zero) (none s)

  -- the next place too
  pub marked_further : (place had marked : ℕ) (said : Option EpochAnswer) (left : Bool) (old before after : Standing D) → from ≤ place → MarksFrom gives from (place - from) had old before
      → HasWorked gives (Mark place) said before after → left ≡ leaves_a_mark said → marked ≡ had + (if left then 1 else 0) → MarksFrom gives from (place + 1 - from) marked old after
  marked_further place had marked said left old before after within marks worked told counted =
      let at : from + (place - from) ≡ place = omega (arith, within) in
      let next : place - from + 1 ≡ place + 1 - from = omega (arith, within) in
      let as_many : had + (if leaves_a_mark said then 1 else 0) ≡ marked = ap (λ (b : Bool). had + (if b then 1 else 0)) (sym told) ∙ sym counted in
      subst (λ (n : ℕ). MarksFrom gives from n marked old after) next
      (subst (λ (n : ℕ). MarksFrom gives from (place - from + 1) n old after) as_many
      (more (place - from) had said old before after marks (subst (λ (k : ℕ). HasWorked gives (Mark k) said before after) (sym at) worked)))
