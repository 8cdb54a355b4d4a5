-- The calls of a plan are those of the block that was read.
use Rattle.std.specs.Prelude.{◌≡◌, ◌+◌, ℕ, Bool, List, [], ◌∷◌, Option, if◌then◌else◌}
use Rattle.torn_block.specs.declared.block.Half.{Half}
use Rattle.torn_block.specs.declared.block.Block128.{Block128}
use Rattle.torn_block.specs.declared.write_steps.WriteCall.{WriteCall}
use Rattle.torn_block.specs.declared.write_steps.WriteCall.TheVariants.{CloseGate, SyncClosed, PutBody, SyncBody, OpenGate, SyncOpened}
use Rattle.torn_block.specs.Block.{tail_with, target_at, target_of, next_number}
use Rattle.torn_block.specs.Place.{offset_of}
use Rattle.torn_block.specs.Stage.{Write128, gate_of, new_tail, call_of}
use Rattle.disk.specs.Disk.{Write}
use Rattle.std.proofs.Common.{ap, ◌∙◌, refl, arith}
use Rattle.torn_block.specs.Plan.{IsReading, Plan, device_call, need_at, plan_by}

module _ (w : Write128) (read : Block128) (is : IsReading w.version w.block read) where
  abbrev plan : Plan
  plan = plan_by w.version read w.body

  same_target : (plan_by w.version read w.body).target ≡ target_of w.version w.block
  same_target = ap target_at is.current

  same_tail : (plan_by w.version read w.body).tail ≡ new_tail w
  same_tail = ap (λ (n : Option ℕ). tail_with (next_number n) w.body) is.number

  gate_same : w.place + offset_of w.version (target_at read.current) ≡ gate_of w
  gate_same = ap (λ (h : Half). w.place + offset_of w.version h) same_target

  pub plan_calls : (call : WriteCall) (boot : ℕ) → device_call w.place boot (need_at (plan_by w.version read w.body) call) ≡ call_of call w boot
  plan_calls CloseGate boot =
      ap (λ (g : ℕ). Write boot g (if read.next_is_open then 0 ∷ [] else [])) gate_same
      ∙ ap (λ (b : Bool). Write boot (gate_of w) (if b then 0 ∷ [] else [])) is.next_is_open
  plan_calls SyncClosed boot = refl
  plan_calls PutBody boot =
      let e : w.place + (offset_of w.version (target_at read.current) + 1) ≡ gate_of w + 1 = omega (arith, gate_same) in
      ap (λ (g : ℕ). Write boot g (plan_by w.version read w.body).tail) e ∙ ap (λ (l : List ℕ). Write boot (gate_of w + 1) l) same_tail
  plan_calls SyncBody boot = refl
  plan_calls OpenGate boot = ap (λ (g : ℕ). Write boot g (165 ∷ [])) gate_same
  plan_calls SyncOpened boot = refl
