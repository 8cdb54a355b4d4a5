-- A change at one host, or on one disk of a host, keeps what holds elsewhere.
use Rattle.std.proofs.Common.{ℕ, ◌≡◌, subst}
use Rattle.agreement.specs.State.{Cell, Mind, State, put}
use Rattle.agreement.specs.Event.{with_host, with_cell, at_stage}
use Rattle.agreement.proofs.Invariant.{Proposals, Accepted, Holds, IsRegister, IsInStage, IsMind}
use Rattle.agreement.proofs.Puts.{all_put, all_put2, all_put_at}

-- a register is one at any stage
pub restaged : {Value : Type 0} {proposed : Proposals Value} {accepted : Accepted} {h d : ℕ} (c : Cell Value) (stage : ℕ) → IsRegister proposed accepted h d c → IsRegister proposed accepted h d (at_stage c stage)
restaged c stage r = record { confirmed = r.confirmed; writing = r.writing; kept = r.kept; promised = r.promised }

module _ {Value : Type 0} (disks : ℕ) (s : State Value) (i : Holds disks s) where
  -- a host gets another mind, and its disks other stages
  pub keeps_host : (h : ℕ) (m : Mind Value) (cells : ℕ → Cell Value) → IsMind s.proposed h m
      → ((d : ℕ) → IsRegister s.proposed s.accepted h d (cells d)) → ((d : ℕ) → IsInStage s.accepted d m (cells d)) → Holds disks (with_host s h m cells)
  keeps_host h m cells mind registers stages = record {
    registers = all_put (λ g row. (d : ℕ) → IsRegister s.proposed s.accepted g d (row d)) s.cell h cells registers (λ g ne. i.registers g);
    stages = all_put2 (λ g n row. (d : ℕ) → IsInStage s.accepted d n (row d)) s.mind s.cell h m cells stages (λ g ne. i.stages g);
    minds = all_put (λ g n. IsMind s.proposed g n) s.mind h m mind (λ g ne. i.minds g);
    proposals = i.proposals;
  }

  -- one block of a host changes
  pub keeps_cell : (h d : ℕ) (c : Cell Value) → IsRegister s.proposed s.accepted h d c → IsInStage s.accepted d (s.mind h) c → Holds disks (with_cell s h d c)
  keeps_cell h d c register stage = record {
    registers = all_put_at (IsRegister s.proposed s.accepted) s.cell h d c register i.registers;
    stages = all_put_at (λ g e x. IsInStage s.accepted e (s.mind g) x) s.cell h d c stage i.stages;
    minds = i.minds;
    proposals = i.proposals;
  }

  -- a host gets another mind and a disk another stage
  pub keeps_read : (h d stage : ℕ) (m : Mind Value) → IsMind s.proposed h m → IsInStage s.accepted d m (at_stage (s.cell h d) stage)
      → ((e : ℕ) → IsInStage s.accepted e m (s.cell h e)) → Holds disks (with_host s h m (put (s.cell h) d (at_stage (s.cell h d) stage)))
  keeps_read h d stage m mind here there =
      keeps_host h m (put (s.cell h) d (at_stage (s.cell h d) stage)) mind
      (all_put (λ e x. IsRegister s.proposed s.accepted h e x) (s.cell h) d (at_stage (s.cell h d) stage) (restaged (s.cell h d) stage (i.registers h d)) (λ e ne. i.registers h e))
      (all_put (λ e x. IsInStage s.accepted e m x) (s.cell h) d (at_stage (s.cell h d) stage) here (λ e ne. there e))

  -- what holds of a host of a known mind
  pub stage_at : (h d : ℕ) (m : Mind Value) → s.mind h ≡ m → IsInStage s.accepted d m (s.cell h d)
  stage_at h d m e = subst (λ n. IsInStage s.accepted d n (s.cell h d)) e (i.stages h d)

  pub mind_at : (h : ℕ) (m : Mind Value) → s.mind h ≡ m → IsMind s.proposed h m
  mind_at h m e = subst (λ n. IsMind s.proposed h n) e (i.minds h)
