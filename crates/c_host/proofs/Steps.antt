-- Calls that were heard one after another, as those of a task.
use Rattle.std.proofs.Common.{ℕ, List, [], ◌∷◌, sym, subst}
use Rattle.disk.specs.Disk.{Call, Answer}
use Rattle.paxos_block.specs.Shape.{Shape}
use Rattle.host.specs.Host.{Memory}
use Rattle.host.specs.Kept.{Kept, LeadsTo}
use Rattle.dlm_images.specs.Operations.{Made, AreDue, after_call, after_made}
use Rattle.c_host.specs.Steps.{AreHeard, CallsCarryOut}

-- each was due
pub all_due : (old new : Kept) (made : List Made) → AreHeard old made new → (c : Shape) (h : ℕ) (m : Memory) → LeadsTo c h m old → AreDue c h m made
all_due old new [] heard c h m leads = tt
all_due old new (x ∷ xs) heard c h m leads =
    (heard.1.due c h m leads, all_due heard.0 new xs heard.2 c h (after_call c h m x) (heard.1.leads c h m leads))

-- and what led to the old host leads, with them, to the new one
pub all_lead : (old new : Kept) (made : List Made) → AreHeard old made new → (c : Shape) (h : ℕ) (m : Memory) → LeadsTo c h m old → LeadsTo c h (after_made c h m made) new
all_lead old new [] heard c h m leads = subst (LeadsTo c h m) (sym heard) leads
all_lead old new (x ∷ xs) heard c h m leads =
    all_lead heard.0 new xs heard.2 c h (after_call c h m x) (heard.1.leads c h m leads)

pub carries_out : {D : Type 0} (gives : D → Call → Answer → D → Type 0) → CallsCarryOut gives
carries_out gives task old begun new made disks left begins heard gave ended = record {
  made = made;
  gave = gave;
  due = λ c h m leads. all_due begun new made heard c h _ (begins c h m leads);
  leads = λ c h m leads. all_lead begun new made heard c h _ (begins c h m leads);
  ended = ended;
}
