-- Deeds one after another: what the parts make of a core and of a disk's past, all of them make.
use Rattle.std.proofs.Common.{ℕ, ◌≡◌, ◌==◌, Bool, true, false, cond, List, [], ◌∷◌, ◌++◌, refl, sym, ◌∙◌, ap, subst}
use Rattle.std.proofs.lemmas.List.{append_assoc, append-nil}
use Rattle.paxos_block.specs.Shape.{Shape}
use Rattle.host.specs.Host.{Host, Stopped}
use Rattle.standings.specs.Past.{Made, Past}
use Rattle.epoch_deeds.specs.Deeds.{Deed, Deeds, Calls, CallsIn, Starts, Begins, Stops, past_on, core_step, core_after, core_in}
use Rattle.epoch_deeds.specs.Knowing.{MayDo, DoesFrom, Does}

-- A CORE

pub core_after_both : (c : Shape) (h e : ℕ) (core : Host) (before more : Deeds) → core_after c h e core (before ++ more) ≡ core_after c h e (core_after c h e core before) more
core_after_both c h e core [] more = refl
core_after_both c h e core (deed ∷ before) more = core_after_both c h e (core_step c h e core deed) before more

pub core_in_both : (c : Shape) (h e : ℕ) (before more : Deeds) → core_in c h e (before ++ more) ≡ core_after c h e (core_in c h e before) more
core_in_both c h e before more = core_after_both c h e Stopped before more

-- a deed more
pub core_in_next : (c : Shape) (h e : ℕ) (before : Deeds) (deed : Deed) → core_in c h e (before ++ deed ∷ []) ≡ core_step c h e (core_in c h e before) deed
core_in_next c h e before deed = core_after_both c h e Stopped before (deed ∷ [])

-- A PAST

past_either : (b : Bool) (made : Made) (past more : Past) (whole : Past) → whole ≡ past ++ more → cond b (made ∷ whole) whole ≡ cond b (made ∷ past) past ++ more
past_either true made past more whole is = ap (λ (l : Past). made ∷ l) is
past_either false made past more whole is = is

pub past_both : (k : ℕ) (before more : Deeds) → past_on k (before ++ more) ≡ past_on k before ++ past_on k more
past_both k [] more = refl
past_both k (Calls d made ∷ before) more = past_either (d == k) made (past_on k before) (past_on k more) (past_on k (before ++ more)) (past_both k before more)
past_both k (CallsIn epoch d made call heard ∷ before) more = past_either (d == k) made (past_on k before) (past_on k more) (past_on k (before ++ more)) (past_both k before more)
past_both k (Starts epoch ∷ before) more = past_both k before more
past_both k (Begins epoch task ∷ before) more = past_both k before more
past_both k (Stops epoch ∷ before) more = past_both k before more

-- WHAT IS ALLOWED

-- each allowed by those before
pub does_both : (c : Shape) (h : ℕ) (before one more : Deeds) → DoesFrom c h before one → DoesFrom c h (before ++ one) more → DoesFrom c h before (one ++ more)
does_both c h before [] more first then = subst (λ (l : Deeds). DoesFrom c h l more) (append-nil before) then
does_both c h before (deed ∷ one) more first then =
    (first.0, does_both c h (before ++ deed ∷ []) one more first.1 (subst (λ (l : Deeds). DoesFrom c h l more) (sym (append_assoc before (deed ∷ []) one)) then))

-- behind all that was allowed since the start
pub does_more : (c : Shape) (h : ℕ) (deeds more : Deeds) → Does c h deeds → DoesFrom c h deeds more → Does c h (deeds ++ more)
does_more c h deeds more first then = does_both c h [] deeds more first then
