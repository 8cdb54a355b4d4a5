-- What a host knows, by what it keeps and by what it did.
use Rattle.std.proofs.Common.{ℕ, zero, suc, ◌≡◌, [], None, refl, sym, ◌∙◌, subst, inl, inr}
use Rattle.paxos_block.specs.Shape.{Shape}
use Rattle.lock_table.specs.Apply.{table_after}
use Rattle.lock_table.specs.Picture.{Shown, IsPictureOf}
use Rattle.host.specs.Host.{Memory, Stopped, Running}
use Rattle.epoch_deeds.specs.Deeds.{Deeds, core_in}
use Rattle.epoch_host.specs.declared.over.Over.{Over}
use Rattle.epoch_host.specs.declared.over.Over.TheVariants.{Unknown, Known}
use Rattle.epoch_host.specs.declared.stay.Stay.{Stay}
use Rattle.epoch_host.specs.declared.walk.Walk.{Walk}
use Rattle.epoch_host.specs.declared.walk.Whereabouts.{Whereabouts}
use Rattle.epoch_host.specs.declared.walk.Whereabouts.TheVariants.{Nowhere, Finds, In}
use Rattle.epoch_host.specs.Ending.{IsThere, IsWhereItIs}
use Rattle.epoch_host.specs.Knowing.{KnowsBefore, before_at, before_of, before_over, epoch_at, prefix_at, prefix_of, where_is}
use Rattle.epoch_host.specs.Leading.{AllStopped, CarriesOver, LeadsTo, LeadsToPlace}
use Rattle.epoch_host.specs.Walking.{IsAtWork}
use Rattle.epoch_host.proofs.Ending.{learned_here}

-- IN NO EPOCH

pub no_epoch : (place : Whereabouts) → ((s : Stay) → place ≡ In s → ⊥) → epoch_at place ≡ None
no_epoch Nowhere none = refl
no_epoch (Finds search) none = refl
no_epoch (In s) none = absurd (none s refl)

pub no_prefix : (place : Whereabouts) → ((s : Stay) → place ≡ In s → ⊥) → prefix_at place ≡ []
no_prefix Nowhere none = refl
no_prefix (Finds search) none = refl
no_prefix (In s) none = absurd (none s refl)

pub no_before : (place : Whereabouts) → ((s : Stay) → place ≡ In s → ⊥) → before_at place ≡ []
no_before Nowhere none = refl
no_before (Finds search) none = refl
no_before (In s) none = absurd (none s refl)

-- WHERE THE TABLE IS

pub is_there : (w : Walk) (s : Stay) → IsAtWork w s → IsThere w
is_there w s at = record { stay = s; is = at.is; works = at.works; whole = at.whole }

pub table_is : (w : Walk) (s : Stay) (shown : Shown) → IsAtWork w s → IsPictureOf shown (table_after s.core.prefix) → IsPictureOf shown (table_after (prefix_of w))
table_is w s shown at = subst (λ (place : Whereabouts). IsPictureOf shown (table_after (prefix_at place))) (sym at.is)

-- BY WHAT IT DID

runs_none : {P : Type 0} (c : Shape) (h : ℕ) (deeds : Deeds) (e : ℕ) (memory : Memory) → AllStopped c h deeds → core_in c h e deeds ≡ Running memory → P
runs_none c h deeds e memory stopped runs = absurd (let none : Stopped ≡ Running memory = sym (stopped e) ∙ runs in cc)

-- its epoch is the one where a core runs
pub where_by : (w : Walk) (c : Shape) (h : ℕ) (deeds : Deeds) → LeadsTo c h deeds w → IsWhereItIs c h deeds (where_is w)
where_by w c h deeds led = by_place w.is led.place
  where
    by_place : (place : Whereabouts) → LeadsToPlace c h deeds place → IsWhereItIs c h deeds (epoch_at place)
    by_place Nowhere stopped = stopped
    by_place (Finds search) there = there.0
    by_place (In s) there = ((there.memory, there.runs), there.alone)

-- which has learned these commands
pub prefix_by : (w : Walk) (c : Shape) (h : ℕ) (deeds : Deeds) → LeadsTo c h deeds w → (e : ℕ) (memory : Memory) → core_in c h e deeds ≡ Running memory → prefix_of w ≡ memory.learned
prefix_by w c h deeds led e memory runs = by_place w.is led.place
  where
    by_place : (place : Whereabouts) → LeadsToPlace c h deeds place → prefix_at place ≡ memory.learned
    by_place Nowhere stopped = runs_none c h deeds e memory stopped runs
    by_place (Finds search) there = runs_none c h deeds e memory there.0 runs
    by_place (In s) there = learned_here c h deeds s there e memory runs

-- and these are all commands of the epoch before
before_in : (c : Shape) (h : ℕ) (deeds : Deeds) (e : ℕ) (over : Over) (memory : Memory) → core_in c h e deeds ≡ Running memory → CarriesOver c h e deeds over → KnowsBefore c h deeds (before_over over)
before_in c h deeds e Unknown memory runs is = inl refl
before_in c h deeds zero (Known values before) memory runs (over, carries, spells, same, all) = inl all
before_in c h deeds (suc e) (Known values before) memory runs (over, carries, spells, same, all) = inr (record { epoch = e; memory = memory; runs = runs; learned = all })

pub before_by : (w : Walk) (c : Shape) (h : ℕ) (deeds : Deeds) → LeadsTo c h deeds w → KnowsBefore c h deeds (before_of w)
before_by w c h deeds led = by_place w.is led.place
  where
    by_place : (place : Whereabouts) → LeadsToPlace c h deeds place → KnowsBefore c h deeds (before_at place)
    by_place Nowhere stopped = inl refl
    by_place (Finds search) there = inl refl
    by_place (In s) there = before_in c h deeds s.epoch s.over there.memory there.runs there.over
