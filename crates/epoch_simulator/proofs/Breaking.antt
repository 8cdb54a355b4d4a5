-- A host that may make a write may end within it.
use Rattle.std.proofs.Common.{ℕ, ◌+◌, ◌<◌, ◌≡◌, List, [], ◌∷◌, ◌++◌, refl, sym, ap, ◌∙◌, subst, inl, inr}
use Rattle.disk.specs.declared.fault.DiskFault.TheVariants.{Failed}
use Rattle.disk.specs.Disk.{DiskState, Call, Attach, Read, Write, Sync, Answer, Fault, Told}
use Rattle.torn_block.specs.declared.layout.TheConstants.{HOSTS, ROW_LENGTH}
use Rattle.paxos_block.specs.Shape.{Shape}
use Rattle.standings.specs.Epochs.{epoch_of, base_of}
use Rattle.standings.specs.Reading.{moved}
use Rattle.standings.specs.Past.{Made, Past, made, reading, MayCall, MayCallIn}
use Rattle.world.specs.World.{Tears}
use Rattle.epoch_deeds.specs.Deeds.{Deed, Deeds, Calls, CallsIn, Starts, Begins, Stops, past_on}
use Rattle.epoch_deeds.specs.Knowing.{image_of, HasDue, RisesInTurn, MayDo, IsHeard}
use Rattle.epoch_host.specs.Leading.{MakesCall}
use Rattle.epoch_runs.specs.World.{Entry, World, Breaks, BreaksIn, with_disk}
use Rattle.epoch_simulator.specs.Doing.{IsBreak}
use Rattle.epoch_simulator.proofs.Entries.{Goes, goes_stopped}
use Rattle.epoch_simulator.proofs.Lists.{same_last}

module _ (c : Shape) (h d boot at : ℕ) (from : List ℕ) where
  abbrev write : Call
  write = Write boot at from

  -- A write of a core, which failed as the core heard, is the write that was made.
  is_moved : (before : Deeds) (e k : ℕ) (now : Made) (call : Call) (heard : Answer) → now ≡ made write (Fault Failed) → IsHeard c h e k before now call heard
      → moved (base_of (image_of c) (epoch_of e).area) call ≡ write
  is_moved before e k now Attach heard is told = ap (λ (m : Made). m.call) (sym (same_last (past_on k before) told.0 now _ told.1) ∙ is)
  is_moved before e k now (Sync b) heard is told = ap (λ (m : Made). m.call) (sym (same_last (past_on k before) told.0 now _ told.1) ∙ is)
  is_moved before e k now (Write b p bytes) heard is told = ap (λ (m : Made). m.call) (sym (same_last (past_on k before) told.0 now _ told.1) ∙ is)
  is_moved before e k now (Read b p len) heard is told =
      let past : Past = past_on k before in
      elim told [
        | inl s ↦
            (let n = image_of c in
            let area = (epoch_of e).area in
            let first : Made = reading n area b s.shown.first in
            let mid : Made = made (Read b (base_of n area + p) ROW_LENGTH) (Told s.shown.row) in
            let end : Made = reading n area b s.shown.second in
            let same : now ≡ end = same_last past (s.shown.early ++ first ∷ s.shown.before ++ mid ∷ s.shown.between) now end s.shown.is in
            let calls : end.call ≡ write = ap (λ (m : Made). m.call) (sym same ∙ is) in
            absurd (cc))
        | inr u ↦
            (let same : now ≡ made (Read b u.at u.len) u.last = same_last past u.before now (made (Read b u.at u.len) u.last) u.is in
            let calls : Read b u.at u.len ≡ write = ap (λ (m : Made). m.call) (sym same ∙ is) in
            absurd (cc))
      ]

  -- so it may be torn
  pub breaks : (w : World) (before : Deeds) (deed : Deed) (left : DiskState) → h < HOSTS → d < c.disks → w.deeds h ≡ before → MakesCall d (made write (Fault Failed)) deed → MayDo c h before deed
      → Tears write (w.disk d) left → (entry : Entry) × IsBreak c h (d, write) entry × Goes c h w (entry ∷ []) [] (with_disk w.disk d left)
  breaks w before (Calls k now) left inside on is makes may torn =
      let Allowed : Deeds → ℕ → Call → Type 0 = λ deeds i call. (i < c.disks) × MayCall (image_of c) h (past_on i deeds) call × RisesInTurn c h deeds i call in
      let here : Allowed before d now.call = subst (λ (i : ℕ). Allowed before i now.call) makes.0 may in
      let this : Allowed before d write = subst (λ (m : Made). Allowed before d m.call) makes.1 here in
      let so : Allowed (w.deeds h) d write = subst (λ (deeds : Deeds). Allowed deeds d write) (sym is) this in
      (Breaks h d write, (refl, refl, refl), goes_stopped c h inside w (Breaks h d write) left (with_disk w.disk d left) (left, (inside, on, so.1, so.2, torn), refl) (λ g. refl) (λ k. refl) (λ k. refl))
  breaks w before (CallsIn e k now call heard) left inside on is makes may torn =
      let same : moved (base_of (image_of c) (epoch_of e).area) call ≡ write = is_moved before e k now call heard makes.1 may.2 in
      let Allowed : Deeds → ℕ → Type 0 = λ deeds i. HasDue c h e deeds i call × MayCallIn (image_of c) (epoch_of e) h (past_on i deeds) call in
      let here : Allowed before d = subst (λ (i : ℕ). Allowed before i) makes.0 (may.0, may.1) in
      let so : Allowed (w.deeds h) d = subst (λ (deeds : Deeds). Allowed deeds d) (sym is) here in
      let cut : Tears (moved (base_of (image_of c) (epoch_of e).area) call) (w.disk d) left = subst (λ (x : Call). Tears x (w.disk d) left) (sym same) torn in
      (BreaksIn e h d call, (refl, refl, same), goes_stopped c h inside w (BreaksIn e h d call) left (with_disk w.disk d left) (left, (inside, so.0, so.1, cut), refl) (λ g. refl) (λ k. refl) (λ k. refl))
  breaks w before (Starts e) left inside on is makes may torn = absurd makes
  breaks w before (Begins e task) left inside on is makes may torn = absurd makes
  breaks w before (Stops e) left inside on is makes may torn = absurd makes
