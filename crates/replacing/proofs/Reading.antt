-- What the tool reads is what a host may read, changes nothing, and shows the host an epoch to which it may then come.
use Rattle.std.specs.Prelude.{max, unwrap_or, Option, None}
use Rattle.std.proofs.Common.{ℕ, zero, suc, ◌≡◌, ◌==◌, ◌≤◌, ◌<◌, Bool, true, false, cond, Some, List, [], ◌∷◌, ◌++◌, refl, sym, ◌∙◌, ap, subst, inl, inr, arith}
use Rattle.std.proofs.lemmas.Bool.{cases_lt, eqb-true}
use Rattle.disk.specs.Disk.{Attach, Read, Booted}
use Rattle.torn_block.specs.declared.layout.TheConstants.{HOSTS}
use Rattle.torn_block.specs.declared.write_steps.WriteCall.{WriteCall}
use Rattle.torn_block.specs.declared.write_steps.WriteCall.TheVariants.{CloseGate, SyncClosed, PutBody, SyncBody, OpenGate, SyncOpened}
use Rattle.torn_block.specs.Stage.{Write128, call_of}
use Rattle.paxos_block.specs.Shape.{Shape}
use Rattle.standings.specs.Epochs.{epoch_by, standings_place, IsNewest}
use Rattle.standings.specs.Past.{Made, Past, made, reading, number_write}
use Rattle.standings.specs.Reading.{numbers_in}
use Rattle.epoch_deeds.specs.Deeds.{Deed, Deeds, Calls, past_on}
use Rattle.epoch_deeds.specs.Knowing.{image_of, HasSeen, IsOpen, MayDo}
use Rattle.epoch_runs.specs.World.{Does, World, with_disk, with_deeds, after}
use Rattle.epoch_runs.proofs.Lists.{deeds_here, same_self}
use Rattle.in_place.specs.Replacing.{IsNewestIn, IsNewestOfRows}
use Rattle.in_place.specs.declared.replace_rows.Rows.{Rows}
use Rattle.replacing.specs.ByTool.{reads_rows}

-- PASTS

-- a call on this disk, and on another
past_own : (d : ℕ) (m : Made) (deeds : Deeds) → past_on d (Calls d m ∷ deeds) ≡ m ∷ past_on d deeds
past_own d m deeds = ap (λ (b : Bool). cond b (m ∷ past_on d deeds) (past_on d deeds)) (same_self d)

past_other : (d k : ℕ) (m : Made) (deeds : Deeds) → (d == k) ≡ false → past_on k (Calls d m ∷ deeds) ≡ past_on k deeds
past_other d k m deeds other = ap (λ (b : Bool). cond b (m ∷ past_on k deeds) (past_on k deeds)) other

module _ (c : Shape) (d boot : ℕ) (rows : Rows) where
  abbrev first_made : Made
  first_made = made Attach (Booted boot)

  abbrev second_made : Made
  second_made = reading (image_of c) 0 boot rows.first

  abbrev third_made : Made
  third_made = reading (image_of c) 1 boot rows.second

  past_read : past_on d (reads_rows c d boot rows) ≡ first_made ∷ second_made ∷ third_made ∷ []
  past_read =
      past_own d first_made (Calls d second_made ∷ Calls d third_made ∷ [])
      ∙ ap (λ (l : Past). first_made ∷ l) (past_own d second_made (Calls d third_made ∷ []) ∙ ap (λ (l : Past). second_made ∷ l) (past_own d third_made []))

  pub past_elsewhere : (k : ℕ) → (d == k) ≡ false → past_on k (reads_rows c d boot rows) ≡ []
  past_elsewhere k other =
      past_other d k first_made (Calls d second_made ∷ Calls d third_made ∷ []) other ∙ past_other d k second_made (Calls d third_made ∷ []) other ∙ past_other d k third_made [] other

  -- WHAT IT HAS SEEN

  -- some host's number belongs to the newest epoch of a row, if that is not the first
  belongs_there : (area newest : ℕ) (row : List ℕ) → IsNewestIn area row newest → 1 ≤ newest → (host : ℕ) × (host < HOSTS) × (epoch_by area (numbers_in row host) ≡ Some newest)
  belongs_there area newest row is some = by_newest is.1.0 is.1.1 is.1.2
    where
      by_newest : (of : Option ℕ) → IsNewest area (numbers_in row) of → newest ≡ unwrap_or of 0 → (host : ℕ) × (host < HOSTS) × (epoch_by area (numbers_in row host) ≡ Some newest)
      by_newest None none same = absurd (let nothing : newest ≡ 0 = same in omega (arith, some, nothing))
      by_newest (Some e) most same = let value : newest ≡ e = same in (most.0.0, most.0.1, most.0.2 ∙ ap Some (sym value))

  seen_first : (newest : ℕ) → IsNewestIn 0 rows.first newest → 1 ≤ newest → HasSeen c newest (reads_rows c d boot rows)
  seen_first newest is some =
      let there = belongs_there 0 newest rows.first is some in
      record {
        disk = d;
        area = 0;
        boot = boot;
        row = rows.first;
        early = first_made ∷ [];
        later = third_made ∷ [];
        is = past_read;
        is_area = omega arith;
        host = there.0;
        is_host = there.1;
        order = newest;
        belongs = there.2;
        as_new = omega arith;
      }

  seen_second : (newest : ℕ) → IsNewestIn 1 rows.second newest → 1 ≤ newest → HasSeen c newest (reads_rows c d boot rows)
  seen_second newest is some =
      let there = belongs_there 1 newest rows.second is some in
      record {
        disk = d;
        area = 1;
        boot = boot;
        row = rows.second;
        early = first_made ∷ second_made ∷ [];
        later = [];
        is = past_read;
        is_area = omega arith;
        host = there.0;
        is_host = there.1;
        order = newest;
        belongs = there.2;
        as_new = omega arith;
      }

  seen : (newest : ℕ) → IsNewestOfRows rows newest → 1 ≤ newest → HasSeen c newest (reads_rows c d boot rows)
  seen newest is some =
      let greater : newest ≡ max is.first is.second = is.later in
      elim (cases_lt is.first newest) [
        | inl less ↦
            (let same : is.second ≡ newest = omega (arith, greater, less) in
            seen_second newest (subst (λ (n : ℕ). IsNewestIn 1 rows.second n) same is.in_second) some)
        | inr least ↦
            (let same : is.first ≡ newest = omega (arith, greater, least) in
            seen_first newest (subst (λ (n : ℕ). IsNewestIn 0 rows.first n) same is.in_first) some)
      ]

  pub opens : (newest : ℕ) → IsNewestOfRows rows newest → IsOpen c 0 newest (reads_rows c d boot rows)
  opens zero is = tt
  opens (suc e) is = inr (seen (suc e) is (omega arith))

-- CALLS THAT CHANGE NOTHING

no_attach : (due : WriteCall) (x : Write128) (boot : ℕ) → Attach ≡ call_of due x boot → ⊥
no_attach CloseGate x boot is = absurd (cc)
no_attach SyncClosed x boot is = absurd (cc)
no_attach PutBody x boot is = absurd (cc)
no_attach SyncBody x boot is = absurd (cc)
no_attach OpenGate x boot is = absurd (cc)
no_attach SyncOpened x boot is = absurd (cc)

no_read : (due : WriteCall) (x : Write128) (boot other at len : ℕ) → Read other at len ≡ call_of due x boot → ⊥
no_read CloseGate x boot other at len is = absurd (cc)
no_read SyncClosed x boot other at len is = absurd (cc)
no_read PutBody x boot other at len is = absurd (cc)
no_read SyncBody x boot other at len is = absurd (cc)
no_read OpenGate x boot other at len is = absurd (cc)
no_read SyncOpened x boot other at len is = absurd (cc)

pub may_attach : (c : Shape) (d boot : ℕ) (deeds : Deeds) → d < c.disks → MayDo c 0 deeds (Calls d (made Attach (Booted boot)))
may_attach c d boot deeds inside = (inside, tt, λ x order belongs. absurd (no_attach x.due (number_write (image_of c) x.area 0 x.row) x.boot x.is))

pub may_read : (c : Shape) (d area boot : ℕ) (row : List ℕ) (deeds : Deeds) → d < c.disks → MayDo c 0 deeds (Calls d (reading (image_of c) area boot row))
may_read c d area boot row deeds inside =
    (inside, tt, λ x order belongs. absurd (no_read x.due (number_write (image_of c) x.area 0 x.row) x.boot boot (standings_place (image_of c) area) 4096 x.is))

-- THE WORLD MEANWHILE

-- the world where host 0 has done this
abbrev pub reading_world : World → Deeds → World
reading_world w deeds = record { disk = w.disk; deeds = with_deeds w.deeds 0 deeds; first = w.first; called = w.called }

module _ (w : World) where
  same_each : (d k : ℕ) → with_disk w.disk d (w.disk d) k ≡ w.disk k
  same_each d k = either (k == d) refl
    where
      either : (b : Bool) → (k == d) ≡ b → cond b (w.disk d) (w.disk k) ≡ w.disk k
      either true same = ap w.disk (sym (eqb-true k d same))
      either false other = refl

  deeds_each : (before : Deeds) (deed : Deed) (g : ℕ) → with_deeds (with_deeds w.deeds 0 before) 0 (with_deeds w.deeds 0 before 0 ++ deed ∷ []) g ≡ with_deeds w.deeds 0 (before ++ deed ∷ []) g
  deeds_each before deed g = either (g == 0)
    where
      either : (b : Bool) → cond b (with_deeds w.deeds 0 before 0 ++ deed ∷ []) (cond b before (w.deeds g)) ≡ cond b (before ++ deed ∷ []) (w.deeds g)
      either true = ap (λ (l : Deeds). l ++ deed ∷ []) (deeds_here w.deeds 0 before)
      either false = refl

  -- a call of host 0 that leaves its disk as it is
  pub after_reading : (before : Deeds) (d : ℕ) (m : Made) → after (reading_world w before) (Does 0 (Calls d m)) (w.disk d) ≡ reading_world w (before ++ Calls d m ∷ [])
  after_reading before d m i =
      record { disk = λ k. same_each d k i; deeds = λ g. deeds_each before (Calls d m) g i; first = w.first; called = w.called }

  pub begun_each : ((h : ℕ) → w.deeds h ≡ []) → (g : ℕ) → with_deeds w.deeds 0 [] g ≡ w.deeds g
  begun_each stopped g = either (g == 0)
    where
      either : (b : Bool) → cond b [] (w.deeds g) ≡ w.deeds g
      either true = sym (stopped g)
      either false = refl

  -- nobody has done anything
  pub begun : ((h : ℕ) → w.deeds h ≡ []) → reading_world w [] ≡ w
  begun stopped i = record { disk = w.disk; deeds = λ g. begun_each stopped g i; first = w.first; called = w.called }
