-- Hosts write behind the headers of images, and within both areas.
use Rattle.std.proofs.Common.{ℕ, zero, suc, ◌≡◌, ◌+◌, ◌<◌, ◌≤◌, true, List, [], ◌∷◌, length, sym, ap, subst, inl, inr, arith}
use Rattle.std.proofs.lemmas.Bool.{cases_Bool}
use Rattle.disk.specs.Disk.{Call, Attach, Read, Write, Sync, Answer}
use Rattle.torn_block.specs.Layout.{cluster_version}
use Rattle.torn_block.specs.Damage.{block_of}
use Rattle.torn_block.specs.declared.layout.TheConstants.{HEADER_LENGTH, HOSTS}
use Rattle.paxos_block.specs.Shape.{Shape}
use Rattle.standings.specs.Epochs.{epoch_of, base_of, whole_length, number_place}
use Rattle.standings.specs.Reading.{moved}
use Rattle.standings.specs.Past.{Made, Past, IsRow, block_at, MayCall, MayCallIn}
use Rattle.epochs.proofs.Blocks.{InBlock, write_in}
use Rattle.epoch_deeds.specs.Deeds.{Deeds, Calls, CallsIn, Starts, Begins, Stops, past_on}
use Rattle.epoch_deeds.specs.Knowing.{image_of, MayDo}
use Rattle.epoch_runs.specs.World.{Entry, Does, Breaks, BreaksIn, Ends, Crashes, Loses, Replaces, deeds_after}
use Rattle.epoch_runs.proofs.Lists.{last_same, same_self}
use Rattle.epochs_at_once.specs.AtOnce.{is_of, of_host, MayDoNext, DoesAlone}
use Rattle.epochs_at_once.specs.Images.{ReadsBehind, AllReadBehind}
use Rattle.epochs_at_once.proofs.Parting.{deeds_own, deeds_there, own_more, other_more}

-- a call reads and writes behind the header, and within both areas
abbrev pub LiesBehind : Shape → Call → Type 0
LiesBehind c Attach = Unit {0}
LiesBehind c (Read boot at len) = (HEADER_LENGTH ≤ at) × (at + len ≤ whole_length (image_of c))
LiesBehind c (Write boot at from) = (HEADER_LENGTH ≤ at) × (at + length from ≤ whole_length (image_of c))
LiesBehind c (Sync boot) = Unit {0}

-- or it writes so
abbrev pub WritesBehind : Shape → Call → Type 0
WritesBehind c (Write boot at from) = (HEADER_LENGTH ≤ at) × (at + length from ≤ whole_length (image_of c))
WritesBehind c other = Unit {0}

-- so does what is called by an entry
abbrev pub CallsBehind : Shape → Entry → Type 0
CallsBehind c (Does h (Calls k now)) = LiesBehind c now.call
CallsBehind c (Does h (CallsIn e k now call heard)) = LiesBehind c now.call
CallsBehind c (Breaks h k call) = WritesBehind c call
CallsBehind c (BreaksIn e h k call) = LiesBehind c (moved (base_of (image_of c) (epoch_of e).area) call)
CallsBehind c other = Unit {0}

abbrev pub AllBehind : Shape → List Entry → Type 0
AllBehind c [] = Unit {0}
AllBehind c (entry ∷ entries) = CallsBehind c entry × AllBehind c entries

base_low : (n area : ℕ) → base_of n area ≤ 4096 + n
base_low n zero = omega arith
base_low n (suc area) = omega arith

module _ (c : Shape) (h : ℕ) (number : h < HOSTS) where
  abbrev n : ℕ
  n = image_of c

  -- a block in a row of an area
  in_row : (area row at len : ℕ) → IsRow n row → (block_at n area h row ≤ at) × (at + len ≤ block_at n area h row + 256) → (HEADER_LENGTH ≤ at) × (at + len ≤ whole_length n)
  in_row area row at len is_row within =
      let low = base_low n area in
      (omega (arith, is_row.0, within.0), omega (arith, number, low, is_row.1, within.1))

  in_standings : (area : ℕ) (call : Call) → area < 2 → InBlock (number_place n area h) call → WritesBehind c call
  unfolding InBlock
  in_standings area Attach less within = tt
  in_standings area (Read boot at len) less within = tt
  in_standings area (Write boot at from) less within = (omega (arith, within.0), omega (arith, number, less, within.1))
  in_standings area (Sync boot) less within = tt

  writes : (past : Past) (call : Call) → MayCall n h past call → WritesBehind c call
  writes past Attach may = tt
  writes past (Read boot at len) may = tt
  writes past (Sync boot) may = tt
  writes past (Write boot at from) (inl clears) = in_row clears.area clears.row at (length from) clears.is_row clears.within
  writes past (Write boot at from) (inr beat) =
      in_standings beat.area (Write boot at from) beat.is_area (subst (InBlock (number_place n beat.area h)) (sym beat.is) (write_in n beat.area h (block_of cluster_version h beat.row) beat.boot beat.due))

  -- what reads and writes so lies behind
  both : (call : Call) → WritesBehind c call → ReadsBehind c call → LiesBehind c call
  both Attach writes_so reads_so = tt
  both (Read boot at len) writes_so reads_so = reads_so
  both (Write boot at from) writes_so reads_so = writes_so
  both (Sync boot) writes_so reads_so = tt

  -- a call of a core, where it is made
  in_epoch : (e : ℕ) (past : Past) (call : Call) → MayCallIn n (epoch_of e) h past call → LiesBehind c (moved (base_of n (epoch_of e).area) call)
  in_epoch e past Attach may = tt
  in_epoch e past (Read boot at len) may =
      let low = base_low n (epoch_of e).area in
      let row = may.1 in
      let place = may.2 in
      let long = may.3 in
      (omega (arith, row.0, place), omega (arith, low, row.1, place, long))
  in_epoch e past (Write boot at from) may =
      let low = base_low n (epoch_of e).area in
      let row = may.is_row in
      let within = may.within in
      (omega (arith, row.0, within.0), omega (arith, number, low, row.1, within.1))
  in_epoch e past (Sync boot) may = tt

  as_read : (call : Call) (boot at len : ℕ) → call ≡ Read boot at len → ReadsBehind c call → LiesBehind c call
  as_read call boot at len is reads_so = subst (λ (x : Call). ReadsBehind c x → LiesBehind c x) (sym is) (λ r. r) reads_so

  heard : (deeds : Deeds) (e d : ℕ) (now : Made) (call : Call) (told : Answer) → MayDo c h deeds (CallsIn e d now call told) → ReadsBehind c now.call → LiesBehind c now.call
  heard deeds e d now Attach told may reads_so =
      subst (LiesBehind c) (sym (ap (λ (m : Made). m.call) (last_same (past_on d deeds) may.2.0 now _ may.2.1))) (in_epoch e (past_on d deeds) Attach may.1)
  heard deeds e d now (Write boot at from) told may reads_so =
      subst (LiesBehind c) (sym (ap (λ (m : Made). m.call) (last_same (past_on d deeds) may.2.0 now _ may.2.1))) (in_epoch e (past_on d deeds) (Write boot at from) may.1)
  heard deeds e d now (Sync boot) told may reads_so =
      subst (LiesBehind c) (sym (ap (λ (m : Made). m.call) (last_same (past_on d deeds) may.2.0 now _ may.2.1))) (in_epoch e (past_on d deeds) (Sync boot) may.1)
  heard deeds e d now (Read boot at len) told may reads_so =
      elim may.2 [
        | inl shows ↦ as_read now.call _ _ _ (ap (λ (m : Made). m.call) (last_same (past_on d deeds) _ now _ shows.shown.is)) reads_so
        | inr unseen ↦ as_read now.call _ _ _ (ap (λ (m : Made). m.call) (last_same (past_on d deeds) unseen.before now _ unseen.is)) reads_so
      ]

module _ (c : Shape) where
  abbrev Alone : (ℕ → Deeds) → List Entry → Type 0
  Alone deeds entries = (h : ℕ) → DoesAlone c h (deeds h) (of_host h entries)

  mine : (deeds : ℕ → Deeds) (entry : Entry) (entries : List Entry) (h : ℕ) → is_of h entry ≡ true → Alone deeds (entry ∷ entries) → MayDoNext c h (deeds h) entry
  mine deeds entry entries h own alone = (subst (DoesAlone c h (deeds h)) (own_more h entry entries own) (alone h)).0

  next : (deeds : ℕ → Deeds) (entry : Entry) (entries : List Entry) → Alone deeds (entry ∷ entries) → Alone (deeds_after deeds entry) entries
  next deeds entry entries alone h =
      elim (cases_Bool (is_of h entry)) [
        | inl own ↦ subst (λ (l : Deeds). DoesAlone c h l (of_host h entries)) (sym (deeds_own h deeds entry own)) (subst (DoesAlone c h (deeds h)) (own_more h entry entries own) (alone h)).1
        | inr other ↦ subst (λ (l : Deeds). DoesAlone c h l (of_host h entries)) (sym (deeds_there h deeds entry other)) (subst (DoesAlone c h (deeds h)) (other_more h entry entries other) (alone h))
      ]

  -- where hosts read behind headers, all that they call is behind them
  pub all_behind : (entries : List Entry) (deeds : ℕ → Deeds) → Alone deeds entries → AllReadBehind c entries → AllBehind c entries
  all_behind [] deeds alone reads = tt
  all_behind (Does h (Calls k now) ∷ entries) deeds alone reads =
      let may = mine deeds (Does h (Calls k now)) entries h (same_self h) alone in
      (both c h may.0 now.call (writes c h may.0 (past_on k (deeds h)) now.call may.1.1) reads.0, all_behind entries (deeds_after deeds (Does h (Calls k now))) (next deeds (Does h (Calls k now)) entries alone) reads.1)
  all_behind (Does h (CallsIn e k now call told) ∷ entries) deeds alone reads =
      let may = mine deeds (Does h (CallsIn e k now call told)) entries h (same_self h) alone in
      (heard c h may.0 (deeds h) e k now call told may.1 reads.0, all_behind entries (deeds_after deeds (Does h (CallsIn e k now call told))) (next deeds (Does h (CallsIn e k now call told)) entries alone) reads.1)
  all_behind (Does h (Starts e) ∷ entries) deeds alone reads = (tt, all_behind entries (deeds_after deeds (Does h (Starts e))) (next deeds (Does h (Starts e)) entries alone) reads)
  all_behind (Does h (Begins e task) ∷ entries) deeds alone reads = (tt, all_behind entries (deeds_after deeds (Does h (Begins e task))) (next deeds (Does h (Begins e task)) entries alone) reads)
  all_behind (Does h (Stops e) ∷ entries) deeds alone reads = (tt, all_behind entries (deeds_after deeds (Does h (Stops e))) (next deeds (Does h (Stops e)) entries alone) reads)
  all_behind (Breaks h k call ∷ entries) deeds alone reads =
      let may = mine deeds (Breaks h k call) entries h (same_self h) alone in
      (writes c h may.0 (past_on k (deeds h)) call may.2, all_behind entries (deeds_after deeds (Breaks h k call)) (next deeds (Breaks h k call) entries alone) reads)
  all_behind (BreaksIn e h k call ∷ entries) deeds alone reads =
      let may = mine deeds (BreaksIn e h k call) entries h (same_self h) alone in
      (in_epoch c h may.0 e (past_on k (deeds h)) call may.2, all_behind entries (deeds_after deeds (BreaksIn e h k call)) (next deeds (BreaksIn e h k call) entries alone) reads)
  all_behind (Ends h ∷ entries) deeds alone reads = (tt, all_behind entries (deeds_after deeds (Ends h)) (next deeds (Ends h) entries alone) reads)
  all_behind (Crashes k ∷ entries) deeds alone reads = (tt, all_behind entries (deeds_after deeds (Crashes k)) (next deeds (Crashes k) entries alone) reads)
  all_behind (Loses k ∷ entries) deeds alone reads = (tt, all_behind entries (deeds_after deeds (Loses k)) (next deeds (Loses k) entries alone) reads)
  all_behind (Replaces k first newest ∷ entries) deeds alone reads = (tt, all_behind entries (deeds_after deeds (Replaces k first newest)) (next deeds (Replaces k first newest) entries alone) reads)
