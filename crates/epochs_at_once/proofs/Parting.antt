-- What hosts and disks do, each by itself, is what they do together; and back.
use Rattle.std.specs.Prelude.{take, slice_get}
use Rattle.std.proofs.Common.{ℕ, zero, suc, ◌≡◌, ◌==◌, Bool, true, false, true≢false, cond, Some, List, [], ◌∷◌, ◌++◌, refl, sym, ◌∙◌, ap, subst, inl, inr}
use Rattle.std.proofs.lemmas.Bool.{cases_Bool, eqb-true, eq-eqb}
use Rattle.disk.specs.Disk.{DiskState}
use Rattle.paxos_block.specs.Shape.{Shape}
use Rattle.epoch_deeds.specs.Deeds.{Deeds, Calls, CallsIn, Starts, Begins, Stops}
use Rattle.epoch_runs.specs.World.{Entry, Does, Breaks, BreaksIn, Ends, Crashes, Loses, Replaces, World, no_deeds, opening, with_disk, disks_after, deeds_after, firsts_after, called_after, after, Crashing, model_crashes, power_losses, MayFollow, GoesFrom}
use Rattle.epoch_runs.specs.Living.{deeds_from}
use Rattle.epoch_runs.proofs.Lists.{deeds_here, differ_back, same_self}
use Rattle.epoch_runs.proofs.Pending.{is_by, deeds_of_others}
use Rattle.epochs_at_once.specs.AtOnce.{is_of, is_on, of_host, on_disk, deeds_with, deeds_behind, MayDoNext, DoesAlone, GoesTo, Serves, TakePart, AtOnceGoes, OverLossesGoes, GoesAtOnce, GoesOverLosses}

-- WHAT A HOST DID

pub same_by : (h : ℕ) (entry : Entry) → is_by h entry ≡ is_of h entry
same_by h (Does g deed) = refl
same_by h (Breaks g k call) = refl
same_by h (BreaksIn epoch g k call) = refl
same_by h (Ends g) = refl
same_by h (Crashes k) = refl
same_by h (Loses k) = refl
same_by h (Replaces k first newest) = refl

pub deeds_there : (h : ℕ) (deeds : ℕ → Deeds) (entry : Entry) → is_of h entry ≡ false → deeds_after deeds entry h ≡ deeds h
deeds_there h deeds entry other = deeds_of_others h deeds entry (same_by h entry ∙ other)

pub deeds_own : (h : ℕ) (deeds : ℕ → Deeds) (entry : Entry) → is_of h entry ≡ true → deeds_after deeds entry h ≡ deeds_with (deeds h) entry
deeds_own h deeds (Does g deed) own = subst (λ (x : ℕ). deeds_after deeds (Does x deed) h ≡ deeds h ++ deed ∷ []) (sym (eqb-true g h own)) (deeds_here deeds h (deeds h ++ deed ∷ []))
deeds_own h deeds (Breaks g k call) own = subst (λ (x : ℕ). deeds_after deeds (Breaks x k call) h ≡ []) (sym (eqb-true g h own)) (deeds_here deeds h [])
deeds_own h deeds (BreaksIn epoch g k call) own = subst (λ (x : ℕ). deeds_after deeds (BreaksIn epoch x k call) h ≡ []) (sym (eqb-true g h own)) (deeds_here deeds h [])
deeds_own h deeds (Ends g) own = subst (λ (x : ℕ). deeds_after deeds (Ends x) h ≡ []) (sym (eqb-true g h own)) (deeds_here deeds h [])
deeds_own h deeds (Crashes k) own = absurd (true≢false (sym own))
deeds_own h deeds (Loses k) own = absurd (true≢false (sym own))
deeds_own h deeds (Replaces k first newest) own = absurd (true≢false (sym own))

-- one entry more of a host, and of another
pub own_more : (h : ℕ) (entry : Entry) (entries : List Entry) → is_of h entry ≡ true → of_host h (entry ∷ entries) ≡ entry ∷ of_host h entries
own_more h entry entries own = ap (λ (b : Bool). cond b (entry ∷ of_host h entries) (of_host h entries)) own

pub other_more : (h : ℕ) (entry : Entry) (entries : List Entry) → is_of h entry ≡ false → of_host h (entry ∷ entries) ≡ of_host h entries
other_more h entry entries other = ap (λ (b : Bool). cond b (entry ∷ of_host h entries) (of_host h entries)) other

-- the deeds of a host by a place are those of its own entries
pub own_deeds : (h i : ℕ) (deeds : ℕ → Deeds) (entries : List Entry) → deeds_from deeds i entries h ≡ deeds_behind (deeds h) (of_host h (take i entries))
own_deeds h zero deeds entries = refl
own_deeds h (suc i) deeds [] = refl
own_deeds h (suc i) deeds (entry ∷ entries) =
    let rest = own_deeds h i (deeds_after deeds entry) entries in
    elim (cases_Bool (is_of h entry)) [
      | inl own ↦
          rest
          ∙ ap (λ (l : Deeds). deeds_behind l (of_host h (take i entries))) (deeds_own h deeds entry own)
          ∙ sym (ap (deeds_behind (deeds h)) (own_more h entry (take i entries) own))
      | inr other ↦
          rest
          ∙ ap (λ (l : Deeds). deeds_behind l (of_host h (take i entries))) (deeds_there h deeds entry other)
          ∙ sym (ap (deeds_behind (deeds h)) (other_more h entry (take i entries) other))
    ]

-- DISKS

with_here : (disk : ℕ → DiskState) (d k : ℕ) (left : DiskState) → (d == k) ≡ true → with_disk disk d left k ≡ left
with_here disk d k left own = ap (λ (b : Bool). cond b left (disk k)) (eq-eqb k d (sym (eqb-true d k own)))

with_there : (disk : ℕ → DiskState) (d k : ℕ) (left : DiskState) → (d == k) ≡ false → with_disk disk d left k ≡ disk k
with_there disk d k left other = ap (λ (b : Bool). cond b left (disk k)) (differ_back d k other)

disk_here : (k : ℕ) (disk : ℕ → DiskState) (entry : Entry) (left : DiskState) → is_on k entry ≡ true → disks_after disk entry left k ≡ left
disk_here k disk (Does h (Calls d now)) left own = with_here disk d k left own
disk_here k disk (Does h (CallsIn epoch d now call heard)) left own = with_here disk d k left own
disk_here k disk (Does h (Starts epoch)) left own = absurd (true≢false (sym own))
disk_here k disk (Does h (Begins epoch task)) left own = absurd (true≢false (sym own))
disk_here k disk (Does h (Stops epoch)) left own = absurd (true≢false (sym own))
disk_here k disk (Breaks h d call) left own = with_here disk d k left own
disk_here k disk (BreaksIn epoch h d call) left own = with_here disk d k left own
disk_here k disk (Ends h) left own = absurd (true≢false (sym own))
disk_here k disk (Crashes d) left own = with_here disk d k left own
disk_here k disk (Loses d) left own = with_here disk d k left own
disk_here k disk (Replaces d first newest) left own = with_here disk d k left own

disk_there : (k : ℕ) (disk : ℕ → DiskState) (entry : Entry) (left : DiskState) → is_on k entry ≡ false → disks_after disk entry left k ≡ disk k
disk_there k disk (Does h (Calls d now)) left other = with_there disk d k left other
disk_there k disk (Does h (CallsIn epoch d now call heard)) left other = with_there disk d k left other
disk_there k disk (Does h (Starts epoch)) left other = refl
disk_there k disk (Does h (Begins epoch task)) left other = refl
disk_there k disk (Does h (Stops epoch)) left other = refl
disk_there k disk (Breaks h d call) left other = with_there disk d k left other
disk_there k disk (BreaksIn epoch h d call) left other = with_there disk d k left other
disk_there k disk (Ends h) left other = refl
disk_there k disk (Crashes d) left other = with_there disk d k left other
disk_there k disk (Loses d) left other = with_there disk d k left other
disk_there k disk (Replaces d first newest) left other = with_there disk d k left other

on_more : (k : ℕ) (entry : Entry) (entries : List Entry) → is_on k entry ≡ true → on_disk k (entry ∷ entries) ≡ entry ∷ on_disk k entries
on_more k entry entries own = ap (λ (b : Bool). cond b (entry ∷ on_disk k entries) (on_disk k entries)) own

off_more : (k : ℕ) (entry : Entry) (entries : List Entry) → is_on k entry ≡ false → on_disk k (entry ∷ entries) ≡ on_disk k entries
off_more k entry entries other = ap (λ (b : Bool). cond b (entry ∷ on_disk k entries) (on_disk k entries)) other

-- TOGETHER

module _ (crashing : Crashing) (c : Shape) where
  abbrev Alone : (ℕ → Deeds) → List Entry → Type 0
  Alone deeds entries = (h : ℕ) → DoesAlone c h (deeds h) (of_host h entries)

  abbrev AllServe : (ℕ → DiskState) → List Entry → Type 0
  AllServe disk entries = (k : ℕ) → Serves crashing.IsCrash c k (disk k) (on_disk k entries)

  -- a disk crashes where hosts have done this since their starts, whatever the disks are
  abbrev MayCrashAt : (ℕ → Deeds) → List Entry → Type 0
  MayCrashAt deeds entries = (i k : ℕ) (w : World) → slice_get entries i ≡ Some (Crashes k) → ((h : ℕ) → w.deeds h ≡ deeds_from deeds i entries h) → crashing.MayCrash w

  -- what is left of the disk that an entry is on, and how that serves the rest
  abbrev Left : (ℕ → DiskState) → Entry → List Entry → Type 0
  Left disk entry entries = (left : DiskState) × ((k : ℕ) → is_on k entry ≡ true → GoesTo crashing.IsCrash c k (disk k) entry left × Serves crashing.IsCrash c k left (on_disk k entries))

  module _ (w : World) (entries : List Entry) where
    left_on : (entry : Entry) (d : ℕ) → is_on d entry ≡ true → ((k : ℕ) → is_on k entry ≡ true → d ≡ k) → AllServe w.disk (entry ∷ entries) → Left w.disk entry entries
    left_on entry d own same serves =
        let it = subst (Serves crashing.IsCrash c d (w.disk d)) (on_more d entry entries own) (serves d) in
        (it.0, λ k is. subst (λ (n : ℕ). GoesTo crashing.IsCrash c n (w.disk n) entry it.0 × Serves crashing.IsCrash c n it.0 (on_disk n entries)) (same k is) (it.1, it.2))

    left_by : (entry : Entry) → AllServe w.disk (entry ∷ entries) → Left w.disk entry entries
    left_by (Does h (Calls d now)) serves = left_on (Does h (Calls d now)) d (same_self d) (λ k is. eqb-true d k is) serves
    left_by (Does h (CallsIn epoch d now call heard)) serves = left_on (Does h (CallsIn epoch d now call heard)) d (same_self d) (λ k is. eqb-true d k is) serves
    left_by (Does h (Starts epoch)) serves = (w.disk 0, λ k is. absurd (true≢false (sym is)))
    left_by (Does h (Begins epoch task)) serves = (w.disk 0, λ k is. absurd (true≢false (sym is)))
    left_by (Does h (Stops epoch)) serves = (w.disk 0, λ k is. absurd (true≢false (sym is)))
    left_by (Breaks h d call) serves = left_on (Breaks h d call) d (same_self d) (λ k is. eqb-true d k is) serves
    left_by (BreaksIn epoch h d call) serves = left_on (BreaksIn epoch h d call) d (same_self d) (λ k is. eqb-true d k is) serves
    left_by (Ends h) serves = (w.disk 0, λ k is. absurd (true≢false (sym is)))
    left_by (Crashes d) serves = left_on (Crashes d) d (same_self d) (λ k is. eqb-true d k is) serves
    left_by (Loses d) serves = left_on (Loses d) d (same_self d) (λ k is. eqb-true d k is) serves
    left_by (Replaces d first newest) serves = left_on (Replaces d first newest) d (same_self d) (λ k is. eqb-true d k is) serves

    -- the entry may follow
    mine : (entry : Entry) (h : ℕ) → is_of h entry ≡ true → Alone w.deeds (entry ∷ entries) → MayDoNext c h (w.deeds h) entry
    mine entry h own alone = (subst (DoesAlone c h (w.deeds h)) (own_more h entry entries own) (alone h)).0

    may_follow : (entry : Entry) (left : DiskState) → Alone w.deeds (entry ∷ entries) → ((k : ℕ) → is_on k entry ≡ true → GoesTo crashing.IsCrash c k (w.disk k) entry left) → MayCrashAt w.deeds (entry ∷ entries) → TakePart c w.deeds w.first w.called (entry ∷ entries) → MayFollow crashing c w entry left
    may_follow (Does h (Calls d now)) left alone goes dark taking =
        let may = mine (Does h (Calls d now)) h (same_self h) alone in
        (may.0, may.1, goes d (same_self d), taking.0)
    may_follow (Does h (CallsIn epoch d now call heard)) left alone goes dark taking =
        let may = mine (Does h (CallsIn epoch d now call heard)) h (same_self h) alone in
        (may.0, may.1, goes d (same_self d), taking.0)
    may_follow (Does h (Starts epoch)) left alone goes dark taking = let may = mine (Does h (Starts epoch)) h (same_self h) alone in (may.0, may.1, tt, tt)
    may_follow (Does h (Begins epoch task)) left alone goes dark taking = let may = mine (Does h (Begins epoch task)) h (same_self h) alone in (may.0, may.1, tt, tt)
    may_follow (Does h (Stops epoch)) left alone goes dark taking = let may = mine (Does h (Stops epoch)) h (same_self h) alone in (may.0, may.1, tt, tt)
    may_follow (Breaks h d call) left alone goes dark taking = let may = mine (Breaks h d call) h (same_self h) alone in (may.0, may.1, may.2, may.3, goes d (same_self d))
    may_follow (BreaksIn epoch h d call) left alone goes dark taking = let may = mine (BreaksIn epoch h d call) h (same_self h) alone in (may.0, may.1, may.2, goes d (same_self d))
    may_follow (Ends h) left alone goes dark taking = tt
    may_follow (Crashes d) left alone goes dark taking = let by = goes d (same_self d) in (by.0, by.1, by.2, dark 0 d w refl (λ h. refl))
    may_follow (Loses d) left alone goes dark taking = goes d (same_self d)
    may_follow (Replaces d first newest) left alone goes dark taking = let by = goes d (same_self d) in (by.0, taking.0, by.1)

    -- and disks take part so in the rest
    taking_next : (entry : Entry) → TakePart c w.deeds w.first w.called (entry ∷ entries) → TakePart c (deeds_after w.deeds entry) (firsts_after w.first entry) (called_after w.called entry) entries
    taking_next (Does h deed) taking = taking.1
    taking_next (Breaks h d call) taking = taking
    taking_next (BreaksIn epoch h d call) taking = taking
    taking_next (Ends h) taking = taking
    taking_next (Crashes d) taking = taking
    taking_next (Loses d) taking = taking
    taking_next (Replaces d first newest) taking = taking.1

    -- and the rest behind it
    alone_next : (entry : Entry) → Alone w.deeds (entry ∷ entries) → Alone (deeds_after w.deeds entry) entries
    alone_next entry alone h =
        elim (cases_Bool (is_of h entry)) [
          | inl own ↦ subst (λ (l : Deeds). DoesAlone c h l (of_host h entries)) (sym (deeds_own h w.deeds entry own)) (subst (DoesAlone c h (w.deeds h)) (own_more h entry entries own) (alone h)).1
          | inr other ↦ subst (λ (l : Deeds). DoesAlone c h l (of_host h entries)) (sym (deeds_there h w.deeds entry other)) (subst (DoesAlone c h (w.deeds h)) (other_more h entry entries other) (alone h))
        ]

    serves_next : (entry : Entry) (left : DiskState) → AllServe w.disk (entry ∷ entries) → ((k : ℕ) → is_on k entry ≡ true → Serves crashing.IsCrash c k left (on_disk k entries)) → AllServe (disks_after w.disk entry left) entries
    serves_next entry left serves own_serves k =
        elim (cases_Bool (is_on k entry)) [
          | inl own ↦ subst (λ (disk : DiskState). Serves crashing.IsCrash c k disk (on_disk k entries)) (sym (disk_here k w.disk entry left own)) (own_serves k own)
          | inr other ↦ subst (λ (disk : DiskState). Serves crashing.IsCrash c k disk (on_disk k entries)) (sym (disk_there k w.disk entry left other)) (subst (Serves crashing.IsCrash c k (w.disk k)) (off_more k entry entries other) (serves k))
        ]

  goes_from : (entries : List Entry) (w : World) → Alone w.deeds entries → AllServe w.disk entries → MayCrashAt w.deeds entries → TakePart c w.deeds w.first w.called entries → GoesFrom crashing c w entries
  goes_from [] w alone serves dark taking = tt
  goes_from (entry ∷ entries) w alone serves dark taking =
      let left = left_by w entries entry serves in (
        left.0,
        may_follow w entries entry left.0 alone (λ k is. (left.1 k is).0) dark taking,
        goes_from entries (after w entry left.0) (alone_next w entries entry alone) (serves_next w entries entry left.0 serves (λ k is. (left.1 k is).1)) (λ i k v found same. dark (suc i) k v found same) (taking_next w entries entry taking),
      )

  -- APART

  module _ (w : World) (entries : List Entry) where
    at_own : (entry : Entry) (g h : ℕ) → (g == h) ≡ true → MayDoNext c g (w.deeds g) entry → MayDoNext c h (w.deeds h) entry
    at_own entry g h own may = subst (λ (n : ℕ). MayDoNext c n (w.deeds n) entry) (eqb-true g h own) may

    may_do : (entry : Entry) (left : DiskState) → MayFollow crashing c w entry left → (h : ℕ) → is_of h entry ≡ true → MayDoNext c h (w.deeds h) entry
    may_do (Does g deed) left may h own = at_own (Does g deed) g h own (may.0, may.1)
    may_do (Breaks g k call) left may h own = at_own (Breaks g k call) g h own (may.0, may.1, may.2, may.3)
    may_do (BreaksIn epoch g k call) left may h own = at_own (BreaksIn epoch g k call) g h own (may.0, may.1, may.2)
    may_do (Ends g) left may h own = tt
    may_do (Crashes k) left may h own = absurd (true≢false (sym own))
    may_do (Loses k) left may h own = absurd (true≢false (sym own))
    may_do (Replaces k first newest) left may h own = absurd (true≢false (sym own))

    on_own : (entry : Entry) (left : DiskState) (d k : ℕ) → (d == k) ≡ true → GoesTo crashing.IsCrash c d (w.disk d) entry left → GoesTo crashing.IsCrash c k (w.disk k) entry left
    on_own entry left d k own goes = subst (λ (n : ℕ). GoesTo crashing.IsCrash c n (w.disk n) entry left) (eqb-true d k own) goes

    goes_to : (entry : Entry) (left : DiskState) → MayFollow crashing c w entry left → (k : ℕ) → is_on k entry ≡ true → GoesTo crashing.IsCrash c k (w.disk k) entry left
    goes_to (Does h (Calls d now)) left may k own = on_own (Does h (Calls d now)) left d k own may.2
    goes_to (Does h (CallsIn epoch d now call heard)) left may k own = on_own (Does h (CallsIn epoch d now call heard)) left d k own may.2
    goes_to (Does h (Starts epoch)) left may k own = absurd (true≢false (sym own))
    goes_to (Does h (Begins epoch task)) left may k own = absurd (true≢false (sym own))
    goes_to (Does h (Stops epoch)) left may k own = absurd (true≢false (sym own))
    goes_to (Breaks h d call) left may k own = on_own (Breaks h d call) left d k own may.4
    goes_to (BreaksIn epoch h d call) left may k own = on_own (BreaksIn epoch h d call) left d k own may.3
    goes_to (Ends h) left may k own = absurd (true≢false (sym own))
    goes_to (Crashes d) left may k own = on_own (Crashes d) left d k own (may.0, may.1, may.2)
    goes_to (Loses d) left may k own = on_own (Loses d) left d k own may
    goes_to (Replaces d first newest) left may k own = on_own (Replaces d first newest) left d k own (may.0, may.2)

  alone_from : (entries : List Entry) (w : World) → GoesFrom crashing c w entries → Alone w.deeds entries
  alone_from [] w goes h = tt
  alone_from (entry ∷ entries) w goes h =
      let rest = alone_from entries (after w entry goes.0) goes.2 h in
      elim (cases_Bool (is_of h entry)) [
        | inl own ↦ subst (DoesAlone c h (w.deeds h)) (sym (own_more h entry entries own))
            (may_do w entries entry goes.0 goes.1 h own, subst (λ (l : Deeds). DoesAlone c h l (of_host h entries)) (deeds_own h w.deeds entry own) rest)
        | inr other ↦ subst (DoesAlone c h (w.deeds h)) (sym (other_more h entry entries other))
            (subst (λ (l : Deeds). DoesAlone c h l (of_host h entries)) (deeds_there h w.deeds entry other) rest)
      ]

  serves_from : (entries : List Entry) (w : World) → GoesFrom crashing c w entries → AllServe w.disk entries
  serves_from [] w goes k = tt
  serves_from (entry ∷ entries) w goes k =
      let rest = serves_from entries (after w entry goes.0) goes.2 k in
      elim (cases_Bool (is_on k entry)) [
        | inl own ↦ subst (Serves crashing.IsCrash c k (w.disk k)) (sym (on_more k entry entries own))
            (goes.0, goes_to w entries entry goes.0 goes.1 k own, subst (λ (disk : DiskState). Serves crashing.IsCrash c k disk (on_disk k entries)) (disk_here k w.disk entry goes.0 own) rest)
        | inr other ↦ subst (Serves crashing.IsCrash c k (w.disk k)) (sym (off_more k entry entries other))
            (subst (λ (disk : DiskState). Serves crashing.IsCrash c k disk (on_disk k entries)) (disk_there k w.disk entry goes.0 other) rest)
      ]

  -- and disks take part where they may
  taking_from : (entries : List Entry) (w : World) → GoesFrom crashing c w entries → TakePart c w.deeds w.first w.called entries
  taking_from [] w goes = tt
  taking_from (Does h deed ∷ entries) w goes = (goes.1.3, taking_from entries (after w (Does h deed) goes.0) goes.2)
  taking_from (Breaks h d call ∷ entries) w goes = taking_from entries (after w (Breaks h d call) goes.0) goes.2
  taking_from (BreaksIn epoch h d call ∷ entries) w goes = taking_from entries (after w (BreaksIn epoch h d call) goes.0) goes.2
  taking_from (Ends h ∷ entries) w goes = taking_from entries (after w (Ends h) goes.0) goes.2
  taking_from (Crashes d ∷ entries) w goes = taking_from entries (after w (Crashes d) goes.0) goes.2
  taking_from (Loses d ∷ entries) w goes = taking_from entries (after w (Loses d) goes.0) goes.2
  taking_from (Replaces d first newest ∷ entries) w goes = (goes.1.1, taking_from entries (after w (Replaces d first newest) goes.0) goes.2)

  -- where a disk crashes, it may
  crashed_from : (entries : List Entry) (w : World) → GoesFrom crashing c w entries → (i k : ℕ) → slice_get entries i ≡ Some (Crashes k) → (v : World) × ((h : ℕ) → v.deeds h ≡ deeds_from w.deeds i entries h) × crashing.MayCrash v
  crashed_from [] w goes i k found = absurd (cc)
  crashed_from (entry ∷ entries) w goes zero k found =
      let is : entry ≡ Crashes k = cc in
      (w, λ h. refl, (subst (λ (x : Entry). MayFollow crashing c w x goes.0) is goes.1).3)
  crashed_from (entry ∷ entries) w goes (suc i) k found = crashed_from entries (after w entry goes.0) goes.2 i k found

-- BOTH

pub at_once_goes : AtOnceGoes
at_once_goes c entries is = goes_from model_crashes c entries (opening c) is.hosts is.disks (λ i k w found same. tt) is.taking

pub over_losses_goes : OverLossesGoes
over_losses_goes c entries is =
    goes_from power_losses c entries (opening c) is.hosts is.disks (λ i k w found same h. same h ∙ own_deeds h i no_deeds entries ∙ is.dark i k h found) is.taking

pub goes_at_once : GoesAtOnce
goes_at_once c entries goes = record { hosts = alone_from model_crashes c entries (opening c) goes; disks = serves_from model_crashes c entries (opening c) goes; taking = taking_from model_crashes c entries (opening c) goes }

pub goes_over_losses : GoesOverLosses
goes_over_losses c entries goes =
    record {
      hosts = alone_from power_losses c entries (opening c) goes;
      disks = serves_from power_losses c entries (opening c) goes;
      taking = taking_from power_losses c entries (opening c) goes;
      dark = λ i k h found. (let there = crashed_from power_losses c entries (opening c) goes i k found in sym (own_deeds h i no_deeds entries) ∙ sym (there.1 h) ∙ there.2 h);
    }
