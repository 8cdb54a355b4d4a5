-- A migration in which nothing fails: it makes all its calls, and leaves complete images.
use Rattle.std.specs.Prelude.{if◌then◌else◌}
use Rattle.std.proofs.Common.{ℕ, zero, suc, ◌+◌, ◌≤◌, ◌<◌, ◌≡◌, ◌==◌, inl, inr, Bool, true, false, Option, None, List, [], ◌∷◌, ◌++◌, length, map, replicate, append_assoc, refl, sym, subst, ap, ap₂, ◌∙◌, arith}
use Rattle.std.proofs.lemmas.Grind.{common_steps}
use Rattle.std.proofs.lemmas.List.{append-nil}
use Rattle.std.proofs.lemmas.Bool.{cases_eq, cond-true, cond-false, eq-eqb, ne_eqb, eqb-true}
use Rattle.disk.specs.declared.fault.DiskFault.{DiskFault}
use Rattle.disk.specs.Disk.{DiskState, Booted, done_by}
use Rattle.disk.specs.Simulated.{fresh_disk, refusal_of, refusal_under}
use Rattle.torn_block.specs.Layout.{cluster_version}
use Rattle.torn_block.specs.declared.block.TheConstants.{OPEN_GATE}
use Rattle.paxos_block.specs.Places.{image_length}
use Rattle.paxos_block.specs.Saying.{zeros}
use Rattle.migration.specs.Events.{Step, answered_by, happens, happen, run}
use Rattle.migration.specs.Fits.{Fits}
use Rattle.migration.specs.Heard.{with_boot}
use Rattle.paxos_block.specs.Image.{Setup, image_of}
use Rattle.migration.specs.Plan.{Put, Kind, Attaching, Putting, Syncing, Opening, Due, on, blocks_from, heading, fills, opens, filling, opening, each, schedule, call_of}
use Rattle.migration.specs.Run.{Migration, with_disk, after, IsMigrated, HasEnded}
use Rattle.migration.proofs.Puts.{puts}
use Rattle.migration.proofs.Reading.{made}

-- CALLS ON ONE DISK

abbrev effect : Kind → DiskState → DiskState
effect kind disk = done_by disk (call_of 1 kind)

abbrev effects : List Kind → DiskState → DiskState
effects [] disk = disk
effects (kind ∷ kinds) disk = effects kinds (effect kind disk)

effects-append : (early late : List Kind) (disk : DiskState) → effects (early ++ late) disk ≡ effects late (effects early disk)
effects-append [] late disk = refl
effects-append (kind ∷ kinds) late disk = effects-append kinds late (effect kind disk)

abbrev puts_in : List Kind → List Put
puts_in [] = []
puts_in (Attaching ∷ kinds) = puts_in kinds
puts_in (Syncing ∷ kinds) = puts_in kinds
puts_in (Putting put ∷ kinds) = put ∷ puts_in kinds
puts_in (Opening ∷ kinds) = (0, OPEN_GATE ∷ []) ∷ puts_in kinds

effects-bytes : (kinds : List Kind) (disk : DiskState) → (effects kinds disk).bytes ≡ puts disk.bytes (puts_in kinds)
effects-bytes [] disk = refl
effects-bytes (Attaching ∷ kinds) disk = effects-bytes kinds (effect Attaching disk)
effects-bytes (Syncing ∷ kinds) disk = effects-bytes kinds (effect Syncing disk)
effects-bytes (Putting put ∷ kinds) disk = effects-bytes kinds (effect (Putting put) disk)
effects-bytes (Opening ∷ kinds) disk = effects-bytes kinds (effect Opening disk)

puts_in-blocks : (ws : List Put) (kinds : List Kind) → puts_in (map Putting ws ++ kinds) ≡ ws ++ puts_in kinds
puts_in-blocks [] kinds = refl
puts_in-blocks (w ∷ ws) kinds = ap (λ (l : List Put). w ∷ l) (puts_in-blocks ws kinds)

-- the disk is there, and was never booted again
record IsFine (disk : DiskState) : Type 0 where
  there : disk.gone ≡ false
  first : disk.boot ≡ 1

effect_fine : (kind : Kind) (disk : DiskState) → IsFine disk → IsFine (effect kind disk)
effect_fine Attaching disk fine = record { there = fine.there; first = fine.first }
effect_fine Syncing disk fine = record { there = fine.there; first = fine.first }
effect_fine (Putting put) disk fine = record { there = fine.there; first = fine.first }
effect_fine Opening disk fine = record { there = fine.there; first = fine.first }

-- THE BOOT NUMBERS THAT ARE KNOWN

-- a disk is attached before any other call is made on it
abbrev IsKnown : (ℕ → ℕ) → ℕ → Kind → Type 0
IsKnown boots d Attaching = Unit {0}
IsKnown boots d (Putting put) = boots d ≡ 1
IsKnown boots d Syncing = boots d ≡ 1
IsKnown boots d Opening = boots d ≡ 1

abbrev boots_after : (ℕ → ℕ) → ℕ → Kind → ℕ → ℕ
boots_after boots d Attaching = with_boot boots d (Booted 1)
boots_after boots d (Putting put) = boots
boots_after boots d Syncing = boots
boots_after boots d Opening = boots

abbrev AreKnown : (ℕ → ℕ) → List Due → Type 0
AreKnown boots [] = Unit {0}
AreKnown boots (due ∷ rest) = IsKnown boots due.disk due.kind × AreKnown (boots_after boots due.disk due.kind) rest

abbrev IsLater : Kind → Type 0
IsLater Attaching = ⊥
IsLater (Putting put) = Unit {0}
IsLater Syncing = Unit {0}
IsLater Opening = Unit {0}

abbrev AreLater : List Kind → Type 0
AreLater [] = Unit {0}
AreLater (kind ∷ kinds) = IsLater kind × AreLater kinds

known_on : (d : ℕ) (boots : ℕ → ℕ) (kinds : List Kind) (rest : List Due) → AreLater kinds → boots d ≡ 1 → AreKnown boots rest → AreKnown boots (on d kinds ++ rest)
known_on d boots [] rest later one known = known
known_on d boots (Attaching ∷ kinds) rest later one known = absurd later.0
known_on d boots (Putting put ∷ kinds) rest later one known = (one, known_on d boots kinds rest later.1 one known)
known_on d boots (Syncing ∷ kinds) rest later one known = (one, known_on d boots kinds rest later.1 one known)
known_on d boots (Opening ∷ kinds) rest later one known = (one, known_on d boots kinds rest later.1 one known)

later_puts : (ws : List Put) (kinds : List Kind) → AreLater kinds → AreLater (map Putting ws ++ kinds)
later_puts [] kinds later = later
later_puts (w ∷ ws) kinds later = (tt, later_puts ws kinds later)

module _ (s : Setup) where
  later_fills : (d : ℕ) → AreLater (fills s d)
  later_fills d = later_puts (blocks_from 0 s.log) (Syncing ∷ Putting (heading s d) ∷ Syncing ∷ []) (tt, (tt, (tt, tt)))

  -- disks from d on are filled, and then all of them are known
  known_filling : (n d : ℕ) (boots : ℕ → ℕ) (rest : List Due)
      → ((new : ℕ → ℕ) → ((e : ℕ) → e < d → new e ≡ boots e) → ((e : ℕ) → d ≤ e → e < d + n → new e ≡ 1) → AreKnown new rest) → AreKnown boots (each (filling s) d n ++ rest)
  known_filling zero d boots rest known = known boots (λ e below. refl) (λ e from below. absurd (omega arith))
  known_filling (suc n) d boots rest known =
      let new = with_boot boots d (Booted 1) in
      let booted : new d ≡ 1 = cond-true (d == d) 1 (boots d) (eq-eqb d d refl) in
      subst (AreKnown boots) (sym (append_assoc (filling s d) (each (filling s) (suc d) n) rest)) (
        tt,
        known_on d new (fills s d) (each (filling s) (suc d) n ++ rest) (later_fills d) booted
            (known_filling n (suc d) new rest (λ newer low high. known newer
            (λ e below. low e (omega arith) ∙ cond-false (e == d) 1 (boots e) (ne_eqb e d (omega arith)))
            (λ e from below. elim (cases_eq e d) [
              | inl same ↦ low e (omega arith) ∙ cond-true (e == d) 1 (boots e) (eq-eqb e d same)
              | inr other ↦ high e (omega arith) (omega arith)
            ]))),
      )

  known_opening : (n d : ℕ) (boots : ℕ → ℕ) → ((e : ℕ) → d ≤ e → e < d + n → boots e ≡ 1) → AreKnown boots (each opening d n)
  known_opening zero d boots known = tt
  known_opening (suc n) d boots known =
      known_on d boots opens (each opening (suc d) n) (tt, (tt, tt)) (known d (omega arith) (omega arith)) (known_opening n (suc d) boots (λ e from below. known e (omega arith) (omega arith)))

  all_known : AreKnown (λ d. 0) (schedule s)
  all_known = known_filling s.disks 0 (λ d. 0) (each opening 0 s.disks) (λ boots low high. known_opening s.disks 0 boots (λ e from below. high e (omega arith) (omega arith)))

-- THE CALLS OF A DISK

abbrev kinds_on : ℕ → List Due → List Kind
kinds_on e [] = []
kinds_on e (due ∷ rest) = if e == due.disk then due.kind ∷ kinds_on e rest else kinds_on e rest

kinds_on-append : (e : ℕ) (early late : List Due) → kinds_on e (early ++ late) ≡ kinds_on e early ++ kinds_on e late
kinds_on-append e [] late = refl
kinds_on-append e (due ∷ rest) late = go (e == due.disk) (kinds_on-append e rest late)
  where
    go : (b : Bool) → kinds_on e (rest ++ late) ≡ kinds_on e rest ++ kinds_on e late
        → (if b then due.kind ∷ kinds_on e (rest ++ late) else kinds_on e (rest ++ late)) ≡ (if b then due.kind ∷ kinds_on e rest else kinds_on e rest) ++ kinds_on e late
    go true later = ap (λ (l : List Kind). due.kind ∷ l) later
    go false later = later

kinds_here : (d : ℕ) (kinds : List Kind) → kinds_on d (on d kinds) ≡ kinds
kinds_here d [] = refl
kinds_here d (kind ∷ kinds) = cond-true (d == d) (kind ∷ kinds_on d (on d kinds)) (kinds_on d (on d kinds)) (eq-eqb d d refl) ∙ ap (λ (l : List Kind). kind ∷ l) (kinds_here d kinds)

kinds_elsewhere : (e d : ℕ) (kinds : List Kind) → (e ≡ d → ⊥) → kinds_on e (on d kinds) ≡ []
kinds_elsewhere e d [] other = refl
kinds_elsewhere e d (kind ∷ kinds) other = cond-false (e == d) (kind ∷ kinds_on e (on d kinds)) (kinds_on e (on d kinds)) (ne_eqb e d other) ∙ kinds_elsewhere e d kinds other

module _ (f : ℕ → List Kind) where
  kinds_before : (n d e : ℕ) → e < d → kinds_on e (each (λ k. on k (f k)) d n) ≡ []
  kinds_before zero d e below = refl
  kinds_before (suc n) d e below =
      kinds_on-append e (on d (f d)) (each (λ k. on k (f k)) (suc d) n)
      ∙ ap (λ (l : List Kind). l ++ kinds_on e (each (λ k. on k (f k)) (suc d) n)) (kinds_elsewhere e d (f d) (λ same. absurd (omega arith)))
      ∙ kinds_before n (suc d) e (omega arith)

  kinds_of_each : (n d e : ℕ) → d ≤ e → e < d + n → kinds_on e (each (λ k. on k (f k)) d n) ≡ f e
  kinds_of_each zero d e from below = absurd (omega arith)
  kinds_of_each (suc n) d e from below =
      let rest = each (λ k. on k (f k)) (suc d) n in
      kinds_on-append e (on d (f d)) rest
      ∙ (elim (cases_eq e d) [
        | inl same ↦
            ap₂ (λ (a b : List Kind). a ++ b) (subst (λ (k : ℕ). kinds_on e (on k (f k)) ≡ f e) same (kinds_here e (f e))) (kinds_before n (suc d) e (omega arith))
            ∙ append-nil (f e)
        | inr other ↦
            ap (λ (l : List Kind). l ++ kinds_on e rest) (kinds_elsewhere e d (f d) other)
            ∙ kinds_of_each n (suc d) e (omega arith) (omega arith)
      ])

kinds_in_schedule : (s : Setup) (e : ℕ) → e < s.disks → kinds_on e (schedule s) ≡ (Attaching ∷ fills s e) ++ opens
kinds_in_schedule s e below =
    kinds_on-append e (each (filling s) 0 s.disks) (each opening 0 s.disks)
    ∙ ap₂ (λ (a b : List Kind). a ++ b) (kinds_of_each (λ k. Attaching ∷ fills s k) s.disks 0 e (omega arith) (omega arith)) (kinds_of_each (λ k. opens) s.disks 0 e (omega arith) (omega arith))

-- STEP BY STEP

none_under : (disk : DiskState) (boot : ℕ) → disk.gone ≡ false → boot ≡ disk.boot → refusal_under disk boot ≡ None
none_under disk boot there same = grind (arith, common_steps)

-- nothing is in the way of a call on a disk that is fine
none_refused : (boots : ℕ → ℕ) (d : ℕ) (kind : Kind) (disk : DiskState) → IsKnown boots d kind → IsFine disk → refusal_of disk (call_of (boots d) kind) ≡ None
none_refused boots d Attaching disk known fine = none_under disk disk.boot fine.there refl
none_refused boots d (Putting put) disk known fine = none_under disk (boots d) fine.there (known ∙ sym fine.first)
none_refused boots d Syncing disk known fine = none_under disk (boots d) fine.there (known ∙ sym fine.first)
none_refused boots d Opening disk known fine = none_under disk (boots d) fine.there (known ∙ sym fine.first)

abbrev going : (ℕ → DiskState) → (ℕ → ℕ) → List Due → Migration
going disk boots rest = record { disk = disk; progress = record { rest = rest; boot = boots; failed = false } }

module _ (s : Setup) (disk : ℕ → DiskState) (boots : ℕ → ℕ) (d : ℕ) (rest : List Due) where
  -- the call that succeeds, and what is heard of it
  answered_so : (kind : Kind) → IsFine (disk d)
      → after (going disk boots (record { disk = d; kind = kind } ∷ rest)) (answered_by d (disk d) (call_of (boots d) kind) None) ≡ going (with_disk disk d (effect kind (disk d))) (boots_after boots d kind) rest
  answered_so Attaching fine = ap (λ (b : ℕ). going (with_disk disk d (disk d)) (with_boot boots d (Booted b)) rest) fine.first
  answered_so (Putting put) fine = refl
  answered_so Syncing fine = refl
  answered_so Opening fine = refl

  one_step : (kind : Kind) → IsKnown boots d kind → IsFine (disk d)
      → happens s (going disk boots (record { disk = d; kind = kind } ∷ rest)) Step ≡ going (with_disk disk d (effect kind (disk d))) (boots_after boots d kind) rest
  one_step kind known fine =
      ap (λ (r : Option DiskFault). after (going disk boots (record { disk = d; kind = kind } ∷ rest)) (answered_by d (disk d) (call_of (boots d) kind) r)) (none_refused boots d kind (disk d) known fine)
      ∙ answered_so kind fine

-- all calls are made, and each disk is what its own make of it
record HasMade (disk : ℕ → DiskState) (rest : List Due) (w : Migration) : Type 0 where
  none : w.progress.rest ≡ []
  good : w.progress.failed ≡ false
  made : (e : ℕ) → w.disk e ≡ effects (kinds_on e rest) (disk e)

makes_all : (s : Setup) (rest : List Due) (disk : ℕ → DiskState) (boots : ℕ → ℕ) → AreKnown boots rest → ((e : ℕ) → IsFine (disk e)) → HasMade disk rest (happen s (going disk boots rest) (replicate (length rest) Step))
makes_all s [] disk boots known fine = record { none = refl; good = refl; made = λ e. refl }
makes_all s (due ∷ rest) disk boots known fine =
    let d = due.disk in
    let new = with_disk disk d (effect due.kind (disk d)) in
    let still : (e : ℕ) → IsFine (new e) = λ e. still_fine e (e == d) in
    let later = makes_all s rest new (boots_after boots d due.kind) known.1 still in
    subst (HasMade disk (due ∷ rest)) (ap (λ (w : Migration). happen s w (replicate (length rest) Step)) (sym (one_step s disk boots d rest due.kind known.0 (fine d))))
    (record { none = later.none; good = later.good; made = λ e. later.made e ∙ here e (e == d) refl })
  where
    still_fine : (e : ℕ) (b : Bool) → IsFine (if b then effect due.kind (disk due.disk) else disk e)
    still_fine e true = effect_fine due.kind (disk due.disk) (fine due.disk)
    still_fine e false = fine e

    here : (e : ℕ) (b : Bool) → (e == due.disk) ≡ b
        → effects (kinds_on e rest) (if b then effect due.kind (disk due.disk) else disk e) ≡ effects (if b then due.kind ∷ kinds_on e rest else kinds_on e rest) (disk e)
    here e true same = ap (λ (k : ℕ). effects (kinds_on e rest) (effect due.kind (disk k))) (sym (eqb-true e due.disk same))
    here e false same = refl

-- THE END

module _ (s : Setup) (fits : Fits s) where
  abbrev fresh : DiskState
  fresh = fresh_disk (image_length cluster_version s.slots)

  fresh_fine : IsFine fresh
  unfolding fresh_disk
  fresh_fine = record { there = refl; first = refl }

  fresh_bytes : fresh.bytes ≡ zeros (image_length cluster_version s.slots)
  unfolding fresh_disk zeros
  fresh_bytes = refl

  bytes_made : (e : ℕ) → (effects ((Attaching ∷ fills s e) ++ opens) fresh).bytes ≡ image_of s e
  bytes_made e =
      effects-bytes ((Attaching ∷ fills s e) ++ opens) fresh
      ∙ ap₂ puts fresh_bytes
      (ap puts_in (append_assoc (map Putting (blocks_from 0 s.log)) (Syncing ∷ Putting (heading s e) ∷ Syncing ∷ []) opens) ∙ puts_in-blocks (blocks_from 0 s.log) (Syncing ∷ Putting (heading s e) ∷ Syncing ∷ opens))
      ∙ sym (made s e fits)

  all_synced : (e : ℕ) → let disk = effects ((Attaching ∷ fills s e) ++ opens) fresh in disk.unsynced ≡ replicate (length disk.bytes) false
  all_synced e = subst (λ (disk : DiskState). disk.unsynced ≡ replicate (length disk.bytes) false) (sym (effects-append (Attaching ∷ fills s e) opens fresh)) refl'
    where
      refl' : let disk = effects opens (effects (Attaching ∷ fills s e) fresh) in disk.unsynced ≡ replicate (length disk.bytes) false
      refl' = refl

  pub ends : HasEnded s (run s (replicate (length (schedule s)) Step))
  ends =
      let all = makes_all s (schedule s) (λ d. fresh) (λ d. 0) (all_known s) (λ e. fresh_fine) in
      record {
        rest = all.none;
        good = all.good;
        disks = λ d below.
            let whole = all.made d ∙ ap (λ (l : List Kind). effects l fresh) (kinds_in_schedule s d below) in
            subst (IsMigrated s d) (sym whole) (record { bytes = bytes_made d; synced = all_synced d });
      }
