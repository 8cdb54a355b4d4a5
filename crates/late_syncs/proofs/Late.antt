-- A disk whose syncs come late does what one does whose syncs take effect where they were asked for: both have the same bytes, and what the second one calls synced is synced on the
-- first one, or owed.
use Rattle.std.specs.Prelude.{replicate}
use Rattle.std.proofs.Common.{get_or, ℕ, zero, suc, ◌≡◌, Bool, true, false, List, length, refl, sym, subst, ap, ◌∙◌, inl, inr}
use Rattle.std.proofs.lemmas.Bool.{or_parts}
use Rattle.std.proofs.lemmas.List.{length-replicate}
use Rattle.disk.specs.declared.fault.DiskFault.TheVariants.{Reset, Failed, Gone}
use Rattle.disk.specs.Disk.{DiskState, Call, Attach, Read, Write, Sync, Answer, Booted, Told, Done, Fault, Step, Torn, put_at, written}
use Rattle.disk.specs.Crash.{IsWhole}
use Rattle.world.specs.World.{Tears}
use Rattle.at_once.specs.Power.{LosesPower}
use Rattle.late_syncs.specs.Late.{LateDisk, at_first, OwesNothing, IsAskedFor, AnswersLate, WritesBack}
use Rattle.late_syncs.proofs.Flags.{as_long, claims_written}

-- the disk with other flags
abbrev pub with_flags : DiskState → List Bool → DiskState
with_flags disk flags = record { bytes = disk.bytes; unsynced = flags; boot = disk.boot; gone = disk.gone }

-- what these flags call synced is synced, unless it is owed
pub record Shows (flags : List Bool) (late : LateDisk) : Type 0 where
  pub long : length flags ≡ length late.disk.bytes
  pub whole : IsWhole late.disk
  pub kept : (p : ℕ) → late.owes p ≡ false → get_or flags p false ≡ false → get_or late.disk.unsynced p false ≡ false

pub shows_first : (disk : DiskState) → IsWhole disk → Shows disk.unsynced (at_first disk)
shows_first disk whole = record { long = whole; whole = whole; kept = λ p none is. is }

-- the disk with these flags goes on alike, with some others
pub record Follows (new : LateDisk) (To : DiskState → Type 0) : Type 0 where
  pub flags : List Bool
  pub to : To (with_flags new.disk flags)
  pub shows : Shows flags new

pub all_false : (n p : ℕ) → get_or (replicate n false) p false ≡ false
all_false zero p = refl
all_false (suc n) zero = refl
all_false (suc n) (suc p) = all_false n p

-- with nothing unsynced
abbrev no_flags : DiskState → List Bool
no_flags disk = replicate (length disk.bytes) false

-- a late disk is its two parts
made_of : (new : LateDisk) (disk : DiskState) (owes : ℕ → Bool) → new.disk ≡ disk → new.owes ≡ owes → record { disk = disk; owes = owes } ≡ new
made_of new disk owes is owed = sym (λ i. record { disk = is i; owes = owed i })

module _ (flags : List Bool) (old new : LateDisk) (shows : Shows flags old) where
  -- NOTHING CHANGES

  pub stays : new.disk ≡ old.disk → new.owes ≡ old.owes → Shows flags new
  stays is owed = subst (Shows flags) (made_of new old.disk old.owes is owed) shows

  pub alike : new.disk ≡ old.disk → with_flags new.disk flags ≡ with_flags old.disk flags
  alike is = ap (λ (disk : DiskState). with_flags disk flags) is

  -- A WRITE

  abbrev after : ℕ → List ℕ → List Bool
  after at from = put_at flags at (replicate (length from) true)

  shows_written : (at : ℕ) (from : List ℕ) → Shows (after at from) (record { disk = written old.disk at from; owes = old.owes })
  shows_written at from =
      let many = length-replicate (length from) true in
      record {
        long = as_long flags old.disk.bytes at (replicate (length from) true) from shows.long many;
        whole = as_long old.disk.unsynced old.disk.bytes at (replicate (length from) true) from shows.whole many;
        kept = λ p none. claims_written flags old.disk.unsynced (replicate (length from) true) at p (shows.long ∙ sym shows.whole) (shows.kept p none);
      }

  -- some bytes are written, or are left by a write that failed or was torn
  wrote : (To : DiskState → Type 0) (at : ℕ) (from : List ℕ) → new.disk ≡ written old.disk at from → new.owes ≡ old.owes →
      ((disk : DiskState) → disk ≡ written (with_flags old.disk flags) at from → To disk) → Follows new To
  wrote To at from is owed to =
      record {
        flags = after at from;
        to = to (with_flags new.disk (after at from)) (ap (λ (disk : DiskState). with_flags disk (after at from)) is);
        shows = subst (Shows (after at from)) (made_of new (written old.disk at from) old.owes is owed) (shows_written at from);
      }

  torn : (To : DiskState → Type 0) (at n : ℕ) → Torn at n old.disk new.disk → new.owes ≡ old.owes → ((disk : DiskState) → Torn at n (with_flags old.disk flags) disk → To disk) → Follows new To
  torn To at n is owed to = wrote To at is.left is.leaves owed (λ disk leaves. to disk (record { left = is.left; as_many = is.as_many; leaves = leaves }))

  -- A SYNC

  -- it is asked for: the one disk has it at once, and the other one owes it
  asked : (boot : ℕ) → IsAskedFor (Sync boot) old new → Follows new (Step (with_flags old.disk flags) (Sync boot) Done)
  asked boot is =
      record {
        flags = no_flags old.disk;
        to = (is.there, is.under, (refl, ap (λ (disk : DiskState). with_flags disk (no_flags old.disk)) is.same));
        shows = record {
          long = length-replicate (length old.disk.bytes) false ∙ ap (λ (disk : DiskState). length disk.bytes) (sym is.same);
          whole = subst IsWhole (sym is.same) shows.whole;
          kept = λ p none claimed.
              ap (λ (disk : DiskState). get_or disk.unsynced p false) is.same ∙ (or_parts (old.owes p) (get_or old.disk.unsynced p false) (sym (is.owes p) ∙ none)).1;
        };
      }

  -- something is written back
  pub back : WritesBack old new → Shows flags new
  back is =
      record {
        long = shows.long ∙ ap (λ (l : List ℕ). length l) (sym is.bytes);
        whole = is.whole;
        kept = λ p none claimed. elim (is.each p) [
          | inl stays ↦ stays.0 ∙ shows.kept p (sym stays.1 ∙ none) claimed
          | inr lasts ↦ lasts.0
        ];
      }

  pub same_disk : WritesBack old new → with_flags new.disk flags ≡ with_flags old.disk flags
  same_disk is = λ i. record { bytes = is.bytes i; unsynced = flags; boot = is.boot i; gone = is.gone i }

  -- ONE CALL

  abbrev Steps : Call → Answer → Type 0
  Steps call answer = Follows new (Step (with_flags old.disk flags) call answer)

  pub answers : (call : Call) (answer : Answer) → AnswersLate old call answer new → Steps call answer
  answers Attach (Fault Gone) is = record { flags = flags; to = (is.0.0, alike is.0.1); shows = stays is.0.1 is.1 }
  answers (Read boot at len) (Fault Gone) is = record { flags = flags; to = (is.0.0, alike is.0.1); shows = stays is.0.1 is.1 }
  answers (Write boot at from) (Fault Gone) is = record { flags = flags; to = (is.0.0, alike is.0.1); shows = stays is.0.1 is.1 }
  answers (Sync boot) (Fault Gone) is = record { flags = flags; to = (is.0.0, alike is.0.1); shows = stays is.0.1 is.1 }
  answers Attach (Fault Reset) is = record { flags = flags; to = (is.0.0, is.0.1, alike is.0.2); shows = stays is.0.2 is.1 }
  answers (Read boot at len) (Fault Reset) is = record { flags = flags; to = (is.0.0, is.0.1, alike is.0.2); shows = stays is.0.2 is.1 }
  answers (Write boot at from) (Fault Reset) is = record { flags = flags; to = (is.0.0, is.0.1, alike is.0.2); shows = stays is.0.2 is.1 }
  answers (Sync boot) (Fault Reset) is = record { flags = flags; to = (is.0.0, is.0.1, alike is.0.2); shows = stays is.0.2 is.1 }
  answers Attach (Fault Failed) is = record { flags = flags; to = (is.0.0, is.0.1, alike is.0.2); shows = stays is.0.2 is.1 }
  answers (Read boot at len) (Fault Failed) is = record { flags = flags; to = (is.0.0, is.0.1, alike is.0.2); shows = stays is.0.2 is.1 }
  answers (Write boot at from) (Fault Failed) is =
      torn (Step (with_flags old.disk flags) (Write boot at from) (Fault Failed)) at (length from) is.0.2 is.1 (λ disk left. (is.0.0, is.0.1, left))
  answers (Sync boot) (Fault Failed) is = record { flags = flags; to = (is.0.0, is.0.1, alike is.0.2); shows = stays is.0.2 is.1 }
  answers Attach (Booted number) is = record { flags = flags; to = (is.0.0, is.0.1, (is.0.2.0, alike is.0.2.1)); shows = stays is.0.2.1 is.1 }
  answers Attach (Told bytes) is = record { flags = flags; to = (is.0.0, is.0.1, (is.0.2.0, alike is.0.2.1)); shows = stays is.0.2.1 is.1 }
  answers Attach Done is = record { flags = flags; to = (is.0.0, is.0.1, (is.0.2.0, alike is.0.2.1)); shows = stays is.0.2.1 is.1 }
  answers (Read boot at len) (Booted number) is = record { flags = flags; to = (is.0.0, is.0.1, (is.0.2.0, alike is.0.2.1)); shows = stays is.0.2.1 is.1 }
  answers (Read boot at len) (Told bytes) is = record { flags = flags; to = (is.0.0, is.0.1, (is.0.2.0, alike is.0.2.1)); shows = stays is.0.2.1 is.1 }
  answers (Read boot at len) Done is = record { flags = flags; to = (is.0.0, is.0.1, (is.0.2.0, alike is.0.2.1)); shows = stays is.0.2.1 is.1 }
  answers (Write boot at from) (Booted number) is = absurd (let impossible = is.0.2.0 in cc)
  answers (Write boot at from) (Told bytes) is = absurd (let impossible = is.0.2.0 in cc)
  answers (Write boot at from) Done is =
      wrote (Step (with_flags old.disk flags) (Write boot at from) Done) at from is.0.2.1 is.1 (λ disk left. (is.0.0, is.0.1, (is.0.2.0, left)))
  answers (Sync boot) (Booted number) is = absurd (let impossible = is.0.2.0 in cc)
  answers (Sync boot) (Told bytes) is = absurd (let impossible = is.0.2.0 in cc)
  answers (Sync boot) Done is = asked boot is

  -- a write within which its host stopped
  pub tears : (call : Call) → Tears call old.disk new.disk → new.owes ≡ old.owes → Follows new (Tears call (with_flags old.disk flags))
  tears Attach is owed = absurd is
  tears (Read boot at len) is owed = absurd is
  tears (Write boot at from) is owed = torn (Tears (Write boot at from) (with_flags old.disk flags)) at (length from) is.2 owed (λ disk left. (is.0, is.1, left))
  tears (Sync boot) is owed = absurd is

  -- POWER IS LOST, and nothing is owed

  pub loses : OwesNothing old → LosesPower old.disk new.disk → new.owes ≡ old.owes → Follows new (LosesPower (with_flags old.disk flags))
  loses none is owed =
      let many = length-replicate (length old.disk.bytes) false in
      record {
        flags = no_flags old.disk;
        to = record {
          bytes = record { as_many = is.bytes.as_many; same = λ p claimed. is.bytes.same p (shows.kept p (none p) claimed) };
          unsynced = refl;
          before = is.before;
          after = is.after;
          gone = is.gone;
        };
        shows = record {
          long = many ∙ sym is.bytes.as_many;
          whole = ap (λ (l : List Bool). length l) is.unsynced ∙ many ∙ sym is.bytes.as_many;
          kept = λ p nothing claimed. ap (λ (l : List Bool). get_or l p false) is.unsynced ∙ all_false (length old.disk.bytes) p;
        };
      }

-- WITHOUT LATENESS

-- a sync that takes effect at once is asked for, and all is written back
pub asks : (boot : ℕ) (old new : DiskState) → Step old (Sync boot) Done new →
    (middle : LateDisk) × IsAskedFor (Sync boot) (at_first old) middle × WritesBack middle (at_first new)
asks boot old new is = (
  record { disk = old; owes = λ p. get_or old.unsynced p false },
  record { there = is.0; under = is.1; same = refl; owes = λ p. refl },
  record {
    bytes = ap (λ (disk : DiskState). disk.bytes) is.2.1;
    whole = subst IsWhole (sym is.2.1) (length-replicate (length old.bytes) false);
    each = λ p. inr (ap (λ (disk : DiskState). get_or disk.unsynced p false) is.2.1 ∙ all_false (length old.bytes) p, refl);
    boot = ap (λ (disk : DiskState). disk.boot) is.2.1;
    gone = ap (λ (disk : DiskState). disk.gone) is.2.1;
  },
)
