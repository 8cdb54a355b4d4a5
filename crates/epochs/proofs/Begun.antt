-- A host may come to a disk of zeros, write there in the first epoch, and be shown what it wrote.
use Rattle.std.specs.Prelude.{◌*◌, ◌%◌, if◌then◌else◌, slice_range}
use Rattle.std.proofs.Common.{ℕ, ◌≡◌, ◌+◌, ◌≤◌, ◌<◌, Bool, false, List, [], ◌∷◌, ◌++◌, length, refl, sym, ◌∙◌, ap, inl, arith}
use Rattle.std.proofs.lemmas.Bool.{eq-eqb}
use Rattle.std.proofs.lemmas.List.{length-replicate}
use Rattle.disk.specs.Disk.{DiskState, Read, Write, Sync, Told, Done, Step, written, synced}
use Rattle.disk.specs.Crash.{IsWhole}
use Rattle.disk.specs.Simulated.{fresh_disk}
use Rattle.disk.proofs.CrashLemmas.{length-put}
use Rattle.paxos_block.specs.Shape.{Shape}
use Rattle.standings.specs.Epochs.{number_place, standings_place}
use Rattle.standings.specs.Reading.{masked, numbers_in, shown_by}
use Rattle.standings.specs.Past.{Made, Past, made, reading, IsRow, WritesIn, IsShown}
use Rattle.epochs.specs.Acts.{epoch_of}
use Rattle.epochs.specs.Numbers.{IsNumber}
use Rattle.epochs.specs.Pasts.{Calls, CallsIn, Pasts, no_pasts, with_past, IsShownLater, Begins, HostsMayBegin}
use Rattle.epochs.proofs.Blocks.{lies_on}
use Rattle.epochs.proofs.Numbers.{zeros_are_none, syncs_make_sure, others_leave_numbers}
use Rattle.epochs.proofs.Pasts.{read_number}

-- the past that a host was given
own_past : (pasts : Pasts) (host : ℕ) (past : Past) → with_past pasts host past host ≡ past
own_past pasts host past = ap (λ (b : Bool). if b then past else pasts host) (eq-eqb host host refl)

module _ (IsCrash : DiskState → DiskState → Type 0) (c : Shape) (k n size host row : ℕ) (from : List ℕ) (row_fits : 4096 ≤ n) (rows : n % 4096 ≡ 0) (fits : 4096 + n + n ≤ size) (is_host : host < 16) (is_row : IsRow n row) (few : length from ≤ 256) where
  abbrev place : ℕ
  place = 4096 * row + 256 * host

  abbrev empty : DiskState
  empty = synced (fresh_disk size)

  abbrev full : DiskState
  full = written empty (0 + place) from

  -- what each read tells
  abbrev first : List ℕ
  first = slice_range empty.bytes (standings_place n 0) (standings_place n 0 + 4096)

  abbrev seen : List ℕ
  seen = slice_range full.bytes (0 + 4096 * row) (0 + 4096 * row + 4096)

  abbrev second : List ℕ
  second = slice_range full.bytes (standings_place n 0) (standings_place n 0 + 4096)

  abbrev told : List ℕ
  told = masked (shown_by (epoch_of 0) (numbers_in first) (numbers_in second)) seen

  abbrev syncs : Made
  syncs = made (Sync 1) Done

  abbrev reads : Made
  reads = reading n 0 1 first

  abbrev writes : Made
  writes = made (Write 1 (0 + place) from) Done

  abbrev reads_row : Made
  reads_row = made (Read 1 (0 + 4096 * row) 4096) (Told seen)

  abbrev reads_again : Made
  reads_again = reading n 0 1 second

  -- THE DISKS

  long_fresh : length (fresh_disk size).bytes ≡ size
  unfolding fresh_disk
  long_fresh = length-replicate size 0

  there : (fresh_disk size).gone ≡ false
  unfolding fresh_disk
  there = refl

  under : 1 ≡ (fresh_disk size).boot
  unfolding fresh_disk
  under = refl

  marked : IsWhole empty
  marked = length-replicate (length (fresh_disk size).bytes) false

  room : 4096 + n + n ≤ length empty.bytes
  room = let long = long_fresh in omega (arith, fits, long)

  to_empty : Step (fresh_disk size) (Sync 1) Done empty
  to_empty = (there, under, (refl, refl))

  to_full : Step empty (Write 1 (0 + place) from) Done full
  to_full = (there, under, (refl, refl))

  within : 0 + place + length from ≤ n
  within = let ends = is_row.1 in omega (arith, ends, is_host, few)

  long_full : length full.bytes ≡ length empty.bytes
  long_full = length-put empty.bytes (0 + place) from (let ends = within in let size = room in omega (arith, ends, size)) 0

  -- nobody has a number yet
  none_first : (g : ℕ) → g < 16 → numbers_in first g ≡ 0
  none_first g is_g =
      read_number n row_fits rows 0 1 first empty empty (omega arith) room (there, under, (refl, refl)) g is_g
      ∙ (syncs_make_sure (number_place n 0 g) 0 0 1 false (fresh_disk size) empty to_empty (zeros_are_none (number_place n 0 g) size)).now

  none_second : (g : ℕ) → g < 16 → numbers_in second g ≡ 0
  none_second g is_g =
      let ends = within in
      let size_full = long_full in
      let space = room in
      let number : IsNumber (number_place n 0 g) full 0 0 false =
      others_leave_numbers (number_place n 0 g) 0 0 false empty full (Write 1 (0 + place) from) Done marked (lies_on n 0 g empty (omega arith) is_g row_fits room) (omega (arith, ends, space)) (inl (omega (arith, ends))) to_full
      (syncs_make_sure (number_place n 0 g) 0 0 1 false (fresh_disk size) empty to_empty (zeros_are_none (number_place n 0 g) size)) in
      read_number n row_fits rows 0 1 second full full (omega arith) (omega (arith, space, size_full)) (there, under, (refl, refl)) g is_g ∙ number.now

  -- THE DEEDS

  abbrev one : Pasts
  one = with_past no_pasts host (syncs ∷ [])

  abbrev two : Pasts
  two = with_past one host (one host ++ reads ∷ [])

  abbrev three : Pasts
  three = with_past two host (two host ++ writes ∷ [])

  past_two : two host ≡ syncs ∷ reads ∷ []
  past_two = own_past one host (one host ++ reads ∷ []) ∙ ap (λ (p : Past). p ++ reads ∷ []) (own_past no_pasts host (syncs ∷ []))

  past_three : three host ≡ syncs ∷ reads ∷ writes ∷ []
  past_three = own_past two host (two host ++ writes ∷ []) ∙ ap (λ (p : Past). p ++ writes ∷ []) past_two

  may_write : WritesIn n (epoch_of 0) host (two host) place (length from)
  may_write =
      record {
        row = row;
        is_row = is_row;
        within = (omega arith, omega (arith, few));
        sure = record { boot = 1; row = first; before = []; between = []; behind = []; is = past_two; read = none_first host is_host; still = tt };
      }

  is_shown : IsShown n (epoch_of 0) host 1 (4096 * row) (three host ++ reads_row ∷ reads_again ∷ []) (Told told)
  is_shown =
      record {
        first = first;
        row = seen;
        second = second;
        early = syncs ∷ [];
        before = writes ∷ [];
        between = [];
        is = ap (λ (p : Past). p ++ reads_row ∷ reads_again ∷ []) past_three;
        clear = λ g is_g. (let none = none_second g is_g in (omega (arith, none), λ own. none_first g is_g));
        told = refl;
      }

  is_shown_later : IsShownLater n (epoch_of 0) host 1 (4096 * row) (three host) reads_row (Calls host reads_again ∷ []) (Told told)
  unfolding is_shown
  is_shown_later =
      record {
        until = reads_again ∷ [];
        behind = [];
        goes_on = ap (λ (b : Bool). if b then reads_again ∷ [] else []) (eq-eqb host host refl);
        shown = is_shown;
        here = sym past_three;
      }

  begins : Begins IsCrash c k n size host row from
  begins =
      record {
        deeds =
            Calls host syncs ∷ Calls host reads ∷ CallsIn (epoch_of 0) host writes (Write 1 place from) Done ∷ CallsIn (epoch_of 0) host reads_row (Read 1 (4096 * row) 4096) (Told told) ∷ Calls host reads_again
            ∷ [];
        serves = (
          empty,
          (is_host, tt, to_empty),
          (
            empty,
            (is_host, tt, (there, under, (refl, refl))),
            (
              full,
              (is_host, omega arith, omega arith, may_write, (two host, refl), to_full),
              (
                full,
                (is_host, omega arith, omega arith, (row, is_row, refl, refl), inl is_shown_later, (there, under, (refl, refl))),
                (full, (is_host, tt, (there, under, (refl, refl))), tt),
              ),
            ),
          ),
        );
        told = told;
        done = refl;
      }

pub hosts_may_begin : (IsCrash : DiskState → DiskState → Type 0) → HostsMayBegin IsCrash
hosts_may_begin IsCrash c k n size host row from row_fits rows fits is_host is_row few = begins IsCrash c k n size host row from row_fits rows fits is_host is_row few
