-- Rows that are written one after the other, and what a cluster shows that begins with them.
use Rattle.std.specs.Prelude.{replicate, ◌*◌}
use Rattle.std.proofs.Common.{ℕ, zero, suc, ◌+◌, ◌<◌, ◌≤◌, ◌≡◌, true, false, Bool, Option, None, List, [], ◌∷◌, ◌++◌, length, take, drop, get_or, refl, sym, ap, ◌∙◌, subst, arith, append_assoc, append-nil, length-append}
use Rattle.std.proofs.Math.Seq.{take-append_seam, drop-append-add}
use Rattle.std.proofs.lemmas.Bool.{lt-ltb}
use Rattle.std.proofs.lemmas.List.{take-append-drop, drop-drop, length-take-le, length-replicate, replicate-append-replicate, get_or-replicate}
use Rattle.disk.specs.Disk.{DiskState, put_at, written, synced}
use Rattle.disk.specs.Simulated.{SimState, fresh_disk}
use Rattle.disk.proofs.PutLemmas.{length-put_at}
use Rattle.torn_block.specs.Layout.{cluster_version}
use Rattle.torn_block.specs.declared.layout.TheConstants.{HOSTS, ROW_LENGTH}
use Rattle.paxos_block.specs.Places.{image_length, row_place}
use Rattle.paxos_block.specs.Image.{row_for, rows_for}
use Rattle.lock_command.specs.declared.command.Command.{Command}
use Rattle.paxos_block.specs.Shape.{Shape}
use Rattle.host.specs.Host.{Stopped}
use Rattle.host.specs.Kept as hosts
use Rattle.world.specs.Entry.{Migrated, migrated_to}
use Rattle.world.specs.World.{world, opening_disk, CanMigrate}
use Rattle.world.specs.Opening.{begun_with}
use Rattle.world.proofs.Projections.{disk_here}
use Rattle.world_safety.proofs.Blocks.Migrated.{image}
use Rattle.simulator.specs.Kept.{calm, IsHost, LeadsTo}
use Rattle.simulator.proofs.Opened.{begins_run}

-- ROW BY ROW

module _ {X : Type 0} (old : List X) (p : ℕ) where
  -- nothing is written
  put_nothing : put_at old p [] ≡ old
  put_nothing =
      let same : p + 0 ≡ p = omega arith in
      ap (λ (l : List X). l ++ drop (p + 0) old) (append-nil (take p old)) ∙ ap (λ (n : ℕ). take p old ++ drop n old) same ∙ take-append-drop p old

  -- items are written behind others
  put_behind : (a b : List X) → p + length a ≤ length old → put_at (put_at old p a) (p + length a) b ≡ put_at old p (a ++ b)
  put_behind a b fits =
      let front = take p old ++ a in
      let rest = drop (p + length a) old in
      let short = length-take-le p old (omega (arith, fits)) in
      let seam : length front ≡ p + length a = omega (arith, length-append (take p old) a, short) in
      let taken : take (p + length a) (front ++ rest) ≡ front = ap (λ (n : ℕ). take n (front ++ rest)) (sym seam) ∙ take-append_seam front rest in
      let end : (p + length a) + length b ≡ p + length (a ++ b) = omega (arith, length-append a b) in
      let left : drop ((p + length a) + length b) (front ++ rest) ≡ drop (p + length (a ++ b)) old =
      ap (λ (n : ℕ). drop (n + length b) (front ++ rest)) (sym seam) ∙ drop-append-add front rest (length b) ∙ drop-drop (length b) (p + length a) old ∙ ap (λ (n : ℕ). drop n old) end in
      ap (λ (l : List X). (l ++ b) ++ drop ((p + length a) + length b) (front ++ rest)) taken
      ∙ ap (λ (l : List X). (front ++ b) ++ l) left
      ∙ ap (λ (l : List X). l ++ drop (p + length (a ++ b)) old) (append_assoc (take p old) a b)

flags_behind : (flags : List Bool) (p : ℕ) (a b : List ℕ) → p + length a ≤ length flags
    → put_at (put_at flags p (replicate (length a) true)) (p + length a) (replicate (length b) true) ≡ put_at flags p (replicate (length (a ++ b)) true)
flags_behind flags p a b fits =
    let many = length-replicate (length a) true in
    ap (λ (n : ℕ). put_at (put_at flags p (replicate (length a) true)) (p + n) (replicate (length b) true)) (sym many)
    ∙ put_behind flags p (replicate (length a) true) (replicate (length b) true) (omega (arith, many, fits))
    ∙ ap (put_at flags p) (replicate-append-replicate (length a) (length b) true ∙ ap (λ (n : ℕ). replicate n true) (sym (length-append a b)))

-- a write behind another
written_behind : (old : DiskState) (p : ℕ) (a b : List ℕ) → p + length a ≤ length old.bytes → length old.unsynced ≡ length old.bytes → written (written old p a) (p + length a) b ≡ written old p (a ++ b)
written_behind old p a b fits flags =
    λ i. record { bytes = put_behind old.bytes p a b fits i; unsynced = flags_behind old.unsynced p a b (omega (arith, fits, flags)) i; boot = old.boot; gone = old.gone }

written_nothing : (old : DiskState) (p : ℕ) → written old p [] ≡ old
written_nothing old p = λ i. record { bytes = put_nothing old.bytes p i; unsynced = put_nothing old.unsynced p i; boot = old.boot; gone = old.gone }

rows_more : (values : List (List ℕ)) (value : List ℕ) → rows_for (values ++ value ∷ []) ≡ rows_for values ++ row_for value
rows_more [] value = append-nil (row_for value)
rows_more (first ∷ values) value = ap (λ (l : List ℕ). row_for first ++ l) (rows_more values value) ∙ sym (append_assoc (row_for first) (rows_for values) (row_for value))

-- A disk of so many slots, with a row for each of these values.
pub record HasRows (slots : ℕ) (values : List (List ℕ)) (d : SimState) : Type 0 where
  pub is : d ≡ calm (written (fresh_disk (image_length cluster_version slots)) (row_place cluster_version 0) (rows_for values))
  pub long : length (rows_for values) ≡ ROW_LENGTH * length values

-- as it is at first,
pub no_rows : (slots : ℕ) → HasRows slots [] (calm (fresh_disk (image_length cluster_version slots)))
no_rows slots = record { is = ap calm (sym (written_nothing (fresh_disk (image_length cluster_version slots)) (row_place cluster_version 0))); long = refl }

-- and with one value more
pub one_row_more : (slots : ℕ) (values : List (List ℕ)) (value : List ℕ) (old new : SimState) → length values < slots → length (row_for value) ≡ ROW_LENGTH → HasRows slots values old
    → new ≡ record old { disk = written old.disk (row_place cluster_version (length values)) (row_for value) } → HasRows slots (values ++ value ∷ []) new
unfolding fresh_disk
one_row_more slots values value old new fits row_long has wrote =
    let size = image_length cluster_version slots in
    let bytes : length (replicate size 0) ≡ size = length-replicate size 0 in
    let rows = has.long in
    let place : row_place cluster_version (length values) ≡ row_place cluster_version 0 + length (rows_for values) = omega (arith, rows) in
    let inside : row_place cluster_version 0 + length (rows_for values) ≤ length (fresh_disk size).bytes = omega (arith, rows, bytes, fits) in
    let flags : length (fresh_disk size).unsynced ≡ length (fresh_disk size).bytes = length-replicate size false ∙ sym bytes in
    record {
      is =
          wrote ∙ ap (λ (s : SimState). record s { disk = written s.disk (row_place cluster_version (length values)) (row_for value) }) has.is
          ∙ ap (λ (n : ℕ). calm (written (written (fresh_disk size) (row_place cluster_version 0) (rows_for values)) n (row_for value))) place
          ∙ ap calm (written_behind (fresh_disk size) (row_place cluster_version 0) (rows_for values) (row_for value) inside flags)
          ∙ ap (λ (l : List ℕ). calm (written (fresh_disk size) (row_place cluster_version 0) l)) (sym (rows_more values value));
      long = ap length (rows_more values value) ∙ (let sum = length-append (rows_for values) (row_for value) in let more = length-append values (value ∷ []) in omega (arith, sum, more, rows, row_long));
    }

-- such a disk is there, and takes the next row
pub record TakesRow (slots : ℕ) (values : List (List ℕ)) (d : SimState) : Type 0 where
  pub calm : d.failing ≡ None
  pub there : (d.disk.gone ≡ false) × (d.disk.boot ≡ 1)
  pub room : length d.disk.bytes ≡ image_length cluster_version slots

pub takes_row : (slots : ℕ) (values : List (List ℕ)) (d : SimState) → length values ≤ slots → HasRows slots values d → TakesRow slots values d
unfolding fresh_disk
takes_row slots values d fits has =
    let size = image_length cluster_version slots in
    let bytes : length (replicate size 0) ≡ size = length-replicate size 0 in
    let rows = has.long in
    let inside : row_place cluster_version 0 + length (rows_for values) ≤ length (fresh_disk size).bytes = omega (arith, rows, bytes, fits) in
    record {
      calm = ap (λ (s : SimState). s.failing) has.is;
      there = (ap (λ (s : SimState). s.disk.gone) has.is, ap (λ (s : SimState). s.disk.boot) has.is);
      room = ap (λ (s : SimState). length s.disk.bytes) has.is ∙ length-put_at (fresh_disk size).bytes (row_place cluster_version 0) (rows_for values) inside ∙ bytes;
    }

-- A CLUSTER

-- a migration of nothing leaves zeros
zeros_left : (c : Shape) → migrated_to (opening_disk c) [] ≡ opening_disk c
unfolding fresh_disk
zeros_left c = ap synced (written_nothing (opening_disk c) (row_place cluster_version 0)) ∙ ap (λ (n : ℕ). record (opening_disk c) { unsynced = replicate n false }) (length-replicate (image_length cluster_version c.slots) 0)

disks_are : (c : Shape) (log : List Command) (d : ℕ) → d < c.disks → (world c (begun_with c log)).disk d ≡ migrated_to (opening_disk c) log
disks_are c [] d inside = sym (zeros_left c)
disks_are c (command ∷ log) d inside = disk_here c [] (Migrated c.disks (command ∷ log)) d (lt-ltb d c.disks inside)

hosts_are : (c : Shape) (log : List Command) (h : ℕ) → (world c (begun_with c log)).host h ≡ Stopped
hosts_are c [] h = refl
hosts_are c (command ∷ log) h = refl

none_at : (n h : ℕ) → let none : Option hosts.Kept = None in get_or (replicate n none) h none ≡ none
none_at zero h = refl
none_at (suc n) zero = refl
none_at (suc n) (suc h) = none_at n h

pub opens_with : (c : Shape) (log : List Command) (disks : List SimState) (kept : List (Option hosts.Kept)) → CanMigrate c log
    → disks ≡ replicate c.disks (calm (migrated_to (opening_disk c) log)) → kept ≡ replicate HOSTS None
    → LeadsTo (begun_with c log) (record { shape = c; disks = disks; hosts = kept })
opens_with c log disks kept can are_moved are_stopped =
    let x : SimState = calm (migrated_to (opening_disk c) log) in
    let stopped : Option hosts.Kept = None in
    let at : (d : ℕ) (other : SimState) → d < c.disks → get_or disks d other ≡ x =
    λ d other inside. ap (λ (l : List SimState). get_or l d other) are_moved ∙ get_or-replicate c.disks d x other inside in
    record {
      run = begins_run c log can;
      shows = record {
        disk_count = ap length are_moved ∙ length-replicate c.disks x;
        host_count = ap length are_stopped ∙ length-replicate HOSTS stopped;
        disks = λ d other inside. at d other inside ∙ ap calm (sym (disks_are c log d inside));
        hosts = λ h.
            subst (λ host. IsHost c h host (get_or kept h None)) (sym (hosts_are c log h))
            (subst (λ (o : Option hosts.Kept). IsHost c h Stopped o) (sym (ap (λ (l : List (Option hosts.Kept)). get_or l h None) are_stopped ∙ none_at HOSTS h)) tt);
      };
      sized = λ d other inside. ap (λ (s : SimState). length s.disk.bytes) (at d other inside) ∙ (image c log can).long;
    }
