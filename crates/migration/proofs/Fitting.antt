-- A log that fits the images is written within them, behind the gate; and how many calls that takes.
use Rattle.std.specs.Prelude.{All}
use Rattle.std.proofs.Common.{ℕ, zero, suc, ◌+◌, ◌*◌, ◌≤◌, ◌≡◌, List, [], ◌∷◌, ◌++◌, length, map, refl, ap, ◌∙◌, arith, length-append, length-drop}
use Rattle.torn_block.specs.Layout.{cluster_version}
use Rattle.torn_block.specs.declared.layout.TheConstants.{VALUE_LENGTH}
use Rattle.paxos_block.specs.Headers.{header_saying}
use Rattle.paxos_block.specs.Places.{image_length}
use Rattle.migration.specs.Fits.{Fits}
use Rattle.paxos_block.specs.Image.{Setup, header_of}
use Rattle.migration.specs.Plan.{blocks_from, heading, Kind, Attaching, Putting, Syncing, Due, on, fills, filling, opening, each, schedule}
use Rattle.migration.proofs.Filling.{IsTodo, FitsImages}
use Rattle.migration.proofs.Lengths.{length-block, length-header}

todo_from : (slots k : ℕ) (log : List (List ℕ)) (kinds : List Kind) → k + length log ≤ slots → All (λ value. length value ≡ VALUE_LENGTH) log → IsTodo (image_length cluster_version slots) kinds → IsTodo (image_length cluster_version slots) (map Putting (blocks_from k log) ++ kinds)
todo_from slots k [] kinds within long rest = rest
todo_from slots k (value ∷ log) kinds within long rest =
    (omega arith, omega (arith, within, length-block value (long 0 [] (omega arith))), todo_from slots (suc k) log kinds (omega (arith, within)) (λ i d inside. long (suc i) d (omega arith)) rest)

pub fits_images : (s : Setup) → Fits s → FitsImages s
fits_images s fits = (
  fits.room.some_disks,
  λ d.
      let tail = length-drop 1 (header_saying cluster_version (header_of s d)) in
      let whole = length-header (header_of s d) in
      todo_from s.slots 0 s.log (Syncing ∷ Putting (heading s d) ∷ Syncing ∷ []) (let n = fits.room.log in omega (arith, n)) fits.values
      (omega arith, omega (arith, tail, whole), tt),
)

-- COUNTING

length-on : (d : ℕ) (kinds : List Kind) → length (on d kinds) ≡ length kinds
length-on d [] = refl
length-on d (kind ∷ kinds) = ap (λ (n : ℕ). suc n) (length-on d kinds)

length-each : (f : ℕ → List Due) (calls : ℕ) → ((d : ℕ) → length (f d) ≡ calls) → (d n : ℕ) → length (each f d n) ≡ n * calls
length-each f calls long d zero = omega arith
length-each f calls long d (suc n) =
    let rest = length-each f calls long (suc d) n in
    let more : suc n * calls ≡ calls + n * calls = omega arith in
    length-append (f d) (each f (suc d) n) ∙ (let a = long d in omega (arith, a, rest, more))

length-puts : (k : ℕ) (log : List (List ℕ)) → length (map Putting (blocks_from k log)) ≡ length log
length-puts k [] = refl
length-puts k (value ∷ log) = ap (λ (n : ℕ). suc n) (length-puts (suc k) log)

length-filling : (s : Setup) (d : ℕ) → length (filling s d) ≡ length s.log + 4
length-filling s d =
    omega (arith, length-on d (Attaching ∷ fills s d), length-append (map Putting (blocks_from 0 s.log)) (Syncing ∷ Putting (heading s d) ∷ Syncing ∷ []), length-puts 0 s.log)

pub length-schedule : (s : Setup) → length (schedule s) ≡ s.disks * (length s.log + 6)
length-schedule s =
    let a = length-each (filling s) (length s.log + 4) (length-filling s) 0 s.disks in
    let b = length-each opening 2 (λ d. refl) 0 s.disks in
    let sum : s.disks * (length s.log + 4) + s.disks * 2 ≡ s.disks * (length s.log + 6) = times s.disks (length s.log) in
    length-append (each (filling s) 0 s.disks) (each opening 0 s.disks) ∙ (omega (arith, a, b, sum))
  where
    times : (d n : ℕ) → d * (n + 4) + d * 2 ≡ d * (n + 6)
    times zero n = omega arith
    times (suc d) n = let rest = times d n in let a : suc d * (n + 4) ≡ (n + 4) + d * (n + 4) = omega arith in let b : suc d * (n + 6) ≡ (n + 6) + d * (n + 6) = omega arith in omega (arith, rest, a, b)
