-- What one entry more makes of a disk, of a host and of its receipts.
use Rattle.std.proofs.Common.{◌≡◌, ℕ, List, [], ◌∷◌, ◌++◌, refl, ◌∙◌, ap}
use Rattle.disk.specs.Disk.{DiskState}
use Rattle.paxos_block.specs.Shape.{Shape}
use Rattle.host.specs.Host.{Host, Stopped}
use Rattle.world.specs.Entry.{Filled, disk_step, disk_after, host_step, host_after}
use Rattle.world.specs.World.{opening_disk}
use Rattle.cluster_tie.specs.Parts.{Placed, Own, entries, adds}
use Rattle.cluster.specs.declared.receipt.Receipt.{Receipt}
use Rattle.cluster.specs.Receipts.{still, receipts_at, receipts_from, receipts_of}
use Rattle.cluster.specs.Seat.{host_in}
use Rattle.cluster.specs.Book.{disk_in}

disk_more : (old : DiskState) (log : List Filled) (e : Filled) → disk_after old (log ++ e ∷ []) ≡ disk_step (disk_after old log) e
disk_more old [] e = refl
disk_more old (x ∷ log) e = disk_more (disk_step old x) log e

host_more : (c : Shape) (h : ℕ) (old : Host) (log : List Filled) (e : Filled) → host_after c h old (log ++ e ∷ []) ≡ host_step c h (host_after c h old log) e
host_more c h old [] e = refl
host_more c h old (x ∷ log) e = host_more c h (host_step c h old x) log e

last : (xs : List Placed) (at : ℕ) (e : Filled) → entries (xs ++ (at, e) ∷ []) ≡ entries xs ++ e ∷ []
last [] at e = refl
last (x ∷ xs) at e = ap (λ (l : List Filled). x.1 ∷ l) (last xs at e)

pub disk_adds : (c : Shape) (own : Own) (at : ℕ) (e : Filled) → disk_in c (adds own at e) ≡ disk_step (disk_in c own) e
disk_adds c own at e = ap (disk_after (opening_disk c)) (last own.entries at e) ∙ disk_more (opening_disk c) (entries own.entries) e

pub host_adds : (c : Shape) (own : Own) (at : ℕ) (e : Filled) → host_in c (adds own at e) ≡ host_step c own.number (host_in c own) e
host_adds c own at e = ap (host_after c own.number Stopped) (last own.entries at e) ∙ host_more c own.number Stopped (entries own.entries) e

receipts_more : (c : Shape) (h : ℕ) (host : Host) (before : List Receipt) (xs : List Placed) (at : ℕ) (e : Filled)
    → receipts_from c h host before (xs ++ (at, e) ∷ []) ≡ still (receipts_from c h host before xs) e ++ receipts_at c h (host_after c h host (entries xs)) at e
receipts_more c h host before [] at e = refl
receipts_more c h host before (x ∷ xs) at e = receipts_more c h (host_step c h host x.1) (still before x.1 ++ receipts_at c h host x.0 x.1) xs at e

pub receipts_adds : (c : Shape) (own : Own) (at : ℕ) (e : Filled) → receipts_of c (adds own at e) ≡ still (receipts_of c own) e ++ receipts_at c own.number (host_in c own) at e
receipts_adds c own at e = receipts_more c own.number Stopped [] own.entries at e
