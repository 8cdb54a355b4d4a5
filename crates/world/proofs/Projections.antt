-- An entry is a step of its own disk and of its own host, and changes no other.
use Rattle.std.specs.Prelude.{filter}
use Rattle.std.proofs.Common.{ℕ, ◌≡◌, Bool, true, false, cond, List, [], ◌∷◌, ◌++◌, refl, ap, ◌∙◌, append-nil}
use Rattle.std.proofs.lemmas.List.Elements.{filter-append}
use Rattle.disk.specs.Disk.{DiskState}
use Rattle.paxos_block.specs.Shape.{Shape}
use Rattle.host.specs.Host.{Host, Stopped}
use Rattle.world.specs.Entry.{Filled, is_on, is_of, on_disk, of_host, disk_step, disk_after, host_step, host_after}
use Rattle.world.specs.World.{opening_disk, world}

-- what an entry more makes of a disk, and of a host
disk_more : (old : DiskState) (es : List Filled) (e : Filled) → disk_after old (es ++ e ∷ []) ≡ disk_step (disk_after old es) e
disk_more old [] e = refl
disk_more old (x ∷ es) e = disk_more (disk_step old x) es e

host_more : (c : Shape) (h : ℕ) (old : Host) (es : List Filled) (e : Filled) → host_after c h old (es ++ e ∷ []) ≡ host_step c h (host_after c h old es) e
host_more c h old [] e = refl
host_more c h old (x ∷ es) e = host_more c h (host_step c h old x) es e

-- an entry more among those that pass a test
filter_one : (test : Filled → Bool) (log : List Filled) (e : Filled) (b : Bool) → test e ≡ b → filter test (log ++ e ∷ []) ≡ filter test log ++ cond b (e ∷ []) []
filter_one test log e b is = filter-append test log (e ∷ []) ∙ ap (λ (t : Bool). filter test log ++ cond t (e ∷ []) []) is

module _ (c : Shape) (log : List Filled) (e : Filled) where
  pub disk_here : (k : ℕ) → is_on k e ≡ true → (world c (log ++ e ∷ [])).disk k ≡ disk_step ((world c log).disk k) e
  disk_here k is = ap (disk_after (opening_disk c)) (filter_one (is_on k) log e true is) ∙ disk_more (opening_disk c) (on_disk k log) e

  pub disk_there : (k : ℕ) → is_on k e ≡ false → (world c (log ++ e ∷ [])).disk k ≡ (world c log).disk k
  disk_there k is = ap (disk_after (opening_disk c)) (filter_one (is_on k) log e false is ∙ append-nil (on_disk k log))

  pub host_here : (h : ℕ) → is_of h e ≡ true → (world c (log ++ e ∷ [])).host h ≡ host_step c h ((world c log).host h) e
  host_here h is = ap (host_after c h Stopped) (filter_one (is_of h) log e true is) ∙ host_more c h Stopped (of_host h log) e

  pub host_there : (h : ℕ) → is_of h e ≡ false → (world c (log ++ e ∷ [])).host h ≡ (world c log).host h
  host_there h is = ap (host_after c h Stopped) (filter_one (is_of h) log e false is ∙ append-nil (of_host h log))
