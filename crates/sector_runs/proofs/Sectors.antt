-- What a touch makes of sectors, and that two blocks have two sectors.
use Rattle.std.specs.Prelude.{◌≡◌, ◌≢◌, ◌==◌, ◌+◌, ◌*◌, ◌<◌, ℕ, Bool, true, false, List, ◌∷◌, Option, None, Some, if◌then◌else◌}
use Rattle.std.proofs.Common.{refl, sym, ◌∙◌, ap, arith, inl, inr}
use Rattle.std.proofs.lemmas.Bool.{cases_order, eqb-true}
use Rattle.std.proofs.lemmas.Bool.Decides.{nat_tests}
use Rattle.torn_block.specs.Layout.{cluster_version}
use Rattle.paxos_block.specs.Places.{Spot, BeatOf, VoteOf, place_of}
use Rattle.sectors.specs.declared.geometry.Geometry.{Geometry}
use Rattle.sectors.specs.Moments.{Sectors, Touch, Sees, Puts, Tries, Keeps, changed}
use Rattle.sectors.specs.Geometry.{IsGeometry}
use Rattle.sectors.specs.Places.{IsSpot, IsWithin}
use Rattle.sectors.proofs.Shapes.{they_follow, one_more}
use Rattle.sector_runs.specs.Device.{Device, GoesBy, noted, sector_of}
use Rattle.sector_runs.specs.Owning.{host_of, IsOfHost}

-- ONE SECTOR

pub is_itself : (n : ℕ) → (n == n) ≡ true
is_itself n = grind (arith, nat_tests)

pub changed_here : (s : ℕ) (bytes : List ℕ) (old : Sectors) → changed s bytes old s ≡ bytes
changed_here s bytes old = ap (λ (b : Bool). if b then bytes else old s) (is_itself s)

unlike : (s t : ℕ) → s ≢ t → (t == s) ≡ false
unlike s t off = by (t == s) refl
  where
    by : (b : Bool) → (t == s) ≡ b → b ≡ false
    by true is = absurd (off (sym (eqb-true t s is)))
    by false is = refl

pub changed_there : (s t : ℕ) (bytes : List ℕ) (old : Sectors) → s ≢ t → changed s bytes old t ≡ old t
changed_there s t bytes old off = ap (λ (b : Bool). if b then bytes else old t) (unlike s t off)

pub noted_here : (s : ℕ) (bytes : List ℕ) (old : Device) → noted s bytes old s ≡ (old.now s ∷ bytes ∷ old.since s)
noted_here s bytes old = ap (λ (b : Bool). if b then old.now s ∷ bytes ∷ old.since s else old.since s) (is_itself s)

pub noted_there : (s t : ℕ) (bytes : List ℕ) (old : Device) → s ≢ t → noted s bytes old t ≡ old.since t
noted_there s t bytes old off = ap (λ (b : Bool). if b then old.now t ∷ bytes ∷ old.since t else old.since t) (unlike s t off)

-- by this touch the sector is not written
abbrev pub Spares : ℕ → Option Touch → Type 0
Spares s None = Unit {0}
Spares s (Some (Sees t bytes)) = Unit {0}
Spares s (Some (Puts t bytes)) = t ≢ s
Spares s (Some (Tries t bytes)) = t ≢ s
Spares s (Some Keeps) = Unit {0}

-- a sector that a touch spares is as it was
pub spared : (s : ℕ) (by : Option Touch) (old new : Device) → GoesBy by old new → Spares s by → new.now s ≡ old.now s
spared s None old new goes spares = ap (λ (d : Device). d.now s) goes
spared s (Some (Sees t bytes)) old new goes spares = ap (λ (f : Sectors). f s) goes.0.1
spared s (Some (Puts t bytes)) old new goes spares = ap (λ (f : Sectors). f s) goes.0 ∙ changed_there t s bytes old.now spares
spared s (Some (Tries t bytes)) old new (inl kept, since, gone) spares = ap (λ (f : Sectors). f s) kept
spared s (Some (Tries t bytes)) old new (inr put, since, gone) spares = ap (λ (f : Sectors). f s) put ∙ changed_there t s bytes old.now spares
spared s (Some Keeps) old new goes spares = ap (λ (f : Sectors). f s) goes.0

-- NUMBERS

-- two blocks have two sectors
pub sectors_apart : (geometry : Geometry) (a b : Spot) → IsSpot geometry a → IsSpot geometry b → a ≢ b → sector_of geometry a ≢ sector_of geometry b
sectors_apart g (BeatOf h) (BeatOf k) is_a is_b differ same = differ (ap BeatOf same)
sectors_apart g (BeatOf h) (VoteOf t k) is_a is_b differ same = absurd (omega (arith, one_more g.hosts t, is_a, same))
sectors_apart g (VoteOf s h) (BeatOf k) is_a is_b differ same = absurd (omega (arith, one_more g.hosts s, is_b, same))
sectors_apart g (VoteOf s h) (VoteOf t k) is_a is_b differ same =
    elim (cases_order s t) [
      | inl slot ↦
          (let rows : g.hosts * (s + 1) ≡ g.hosts * (t + 1) = ap (λ (n : ℕ). g.hosts * (n + 1)) slot in
          let host : h ≡ k = omega (arith, rows, same) in
          differ (λ i. VoteOf (slot i) (host i)))
      | inr (inl below) ↦ absurd (omega (arith, they_follow g.hosts (s + 1) (t + 1) (omega (arith, below)), is_a.1, same))
      | inr (inr above) ↦ absurd (omega (arith, they_follow g.hosts (t + 1) (s + 1) (omega (arith, above)), is_b.1, same))
    ]

-- and those of two hosts have, too
pub hosts_apart : (geometry : Geometry) (a b : Spot) → IsSpot geometry a → IsSpot geometry b → host_of a ≢ host_of b → sector_of geometry a ≢ sector_of geometry b
hosts_apart geometry a b is_a is_b differ = sectors_apart geometry a b is_a is_b (λ same. differ (ap host_of same))

-- bytes of a block that begin in a host's own block are of that host's block
pub own_block : (geometry : Geometry) → IsGeometry geometry → (a : Spot) (offset at long h : ℕ) → IsSpot geometry a → IsWithin a offset at long → IsOfHost h at → host_of a ≡ h
own_block geometry is a offset at long h is_a within own = by a own.spot is_a within.here within.begins own.here own.begins own.below own.own
  where
    by : (a b : Spot) → IsSpot geometry a → at ≡ place_of cluster_version a + offset → offset < 256 → at ≡ place_of cluster_version b + own.offset → own.offset < 256 → h < 16 → host_of b ≡ h → host_of a ≡ h
    by (BeatOf g) (BeatOf k) is_a here begins there begin below same = (let few = is.hosts.1 in omega (arith, is_a, few, here, begins, there, begin, below, same))
    by (BeatOf g) (VoteOf t k) is_a here begins there begin below same = (let few = is.hosts.1 in absurd (omega (arith, is_a, few, here, begins, there, begin, below, same)))
    by (VoteOf s g) (BeatOf k) is_a here begins there begin below same = (let few = is.hosts.1 in absurd (omega (arith, is_a, few, here, begins, there, begin, below, same)))
    by (VoteOf s g) (VoteOf t k) is_a here begins there begin below same = (let few = is.hosts.1 in let own_one = is_a.1 in omega (arith, own_one, few, here, begins, there, begin, below, same))
