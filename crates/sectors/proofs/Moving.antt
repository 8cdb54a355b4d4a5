-- Stamps only rise, so two reads that agree saw one and the same write.
use Rattle.std.specs.Prelude.{◌≡◌, ◌⊎◌, ◌==◌, ◌+◌, ◌<◌, ℕ, Bool, true, false, List, [], ◌∷◌, ◌++◌, drop, if◌then◌else◌}
use Rattle.std.proofs.Common.{refl, sym, ◌∙◌, ap, subst, arith, inl, inr}
use Rattle.std.proofs.lemmas.Bool.{eqb-true}
use Rattle.byteorder.specs.Endian.{big_number}
use Rattle.byteorder.specs.Numbers.{big_from-take}
use Rattle.std.proofs.lemmas.List.{drop-take}
use Rattle.paxos_block.specs.Saying.{number_at}
use Rattle.sectors.specs.declared.geometry.Geometry.{Geometry}
use Rattle.sectors.specs.Moments.{Sectors, Touch, Sees, Puts, Tries, Keeps, Goes, IsStamped, WritesStamped, Raises, Leads, IsSeen}
use Rattle.sectors.specs.Row.{sector_in, Agree}
use Rattle.sectors.specs.Sector.{stamp_of, stamped_of}
use Rattle.sectors.proofs.SectorLaws.{stamp_with}

-- as it was, or under a greater stamp
abbrev Risen : List ℕ → List ℕ → Type 0
Risen old new = (new ≡ old) ⊎ (stamp_of old < stamp_of new)

further : (old middle new : List ℕ) → Risen old middle → Risen middle new → Risen old new
further old middle new (inl same) (inl kept) = inl (kept ∙ same)
further old middle new (inl same) (inr more) = inr (omega (arith, ap stamp_of same, more))
further old middle new (inr more) (inl kept) = inr (omega (arith, ap stamp_of kept, more))
further old middle new (inr more) (inr again) = inr (omega (arith, more, again))

-- a stamped write of one sector
at_change : (b : Bool) (old bytes : List ℕ) → IsStamped old bytes → Risen old (if b then bytes else old)
at_change false old bytes is = inl refl
at_change true old bytes is =
    let stamp = ap stamp_of is.made ∙ stamp_with old is.from is.offset is.within (omega (arith, is.long)) is.unspent in
    inr (omega (arith, stamp))

rise_by : (s t : ℕ) (old : Sectors) (bytes : List ℕ) → IsStamped (old s) bytes → (b : Bool) → (t == s) ≡ b → Risen (old t) (if b then bytes else old t)
rise_by s t old bytes is false other = inl refl
rise_by s t old bytes is true same =
    at_change true (old t) bytes (subst (λ (n : ℕ). IsStamped (old n) bytes) (sym (eqb-true t s same)) is)

one_rises : (t : ℕ) (old new : Sectors) (touch : Touch) → Goes old touch new → WritesStamped old touch → Risen (old t) (new t)
one_rises t old new (Sees s bytes) goes writes = inl (ap (λ (f : Sectors). f t) goes.1)
one_rises t old new (Puts s bytes) goes writes =
    subst (Risen (old t)) (sym (ap (λ (f : Sectors). f t) goes)) (rise_by s t old bytes writes (t == s) refl)
one_rises t old new (Tries s bytes) (inl kept) writes = inl (ap (λ (f : Sectors). f t) kept)
one_rises t old new (Tries s bytes) (inr written) writes =
    subst (Risen (old t)) (sym (ap (λ (f : Sectors). f t) written)) (rise_by s t old bytes writes (t == s) refl)
one_rises t old new Keeps goes writes = inl (ap (λ (f : Sectors). f t) goes)

pub rises : (old new : Sectors) (touches : List Touch) → Leads old touches new → Raises old new
rises old new [] leads t = inl (ap (λ (f : Sectors). f t) leads)
rises old new (x ∷ xs) leads t =
    further (old t) (leads.0 t) (new t) (one_rises t old leads.0 x leads.1 leads.2) (rises leads.0 new xs leads.3 t)

-- the stamp is among what a reader looks at
stamp_in_stamped : (sector : List ℕ) → stamp_of sector ≡ number_at 0 (drop 256 (stamped_of sector))
unfolding number_at
stamp_in_stamped sector =
    sym (ap (big_number 8) (drop-take 256 8 sector) ∙ big_from-take 0 8 8 (drop 256 sector) (omega arith))

same_stamp : (one other : List ℕ) → stamped_of one ≡ stamped_of other → stamp_of one ≡ stamp_of other
same_stamp one other same =
    stamp_in_stamped one ∙ ap (λ (l : List ℕ). number_at 0 (drop 256 l)) same ∙ sym (stamp_in_stamped other)

between : (old middle new : List ℕ) → Risen old middle → Risen middle new → stamp_of new ≡ stamp_of old → middle ≡ old
between old middle new (inl same) later agree = same
between old middle new (inr more) (inl kept) agree = absurd (omega (arith, more, ap stamp_of kept, agree))
between old middle new (inr more) (inr again) agree = absurd (omega (arith, more, again, agree))

pub agrees : (old middle new : Sectors) (first second : List Touch) (s : ℕ) → Leads old first middle → Leads middle second new → stamped_of (new s) ≡ stamped_of (old s) → middle s ≡ old s
agrees old middle new first second s before after agree =
    between (old s) (middle s) (new s) (rises old middle first before s) (rises middle new second after s) (same_stamp (new s) (old s) agree)

-- ---- a row that is read twice

parted : (old new : Sectors) (xs ys : List Touch) → Leads old (xs ++ ys) new → (mid : Sectors) × Leads old xs mid × Leads mid ys new
parted old new [] ys leads = (old, refl, leads)
parted old new (x ∷ xs) ys leads =
    let rest = parted leads.0 new xs ys leads.3 in
    (rest.0, (leads.0, leads.1, leads.2, rest.1), rest.2)

-- where a sector is seen, the touches before lead to it as it was seen, and those from there on lead further
seen : (s : ℕ) (bytes : List ℕ) (old new : Sectors) (touches : List Touch) → Leads old touches new → (is : IsSeen s bytes touches) → (mid : Sectors) × Leads old is.before mid × Leads mid (Sees s bytes ∷ is.after) new × (bytes ≡ mid s)
seen s bytes old new touches leads is =
    let both = parted old new is.before (Sees s bytes ∷ is.after) (subst (λ (l : List Touch). Leads old l new) is.same leads) in
    (both.0, both.1, both.2, both.2.1.0)

pub moments : (geometry : Geometry) (one other : List ℕ) (base : ℕ) (old middle new : Sectors) (first second : List Touch) → Leads old first middle → Leads middle second new →
    ((host : ℕ) → host < geometry.hosts → IsSeen (base + host) (sector_in geometry host one) first) → ((host : ℕ) → host < geometry.hosts → IsSeen (base + host) (sector_in geometry host other) second) →
    Agree geometry one other → (host : ℕ) → host < geometry.hosts → middle (base + host) ≡ sector_in geometry host one
moments geometry one other base old middle new first second before after once again agree host below =
    let s = base + host in
    let early = seen s (sector_in geometry host one) old middle first before (once host below) in
    let late = seen s (sector_in geometry host other) middle new second after (again host below) in
    agrees early.0 middle late.0 (Sees s (sector_in geometry host one) ∷ (once host below).after) (again host below).before s early.2 late.1
    (ap stamped_of (sym late.3) ∙ sym (agree host below) ∙ ap stamped_of early.3)
    ∙ sym early.3
