-- What is kept is what a world shows, after more entries.
use Rattle.std.specs.Prelude.{if◌then◌else◌}
use Rattle.std.proofs.Common.{ℕ, ◌<◌, ◌≡◌, ◌≢◌, ◌==◌, Bool, List, ◌++◌, length, get_or, set, slice_get, Some, sym, ap, ◌∙◌, subst, arith, inl, inr}
use Rattle.std.proofs.lemmas.Bool.{cases_Bool, eqb-true, eqb-false}
use Rattle.std.proofs.lemmas.List.{get_or-set_same, get_or-set_other, length-set}
use Rattle.disk.specs.Disk.{DiskState}
use Rattle.disk.specs.Simulated.{SimState}
use Rattle.torn_block.specs.declared.layout.TheConstants.{HOSTS}
use Rattle.paxos_block.specs.Shape.{Shape}
use Rattle.standings.specs.Epochs.{whole_length}
use Rattle.epoch_deeds.specs.Deeds.{Deeds}
use Rattle.epoch_deeds.specs.Knowing.{image_of}
use Rattle.epoch_host.specs.declared.walk.Walk.{Walk}
use Rattle.epoch_host.specs.Leading as leading
use Rattle.epoch_runs.specs.World.{Entry, World, opening, with_disk}
use Rattle.epoch_simulator.specs.Kept.{Kept, LeadsTo, GoesTo, calm}
use Rattle.epoch_simulator.proofs.Entries.{Goes, goes_both}
use Rattle.epoch_simulator.proofs.Lists.{get_same, get_other}

-- DISKS

-- the simulated disks are these, and each is whole
pub record AreShown (c : Shape) (disk : ℕ → DiskState) (disks : List SimState) : Type 0 where
  pub count : length disks ≡ c.disks
  pub are : (d : ℕ) (other : SimState) → d < c.disks → get_or disks d other ≡ calm (disk d)
  pub whole : (d : ℕ) (other : SimState) → d < c.disks → length (get_or disks d other).disk.bytes ≡ whole_length (image_of c)

pub shown_by : (entries : List Entry) (k : Kept) (led : LeadsTo entries k) → AreShown k.shape led.world.disk k.disks
shown_by entries k led = record { count = led.shows.disk_count; are = led.shows.disks; whole = led.whole }

module _ (c : Shape) (disk : ℕ → DiskState) (disks : List SimState) (are : AreShown c disk disks) where
  -- what is read of a disk there
  module _ (d : ℕ) (inside : d < c.disks) (x : SimState) (value : x ≡ get_or disks d x) where
    pub is_calm : x ≡ calm (disk d)
    is_calm = value ∙ are.are d x inside

    pub is_whole : length x.disk.bytes ≡ whole_length (image_of c)
    is_whole = ap (λ (s : SimState). length s.disk.bytes) value ∙ are.whole d x inside

  -- one disk is another
  pub disk_set : (k : ℕ) (left : SimState) → k < c.disks → left ≡ calm left.disk → length left.disk.bytes ≡ whole_length (image_of c) → AreShown c (with_disk disk k left.disk) (set disks k left)
  disk_set k left inside is long =
      let within : k < length disks = omega (arith, inside, are.count) in
      record {
        count = length-set disks k left ∙ are.count;
        are = λ d other below.
            elim (cases_Bool (d == k)) [
              | inl here ↦
                  (let same : d ≡ k = eqb-true d k here in
                  ap (λ (j : ℕ). get_or (set disks k left) j other) same ∙ get_or-set_same disks k left other within ∙ is
                  ∙ ap calm (sym (ap (λ (b : Bool). if b then left.disk else disk d) here)))
              | inr there ↦
                  (let not : d ≢ k = eqb-false d k there in
                  get_or-set_other disks k d left other not ∙ are.are d other below ∙ ap calm (sym (ap (λ (b : Bool). if b then left.disk else disk d) there)))
            ];
        whole = λ d other below.
            elim (cases_Bool (d == k)) [
              | inl here ↦
                  (let same : d ≡ k = eqb-true d k here in
                  ap (λ (s : SimState). length s.disk.bytes) (ap (λ (j : ℕ). get_or (set disks k left) j other) same ∙ get_or-set_same disks k left other within) ∙ long)
              | inr there ↦
                  (let not : d ≢ k = eqb-false d k there in
                  ap (λ (s : SimState). length s.disk.bytes) (get_or-set_other disks k d left other not) ∙ are.whole d other below)
            ];
      }

-- HOSTS

-- some is some
same_some : (a b : Walk) → Some a ≡ Some b → a ≡ b
same_some a b is = cc

-- what each host did leads to what is kept of it, where one is another
pub hosts_set : (c : Shape) (old new : ℕ → Deeds) (hosts : List Walk) (h : ℕ) (own : Walk) → h < length hosts → leading.LeadsTo c h (new h) own → ((g : ℕ) → g ≢ h → new g ≡ old g)
    → ((g : ℕ) (w : Walk) → slice_get hosts g ≡ Some w → leading.LeadsTo c g (old g) w) → (g : ℕ) (w : Walk) → slice_get (set hosts h own) g ≡ Some w → leading.LeadsTo c g (new g) w
hosts_set c old new hosts h own inside leads others all g w is =
    elim (cases_Bool (g == h)) [
      | inl here ↦
          (let same : g ≡ h = eqb-true g h here in
          let at_h : slice_get (set hosts h own) h ≡ Some w = ap (slice_get (set hosts h own)) (sym same) ∙ is in
          let w_is : own ≡ w = same_some own w (sym (get_same hosts h own inside) ∙ at_h) in
          subst (λ (x : Walk). leading.LeadsTo c g (new g) x) w_is (subst (λ (i : ℕ). leading.LeadsTo c i (new i) own) (sym same) leads))
      | inr there ↦
          (let not : g ≢ h = eqb-false g h there in
          subst (λ (deeds : Deeds). leading.LeadsTo c g deeds w) (sym (others g not)) (all g w (sym (get_other hosts h g own not) ∙ is)))
    ]

-- AND THEN MORE

module _ (entries : List Entry) (k : Kept) (led : LeadsTo entries k) where
  -- more entries lead on, and the world is then what is kept
  pub leads_then : (new : World) (more : List Entry) (disks : List SimState) (hosts : List Walk) → GoesTo k.shape led.world more new → ((d : ℕ) → new.first d ≡ led.world.first d) → AreShown k.shape new.disk disks → length hosts ≡ HOSTS
      → ((g : ℕ) (w : Walk) → slice_get hosts g ≡ Some w → leading.LeadsTo k.shape g (new.deeds g) w) → LeadsTo (entries ++ more) (record { shape = k.shape; disks = disks; hosts = hosts })
  leads_then new more disks hosts goes firsts are count all =
      record {
        world = new;
        goes = goes_both k.shape (opening k.shape) led.world new entries more led.goes goes;
        shows = record { disk_count = are.count; host_count = count; disks = are.are; hosts = all; firsts = λ d. firsts d ∙ led.shows.firsts d };
        whole = are.whole;
      }

  -- so it is where one host did more
  pub host_then : (h : ℕ) (more : List Entry) (deeds : Deeds) (disk : ℕ → DiskState) (disks : List SimState) (own : Walk) → h < HOSTS → Goes k.shape h led.world more deeds disk → AreShown k.shape disk disks
      → leading.LeadsTo k.shape h deeds own → LeadsTo (entries ++ more) (record { shape = k.shape; disks = disks; hosts = set k.hosts h own })
  host_then h more deeds disk disks own inside goes are leads =
      let within : h < length k.hosts = omega (arith, inside, led.shows.host_count) in
      leads_then goes.new more disks (set k.hosts h own) goes.goes goes.firsts
      (record { count = are.count; are = λ d other below. are.are d other below ∙ ap calm (sym (goes.disks d)); whole = are.whole })
      (length-set k.hosts h own ∙ led.shows.host_count)
      (hosts_set k.shape led.world.deeds goes.new.deeds k.hosts h own within (subst (λ (ds : Deeds). leading.LeadsTo k.shape h ds own) (sym goes.own) leads) goes.others led.shows.hosts)
