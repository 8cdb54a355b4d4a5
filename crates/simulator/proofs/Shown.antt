-- The world behind an entry is what is kept then.
use Rattle.std.proofs.Common.{ℕ, ◌<◌, ◌≡◌, ◌==◌, true, false, Option, Some, None, List, [], ◌∷◌, ◌++◌, length, get_or, ◌≢◌, inl, inr, refl, sym, ap, ◌∙◌, subst, arith}
use Rattle.std.proofs.Math.ListN.{set, length-set}
use Rattle.disk.specs.Simulated.{SimState}
use Rattle.torn_block.specs.declared.layout.TheConstants.{HOSTS}
use Rattle.host.specs.Host.{Host, Stopped, Running, Memory, said_of}
use Rattle.host.specs.Kept as hosts
use Rattle.host.specs.declared.answer.HostAnswer.{HostAnswer}
use Rattle.world.specs.Entry.{Filled, is_on, is_of, disk_step, host_step}
use Rattle.world.specs.World.{world}
use Rattle.world.specs.Happens.{line, lines_after}
use Rattle.world.proofs.Projections.{host_here}
use Rattle.simulator.specs.declared.simulated_cluster.Said.{Said}
use Rattle.simulator.specs.Events.{lines_of}
use Rattle.simulator.specs.Kept.{Kept, calm, IsHost, Shows, LeadsTo, Brings}
use Rattle.std.specs.Option.{option_map}
use Rattle.std.proofs.lemmas.List.{get_or-set_same, get_or-set_other}
use Rattle.std.proofs.lemmas.Bool.{cases_Bool, eqb-true, eqb-false}
use Rattle.world.specs.Happens.{Event}
use Rattle.simulator.proofs.Changes.{one_disk, no_disk, one_host, no_host}
use Rattle.paxos_block.specs.Shape.{Shape}

-- WHAT IS KEPT OF A HOST

pub stopped_by : (c : Shape) (h : ℕ) (x : Host) → IsHost c h x None → x ≡ Stopped
stopped_by c h Stopped is = refl
stopped_by c h (Running m) is = absurd is

pub running_by : (c : Shape) (h : ℕ) (x : Host) (k : hosts.Kept) → IsHost c h x (Some k) → (m : Memory) × (x ≡ Running m) × hosts.LeadsTo c h m k
running_by c h Stopped k is = absurd is
running_by c h (Running m) k is = (m, refl, is)

-- what the code says of a host
abbrev pub saying : ℕ → Option HostAnswer → Option Said
saying h None = None
saying h (Some answer) = Some (record { host = h; answer = answer })

pub lines_said : (place h : ℕ) (o : Option HostAnswer) → lines_of place (saying h o) ≡ line place h o
lines_said place h None = refl
lines_said place h (Some answer) = refl

pub saying_is : (h : ℕ) (o : Option HostAnswer) → option_map (λ answer. record { host = h; answer = answer }) o ≡ saying h o
saying_is h None = refl
saying_is h (Some answer) = refl

-- an event of a host, named by another number of it
pub named : (event : ℕ → Event) (log : List Filled) (old new : Kept) (i h : ℕ) (o : Option HostAnswer) (said : Option Said)
    → i ≡ h → said ≡ option_map (λ answer. record { host = h; answer = answer }) o → Brings log (event i) old new (saying i o) → Brings log (event h) old new said
named event log old new i h o said same is brings =
    subst (λ (s : Option Said). Brings log (event h) old new s) (sym (is ∙ saying_is h o))
    (subst (λ (j : ℕ). Brings log (event j) old new (saying j o)) same brings)

-- each disk but one is as long as before
pub sized_set : (disks : List SimState) (count size k : ℕ) (left : SimState) → length disks ≡ count → k < count → length left.disk.bytes ≡ size
    → ((d : ℕ) (other : SimState) → d < count → length (get_or disks d other).disk.bytes ≡ size)
    → (d : ℕ) (other : SimState) → d < count → length (get_or (set disks k left) d other).disk.bytes ≡ size
sized_set disks count size k left as_many within is before d other inside =
    elim (cases_Bool (k == d)) [
      | inl here ↦
          (let same : k ≡ d = eqb-true k d here in
          let within' : k < length disks = omega arith in
          ap (λ (j : ℕ). length (get_or (set disks k left) j other).disk.bytes) (sym same)
          ∙ ap (λ (s : SimState). length s.disk.bytes) (get_or-set_same disks k left other within')
          ∙ is)
      | inr there ↦
          (let other_one : d ≢ k = λ p. eqb-false k d there (sym p) in
          ap (λ (s : SimState). length s.disk.bytes) (get_or-set_other disks k d left other other_one)
          ∙ before d other inside)
    ]

-- BEHIND AN ENTRY

module _ (log : List Filled) (old : Kept) (leads : LeadsTo log old) (e : Filled) where
  -- of a host alone
  pub by_host : (h : ℕ) (left : Option hosts.Kept) → h < HOSTS
      → ((d : ℕ) → is_on d e ≡ false) → ((g : ℕ) → is_of g e ≡ (h == g))
      → IsHost old.shape h (host_step old.shape h ((world old.shape log).host h) e) left
      → Shows (world old.shape (log ++ e ∷ [])) (record old { hosts = set old.hosts h left })
  by_host h left within off of is =
      let s = leads.shows in
      record {
        disk_count = s.disk_count;
        host_count = length-set old.hosts h left ∙ s.host_count;
        disks = no_disk old.shape log e old.disks off s.disks;
        hosts = one_host old.shape log e old.hosts h left s.host_count within of is s.hosts;
      }

  -- on a disk alone
  pub by_disk : (k : ℕ) (left : SimState) → k < old.shape.disks
      → ((d : ℕ) → is_on d e ≡ (k == d)) → ((g : ℕ) → is_of g e ≡ false)
      → left ≡ calm (disk_step ((world old.shape log).disk k) e)
      → Shows (world old.shape (log ++ e ∷ [])) (record old { disks = set old.disks k left })
  by_disk k left within on not_of is =
      let s = leads.shows in
      record {
        disk_count = length-set old.disks k left ∙ s.disk_count;
        host_count = s.host_count;
        disks = one_disk old.shape log e old.disks k left s.disk_count within on is s.disks;
        hosts = no_host old.shape log e old.hosts not_of s.hosts;
      }

  -- of a host, on a disk
  pub by_both : (h : ℕ) (left : Option hosts.Kept) → h < HOSTS → ((g : ℕ) → is_of g e ≡ (h == g))
      → IsHost old.shape h (host_step old.shape h ((world old.shape log).host h) e) left
      → (k : ℕ) (there : SimState) → k < old.shape.disks → ((d : ℕ) → is_on d e ≡ (k == d))
      → there ≡ calm (disk_step ((world old.shape log).disk k) e)
      → Shows (world old.shape (log ++ e ∷ [])) (record { shape = old.shape; disks = set old.disks k there; hosts = set old.hosts h left })
  by_both h left within of is k there inside on leaves =
      let s = leads.shows in
      record {
        disk_count = length-set old.disks k there ∙ s.disk_count;
        host_count = length-set old.hosts h left ∙ s.host_count;
        disks = one_disk old.shape log e old.disks k there s.disk_count inside on leaves s.disks;
        hosts = one_host old.shape log e old.hosts h left s.host_count within of is s.hosts;
      }

  -- what the host of the entry says then, where it runs
  pub says_by : (h : ℕ) (m : Memory) (k : hosts.Kept) → is_of h e ≡ true
      → host_step old.shape h ((world old.shape log).host h) e ≡ Running m
      → hosts.LeadsTo old.shape h m k
      → (place : ℕ) → lines_of place (saying h k.said) ≡ lines_after (world old.shape (log ++ e ∷ [])) place (Some h)
  says_by h m k of is kept place =
      lines_said place h k.said
      ∙ ap (line place h) (kept.said ∙ sym (ap said_of (host_here old.shape log e h of ∙ is)))

  -- and where it is stopped
  pub says_nothing_by : (h : ℕ) → is_of h e ≡ true
      → host_step old.shape h ((world old.shape log).host h) e ≡ Stopped
      → (place : ℕ) → lines_of place None ≡ lines_after (world old.shape (log ++ e ∷ [])) place (Some h)
  says_nothing_by h of is place = sym (ap (line place h) (ap said_of (host_here old.shape log e h of ∙ is)))
