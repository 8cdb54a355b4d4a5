-- What an event does to a simulated cluster, and that this is what it does in the world.
use Rattle.std.proofs.Common.{ℕ, ◌<◌, ◌≡◌, ◌≢◌, ◌==◌, false, Option, Some, None, List, [], ◌∷◌, ◌++◌, length, get_or, refl, sym, ap, ◌∙◌, subst, inl, inr, arith}
use Rattle.std.proofs.Math.ListN.{set}
use Rattle.std.proofs.lemmas.List.{get_or-set_same, get_or-set_other}
use Rattle.std.proofs.lemmas.Bool.{cases_Bool, eqb-true, eqb-false, eq-eqb}
use Rattle.disk.specs.Simulated.{SimState}
use Rattle.torn_block.specs.declared.layout.TheConstants.{HOSTS}
use Rattle.paxos_block.specs.Shape.{Shape}
use Rattle.host.specs.Host.{Host}
use Rattle.host.specs.Kept as hosts
use Rattle.world.specs.Entry.{Filled, is_on, is_of, disk_step, host_step}
use Rattle.world.specs.World.{world, IsRun}
use Rattle.world.specs.Happens.{Event, entry_of, with_entry, happens, host_of, lines_after, lines_at}
use Rattle.world.proofs.Projections.{disk_here, disk_there, host_here, host_there}
use Rattle.world.proofs.Runs as runs
use Rattle.simulator.specs.declared.simulated_cluster.Said.{Said}
use Rattle.simulator.specs.Events.{lines_of}
use Rattle.simulator.specs.Kept.{Kept, calm, IsHost, Shows, IsSized, LeadsTo, IsReached, Brings}

-- AN EVENT

module _ (log : List Filled) (old : Kept) (leads : LeadsTo log old) where
  -- one that does not apply changes nothing, and nothing is said
  pub nothing : (event : Event) → entry_of old.shape (world old.shape log) event ≡ None → Brings log event old old None
  nothing event none =
      record {
        shape = refl;
        leads = subst (λ (l : List Filled). LeadsTo l old) (sym (ap (with_entry log) none)) leads;
        says = λ place. sym (ap (lines_at old.shape log place) none);
      }

  -- one that applies appends its entry
  pub something : (event : Event) (e : Filled) (new : Kept) (said : Option Said)
      → entry_of old.shape (world old.shape log) event ≡ Some e
      → new.shape ≡ old.shape
      → Shows (world old.shape (log ++ e ∷ [])) new
      → IsSized new
      → ((place : ℕ) → lines_of place said ≡ lines_after (world old.shape (log ++ e ∷ [])) place (host_of e))
      → Brings log event old new said
  something event e new said is same shows sized says =
      let run : IsRun old.shape (log ++ e ∷ []) = runs.more old.shape log e leads.run (runs.follows old.shape log event e leads.run is) in
      let after : LeadsTo (log ++ e ∷ []) new =
      record {
        run = subst (λ (s : Shape). IsRun s (log ++ e ∷ [])) (sym same) run;
        shows = subst (λ (s : Shape). Shows (world s (log ++ e ∷ [])) new) (sym same) shows;
        sized = sized;
      } in
      record {
        shape = same;
        leads = subst (λ (l : List Filled). LeadsTo l new) (sym (ap (with_entry log) is)) after;
        says = λ place. says place ∙ sym (ap (lines_at old.shape log place) is);
      }

-- DISKS AND HOSTS BEHIND AN ENTRY

module _ (c : Shape) (log : List Filled) (e : Filled) where
  -- the entry is on one disk, and that is what it left
  pub one_disk : (disks : List SimState) (k : ℕ) (left : SimState)
      → length disks ≡ c.disks
      → k < c.disks
      → ((d : ℕ) → is_on d e ≡ (k == d))
      → left ≡ calm (disk_step ((world c log).disk k) e)
      → ((d : ℕ) (other : SimState) → d < c.disks → get_or disks d other ≡ calm ((world c log).disk d))
      → (d : ℕ) (other : SimState) → d < c.disks → get_or (set disks k left) d other ≡ calm ((world c (log ++ e ∷ [])).disk d)
  one_disk disks k left count within on is before d other inside =
      elim (cases_Bool (k == d)) [
        | inl here ↦
            (let same : k ≡ d = eqb-true k d here in
            let within' : k < length disks = omega arith in
            ap (λ (j : ℕ). get_or (set disks k left) j other) (sym same)
            ∙ get_or-set_same disks k left other within'
            ∙ is
            ∙ ap calm (ap (λ (j : ℕ). disk_step ((world c log).disk j) e) same ∙ sym (disk_here c log e d (on d ∙ here))))
        | inr there ↦
            (let other_one : d ≢ k = λ p. eqb-false k d there (sym p) in
            get_or-set_other disks k d left other other_one
            ∙ before d other inside
            ∙ ap calm (sym (disk_there c log e d (on d ∙ there))))
      ]

  -- the entry is on no disk
  pub no_disk : (disks : List SimState)
      → ((d : ℕ) → is_on d e ≡ false)
      → ((d : ℕ) (other : SimState) → d < c.disks → get_or disks d other ≡ calm ((world c log).disk d))
      → (d : ℕ) (other : SimState) → d < c.disks → get_or disks d other ≡ calm ((world c (log ++ e ∷ [])).disk d)
  no_disk disks off before d other inside = before d other inside ∙ ap calm (sym (disk_there c log e d (off d)))

  -- the entry is of one host, and that is what it left
  pub one_host : (kept : List (Option hosts.Kept)) (g : ℕ) (left : Option hosts.Kept)
      → length kept ≡ HOSTS
      → g < HOSTS
      → ((h : ℕ) → is_of h e ≡ (g == h))
      → IsHost c g (host_step c g ((world c log).host g) e) left
      → ((h : ℕ) → IsHost c h ((world c log).host h) (get_or kept h None))
      → (h : ℕ) → IsHost c h ((world c (log ++ e ∷ [])).host h) (get_or (set kept g left) h None)
  one_host kept g left count within of is before h =
      elim (cases_Bool (g == h)) [
        | inl here ↦
            (let same : g ≡ h = eqb-true g h here in
            let within' : g < length kept = omega arith in
            let now : (world c (log ++ e ∷ [])).host g ≡ host_step c g ((world c log).host g) e = host_here c log e g (of g ∙ eq-eqb g g refl) in
            let put : get_or (set kept g left) g None ≡ left = get_or-set_same kept g left None within' in
            let there : IsHost c g ((world c (log ++ e ∷ [])).host g) (get_or (set kept g left) g None) =
            subst (λ (w : Host). IsHost c g w (get_or (set kept g left) g None)) (sym now)
            (subst (λ (o : Option hosts.Kept). IsHost c g (host_step c g ((world c log).host g) e) o) (sym put) is) in
            subst (λ (j : ℕ). IsHost c j ((world c (log ++ e ∷ [])).host j) (get_or (set kept g left) j None)) same there)
        | inr there ↦
            (let other_one : h ≢ g = λ p. eqb-false g h there (sym p) in
            let now : (world c (log ++ e ∷ [])).host h ≡ (world c log).host h = host_there c log e h (of h ∙ there) in
            let kept_is : get_or (set kept g left) h None ≡ get_or kept h None = get_or-set_other kept g h left None other_one in
            subst (λ (w : Host). IsHost c h w (get_or (set kept g left) h None)) (sym now)
            (subst (λ (o : Option hosts.Kept). IsHost c h ((world c log).host h) o) (sym kept_is) (before h)))
      ]

  -- the entry is of no host
  pub no_host : (kept : List (Option hosts.Kept))
      → ((h : ℕ) → is_of h e ≡ false)
      → ((h : ℕ) → IsHost c h ((world c log).host h) (get_or kept h None))
      → (h : ℕ) → IsHost c h ((world c (log ++ e ∷ [])).host h) (get_or kept h None)
  no_host kept off before h =
      subst (λ (w : Host). IsHost c h w (get_or kept h None)) (sym (host_there c log e h (off h))) (before h)

-- WHAT THE CODE OWES

-- what is reached is reached again
pub reached : (event : Event) (old new : Kept) (said : Option Said) → IsReached old → ((log : List Filled) → LeadsTo log old → Brings log event old new said) → IsReached new
reached event old new said is brings = record { log = happens old.shape is.log event; leads = (brings is.log is.leads).leads }

-- the same of what was kept before, under its other name
pub seen : (event : Event) (old now new : Kept) (said : Option Said) → old ≡ now → ((log : List Filled) → LeadsTo log old → Brings log event old new said)
    → (log : List Filled) → LeadsTo log now → Brings log event now new said
seen event old now new said same brings = subst (λ (k : Kept). (log : List Filled) → LeadsTo log k → Brings log event k new said) same brings

pub unseen : (event : Event) (old now : Kept) (said : Option Said) → old ≡ now → ((log : List Filled) → LeadsTo log old → Brings log event old old said) → (log : List Filled)
    → LeadsTo log now → Brings log event now now said
unseen event old now said same brings = subst (λ (k : Kept). (log : List Filled) → LeadsTo log k → Brings log event k k said) same brings
