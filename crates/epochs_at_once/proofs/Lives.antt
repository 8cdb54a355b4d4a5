-- What hosts live in all epochs, as one log without an end: with bytes that faults left, and over losses of power with later boot numbers.
use Rattle.std.specs.Prelude.{◌^◌, map, take, slice_get, option_map}
use Rattle.std.proofs.Common.{ℕ, zero, suc, ◌≡◌, ◌==◌, ◌+◌, ◌<◌, ◌≤◌, Bool, true, false, cond, Some, List, [], ◌∷◌, length, refl, sym, ◌∙◌, ap, ap₂, subst}
use Rattle.std.proofs.lemmas.Bool.{eqb-true}
use Rattle.lock_command.specs.declared.record.TheConstants.{LOCKS}
use Rattle.lock_table.specs.declared.clients.TheConstants.{CLIENTS}
use Rattle.paxos_block.specs.Shape.{Shape}
use Rattle.host.specs.declared.task.Task.{Task}
use Rattle.host.specs.Host.{Memory, Host, Stopped, Running, learned_of, said_of}
use Rattle.world.specs.Entry.{Filled, Begin, Called, Torn, Crashed, Lost, of_host, host_after}
use Rattle.world.specs.World.{IsRun}
use Rattle.world.specs.Chosen.{at, migrated}
use Rattle.at_once.specs.AtOnce.{bare}
use Rattle.at_once.specs.Power.{entry_later, losses_with, renumbered_from, renumbered}
use Rattle.at_once.proofs.RenumberedHosts.{doing_later, memory_later, host_later}
use Rattle.endless.specs.Headline.{HasOneLogWithoutEnd}
use Rattle.endless.specs.Lived.{Lived, In, Crash, Loss, part, now}
use Rattle.endless.specs.WithoutEnd.{host_by, raised_from}
use Rattle.endless.proofs.Alike.{knows_later, deeds_later}
use Rattle.endless.proofs.WithoutEnd.{none_migrated}
use Rattle.epoch_runs.specs.Living.{lived_of}
use Rattle.epoch_runs.specs.World.{Entry, model_crashes, power_losses, Goes}
use Rattle.epoch_runs.proofs.Keeping.{hosts_have_one_log, hosts_have_one_log_over_losses}
use Rattle.epoch_runs.proofs.Shared.{deeds_are_shared, deeds_are_shared_over_losses}
use Rattle.epochs_at_once.proofs.Runs.{IsIdle}

-- HOSTS

-- one host has learned and says what the other does, and is idle where the other is
pub record IsLike (one other : Host) : Type 0 where
  pub said : said_of other ≡ said_of one
  pub learned : learned_of other ≡ learned_of one
  pub runs : (m : Memory) → one ≡ Running m → (n : Memory) × (other ≡ Running n)
  pub idle : IsIdle one → IsIdle other

like_same : (one other : Host) → other ≡ one → IsLike one other
like_same one other same =
    record {
      said = ap said_of same;
      learned = ap learned_of same;
      runs = λ m is. (m, same ∙ is);
      idle = λ idle. subst IsIdle (sym same) idle;
    }

-- so it is under later boot numbers
said_later : (losses : ℕ → ℕ) (host : Host) → said_of (host_later losses host) ≡ said_of host
said_later losses Stopped = refl
said_later losses (Running m) = refl

learned_later : (losses : ℕ → ℕ) (host : Host) → learned_of (host_later losses host) ≡ learned_of host
learned_later losses Stopped = refl
learned_later losses (Running m) = refl

idle_later : (losses : ℕ → ℕ) (host : Host) → IsIdle host → IsIdle (host_later losses host)
idle_later losses Stopped idle = tt
idle_later losses (Running m) idle = ap (option_map (doing_later losses)) idle

like_later : (losses : ℕ → ℕ) (one other : Host) → other ≡ host_later losses one → IsLike one other
like_later losses one other same =
    record {
      said = ap said_of same ∙ said_later losses one;
      learned = ap learned_of same ∙ learned_later losses one;
      runs = λ m is. (memory_later losses m, same ∙ ap (host_later losses) is);
      idle = λ idle. subst IsIdle (sym same) (idle_later losses one idle);
    }

-- TASKS

-- a task that is begun in the one is begun there in the other
abbrev BeginsToo : List Filled → List Filled → Type 0
BeginsToo one other = (p h : ℕ) (task : Task) → slice_get one p ≡ Some (Begin h task) → slice_get other p ≡ Some (Begin h task)

bare_begins : (x : Filled) (h : ℕ) (task : Task) → bare x ≡ Begin h task → x ≡ Begin h task
bare_begins (Begin g given) h task is = is
bare_begins other h task is = absurd (cc)

begins_same : (run log : List Filled) → map bare run ≡ map bare log → BeginsToo run log
begins_same [] log same p h task found = absurd (cc)
begins_same (x ∷ run) [] same p h task found = absurd (cc)
begins_same (x ∷ run) (y ∷ log) same zero h task found =
    let is : x ≡ Begin h task = cc in
    let one : bare y ≡ bare x = cc in
    ap (λ (z : Filled). Some z) (bare_begins y h task (one ∙ ap bare is))
begins_same (x ∷ run) (y ∷ log) same (suc p) h task found = begins_same run log (let rest : map bare run ≡ map bare log = cc in rest) p h task found

later_begins : (losses : ℕ → ℕ) (x : Filled) (h : ℕ) (task : Task) → entry_later losses x ≡ Begin h task → x ≡ Begin h task
later_begins losses (Called g k call answer left) h task is = absurd (cc)
later_begins losses (Torn g k call left) h task is = absurd (cc)
later_begins losses other h task is = is

begins_later : (losses : ℕ → ℕ) (log : List Filled) → BeginsToo (renumbered_from losses log) log
begins_later losses [] p h task found = absurd (cc)
begins_later losses (x ∷ log) zero h task found = let is : entry_later losses x ≡ Begin h task = cc in ap (λ (z : Filled). Some z) (later_begins losses x h task is)
begins_later losses (x ∷ log) (suc p) h task found = begins_later (losses_with losses x) log p h task found

-- EACH EPOCH WITH LATER NUMBERS

later_either : (epoch e : ℕ) (entry : Filled) (log rest : List Filled) (losses : ℕ → ℕ → ℕ) (b : Bool) → (epoch == e) ≡ b → rest ≡ renumbered_from (cond b (losses_with (losses e) entry) (losses e)) log
    → cond b (entry_later (losses epoch) entry ∷ rest) rest ≡ renumbered_from (losses e) (cond b (entry ∷ log) log)
later_either epoch e entry log rest losses true is behind = ap₂ (λ (n : ℕ) (l : List Filled). entry_later (losses n) entry ∷ l) (eqb-true epoch e is) behind
later_either epoch e entry log rest losses false is behind = behind

part_later : (e : ℕ) (losses : ℕ → ℕ → ℕ) (lived : List Lived) → part e (raised_from losses lived) ≡ renumbered_from (losses e) (part e lived)
part_later e losses [] = refl
part_later e losses (Crash disk left ∷ lived) = ap (λ (l : List Filled). Crashed disk (left e) ∷ l) (part_later e (λ d. losses_with (losses d) (Crashed disk (left d))) lived)
part_later e losses (Loss disk ∷ lived) = ap (λ (l : List Filled). Lost disk ∷ l) (part_later e losses lived)
part_later e losses (In epoch entry ∷ lived) =
    let next = λ (d : ℕ). cond (epoch == d) (losses_with (losses d) entry) (losses d) in
    later_either epoch e entry (part e lived) (part e (raised_from next lived)) losses (epoch == e) refl (part_later e next lived)

-- ONE LOG

-- With what faults left, and later boot numbers, each epoch is a run in which hosts know what they know, and all are one log.
pub record IsLived (c : Shape) (lived : List Lived) : Type 0 where
  pub run : List Lived
  pub places : (e i : ℕ) → now e i run ≡ now e i lived
  pub is : (e : ℕ) → IsRun c (part e run)
  pub like : (e i h : ℕ) → IsLike (host_by c (part e lived) i h) ((at c (part e run) i).host h)
  pub begins : (e : ℕ) → BeginsToo (part e run) (part e lived)
  pub fresh : migrated (part zero run) ≡ []
  pub one : HasOneLogWithoutEnd c run

pub lived_by_crashes : (c : Shape) (entries : List Entry) → LOCKS + CLIENTS ≤ c.slots → Goes model_crashes c entries → IsLived c (lived_of c entries)
lived_by_crashes c entries long goes =
    let of = hosts_have_one_log c entries long goes in
    let shared = (deeds_are_shared c entries goes).1 in
    record {
      run = of.run;
      places = of.places;
      is = of.is;
      like = λ e i h. like_same (host_by c (part e (lived_of c entries)) i h) ((at c (part e of.run) i).host h) (of.hosts e i h);
      begins = λ e. begins_same (part e of.run) (part e (lived_of c entries)) (of.same e);
      fresh = none_migrated (part zero of.run) (part zero (lived_of c entries)) (of.same zero) (shared.deeds zero);
      one = of.one;
    }

pub lived_by_losses : (c : Shape) (entries : List Entry) → LOCKS + CLIENTS ≤ c.slots → Goes power_losses c entries → ((e : ℕ) → length (part e (lived_of c entries)) < 2 ^ 62) → IsLived c (lived_of c entries)
lived_by_losses c entries long goes few =
    let lived = lived_of c entries in
    let over = hosts_have_one_log_over_losses c entries long goes few in
    let of = over.run in
    let shared = (deeds_are_shared_over_losses c entries goes few).1 in
    let is_later = λ (e : ℕ). part_later e (λ d k. 0) lived in
    let knows = λ (e i h : ℕ). knows_later c h i (λ k. 0) Stopped (part e lived) (λ j k left found. shared.dark e j k h left found) in
    let same = λ (e : ℕ). of.same e ∙ ap (map bare) (is_later e) in
    record {
      run = of.run;
      places = λ e i. of.places e i ∙ over.places e i;
      is = of.is;
      like = λ e i h.
          like_later (knows e i h).0 (host_by c (part e lived) i h) ((at c (part e of.run) i).host h)
          (of.hosts e i h ∙ ap (λ (l : List Filled). host_after c h Stopped (of_host h (take i l))) (is_later e) ∙ (knows e i h).1);
      begins = λ e p h task found. begins_later (λ k. 0) (part e lived) p h task (begins_same (part e of.run) (renumbered (part e lived)) (same e) p h task found);
      fresh = none_migrated (part zero of.run) (renumbered (part zero lived)) (same zero) (deeds_later (λ k. 0) (part zero lived) (shared.deeds zero));
      one = of.one;
    }
