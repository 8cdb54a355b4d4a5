-- What a host on its way does as it leaves an epoch, looks for one, and enters one.
use Rattle.std.specs.Prelude.{Option, Some}
use Rattle.std.proofs.Common.{ℕ, zero, suc, ◌≡◌, ◌≢◌, ◌==◌, ◌≤◌, ◌<◌, ◌+◌, Bool, true, false, cond, List, Vec, Global, [], ◌∷◌, ◌++◌, length, map, refl, sym, ◌∙◌, ap, subst, inl, inr, arith}
use Rattle.std.proofs.lemmas.Bool.{cases_eq, eqb-true, eqb-false}
use Rattle.std.proofs.Math.Numerals.{add-one}
use Rattle.std.proofs.lemmas.List.{append_assoc, append-nil}
use Rattle.disk.specs.Disk.{Call, Attach, Answer, Booted}
use Rattle.torn_block.specs.declared.layout.TheConstants.{HOSTS}
use Rattle.torn_block.specs.declared.write_steps.WriteCall.{WriteCall}
use Rattle.torn_block.specs.declared.write_steps.WriteCall.TheVariants as write
use Rattle.torn_block.specs.Stage.{call_of}
use Rattle.paxos_block.specs.Shape.{Shape}
use Rattle.standings.specs.Epochs.{epoch_by}
use Rattle.standings.specs.Reading.{numbers_in}
use Rattle.standings.specs.Past.{Made, Past, made, reading, number_write, WritesNumber, MayCall}
use Rattle.standings.proofs.Numbers.{counters_are_numbers}
use Rattle.coming.specs.declared.found.Found.{Found}
use Rattle.coming.specs.declared.found.Found.TheVariants as found
use Rattle.coming.specs.declared.search.Search.{Search}
use Rattle.coming.specs.declared.search.Step.{Step}
use Rattle.coming.specs.declared.search.Step.TheVariants as step
use Rattle.coming.specs.Finding as finding
use Rattle.coming.specs.Finding.{Standings, AreRead, HasFound, IsReached, WasAsked, and_made, asked_by, call_at, call_due, on_disk, number_in}
use Rattle.lock_command.specs.declared.command.Command.{Command}
use Rattle.lock_command.specs.Command.{spelling}
use Rattle.lock_table.specs.Apply.{table_after}
use Rattle.lock_table.specs.Carrying.{carried_over}
use Rattle.lock_table.specs.Picture.{Shown, IsPictureOf}
use Rattle.host.specs.Host.{Stopped, is_stopped}
use Rattle.epoch_deeds.specs.Deeds.{Deeds, Calls, Stops, past_on, core_in}
use Rattle.epoch_deeds.specs.Knowing.{image_of, Carries, HasLearned, HasSeen, IsOpen}
use Rattle.epoch_deeds.proofs.Lists.{core_in_next, past_both}
use Rattle.epoch_deeds.proofs.Later.{learned_now, open_seen}
use Rattle.epoch_host.specs.declared.over.Over.TheVariants.{Unknown, Known}
use Rattle.epoch_host.specs.declared.stay.Stay.{Stay}
use Rattle.epoch_host.specs.declared.stay.Arrival.{Arrival}
use Rattle.epoch_host.specs.declared.walk.Walk.{Walk}
use Rattle.epoch_host.specs.declared.walk.Whereabouts.{Whereabouts}
use Rattle.epoch_host.specs.declared.walk.Whereabouts.TheVariants.{Nowhere, Finds, In}
use Rattle.epoch_host.specs.Knowing.{AreOfEpochBefore}
use Rattle.epoch_host.specs.Leading.{pasts_of, AreOpen, AreSpelled, CarriesOver, AllStopped, LeadsToStay, LeadsToPlace, LeadsTo, GoesOn, GoesOnIn, MakesIn, StartsIn, WalksOn, WalksBy, Enters}
use Rattle.epoch_host.specs.Walking.{HasEnded}
use Rattle.epoch_host.proofs.Going.{goes_none, goes_then, goes_as, goes_keeping, makes_then, makes_as, are_open_later, carries_over_later}

-- THE SAME PLACE

-- what leads to a host leads to one that is where it is
pub same_place : (old new : Walk) → new.config ≡ old.config → new.host ≡ old.host → new.is ≡ old.is → WalksOn old new
same_place old new config host place c h deeds is =
    goes_none c h deeds (λ after. LeadsTo c h after new)
    (record { config = config ∙ is.config; host = host ∙ is.host; place = subst (LeadsToPlace c h deeds) (sym place) is.place })

-- IT LEAVES

-- the core of the epoch stops
stopped_here : (c : Shape) (h : ℕ) (deeds : Deeds) (e epoch : ℕ) → (e ≢ epoch → core_in c h e deeds ≡ Stopped) → core_in c h e (deeds ++ Stops epoch ∷ []) ≡ Stopped
stopped_here c h deeds e epoch others = core_in_next c h e deeds (Stops epoch) ∙ either (epoch == e) refl
  where
    either : (b : Bool) → (epoch == e) ≡ b → cond b Stopped (core_in c h e deeds) ≡ Stopped
    either true is = refl
    either false is = others (λ same. eqb-false epoch e is (sym same))

pub leaves_stay : (c : Shape) (h : ℕ) (deeds : Deeds) (s : Stay) → LeadsToStay c h deeds s → GoesOn c h deeds (AllStopped c h)
leaves_stay c h deeds s is =
    record {
      more = Stops s.epoch ∷ [];
      none = tt;
      may = (ap is_stopped is.runs, tt);
      so = λ e. stopped_here c h deeds e s.epoch (is.alone e);
    }

pub leaves : (c : Shape) (h : ℕ) (deeds : Deeds) (place : Whereabouts) → LeadsToPlace c h deeds place → GoesOn c h deeds (AllStopped c h)
leaves c h deeds Nowhere is = goes_none c h deeds (AllStopped c h) is
leaves c h deeds (Finds search) is = goes_none c h deeds (AllStopped c h) is.0
leaves c h deeds (In s) is = leaves_stay c h deeds s is

-- so it is nowhere
pub goes_nowhere : (old new : Walk) → new.config ≡ old.config → new.host ≡ old.host → new.is ≡ Nowhere → WalksOn old new
goes_nowhere old new config host place c h deeds is =
    goes_as c h deeds (AllStopped c h) (λ after. LeadsTo c h after new) (leaves c h deeds old.is is.place)
    (λ after stopped. record { config = config ∙ is.config; host = host ∙ is.host; place = subst (LeadsToPlace c h after) (sym place) stopped })

-- IT LOOKS

-- or it looks for the newest epoch
pub goes_finding : (old new : Walk) (search : Search) → new.config ≡ old.config → new.host ≡ old.host → new.is ≡ Finds search
    → ((c : Shape) (deeds : Deeds) → old.config ≡ c → finding.Knows (image_of c) (pasts_of deeds) search) → WalksOn old new
goes_finding old new search config host place knows c h deeds is =
    goes_as c h deeds (AllStopped c h) (λ after. LeadsTo c h after new) (leaves c h deeds old.is is.place)
    (λ after stopped. record { config = config ∙ is.config; host = host ∙ is.host; place = subst (LeadsToPlace c h after) (sym place) (stopped, knows c after is.config) })

-- its calls are no writes
raises_none : (n h : ℕ) (past : Past) (search : Search) (due : Step) → WritesNumber n h past (call_at due search) → ⊥
raises_none n h past search step.Attaching w = no w.due w.is
  where
    no : (due : WriteCall) → Attach ≡ call_of due (number_write n w.area h w.row) w.boot → ⊥
    no write.CloseGate is = absurd (cc)
    no write.SyncClosed is = absurd (cc)
    no write.PutBody is = absurd (cc)
    no write.SyncBody is = absurd (cc)
    no write.OpenGate is = absurd (cc)
    no write.SyncOpened is = absurd (cc)
raises_none n h past search (step.First boot) w = no w.due w.is
  where
    no : (due : WriteCall) → call_at (step.First boot) search ≡ call_of due (number_write n w.area h w.row) w.boot → ⊥
    no write.CloseGate is = absurd (cc)
    no write.SyncClosed is = absurd (cc)
    no write.PutBody is = absurd (cc)
    no write.SyncBody is = absurd (cc)
    no write.OpenGate is = absurd (cc)
    no write.SyncOpened is = absurd (cc)
raises_none n h past search (step.Second boot first) w = no w.due w.is
  where
    no : (due : WriteCall) → call_at (step.Second boot first) search ≡ call_of due (number_write n w.area h w.row) w.boot → ⊥
    no write.CloseGate is = absurd (cc)
    no write.SyncClosed is = absurd (cc)
    no write.PutBody is = absurd (cc)
    no write.SyncBody is = absurd (cc)
    no write.OpenGate is = absurd (cc)
    no write.SyncOpened is = absurd (cc)

may_look : (n h : ℕ) (past : Past) (search : Search) (due : Step) → MayCall n h past (call_at due search)
may_look n h past search step.Attaching = tt
may_look n h past search (step.First boot) = tt
may_look n h past search (step.Second boot first) = tt

-- a call more on a disk
past_next : (deeds : Deeds) (d : ℕ) (now : Made) (e : ℕ) → past_on e (deeds ++ Calls d now ∷ []) ≡ and_made (pasts_of deeds) d now e
past_next deeds d now e = past_both e deeds (Calls d now ∷ []) ∙ either (d == e) refl (e == d) refl
  where
    either : (b : Bool) → (d == e) ≡ b → (o : Bool) → (e == d) ≡ o → past_on e deeds ++ cond b (now ∷ []) [] ≡ cond o (past_on d deeds ++ now ∷ []) (past_on e deeds)
    either true is true also = ap (λ (k : ℕ). past_on k deeds ++ now ∷ []) (eqb-true e d also)
    either true is false also = absurd (eqb-false e d also (sym (eqb-true d e is)))
    either false is true also = absurd (eqb-false d e is (sym (eqb-true e d also)))
    either false is false also = append-nil (past_on e deeds)

pub pasts_next : (deeds : Deeds) (d : ℕ) (now : Made) → pasts_of (deeds ++ Calls d now ∷ []) ≡ and_made (pasts_of deeds) d now
pasts_next deeds d now = λ i. λ e. (past_next deeds d now e) i

-- a deed of no core
pub all_stopped_still : (c : Shape) (h : ℕ) (deeds : Deeds) (d : ℕ) (now : Made) → AllStopped c h deeds → AllStopped c h (deeds ++ Calls d now ∷ [])
all_stopped_still c h deeds d now stopped e = core_in_next c h e deeds (Calls d now) ∙ stopped e

-- a search makes its call
pub looks : (old new : Walk) (search later : Search) (answer : Answer) → old.is ≡ Finds search → new.config ≡ old.config → new.host ≡ old.host → new.is ≡ Finds later → search.disk < old.config.disks
    → ((n : ℕ) (pasts : ℕ → Past) → finding.Knows n pasts search → finding.Knows n (and_made pasts search.disk (made (call_due search).1 answer)) later) → WalksBy old new (call_due search) answer
looks old new search later answer was config host place few knows c h deeds is =
    let at : AllStopped c h deeds × finding.Knows (image_of c) (pasts_of deeds) search = subst (LeadsToPlace c h deeds) was is.place in
    let now : Made = made (call_due search).1 answer in
    let after : Deeds = deeds ++ Calls search.disk now ∷ [] in
    let there : AllStopped c h after × finding.Knows (image_of c) (pasts_of after) later = (
      all_stopped_still c h deeds search.disk now at.0,
      subst (λ (pasts : ℕ → Past). finding.Knows (image_of c) pasts later) (sym (pasts_next deeds search.disk now)) (knows (image_of c) (pasts_of deeds) at.1),
    ) in
    let inside : search.disk < c.disks = subst (λ (s : Shape). search.disk < s.disks) is.config few in
    record {
      deed = Calls search.disk now;
      makes = (refl, refl);
      may = (inside, may_look (image_of c) h (past_on search.disk deeds) search search.step, λ w. absurd (raises_none (image_of c) h (past_on search.disk deeds) search search.step w));
      on =
          goes_none c h after (λ (l : Deeds). LeadsTo c h l new)
          (record { config = config ∙ is.config; host = host ∙ is.host; place = subst (LeadsToPlace c h after) (sym place) there });
    }

-- THE NEWEST EPOCH

-- a number in one of two rows that were read
seen_by : (c : Shape) (deeds : Deeds) (order disk area host : ℕ) (standings : Standings) → AreRead (image_of c) standings (past_on disk deeds) → area < 2 → host < HOSTS → epoch_by area (number_in standings area host) ≡ Some order
    → HasSeen c order deeds
seen_by c deeds order disk zero host standings read low inside belongs =
    let same : number_in standings zero host ≡ numbers_in read.first host = ap (λ (s : Standings). number_in s zero host) read.numbers ∙ counters_are_numbers read.first host inside in
    record {
      disk = disk;
      area = zero;
      boot = read.boot;
      row = read.first;
      early = read.before ++ made Attach (Booted read.boot) ∷ [];
      later = reading (image_of c) 1 read.boot read.second ∷ [];
      is =
          read.is
          ∙ sym (append_assoc read.before (made Attach (Booted read.boot) ∷ []) (reading (image_of c) 0 read.boot read.first ∷ reading (image_of c) 1 read.boot read.second ∷ []));
      is_area = low;
      host = host;
      is_host = inside;
      order = order;
      belongs = ap (epoch_by zero) (sym same) ∙ belongs;
      as_new = omega arith;
    }
seen_by c deeds order disk (suc zero) host standings read low inside belongs =
    let same : number_in standings 1 host ≡ numbers_in read.second host = ap (λ (s : Standings). number_in s 1 host) read.numbers ∙ counters_are_numbers read.second host inside in
    record {
      disk = disk;
      area = 1;
      boot = read.boot;
      row = read.second;
      early = read.before ++ made Attach (Booted read.boot) ∷ reading (image_of c) 0 read.boot read.first ∷ [];
      later = [];
      is =
          read.is
          ∙ sym (append_assoc read.before (made Attach (Booted read.boot) ∷ reading (image_of c) 0 read.boot read.first ∷ []) (reading (image_of c) 1 read.boot read.second ∷ []));
      is_area = low;
      host = host;
      is_host = inside;
      order = order;
      belongs = ap (epoch_by 1) (sym same) ∙ belongs;
      as_new = omega arith;
    }
seen_by c deeds order disk (suc (suc area)) host standings read less inside belongs = absurd (omega (arith, less))

-- the newest epoch that a search found was seen
pub newest_seen : (c : Shape) (deeds : Deeds) (search : Search) (order answered : ℕ) → search.end ≡ Some (found.Newest order answered) → HasFound search.disks search.readings (found.Newest order answered)
    → finding.Knows (image_of c) (pasts_of deeds) search → HasSeen c order deeds
newest_seen c deeds search order answered ended newest knows =
    let reached : IsReached search.disks search.readings order = newest.reached in
    let below : reached.disk < finding.asked search = subst (λ (o : Option Found). reached.disk < asked_by o search.disk search.disks) (sym ended) reached.is_disk in
    let asked : WasAsked (finding.image_of search) (on_disk search.readings reached.disk) (past_on reached.disk deeds) = knows.kept.read reached.disk below in
    let read : AreRead (finding.image_of search) reached.standings (past_on reached.disk deeds) = subst (λ (o : Option Standings). WasAsked (finding.image_of search) o (past_on reached.disk deeds)) reached.read asked in
    seen_by c deeds order reached.disk reached.area reached.host reached.standings (subst (λ (n : ℕ). AreRead n reached.standings (past_on reached.disk deeds)) knows.image read) reached.is_area reached.is_host reached.belongs

-- so it may come there, and to each one before
pub newest_open : (c : Shape) (h : ℕ) (deeds : Deeds) (search : Search) (order answered : ℕ) → search.end ≡ Some (found.Newest order answered) → HasFound search.disks search.readings (found.Newest order answered)
    → finding.Knows (image_of c) (pasts_of deeds) search → AreOpen c h order deeds
newest_open c h deeds search order answered ended newest knows earlier below =
    open_seen c h order earlier deeds below (newest_seen c deeds search order answered ended newest knows)

-- IT ENTERS

-- with a core that starts there
pub enters : (arrival : Arrival) (old new : Walk) (s : Stay) → new.config ≡ old.config → new.host ≡ old.host → new.is ≡ In s → s.config ≡ old.config → s.host ≡ old.host → StartsIn arrival s → Enters arrival old new
enters arrival old new s config host place stay_config stay_host starts c h deeds is opened over =
    goes_then c h deeds (λ after. AllStopped c h after × (AreOpen c h arrival.epoch after × CarriesOver c h arrival.epoch after arrival.over)) (λ after. LeadsTo c h after new)
    (goes_keeping c h deeds (AllStopped c h) (λ after. AreOpen c h arrival.epoch after × CarriesOver c h arrival.epoch after arrival.over) (leaves c h deeds old.is is.place)
    (λ more. (are_open_later c h arrival.epoch deeds more opened, carries_over_later c h arrival.epoch deeds more arrival.over over)))
    (λ after so.
    goes_as c h after (λ later. LeadsToStay c h later s) (λ later. LeadsTo c h later new)
    (starts c h after (stay_config ∙ is.config) (stay_host ∙ is.host) so.0 so.1.0 so.1.1)
    (λ later leads. record { config = config ∙ is.config; host = host ∙ is.host; place = subst (LeadsToPlace c h later) (sym place) leads }))

-- IN AN EPOCH

-- what it does there it does on its way
pub goes_in : (old new : Walk) (before after : Stay) → new.config ≡ old.config → new.host ≡ old.host → old.is ≡ In before → new.is ≡ In after → GoesOnIn before after → WalksOn old new
goes_in old new before after config host was place goes c h deeds is =
    goes_as c h deeds (λ later. LeadsToStay c h later after) (λ later. LeadsTo c h later new) (goes c h deeds (subst (LeadsToPlace c h deeds) was is.place))
    (λ later leads. record { config = config ∙ is.config; host = host ∙ is.host; place = subst (LeadsToPlace c h later) (sym place) leads })

pub makes_in : (old new : Walk) (before after : Stay) (due : ℕ × Call) (answer : Answer) → new.config ≡ old.config → new.host ≡ old.host → old.is ≡ In before → new.is ≡ In after → MakesIn before after due answer → WalksBy old new due answer
makes_in old new before after due answer config host was place makes c h deeds is =
    makes_as c h deeds (λ later. LeadsToStay c h later after) due.0 (made due.1 answer) (λ later. LeadsTo c h later new) (makes c h deeds (subst (LeadsToPlace c h deeds) was is.place))
    (λ later leads. record { config = config ∙ is.config; host = host ∙ is.host; place = subst (LeadsToPlace c h later) (sym place) leads })

-- ONE AFTER THE OTHER

pub walks_then : (old between new : Walk) → WalksOn old between → WalksOn between new → WalksOn old new
walks_then old between new first then c h deeds is = goes_then c h deeds (λ after. LeadsTo c h after between) (λ after. LeadsTo c h after new) (first c h deeds is) (λ after leads. then c h after leads)

-- FROM EPOCH TO EPOCH

-- to the newest one, which a search found
pub goes_found : (old between new : Walk) (search : Search) (order answered : ℕ) (arrival : Arrival) → old.is ≡ Finds search → HasEnded search (found.Newest order answered) → between.config ≡ old.config → between.host ≡ old.host
    → between.is ≡ Nowhere → arrival.epoch ≡ order → ((c : Shape) (h : ℕ) (deeds : Deeds) → CarriesOver c h order deeds arrival.over) → Enters arrival between new → WalksOn old new
goes_found old between new search order answered arrival was ended config host place same over enter c h deeds is =
    let at : AllStopped c h deeds × finding.Knows (image_of c) (pasts_of deeds) search = subst (LeadsToPlace c h deeds) was is.place in
    let nowhere : LeadsTo c h deeds between = record { config = config ∙ is.config; host = host ∙ is.host; place = subst (LeadsToPlace c h deeds) (sym place) at.0 } in
    let opened : AreOpen c h order deeds = newest_open c h deeds search order answered ended.is ended.so at.1 in
    enter c h deeds nowhere (subst (λ (e : ℕ). AreOpen c h e deeds) (sym same) opened) (subst (λ (e : ℕ). CarriesOver c h e deeds arrival.over) (sym same) (over c h deeds))

-- a later epoch than those is the next one
one_more_open : (c : Shape) (h e : ℕ) (deeds : Deeds) → AreOpen c h e deeds → IsOpen c h (suc e) deeds → AreOpen c h (suc e) deeds
one_more_open c h e deeds are next order below =
    elim (cases_eq order (suc e)) [ inl same ↦ subst (λ (n : ℕ). IsOpen c h n deeds) (sym same) next | inr differ ↦ are order (omega (arith, below, differ)) ]

-- to the one behind it, once it is learned whole
module _ (old new : Walk) (s : Stay) (arrival : Arrival) (shown : Shown) (values : Vec (List ℕ) Global) (before : Vec Command Global) where
  pub goes_next : old.is ≡ In s → s.config.slots ≤ length s.core.prefix → length s.core.prefix ≤ s.config.slots → IsPictureOf shown (table_after s.core.prefix) → values.items ≡ map spelling (carried_over shown)
      → AreSpelled (carried_over shown) → before.items ≡ s.core.prefix → arrival.epoch ≡ s.epoch + 1 → arrival.over ≡ Known values before → Enters arrival old new → WalksOn old new
  goes_next was full few pictured bytes spelled kept epoch over enter c h deeds is =
      let leads : LeadsToStay c h deeds s = subst (LeadsToPlace c h deeds) was is.place in
      let learned : s.core.prefix ≡ leads.memory.learned = leads.leads.prefix in
      let slots : s.config.slots ≡ c.slots = ap (λ (k : Shape). k.slots) leads.config in
      let long : length s.core.prefix ≡ length leads.memory.learned = ap (λ (l : List Command). length l) learned in
      let whole : length leads.memory.learned ≡ c.slots = omega (arith, full, few, slots, long) in
      let has : HasLearned c h s.epoch deeds leads.memory.learned = learned_now c h s.epoch deeds leads.memory leads.runs whole in
      let picture : IsPictureOf shown (table_after leads.memory.learned) = subst (λ (l : List Command). IsPictureOf shown (table_after l)) learned pictured in
      let next : arrival.epoch ≡ suc s.epoch = epoch ∙ add-one s.epoch in
      let opened : AreOpen c h (suc s.epoch) deeds = one_more_open c h s.epoch deeds leads.opened (inl (leads.memory.learned, has)) in
      let all : HasLearned c h s.epoch deeds before.items = subst (HasLearned c h s.epoch deeds) (sym (kept ∙ learned)) has in
      let carries : CarriesOver c h (suc s.epoch) deeds (Known values before) = (carried_over shown, (leads.memory.learned, shown, has, picture, refl), spelled, bytes, all) in
      enter c h deeds is (subst (λ (e : ℕ). AreOpen c h e deeds) (sym next) opened)
      (subst (λ (e : ℕ). CarriesOver c h e deeds arrival.over) (sym next) (subst (CarriesOver c h (suc s.epoch) deeds) (sym over) carries))

-- or to an earlier one
pub goes_back : (old new : Walk) (s : Stay) (arrival : Arrival) → old.is ≡ In s → arrival.epoch ≤ s.epoch → arrival.over ≡ Unknown → Enters arrival old new → WalksOn old new
goes_back old new s arrival was earlier over enter c h deeds is =
    let leads : LeadsToStay c h deeds s = subst (LeadsToPlace c h deeds) was is.place in
    enter c h deeds is (λ order below. leads.opened order (omega (arith, below, earlier))) (subst (CarriesOver c h arrival.epoch deeds) (sym over) tt)

-- AND THEN

pub walks_by_then : (old between new : Walk) (due : ℕ × Call) (answer : Answer) → WalksBy old between due answer → WalksOn between new → WalksBy old new due answer
walks_by_then old between new due answer first then c h deeds is =
    makes_then c h deeds (λ after. LeadsTo c h after between) due.0 (made due.1 answer) (λ after. LeadsTo c h after new) (first c h deeds is) (λ after leads. then c h after leads)

-- it enters no epoch
pub enters_none : (arrival : Arrival) (old new : Walk) → WalksOn old new → Enters arrival old new
enters_none arrival old new walks c h deeds is opened over = walks c h deeds is

-- it asks a disk of the cluster
pub asks_within : (search : Search) (need : ℕ × Call) (disks : ℕ) → need ≡ call_due search → need.0 < search.disks → search.disks ≡ disks → search.disk < disks
asks_within search need disks same few of = let disk : need.0 ≡ search.disk = ap (λ (due : ℕ × Call). due.0) same in omega (arith, few, of, disk)

-- nothing carries a table over into the first epoch
pub first_carries : (e : ℕ) (values : Vec (List ℕ) Global) (before : Vec Command Global) → e ≡ 0 → values.items ≡ [] → before.items ≡ [] → (c : Shape) (h : ℕ) (deeds : Deeds) → CarriesOver c h e deeds (Known values before)
first_carries e values before first none none_before c h deeds = (
  [],
  subst (λ (n : ℕ). Carries c h n deeds []) (sym first) refl,
  λ command has. absurd (let within : has.0 < 0 = has.1 in omega (arith, within)),
  none,
  subst (λ (n : ℕ). AreOfEpochBefore c h n deeds before.items) (sym first) none_before,
)
