-- How what a search keeps goes on with a call and its answer.
use Rattle.std.proofs.Common.{ℕ, zero, suc, ◌+◌, ◌-◌, ◌<◌, ◌≤◌, ◌≡◌, Bool, true, false, cond, Option, Some, None, List, [], ◌∷◌, ◌++◌, inr, refl, sym, subst, ap, ap₂, ◌∙◌, arith, append_assoc, below_more}
use Rattle.std.specs.Prelude.{◌%◌, ◌==◌, nat_lt, is_some, unwrap_or, max, slice_index, slice_index_or, slice_set, if◌then◌else◌}
use Rattle.std.proofs.lemmas.Bool.{eqb-true, le-leb, ltb-true, ltb-false}
use Rattle.std.proofs.Common.{eq-eqb}
use Rattle.std.proofs.lemmas.List.{length-set, get_or-set_same, get_or-set_other}
use Rattle.disk.specs.declared.boot.Boot.{Boot}
use Rattle.disk.specs.Disk.{Attach, Booted, Told}
use Rattle.torn_block.specs.Layout.{cluster_version}
use Rattle.torn_block.specs.declared.layout.TheConstants.{HOSTS}
use Rattle.heartbeat.specs.Beat.{IsDamagedArea, counters_in}
use Rattle.paxos_block.specs.Row.{DecodedBlock}
use Rattle.attempt.specs.Heard as answers
use Rattle.attempt.specs.Heard.{Fits}
use Rattle.attempt.specs.DeviceCalls.{device_answer, heard_of}
use Rattle.attempt.specs.Numbers.{count}
use Rattle.attempt.specs.declared.heard.Heard as code_heard
use Rattle.attempt.specs.declared.heard.Heard.TheVariants as code_answer
use Rattle.standings.specs.Epochs as epochs
use Rattle.standings.specs.Epochs.{epoch_by, standings_place}
use Rattle.standings.specs.Past.{Made, Past, made, reading}
use Rattle.coming.specs.declared.found.Found.{Found}
use Rattle.coming.specs.declared.search.Search.{Search}
use Rattle.coming.specs.declared.search.Step.{Step}
use Rattle.coming.specs.declared.search.Step.TheVariants as step
use Rattle.coming.specs.Finding.{Standings, Readings, on_disk, Pasts, and_made, image_of, call_at, AreRead, WasAsked, number_in, IsReached, asked_by, asked, has_answered, IsStep, HasFound, EndsBy, Counts, IsSound, IsSoundAfter, IsAt, IsGoing, IsKept, IsReadDue}

-- PASTS

module _ (pasts : Pasts) (d : ℕ) (m : Made) where
  made_here : and_made pasts d m d ≡ pasts d ++ m ∷ []
  made_here = ap (λ (b : Bool). if b then pasts d ++ m ∷ [] else pasts d) (eq-eqb d d refl)

  made_there : (e : ℕ) → (e ≡ d → ⊥) → and_made pasts d m e ≡ pasts e
  made_there e other = by (e == d) refl
    where
      by : (b : Bool) → (e == d) ≡ b → (if b then pasts d ++ m ∷ [] else pasts e) ≡ pasts e
      by true same = absurd (other (eqb-true e d same))
      by false same = refl

module _ (s : Search) (sound : IsSound s) (going : s.end ≡ None) (pasts : Pasts) (kept : IsKept s pasts) where
  asked_is : asked s ≡ s.disk
  asked_is = ap (λ o. asked_by o s.disk s.disks) going

  -- what was read before stays so
  pub before : (m : Made) (d : ℕ) → d < s.disk → WasAsked (image_of s) (on_disk s.readings d) (and_made pasts s.disk m d)
  before m d below = subst (WasAsked (image_of s) (on_disk s.readings d)) (sym (made_there pasts s.disk m d (λ same. (omega arith)))) (kept.read d (let is = asked_is in omega arith))

  here : IsAt (image_of s) s.step (pasts s.disk)
  here = subst (λ o. IsGoing o s (pasts s.disk)) going kept.here

  -- the next call on the disk is due
  pub goes : (next : Step) (m : Made) → IsAt (image_of s) next (pasts s.disk ++ m ∷ []) → IsKept (record s { step = next }) (and_made pasts s.disk m)
  goes next m at =
      let later : Search = record s { step = next } in
      record {
        read = λ d below. before m d (let is = asked_is in omega (arith, is, below));
        here = subst (λ o. IsGoing o later (and_made pasts s.disk m s.disk)) (sym going) (subst (IsAt (image_of s) next) (sym (made_here pasts s.disk m)) at);
      }

  -- the disk is done with
  pub passes : (new : Search) (m : Made) (o : Option Standings) → new.slots ≡ s.slots → asked new ≡ s.disk + 1 → ((past : Past) → IsGoing new.end new past) → ((d : ℕ) → d < s.disk → on_disk new.readings d ≡ on_disk s.readings d) → on_disk new.readings s.disk ≡ o →
      WasAsked (image_of s) o (pasts s.disk ++ m ∷ []) → IsKept new (and_made pasts s.disk m)
  passes new m o slots asks begins others own now =
      record {
        read = λ d below. subst (λ (k : ℕ). WasAsked k (on_disk new.readings d) (and_made pasts s.disk m d)) (sym (ap (λ (k : ℕ). image_of (record s { slots = k })) slots))
            (below_more (λ (e : ℕ). WasAsked (image_of s) (on_disk new.readings e) (and_made pasts s.disk m e)) s.disk
            (λ e less. subst (λ q. WasAsked (image_of s) q (and_made pasts s.disk m e)) (sym (others e less)) (before m e less))
            (subst (λ q. WasAsked (image_of s) q (and_made pasts s.disk m s.disk)) (sym own) (subst (WasAsked (image_of s) o) (sym (made_here pasts s.disk m)) now))
            d (omega arith));
        here = begins (and_made pasts s.disk m new.disk);
      }

  pub attached : (boot : Boot) → s.step ≡ step.Attaching → IsKept (record s { step = step.First boot }) (and_made pasts s.disk (made (call_at s.step s) (Booted boot.number)))
  attached boot st = goes (step.First boot) (made (call_at s.step s) (Booted boot.number)) (pasts s.disk, ap (λ (q : Step). pasts s.disk ++ made (call_at q s) (Booted boot.number) ∷ []) st)

  -- the row of the first area
  pub reads_first : (boot : Boot) (first bytes : List ℕ) → s.step ≡ step.First boot → first ≡ counters_in bytes → IsKept (record s { step = step.Second boot first }) (and_made pasts s.disk (made (call_at s.step s) (Told bytes)))
  reads_first boot first bytes st is =
      let was = subst (λ (q : Step). IsAt (image_of s) q (pasts s.disk)) st here in
      goes (step.Second boot first) (made (call_at s.step s) (Told bytes)) (
        was.0,
        bytes,
        ap (λ (q : Step). pasts s.disk ++ made (call_at q s) (Told bytes) ∷ []) st ∙ ap (λ (p : Past). p ++ reading (image_of s) 0 boot.number bytes ∷ []) was.1 ∙ append_assoc was.0 (made Attach (Booted boot.number) ∷ []) (reading (image_of s) 0 boot.number bytes ∷ []),
        is,
      )

  -- that of the second one
  pub reads_second : (boot : Boot) (first second bytes : List ℕ) → s.step ≡ step.Second boot first → second ≡ counters_in bytes → AreRead (image_of s) (first ∷ second ∷ []) (pasts s.disk ++ made (call_at s.step s) (Told bytes) ∷ [])
  reads_second boot first second bytes st is =
      let was = subst (λ (q : Step). IsAt (image_of s) q (pasts s.disk)) st here in
      record {
        boot = boot.number;
        first = was.1;
        second = bytes;
        before = was.0;
        is =
            ap (λ (q : Step). pasts s.disk ++ made (call_at q s) (Told bytes) ∷ []) st
            ∙ ap (λ (p : Past). p ++ reading (image_of s) 1 boot.number bytes ∷ []) was.2
            ∙ append_assoc was.0 (made Attach (Booted boot.number) ∷ reading (image_of s) 0 boot.number was.1 ∷ []) (reading (image_of s) 1 boot.number bytes ∷ []);
        numbers = (let one = was.3 in λ i. one i ∷ is i ∷ []);
      }

  -- a damaged row
  pub shows_damage : (bytes : List ℕ) → IsReadDue s.step → IsDamagedArea bytes → WasAsked (image_of s) None (pasts s.disk ++ made (call_at s.step s) (Told bytes) ∷ [])
  shows_damage bytes due damaged = by s.step due
    where
      by : (q : Step) → IsReadDue q → WasAsked (image_of s) None (pasts s.disk ++ made (call_at q s) (Told bytes) ∷ [])
      by step.Attaching due = absurd due
      by (step.First boot) due = inr (record { before = pasts s.disk; area = 0; boot = boot.number; row = bytes; is = refl; damaged = damaged })
      by (step.Second boot first) due = inr (record { before = pasts s.disk; area = 1; boot = boot.number; row = bytes; is = refl; damaged = damaged })

  -- the disk is left out
  pub leaves_out : (new : Search) (m : Made) → new.slots ≡ s.slots → asked new ≡ s.disk + 1 → ((past : Past) → IsGoing new.end new past) → new.readings ≡ s.readings → WasAsked (image_of s) None (pasts s.disk ++ m ∷ []) → IsKept new (and_made pasts s.disk m)
  leaves_out new m slots asks begins same out =
      passes new m None slots asks begins (λ d less. ap (λ (r : Readings). on_disk r d) same)
      (ap (λ (r : Readings). on_disk r s.disk) same ∙ subst (λ o. (d : ℕ) → asked_by o s.disk s.disks ≤ d → on_disk s.readings d ≡ None) going sound.later s.disk (omega arith)) out

  -- WHAT WAS HEARD

  pub hears_boot : (heard : code_heard.Heard (List ℕ)) (boot : Boot) → heard ≡ code_answer.Booted boot → Fits (call_at s.step s) (heard_of cluster_version heard) → IsKept (record s { step = step.First boot }) (and_made pasts s.disk (made (call_at s.step s) (device_answer heard)))
  hears_boot heard boot is fits =
      subst (λ (h : code_heard.Heard (List ℕ)). IsKept (record s { step = step.First boot }) (and_made pasts s.disk (made (call_at s.step s) (device_answer h)))) (sym is)
      (attached boot (by s.step (subst (λ (h : code_heard.Heard (List ℕ)). Fits (call_at s.step s) (heard_of cluster_version h)) is fits)))
    where
      by : (q : Step) → Fits {A = List DecodedBlock} (call_at q s) (answers.Booted boot.number) → q ≡ step.Attaching
      by step.Attaching fits = refl
      by (step.First b) fits = absurd fits
      by (step.Second b first) fits = absurd fits

-- COUNTS

count_same : (k : ℕ) (p q : ℕ → Bool) → ((d : ℕ) → d < k → p d ≡ q d) → count k p ≡ count k q
count_same zero p q same = refl
count_same (suc k) p q same =
    let rest = count_same k p q (λ d less. same d (omega arith)) in
    ap₂ (λ (x y : ℕ). x + y) rest (ap (λ (b : Bool). cond b 1 0) (same k (omega arith)))

one_at_most : (b : Bool) → cond b 1 0 ≤ 1
one_at_most true = omega arith
one_at_most false = omega arith

pub count_most : (k : ℕ) (p : ℕ → Bool) → count k p ≤ k
count_most zero p = omega arith
count_most (suc k) p = (let rest = count_most k p in let one = one_at_most (p k) in omega (arith, rest, one))

one_more_disk : (disks : ℕ) (p : ℕ → Bool) → count (disks + 1) p ≡ count disks p + cond (p disks) 1 0
one_more_disk disks p = (let e : disks + 1 ≡ suc disks = omega arith in ap (λ (k : ℕ). count k p) e)

-- readings that agree on the first disks
same_reached : (disks : ℕ) (a b : Readings) (order : ℕ) → ((d : ℕ) → d < disks → on_disk a d ≡ on_disk b d) → IsReached disks a order → IsReached disks b order
same_reached disks a b order same is =
    record { disk = is.disk; is_disk = is.is_disk; standings = is.standings; read = sym (same is.disk is.is_disk) ∙ is.read; area = is.area; is_area = is.is_area; host = is.host; is_host = is.is_host; belongs = is.belongs }

more_reached : (disks : ℕ) (readings : Readings) (order : ℕ) → IsReached disks readings order → IsReached (disks + 1) readings order
more_reached disks readings order is =
    record { disk = is.disk; is_disk = (let less = is.is_disk in omega (arith, less)); standings = is.standings; read = is.read; area = is.area; is_area = is.is_area; host = is.host; is_host = is.is_host; belongs = is.belongs }

-- the one that was read last, or one before
last_or : (disks : ℕ) (readings : Readings) (order : ℕ) (P : Type 0) → IsReached (disks + 1) readings order → (IsReached disks readings order → P) →
    ((standings : Standings) (area host : ℕ) → on_disk readings disks ≡ Some standings → area < 2 → host < HOSTS → epoch_by area (number_in standings area host) ≡ Some order → P) → P
last_or disks readings order P is before last =
    below_more (λ (d : ℕ). on_disk readings d ≡ Some is.standings → P) disks
    (λ d less read. before (record { disk = d; is_disk = less; standings = is.standings; read = read; area = is.area; is_area = is.is_area; host = is.host; is_host = is.is_host; belongs = is.belongs }))
    (λ read. last is.standings is.area is.host read is.is_area is.is_host is.belongs)
    is.disk is.is_disk is.read

-- a disk that is left out
pub counts_none : (disk : ℕ) (readings : Readings) (answered newest : ℕ) → Counts disk readings answered newest → on_disk readings disk ≡ None → Counts (disk + 1) readings answered newest
counts_none disk readings answered newest was none =
    let more = one_more_disk disk (has_answered readings) in
    let last : cond {A = ℕ} (has_answered readings disk) 1 0 ≡ 0 = ap (λ (o : Option Standings). cond {A = ℕ} (is_some o) 1 0) none in
    let before = was.answers in
    record {
      answers = omega (arith, before, more, last);
      up_to = λ order is. last_or disk readings order (order ≤ newest) is (was.up_to order) (λ standings area host read is_area is_host belongs. absurd (cc (none, read)));
      reached = λ some. more_reached disk readings newest (was.reached some);
      nothing = was.nothing;
    }

-- a disk that answered
module _ (disk : ℕ) (readings : Readings) (answered newest : ℕ) (was : Counts disk readings answered newest) (new : Readings) (standings : Standings) (top : ℕ) (others : (d : ℕ) → d < disk → on_disk new d ≡ on_disk readings d) (own : on_disk new disk ≡ Some standings)
    (above : (area host order : ℕ) → area < 2 → host < HOSTS → epoch_by area (number_in standings area host) ≡ Some order → order ≤ top)
    (reached : (area : ℕ) × (host : ℕ) × (area < 2) × (host < HOSTS) × (epoch_by area (number_in standings area host) ≡ Some top)) where
  by_own : IsReached (disk + 1) new top
  by_own = record { disk = disk; is_disk = omega arith; standings = standings; read = own; area = reached.0; is_area = reached.2; host = reached.1; is_host = reached.3; belongs = reached.4 }

  by_old : 0 < answered → IsReached (disk + 1) new newest
  by_old some = more_reached disk new newest (same_reached disk readings new newest (λ d less. sym (others d less)) (was.reached some))

  greatest : (order : ℕ) → IsReached (disk + 1) new order → order ≤ max newest top
  greatest order is =
      last_or disk new order (order ≤ max newest top) is
      (λ old. (let most = was.up_to order (same_reached disk new readings order others old) in omega (arith, most)))
      (λ read_standings area host read is_area is_host belongs. (let same : standings ≡ read_standings = cc (own, read) in
      let most = above area host order is_area is_host (subst (λ (q : Standings). epoch_by area (number_in q area host) ≡ Some order) (sym same) belongs) in omega (arith, most)))

  either : (k : ℕ) → answered ≡ k → (b : Bool) → nat_lt top newest ≡ b → IsReached (disk + 1) new (max newest top)
  either k is false not = (let low = ltb-false top newest not in let same : top ≡ max newest top = omega (arith, low) in subst (IsReached (disk + 1) new) same by_own)
  either zero is true less = (let high = ltb-true top newest less in let none = was.nothing is in absurd (omega (arith, high, none)))
  either (suc k) is true less = (let high = ltb-true top newest less in let same : newest ≡ max newest top = omega (arith, high) in subst (IsReached (disk + 1) new) same (by_old (omega (arith, is))))

  pub counts_some : Counts (disk + 1) new (answered + 1) (max newest top)
  counts_some =
      let more = one_more_disk disk (has_answered new) in
      let last : cond {A = ℕ} (has_answered new disk) 1 0 ≡ 1 = ap (λ (o : Option Standings). cond {A = ℕ} (is_some o) 1 0) own in
      let same = count_same disk (has_answered new) (has_answered readings) (λ d less. ap (λ (o : Option Standings). is_some o) (others d less)) in
      let before = was.answers in
      record {
        answers = omega (arith, before, more, last, same);
        up_to = greatest;
        reached = λ some. either answered refl (nat_lt top newest) refl;
        nothing = λ none. absurd (omega arith);
      }

-- WHAT IS KEPT AT ANY TIME

module _ (s : Search) (sound : IsSound s) (going : s.end ≡ None) where
  counts_now : Counts s.disk s.readings s.answered s.newest
  counts_now = subst (λ o. Counts (asked_by o s.disk s.disks) s.readings s.answered s.newest) going sound.counts

  later_now : (d : ℕ) → s.disk ≤ d → on_disk s.readings d ≡ None
  later_now = subst (λ o. (d : ℕ) → asked_by o s.disk s.disks ≤ d → on_disk s.readings d ≡ None) going sound.later

  -- so one more may answer
  pub answered_most : s.answered < 7
  answered_most =
      let is = counts_now in
      let same = is.answers in
      let most = count_most s.disk (has_answered s.readings) in
      let one = sound.asks_one in
      let few = sound.few in
      omega (arith, same, most, one, few)

  pub none_here : on_disk s.readings s.disk ≡ None
  none_here = later_now s.disk (omega arith)

  -- the disk is left out
  pub sound_out : IsSoundAfter s
  sound_out =
      record {
        asks_one = sound.asks_one;
        few = sound.few;
        room = sound.room;
        step = sound.step;
        counts = counts_none s.disk s.readings s.answered s.newest counts_now none_here;
        later = λ d from. later_now d (omega arith);
      }

  pub sound_step : (next : Step) → IsStep next → IsSound (record s { step = next })
  sound_step next is = record { asks_one = sound.asks_one; few = sound.few; room = sound.room; step = is; counts = sound.counts; later = sound.later; ends = sound.ends }

  -- both rows were read on the disk
  module _ (standings : Standings) (top : ℕ) (above : (area host order : ℕ) → area < 2 → host < HOSTS → epoch_by area (number_in standings area host) ≡ Some order → order ≤ top)
      (reached : (area : ℕ) × (host : ℕ) × (area < 2) × (host < HOSTS) × (epoch_by area (number_in standings area host) ≡ Some top)) where
    abbrev new : Readings
    new = slice_set s.readings s.disk (Some standings)

    pub others : (d : ℕ) → (s.disk ≡ d → ⊥) → on_disk new d ≡ on_disk s.readings d
    others d off = get_or-set_other s.readings s.disk d (Some standings) None (λ same. off (sym same))

    pub own : on_disk new s.disk ≡ Some standings
    own = get_or-set_same s.readings s.disk (Some standings) None (let long = sound.room in let few = sound.few in let one = sound.asks_one in omega (arith, long, few, one))

    pub sound_kept : IsSoundAfter (record s { readings = new; answered = s.answered + 1; newest = max s.newest top })
    sound_kept =
        record {
          asks_one = sound.asks_one;
          few = sound.few;
          room = length-set s.readings s.disk (Some standings) ∙ sound.room;
          step = sound.step;
          counts = counts_some s.disk s.readings s.answered s.newest counts_now new standings top (λ d less. others d (λ same. omega arith)) own above reached;
          later = λ d from. others d (λ same. omega arith) ∙ later_now d (omega arith);
        }

module _ (s : Search) (sound : IsSoundAfter s) (going : s.end ≡ None) where
  -- the next disk is asked
  pub sound_next : s.disk + 1 < s.disks → IsSound (record s { disk = s.disk + 1; step = step.Attaching })
  sound_next more =
      let next : Search = record s { disk = s.disk + 1; step = step.Attaching } in
      let one = sound.asks_one in
      record {
        asks_one = more;
        few = sound.few;
        room = sound.room;
        step = tt;
        counts = subst (λ o. Counts (asked_by o next.disk next.disks) s.readings s.answered s.newest) (sym going) sound.counts;
        later = subst (λ o. (d : ℕ) → asked_by o next.disk next.disks ≤ d → on_disk s.readings d ≡ None) (sym going) sound.later;
        ends = subst (EndsBy s.disks s.readings) (sym going) tt;
      }

  last_disk : s.disks ≤ s.disk + 1 → s.disk + 1 ≡ s.disks
  last_disk last = (let one = sound.asks_one in omega (arith, one, last))

  -- all were asked
  pub counts_all : s.disks ≤ s.disk + 1 → Counts s.disks s.readings s.answered s.newest
  counts_all last = subst (λ (k : ℕ). Counts k s.readings s.answered s.newest) (last_disk last) sound.counts

  pub sound_over : s.disks ≤ s.disk + 1 → (found : Found) → HasFound s.disks s.readings found → IsSound (record s { end = Some found })
  sound_over last found so =
      record {
        asks_one = sound.asks_one;
        few = sound.few;
        room = sound.room;
        step = sound.step;
        counts = counts_all last;
        later = subst (λ (k : ℕ). (d : ℕ) → k ≤ d → on_disk s.readings d ≡ None) (last_disk last) sound.later;
        ends = so;
      }

-- THE NEWEST OF A DISK

module _ (standings : Standings) where
  abbrev pub Reaches : ℕ → Type 0
  Reaches order = (area : ℕ) × (host : ℕ) × (area < 2) × (host < HOSTS) × (epoch_by area (number_in standings area host) ≡ Some order)

  -- each number of the first area belongs to an epoch
  first_has_one : (number : ℕ) → epoch_by 0 number ≡ None → ⊥
  first_has_one number none =
      let low = le-leb 0 (number + number % 2) (omega arith) in
      let some : epoch_by 0 number ≡ Some (number + number % 2 - 0) = ap (λ (b : Bool). if b then Some (number + number % 2 - 0) else None) low in
      absurd (cc (some, none))

  pub newest_reached : (first second : Option ℕ) → epochs.IsNewest 0 (slice_index (slice_index_or standings 0 [])) first → epochs.IsNewest 1 (slice_index (slice_index_or standings 1 [])) second → Reaches (max (unwrap_or first 0) (unwrap_or second 0))
  newest_reached None second one two = absurd (first_has_one (number_in standings 0 0) (one 0 (omega arith)))
  newest_reached (Some x) None one two = (let same : x ≡ max x 0 = omega arith in (0, one.0.0, omega arith, one.0.1, one.0.2 ∙ ap (λ (k : ℕ). Some k) same))
  newest_reached (Some x) (Some y) one two = by (nat_lt x y) refl
    where
      by : (b : Bool) → nat_lt x y ≡ b → Reaches (max x y)
      by true less = (let high = ltb-true x y less in let same : y ≡ max x y = omega (arith, high) in (1, two.0.0, omega arith, two.0.1, two.0.2 ∙ ap (λ (k : ℕ). Some k) same))
      by false more = (let high = ltb-false x y more in let same : x ≡ max x y = omega (arith, high) in (0, one.0.0, omega arith, one.0.1, one.0.2 ∙ ap (λ (k : ℕ). Some k) same))
