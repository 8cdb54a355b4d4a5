-- One host that makes calls over one disk, each of which is answered: what its host and its disk come to, and that the premises of being served hold.
use Rattle.torn_block.specs.Layout.{cluster_version}
use Rattle.std.specs.Prelude.{not, ◌&&◌, cond, nat_le, take, drop, slice_get, option_map, option_and_then}
use Rattle.std.proofs.Common.{ℕ, zero, suc, ◌+◌, ◌<◌, ◌≤◌, ◌≡◌, ◌==◌, inl, inr, Bool, true, false, Option, Some, None, List, [], ◌∷◌, ◌++◌, length, length-append, refl, sym, subst, ap, ◌∙◌, arith}
use Rattle.std.proofs.lemmas.Bool.{cases_lt, eqb-true, leb-true}
use Rattle.std.proofs.lemmas.List.{take-append-le, drop-append-le}
use Rattle.std.proofs.lemmas.List.Elements.{filter-append}
use Rattle.std.proofs.lemmas.Option.{slice_get_within}
use Rattle.std.proofs.Math.Seq.{take-append_seam}
use Rattle.disk.specs.Disk.{DiskState, Call, Answer}
use Rattle.attempt.specs.Calls.{Phase, Opening, One, Two}
use Rattle.attempt.specs.Answers.{Heard, Answered, Answers, on, heard_as, all_good}
use Rattle.attempt.specs.Setup.{Setup}
use Rattle.attempt.specs.Visits.{is_stuck, is_past, visited, are_enough}
use Rattle.paxos_block.specs.Shape.{Shape}
use Rattle.host.specs.Host.{Doing, Attempts, Memory, Host, Stopped, Running, setup_of, next_of}
use Rattle.world.specs.Entry.{Filled, Called, is_of, of_host, disk_step, host_step}
use Rattle.world.specs.World.{World, world}
use Rattle.world.specs.Happens.{Step, answer_of, stepped, with_entry, happens, happen}
use Rattle.world.specs.Chosen.{at, Hears, IsCallOf}
use Rattle.world.proofs.Projections.{disk_here, host_here}
use Rattle.world_served.specs.Alone.{AnswersEach, MostAnswerEach}
use Rattle.world_served.specs.Reached.{steps}

-- WELL ANSWERED

-- the answers of a disk are good, and in no phase stands its write before a spent block
abbrev pub is_well : Setup → List Heard → Bool
is_well s a = all_good a && (not (is_stuck s Opening a) && (not (is_stuck s One a) && not (is_stuck s Two a)))

-- both of two that are true together
both_true : (a b : Bool) → (a && b) ≡ true → (a ≡ true) × (b ≡ true)
both_true true b is = (refl, is)
both_true false b is = absurd (cc)

-- what is false makes both false
not_true : (a b : Bool) → not a ≡ true → (a && b) ≡ false
not_true true b is = absurd (cc)
not_true false b is = refl

-- so most answer, where it is the only disk
well_answers : (s : Setup) (f : Answers) → s.disks ≡ 1 → is_well s (f 0) ≡ true → MostAnswerEach s f
well_answers s f one well =
    record {
      those = λ d. true;
      most = subst (λ (n : ℕ). are_enough (record { version = cluster_version; host = s.host; slot = s.slot; disks = n; floor = s.floor; input = s.input }) (λ d. true) ≡ true) (sym one) refl;
      each = λ d below is. (let first : 0 ≡ d = omega arith in subst (λ (k : ℕ). AnswersEach s f k) first here);
    }
  where
    by : (all_good (f 0) ≡ true) × ((not (is_stuck s Opening (f 0)) && (not (is_stuck s One (f 0)) && not (is_stuck s Two (f 0)))) ≡ true)
    by = both_true (all_good (f 0)) (not (is_stuck s Opening (f 0)) && (not (is_stuck s One (f 0)) && not (is_stuck s Two (f 0)))) well

    opened : (not (is_stuck s Opening (f 0)) ≡ true) × ((not (is_stuck s One (f 0)) && not (is_stuck s Two (f 0))) ≡ true)
    opened = both_true (not (is_stuck s Opening (f 0))) (not (is_stuck s One (f 0)) && not (is_stuck s Two (f 0))) by.1

    later : (not (is_stuck s One (f 0)) ≡ true) × (not (is_stuck s Two (f 0)) ≡ true)
    later = both_true (not (is_stuck s One (f 0))) (not (is_stuck s Two (f 0))) opened.1

    unspent : (p : Phase) → (is_stuck s p (f 0) && is_past (visited s p f) 0) ≡ false
    unspent Opening = not_true (is_stuck s Opening (f 0)) (is_past (visited s Opening f) 0) opened.0
    unspent One = not_true (is_stuck s One (f 0)) (is_past (visited s One f) 0) later.0
    unspent Two = not_true (is_stuck s Two (f 0)) (is_past (visited s Two f) 0) later.1

    here : AnswersEach s f 0
    here = record { good = by.0; unspent = λ p come. unspent p }

-- so it is of what a host has heard with one answer more, of a slot up to the last that it may try
abbrev pub heard_well : Shape → ℕ → Memory → Option Doing → Answer → Bool
heard_well c last m (Some (Attempts t)) answer = nat_le (length m.learned) last && is_well (setup_of c 0 m t.operation) (on (t.heard ++ record { disk = 0; heard = heard_as answer } ∷ []) 0)
heard_well c last m other answer = false

-- and of the host that has it
abbrev pub host_well : Shape → ℕ → Host → Answer → Bool
host_well c last Stopped answer = false
host_well c last (Running m) answer = heard_well c last m m.doing answer

-- A CALL

-- the call of a disk, with its answer
abbrev pub made : DiskState → Call → Filled
made disk call = Called 0 0 call (answer_of disk call) []

-- the disk and the host behind a call of disk 0 that is well answered
abbrev pub played_by : Shape → ℕ → DiskState → Host → Option (ℕ × Call) → Option (DiskState × Host)
played_by c last disk host None = None
played_by c last disk host (Some next) = cond (next.0 == 0 && host_well c last host (answer_of disk next.1)) (Some (disk_step disk (made disk next.1), host_step c 0 host (made disk next.1))) None

-- behind so many
unfoldable pub played : Shape → ℕ → ℕ → DiskState → Host → Option (DiskState × Host)
played c last zero disk host = Some (disk, host)
played c last (suc n) disk host = option_and_then (λ (q : DiskState × Host). played c last n q.0 q.1) (played_by c last disk host (next_of c 0 host))

-- WHAT HOLDS OF THE LIST

-- Behind these entries there are calls of host 0 alone, each well answered, of attempts on slots up to the last that it may try; and there the
-- disk and the host stand.
pub record Plays (c : Shape) (last : ℕ) (begin log : List Filled) (disk : DiskState) (host : Host) (calls : ℕ) : Type 0 where
  pub disk_is : (world c log).disk 0 ≡ disk
  pub host_is : (world c log).host 0 ≡ host
  pub long : length log ≡ length begin + calls
  pub begins : take (length begin) log ≡ begin
  pub own : (k : ℕ) (e : Filled) → length begin ≤ k → slice_get log k ≡ Some e → IsCallOf 0 e
  pub well : (k : ℕ) (s : Setup) (heard : List Answered) → Hears c log k s heard → length begin ≤ k → MostAnswerEach s (on heard) × (s.slot ≤ last)
  pub counted : length (of_host 0 (drop (length begin) log)) ≡ calls

-- an element of a longer list is one of before, or the last
pub get_old : {A : Type 0} (l : List A) (x : A) (k : ℕ) → k < length l → slice_get (l ++ x ∷ []) k ≡ slice_get l k
get_old [] x k less = absurd (omega arith)
get_old (y ∷ l) x zero less = refl
get_old (y ∷ l) x (suc k) less = get_old l x k (omega arith)

-- which stands at its end
pub get_last : {A : Type 0} (l : List A) (x : A) → slice_get (l ++ x ∷ []) (length l) ≡ Some x
get_last [] x = refl
get_last (y ∷ l) x = get_last l x

module _ (c : Shape) (last : ℕ) (begin : List Filled) (one : c.disks ≡ 1) (log : List Filled) (disk : DiskState) (host : Host) (calls : ℕ) (is : Plays c last begin log disk host calls) (call : Call) (next : next_of c 0 host ≡ Some (0, call))
    (good : host_well c last host (answer_of disk call) ≡ true) where
  abbrev e : Filled
  e = made disk call

  abbrev longer : List Filled
  longer = log ++ e ∷ []

  -- a step brings the call
  brings : happens c log (Step 0) ≡ longer
  brings =
      ap (with_entry log)
      (ap (λ (old : Host). option_map (stepped (world c log) 0) (next_of c 0 old)) is.host_is
      ∙ ap (option_map (stepped (world c log) 0)) next
      ∙ ap (λ (d : DiskState). Some (made d call)) is.disk_is)

  -- a place of the longer list
  data Where (k : ℕ) : Type 0 where
    Old : (less : k < length log) → Where k
    Last : (same : k ≡ length log) → Where k

  -- each place is one of these
  place : (k : ℕ) (x : Filled) → slice_get longer k ≡ Some x → Where k
  place k x found =
      elim (cases_lt k (length log)) [
        | inl less ↦ Old less
        | inr over ↦ Last (let within = slice_get_within longer k x found in omega (arith, length-append log (e ∷ [])))
      ]

  -- at the last one is the call
  last_is : (k : ℕ) (x : Filled) → k ≡ length log → slice_get longer k ≡ Some x → e ≡ x
  last_is k x same found = (let both : Some e ≡ Some x = sym (get_last log e) ∙ ap (slice_get longer) (sym same) ∙ found in cc)

  -- so there are calls of the host alone
  own_by : (k : ℕ) (x : Filled) → length begin ≤ k → slice_get longer k ≡ Some x → Where k → IsCallOf 0 x
  own_by k x behind found (Old less) = is.own k x behind (sym (get_old log e k less) ∙ found)
  own_by k x behind found (Last same) = record { disk = 0; call = call; answer = answer_of disk call; left = []; is = sym (last_is k x same found) }

  -- the world before a place is as it was
  at_old : (k : ℕ) → k ≤ length log → at c longer k ≡ at c log k
  at_old k le = ap (world c) (take-append-le k log (e ∷ []) le)

  -- and before the last it is that of the list
  at_last : at c longer (length log) ≡ world c log
  at_last = ap (world c) (take-append_seam log (e ∷ []))

  module _ (k : ℕ) (s : Setup) (heard : List Answered) (hears : Hears c longer k s heard) (behind : length begin ≤ k) where
    -- an attempt that hears at a place of before heard there
    before : k < length log → Hears c log k s heard
    before less =
        record {
          host = hears.host;
          disk = hears.disk;
          call = hears.call;
          answer = hears.answer;
          left = hears.left;
          entry = sym (get_old log e k less) ∙ hears.entry;
          memory = hears.memory;
          running = subst (λ (w : World). w.host hears.host ≡ Running hears.memory) (at_old k (omega arith)) hears.running;
          doing = hears.doing;
          does = hears.does;
          is_setup = hears.is_setup;
          is_heard = hears.is_heard;
        }

    -- what is heard with the last is well answered
    well_last : (h d : ℕ) (answer : Answer) → h ≡ 0 → d ≡ 0 → answer ≡ answer_of disk call → host ≡ Running hears.memory → (r : Setup) → r ≡ setup_of c h hears.memory hears.doing.operation → (xs : List Answered)
        → xs ≡ hears.doing.heard ++ record { disk = d; heard = heard_as answer } ∷ [] → MostAnswerEach r (on xs) × (r.slot ≤ last)
    well_last h d answer host_none disk_none answered running r is_setup xs is_heard =
        let m = hears.memory in
        let t = hears.doing in
        let there : heard_well c last m m.doing (answer_of disk call) ≡ true = subst (λ (old : Host). host_well c last old (answer_of disk call) ≡ true) running good in
        let both : heard_well c last m (Some (Attempts t)) (answer_of disk call) ≡ true = subst (λ (o : Option Doing). heard_well c last m o (answer_of disk call) ≡ true) hears.does there in
        let parts = both_true (nat_le (length m.learned) last) (is_well (setup_of c 0 m t.operation) (on (t.heard ++ record { disk = 0; heard = heard_as (answer_of disk call) } ∷ []) 0)) both in
        let doing = parts.1 in
        let low : length m.learned ≤ last = leb-true (length m.learned) last parts.0 in
        let setup : setup_of c 0 m t.operation ≡ r = ap (λ (g : ℕ). setup_of c g m t.operation) (sym host_none) ∙ sym is_setup in
        let all : t.heard ++ record { disk = 0; heard = heard_as (answer_of disk call) } ∷ [] ≡ xs =
        ap (λ (k : ℕ). t.heard ++ record { disk = k; heard = heard_as (answer_of disk call) } ∷ []) (sym disk_none)
        ∙ ap (λ (a : Answer). t.heard ++ record { disk = d; heard = heard_as a } ∷ []) (sym answered) ∙ sym is_heard in (
          well_answers r (on xs) (ap (λ (q : Setup). q.disks) is_setup ∙ one)
              (subst (λ (ys : List Answered). is_well r (on ys 0) ≡ true) all (subst (λ (q : Setup). is_well q (on (t.heard ++ record { disk = 0; heard = heard_as (answer_of disk call) } ∷ []) 0) ≡ true) setup doing)),
          subst (λ (q : Setup). q.slot ≤ last) setup low,
        )

    -- so each is well answered
    well_by : Where k → MostAnswerEach s (on heard) × (s.slot ≤ last)
    well_by (Old less) = is.well k s heard (before less) behind
    well_by (Last same) =
        let made_it : e ≡ Called hears.host hears.disk hears.call hears.answer hears.left = last_is k _ same hears.entry in
        let of_zero : 0 ≡ hears.host = cc in
        let on_zero : 0 ≡ hears.disk = cc in
        let answers : answer_of disk call ≡ hears.answer = cc in
        let now : at c longer k ≡ world c log = ap (at c longer) same ∙ at_last in
        let stands : (world c log).host hears.host ≡ Running hears.memory = subst (λ (w : World). w.host hears.host ≡ Running hears.memory) now hears.running in
        well_last hears.host hears.disk hears.answer (sym of_zero) (sym on_zero) (sym answers) (sym is.host_is ∙ ap (λ (g : ℕ). (world c log).host g) of_zero ∙ stands) s hears.is_setup heard hears.is_heard

  -- all of it holds of the longer list
  plays_longer : Plays c last begin longer (disk_step disk e) (host_step c 0 host e) (calls + 1)
  plays_longer =
      let size = is.long in
      record {
        disk_is = disk_here c log e 0 refl ∙ ap (λ (d : DiskState). disk_step d e) is.disk_is;
        host_is = host_here c log e 0 refl ∙ ap (λ (old : Host). host_step c 0 old e) is.host_is;
        long = omega (arith, length-append log (e ∷ []));
        begins = take-append-le (length begin) log (e ∷ []) (omega arith) ∙ is.begins;
        own = λ k x behind found. own_by k x behind found (place k x found);
        well = λ k s heard hears behind. well_by k s heard hears behind (place k _ hears.entry);
        counted =
            ap (λ (l : List Filled). length (of_host 0 l)) (drop-append-le (length begin) log (e ∷ []) (omega arith))
            ∙ ap length (filter-append (is_of 0) (drop (length begin) log) (e ∷ []))
            ∙ length-append (of_host 0 (drop (length begin) log)) (of_host 0 (e ∷ []))
            ∙ ap (λ (n : ℕ). n + 1) is.counted;
      }

  -- one step more
  pub plays_next : Plays c last begin (happens c log (Step 0)) (disk_step disk e) (host_step c 0 host e) (calls + 1)
  plays_next = subst (λ (l : List Filled). Plays c last begin l (disk_step disk e) (host_step c 0 host e) (calls + 1)) (sym brings) plays_longer

-- SO MANY STEPS

module _ (c : Shape) (last : ℕ) (begin : List Filled) (one : c.disks ≡ 1) where
  -- what the computed step tells
  record Told (disk : DiskState) (host : Host) (q : DiskState × Host) : Type 0 where
    pub call : Call
    pub next : next_of c 0 host ≡ Some (0, call)
    pub good : host_well c last host (answer_of disk call) ≡ true
    pub is : (disk_step disk (made disk call), host_step c 0 host (made disk call)) ≡ q

  -- each step that is computed is such a call
  told : (disk : DiskState) (host : Host) (q : DiskState × Host) (o : Option (ℕ × Call)) → next_of c 0 host ≡ o → played_by c last disk host o ≡ Some q → Told disk host q
  told disk host q None due is = absurd (cc)
  told disk host q (Some (d, call)) due is = go (d == 0) refl (host_well c last host (answer_of disk call)) refl is
    where
      go : (a : Bool) → (d == 0) ≡ a → (b : Bool) → host_well c last host (answer_of disk call) ≡ b → cond (a && b) (Some (disk_step disk (made disk call), host_step c 0 host (made disk call))) None ≡ Some q → Told disk host q
      go true first_disk true good same = record { call = call; next = due ∙ ap (λ (k : ℕ). Some (k, call)) (eqb-true d 0 first_disk); good = good; is = cc }
      go true first_disk false good same = absurd (cc)
      go false first_disk b good same = absurd (cc)

  -- and each but the first goes on from one
  by_step : (n : ℕ) (o : Option (DiskState × Host)) (q : DiskState × Host) → option_and_then (λ (p : DiskState × Host). played c last n p.0 p.1) o ≡ Some q → (p : DiskState × Host) × (o ≡ Some p) × (played c last n p.0 p.1 ≡ Some q)
  by_step n None q is = absurd (cc)
  by_step n (Some p) q is = (p, refl, is)

  -- so it is behind as many steps as were computed
  pub plays_on : (n : ℕ) (log : List Filled) (disk : DiskState) (host : Host) (calls : ℕ) (q : DiskState × Host) → Plays c last begin log disk host calls → played c last n disk host ≡ Some q → Plays c last begin (happen c log (steps n)) q.0 q.1 (calls + n)
  unfolding played steps
  plays_on zero log disk host calls q is so =
      let same : (disk, host) ≡ q = cc in
      let none : calls ≡ calls + zero = omega arith in
      subst (λ (p : DiskState × Host). Plays c last begin log p.0 p.1 (calls + zero)) same (subst (λ (k : ℕ). Plays c last begin log disk host k) none is)
  plays_on (suc n) log disk host calls q is so =
      let by = by_step n (played_by c last disk host (next_of c 0 host)) q so in
      let it = told disk host by.0 (next_of c 0 host) refl by.1 in
      let one_more = plays_next c last begin one log disk host calls is it.call it.next it.good in
      let number : (calls + 1) + n ≡ calls + suc n = omega arith in
      subst (λ (k : ℕ). Plays c last begin (happen c log (steps (suc n))) q.0 q.1 k) number
      (plays_on n (happens c log (Step 0)) by.0.0 by.0.1 (calls + 1) q (subst (λ (p : DiskState × Host). Plays c last begin (happens c log (Step 0)) p.0 p.1 (calls + 1)) it.is one_more) by.2)
