-- How a beat goes on with an answer: what is kept follows from the answers with one more.
use Rattle.std.proofs.Common.{ℕ, zero, suc, ◌+◌, ◌<◌, ◌≤◌, ◌≡◌, Option, Some, None, List, [], ◌∷◌, ◌++◌, length, take, map, get_or, refl, sym, subst, ap, ◌∙◌, arith}
use Rattle.std.specs.Prelude.{slice_index_or, slice_set}
use Rattle.std.specs.List.{range_with_len}
use Rattle.std.specs.Option.{option_map}
use Rattle.std.proofs.lemmas.List.{length-set, get_or-set_same, get_or-set_other}
use Rattle.disk.specs.Disk as device
use Rattle.torn_block.specs.Layout.{area_place, cluster_version}
use Rattle.torn_block.specs.declared.block.Block128.{Block128}
use Rattle.torn_block.specs.Block.{number_in, value_of}
use Rattle.torn_block.specs.Damage.{block_of}
use Rattle.torn_block.specs.Plan.{IsReading}
use Rattle.paxos_block.specs.Places.{place_of, BeatOf}
use Rattle.paxos_block.specs.Row.{number_or_zero}
use Rattle.attempt.specs.Heard.{told}
use Rattle.attempt.proofs.Hearing.{history_more}
use Rattle.attempt.proofs.More.{by_disk, on_more}
use Rattle.attempt.specs.DeviceCalls as calls
use Rattle.attempt.specs.declared.heard.Heard as code_heard
use Rattle.attempt.specs.declared.heard.Heard.TheVariants as answer
use Rattle.heartbeat.specs.Beat.{area_said, beat_body, counter_at, counters_in}
use Rattle.rounds.specs.Beat.Answers.{Heard, Told, Answered, Answers, more, on, reading_of}
use Rattle.rounds.specs.Beat.Calls.{heard_of}
use Rattle.rounds.specs.Beat.History.{Fits, IsAnswerTo}
use Rattle.rounds.specs.Beat.Kept.{Follows, LeadsTo, answer_of, call_due, end_of, readings_of, setup_of}
use Rattle.rounds.specs.Beat.Notes.{Notes, notes_in}
use Rattle.rounds.specs.Beat.Status.{Setup, Beaten, NoMajority, duty, status, next_call, readings}
use Rattle.rounds.specs.declared.beats.end.End.TheVariants as end
use Rattle.rounds.proofs.Beat.Histories.{fits_too}
use Rattle.rounds.specs.Kept as rounds
use Rattle.rounds.specs.Kept.{IsToWrite, end_of_status, end_by}
use Rattle.rounds.specs.declared.end.End as round_end
use Rattle.rounds.specs.declared.round.Round.{Round}
use Rattle.rounds.specs.declared.round.Stage.{Stage}
use Rattle.rounds.specs.declared.round.Stage.TheVariants as stage
use Rattle.rounds.proofs.Answering as rounds_on

-- a round that goes on
pub still_going : (o : Option round_end.End) → option_map (end_by (λ held. end.Beaten) end.NoMajority) o ≡ None → o ≡ None
still_going None is = refl
still_going (Some e) is = absurd (cc)

counted : (value : Option (ℕ × List ℕ)) → number_or_zero (number_in value) ≡ counter_at value
counted None = refl
counted (Some value) = refl

-- the own block in an area that was read is to be written
pub to_write : (s : Setup) (area : List ℕ) (block : Block128) → IsReading cluster_version (block_of cluster_version s.host area) block → IsToWrite (duty s) area block beat_body
to_write s area block reads = record { due = refl; read = reads; sequence = ap number_or_zero reads.number ∙ counted (value_of cluster_version (block_of cluster_version s.host area)); writes = refl }

-- the first items of a list, one by one
first_are : (xs : List (Option (List ℕ))) (a k : ℕ) (g : ℕ → Option (List ℕ)) → k ≤ length xs → ((i : ℕ) → i < k → get_or xs i None ≡ g (a + i)) → take k xs ≡ map g (range_with_len a k)
first_are xs a zero g room same = refl
first_are [] a (suc k) g room same = absurd (omega arith)
first_are (x ∷ xs) a (suc k) g room same =
    let at : a + 0 ≡ a = omega arith in
    let first : x ≡ g a = same 0 (omega arith) ∙ ap g at in
    let rest = first_are xs (a + 1) k g (omega arith) (λ i below. (let later : a + suc i ≡ a + 1 + i = omega arith in same (suc i) (omega arith) ∙ ap g later)) in
    λ i. first i ∷ rest i

-- an answer of the kind that the call may get
fits_it : (call : device.Call) (heard : code_heard.Heard (List ℕ)) → Fits call (calls.heard_of cluster_version heard) → Fits call (heard_of heard)
fits_it call (answer.Booted boot) fits = fits_too call (device.Booted boot.number) fits
fits_it call answer.Done fits = fits_too call device.Done fits
fits_it call (answer.Told area) fits = fits_too call (device.Told area.now) fits
fits_it call (answer.Fault fault) fits = tt

module _ (host : ℕ) (r : Round) (kept : List (Option (List ℕ))) where
  abbrev n : Notes
  n = notes_in host r kept

  abbrev s : Setup
  s = setup_of n

  module _ (f : Answers) (is : Follows f n) (going : r.end ≡ None) (below : r.disk < r.disks) where
    -- readings that were not changed
    same_readings : (x : Heard) → (r.stage ≡ stage.Reading → told x ≡ None) → (e : ℕ) → e < r.disks → slice_index_or kept e None ≡ reading_of (more f r.disk x e)
    same_readings x none e less =
        is.readings e less
        ∙ by_disk f r.disk x (λ d a. d ≡ e → reading_of (f e) ≡ reading_of a)
        (λ at. ap (λ (d : ℕ). reading_of (f d)) (sym at) ∙ sym (ap (option_map counters_in) (rounds_on.read_kept (duty s) f r is.round going below x none)))
        (λ d off at. ap (λ (d : ℕ). reading_of (f d)) (sym at))
        e refl

    -- another round, over the same disks
    then : (x : Heard) (step new : Round) → rounds.Follows (duty s) (more f r.disk x) step → new ≡ step → new.disks ≡ r.disks → rounds.Follows (duty (record { host = host; disks = new.disks })) (more f r.disk x) new
    then x step new after is_step disks =
        subst (λ (m : ℕ). rounds.Follows (duty (record { host = host; disks = m })) (more f r.disk x) new) (sym disks) (subst (rounds.Follows (duty s) (more f r.disk x)) (sym is_step) after)

    -- it did not tell what was read
    others : (x : code_heard.Heard (List ℕ)) → Fits (call_due n).1 (heard_of x) → ((bytes : _) → x ≡ answer.Told bytes → ⊥) → (new : Round) → new ≡ rounds.hears r x → new.disks ≡ r.disks → Follows (more f r.disk (heard_of x)) (notes_in host new kept)
    others x fits other new step disks =
        let told_none : (y : code_heard.Heard (List ℕ)) → ((bytes : _) → y ≡ answer.Told bytes → ⊥) → told (heard_of y) ≡ None = elim [
          | answer.Booted boot ↦ λ o. refl
          | answer.Done ↦ λ o. refl
          | answer.Told bytes ↦ λ o. absurd (o bytes refl)
          | answer.Fault fault ↦ λ o. refl
        ] in
        record {
          round = then (heard_of x) (rounds.hears r x) new (rounds_on.heard (duty s) f r is.round going below area_said x fits other) step disks;
          room = (let was = is.room in omega arith);
          readings = λ e less. same_readings (heard_of x) (λ st. told_none x other) e (omega arith);
        }

    -- it told nothing sound
    damaged : (new : Round) → new ≡ rounds.drops r → new.disks ≡ r.disks → Follows (more f r.disk (Told None)) (notes_in host new kept)
    damaged new step disks =
        record {
          round = then (Told None) (rounds.drops r) new (rounds_on.dropped (duty s) f r is.round going below (Told None) refl) step disks;
          room = (let was = is.room in omega arith);
          readings = λ e less. same_readings (Told None) (λ st. refl) e (omega arith);
        }

    -- it told the area
    sound : r.stage ≡ stage.Reading → (area : List ℕ) → (block : Block128) → IsReading cluster_version (block_of cluster_version host area) block → (new : Round) → new ≡ rounds.begins r block beat_body → new.disks ≡ r.disks
        → Follows (more f r.disk (Told (Some area))) (notes_in host new (slice_set kept r.disk (Some (counters_in area))))
    sound st area block reads new step disks =
        let x : Heard = Told (Some area) in
        record {
          round = then x (rounds.begins r block beat_body) new (rounds_on.write (duty s) f r is.round going below st area block beat_body (to_write s area block reads)) step disks;
          room = (let was = is.room in let long = length-set kept r.disk (Some (counters_in area)) in omega arith);
          readings = λ e less. by_disk f r.disk x (λ d a. d ≡ e → slice_index_or (slice_set kept r.disk (Some (counters_in area))) e None ≡ reading_of a)
              (λ at. subst (λ (k : ℕ). slice_index_or (slice_set kept r.disk (Some (counters_in area))) k None ≡ reading_of (f r.disk ++ x ∷ [])) at
              (get_or-set_same kept r.disk (Some (counters_in area)) None (let was = is.room in omega arith) ∙ sym (ap (option_map counters_in) (rounds_on.read_now (duty s) f r is.round going below x st))))
              (λ d off at. get_or-set_other kept r.disk e (Some (counters_in area)) None (λ other. off (at ∙ other)) ∙ is.readings e (omega arith) ∙ ap (λ (k : ℕ). reading_of (f k)) (sym at))
              e refl;
        }

    call_is : next_call s f ≡ Some (call_due n)
    call_is = rounds_on.call_is (duty s) f r is.round going below (Beaten (readings s f)) NoMajority

  -- A list of answers leads to it. With one more it leads on.
  module _ (of : Setup) (answers : List Answered) (led : LeadsTo of answers n) (going : r.end ≡ None) (below : r.disk < r.disks) where
    pub next : next_call of (on answers) ≡ Some (call_due n)
    next = subst (λ (t : Setup). next_call t (on answers) ≡ Some (call_due n)) led.of (call_is (on answers) led.follows going below)

    leads : (x : Heard) → Fits (call_due n).1 x → (new : Round) (read : List (Option (List ℕ))) → new.disks ≡ r.disks → Follows (more (on answers) r.disk x) (notes_in host new read) → LeadsTo of (answers ++ record { disk = r.disk; heard = x } ∷ []) (notes_in host new read)
    leads x fits new read disks follows =
        let answered : Answered = record { disk = r.disk; heard = x } in
        record {
          of = ap (λ (m : ℕ). record { host = host; disks = m }) disks ∙ led.of;
          history = history_more (next_call of) answers answered led.history (subst (λ (o : Option (ℕ × device.Call)). IsAnswerTo o answered) (sym next) (refl, fits));
          follows = subst (λ (g : Answers). Follows g (notes_in host new read)) (sym (on_more answers answered)) follows;
        }

    pub hears : (x : code_heard.Heard (List ℕ)) → Fits (call_due n).1 (calls.heard_of cluster_version x) → ((bytes : _) → x ≡ answer.Told bytes → ⊥) → (new : Round) → new ≡ rounds.hears r x → new.disks ≡ r.disks → LeadsTo of (answers ++ answer_of n x ∷ []) (notes_in host new kept)
    hears x fits other new step disks =
        let fits_too = fits_it (call_due n).1 x fits in
        leads (heard_of x) fits_too new kept disks (others (on answers) led.follows going below x fits_too other new step disks)

    -- what was read fits
    fits_read : r.stage ≡ stage.Reading → (o : Option (List ℕ)) → Fits (call_due n).1 (Told o)
    fits_read st o = subst (λ (q : Stage). Fits (rounds.call_at q (area_place cluster_version) (place_of cluster_version (BeatOf host)) r) (Told o)) (sym st) tt

    pub reads_damage : r.stage ≡ stage.Reading → (new : Round) → new ≡ rounds.drops r → new.disks ≡ r.disks → LeadsTo of (answers ++ record { disk = r.disk; heard = Told None } ∷ []) (notes_in host new kept)
    reads_damage st new step disks = leads (Told None) (fits_read st None) new kept disks (damaged (on answers) led.follows going below new step disks)

    pub reads : r.stage ≡ stage.Reading → (area : List ℕ) → (block : Block128) → IsReading cluster_version (block_of cluster_version host area) block → (new : Round) → new ≡ rounds.begins r block beat_body → new.disks ≡ r.disks
        → LeadsTo of (answers ++ record { disk = r.disk; heard = Told (Some area) } ∷ []) (notes_in host new (slice_set kept r.disk (Some (counters_in area))))
    reads st area block are new step disks =
        leads (Told (Some area)) (fits_read st (Some area)) new (slice_set kept r.disk (Some (counters_in area))) disks (sound (on answers) led.follows going below st area block are new step disks)

  -- how it stands
  pub status_is : (of : Setup) (answers : List Answered) → LeadsTo of answers n → r.disk < r.disks → option_map (end_of n) n.end ≡ end_of_status (status of (on answers))
  status_is of answers led below =
      let f = on answers in
      let read : readings_of n ≡ readings s f =
      first_are kept 0 r.disks (λ d. reading_of (f d)) led.follows.room (λ i less. (let z : 0 + i ≡ i = omega arith in led.follows.readings i less ∙ ap (λ (k : ℕ). reading_of (f k)) (sym z))) in
      subst (λ (t : Setup). option_map (end_of n) n.end ≡ end_of_status (status t f)) led.of
      (by_end r.end ∙ rounds_on.end_is (duty s) (λ held. Beaten (readings_of n)) (Beaten (readings s f)) NoMajority f r led.follows.round below (λ held some stands. ap Beaten read))
    where
      by_end : (e : Option round_end.End) → option_map (end_of n) (option_map (end_by (λ held. end.Beaten) end.NoMajority) e) ≡ option_map (end_by (λ held. Beaten (readings_of n)) NoMajority) e
      by_end None = refl
      by_end (Some (round_end.TheVariants.Over held)) = refl
      by_end (Some round_end.TheVariants.NoMajority) = refl
