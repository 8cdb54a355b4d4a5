-- How a marking goes on with an answer: what is kept follows from the answers with one more.
use Rattle.std.proofs.Common.{ℕ, ◌<◌, ◌≡◌, true, false, not, Option, Some, None, List, [], ◌∷◌, ◌++◌, refl, sym, subst, ap, ◌∙◌}
use Rattle.std.specs.Prelude.{◌&&◌, is_some}
use Rattle.std.specs.Option.{option_map}
use Rattle.disk.specs.Disk as device
use Rattle.torn_block.specs.Layout.{cluster_version}
use Rattle.torn_block.specs.declared.block.Block128.{Block128}
use Rattle.torn_block.specs.Plan.{IsReading, told_number}
use Rattle.paxos_block.specs.Places.{place_of, VoteOf, row_place}
use Rattle.paxos_block.specs.Saying.{Said as PBlock, MaySay, body_saying, said_as}
use Rattle.paxos_block.specs.Row.{DecodedBlock, IsSaid, seen_at, number_or_zero, decoded_row}
use Rattle.attempt.specs.Answers.{Heard, Told, Answered, Answers, heard_as, more, on}
use Rattle.attempt.specs.History.{Fits, IsAnswerTo}
use Rattle.attempt.specs.Numbers.{count}
use Rattle.attempt.proofs.Hearing.{history_more}
use Rattle.attempt.proofs.More.{on_more}
use Rattle.attempt.specs.DeviceCalls.{device_answer, heard_of}
use Rattle.attempt.specs.declared.heard.Heard as code_heard
use Rattle.attempt.specs.declared.heard.Heard.TheVariants as answer
use Rattle.rounds.specs.Marking.Kept.{Follows, LeadsTo, answer_of, call_due, end_of, setup_of}
use Rattle.rounds.specs.Marking.Notes.{Notes, notes_in}
use Rattle.rounds.specs.Marking.Status.{Setup, Marked, NoMajority, duty, status, next_call, is_marked, is_value, with_mark}
use Rattle.rounds.specs.declared.marks.end.End.TheVariants as end
use Rattle.rounds.specs.Kept as rounds
use Rattle.rounds.specs.Kept.{end_of_status, end_by}
use Rattle.rounds.specs.declared.end.End as round_end
use Rattle.rounds.specs.declared.end.End.TheVariants as round_ends
use Rattle.rounds.specs.declared.round.Round.{Round}
use Rattle.rounds.specs.declared.round.Stage.{Stage}
use Rattle.rounds.specs.declared.round.Stage.TheVariants as stage
use Rattle.rounds.proofs.Answering as rounds_on

-- a round that goes on
pub still_going : (o : Option round_end.End) → option_map (end_by end.Marked end.NoMajority) o ≡ None → o ≡ None
still_going None is = refl
still_going (Some e) is = absurd (cc)

-- WHAT MAY BE MARKED

-- what holds a value has an input
has_input : (inp : Option (List ℕ)) (value : List ℕ) → is_value inp value ≡ true → is_some inp ≡ true
has_input None value holds = absurd (cc)
has_input (Some inp) value holds = refl

-- a block that was read may be said with a mark where it holds a value
pub may_mark_it : (host : ℕ) (read : Option (ℕ × List ℕ)) (says : PBlock) (value : List ℕ) → IsSaid cluster_version host read says → is_value says.inp value ≡ true
    → MaySay cluster_version host (with_mark says)
may_mark_it host None says value said holds =
    let none : false ≡ true = sym (ap (λ (x : PBlock). is_value x.inp value) said) ∙ holds in
    absurd (cc)
may_mark_it host (Some read) says value said holds =
    record { mbal = said.1.mbal; vote = said.1.vote; mark = has_input says.inp value holds }

-- an input is its bytes
same_input : (o : Option (List ℕ)) → option_map (λ value. value) o ≡ o
same_input None = refl
same_input (Some value) = refl

pub said_same : (says : PBlock) → said_as (λ value. value) says ≡ says
said_same says = ap (λ (o : Option (List ℕ)). record says { inp = o }) (same_input says.inp)

pub says_shown : (says seen : PBlock) → said_as (λ value. value) says ≡ seen → says ≡ seen
says_shown says seen is = sym (said_same says) ∙ is

-- an answer as the definitions of an attempt see it
heard_same : (x : code_heard.Heard (List ℕ)) → heard_as (device_answer x) ≡ heard_of cluster_version x
heard_same (answer.Booted boot) = refl
heard_same answer.Done = refl
heard_same (answer.Told bytes) = refl
heard_same (answer.Fault fault) = refl

-- ONE ANSWER MORE

module _ (host slot : ℕ) (value : List ℕ) (r : Round) where
  abbrev n : Notes
  n = notes_in host slot value r

  abbrev s : Setup
  s = setup_of n

  -- A list of answers leads to it. With one more it leads on.
  module _ (of : Setup) (answers : List Answered) (led : LeadsTo of answers n) (going : r.end ≡ None) (below : r.disk < r.disks) where
    abbrev f : Answers
    f = on answers

    pub next : next_call of f ≡ Some (call_due n)
    next =
        subst (λ (t : Setup). next_call t f ≡ Some (call_due n)) led.of
        (rounds_on.call_is (duty s) f r led.follows going below (Marked (count s.disks (λ d. is_marked s (f d)))) NoMajority)

    leads : (x : Heard) → Fits (call_due n).1 x → (step new : Round) → new ≡ step → new.disks ≡ r.disks → rounds.Follows (duty s) (more f r.disk x) step → LeadsTo of (answers ++ record { disk = r.disk; heard = x } ∷ []) (notes_in host slot value new)
    leads x fits step new is_step disks after =
        let answered : Answered = record { disk = r.disk; heard = x } in
        let then : Follows (more f r.disk x) (notes_in host slot value new) =
        subst (λ (m : ℕ). rounds.Follows (duty (record { host = host; slot = slot; disks = m; value = value })) (more f r.disk x) new) (sym disks) (subst (rounds.Follows (duty s) (more f r.disk x)) (sym is_step) after) in
        record {
          of = ap (λ (m : ℕ). record { host = host; slot = slot; disks = m; value = value }) disks ∙ led.of;
          history = history_more (next_call of) answers answered led.history (subst (λ (o : Option (ℕ × device.Call)). IsAnswerTo o answered) (sym next) (refl, fits));
          follows = subst (λ (g : Answers). Follows g (notes_in host slot value new)) (sym (on_more answers answered)) then;
        }

    -- the answer did not tell what was read
    pub hears : (x : code_heard.Heard (List ℕ)) → Fits (call_due n).1 (heard_of cluster_version x) → ((bytes : _) → x ≡ answer.Told bytes → ⊥) → (new : Round) → new ≡ rounds.hears r x → new.disks ≡ r.disks → LeadsTo of (answers ++ answer_of n x ∷ []) (notes_in host slot value new)
    hears x fits other new step disks =
        subst (λ (y : Heard). LeadsTo of (answers ++ record { disk = r.disk; heard = y } ∷ []) (notes_in host slot value new)) (heard_same x)
        (let fits_too = subst (Fits (call_due n).1) (sym (heard_same x)) fits in
        leads (heard_as (device_answer x)) fits_too (rounds.hears r x) new step disks (rounds_on.heard (duty s) f r led.follows going below (decoded_row cluster_version) x fits_too other))

    module _ (st : r.stage ≡ stage.Reading) where
      -- what was read fits
      fits_read : (o : Option (List DecodedBlock)) → Fits (call_due n).1 (Told o)
      fits_read o = subst (λ (q : Stage). Fits (rounds.call_at q (row_place cluster_version slot) (place_of cluster_version (VoteOf slot host)) r) (Told o)) (sym st) tt

      -- nothing sound
      pub reads_damage : (new : Round) → new ≡ rounds.drops r → new.disks ≡ r.disks → LeadsTo of (answers ++ record { disk = r.disk; heard = Told None } ∷ []) (notes_in host slot value new)
      reads_damage new step disks = leads (Told None) (fits_read None) (rounds.drops r) new step disks (rounds_on.dropped (duty s) f r led.follows going below (Told None) refl)

      -- a row with this block, which is to be written or not
      module _ (row : List DecodedBlock) (says : PBlock) (shown : says ≡ (seen_at row host).says) (new : Round) (disks : new.disks ≡ r.disks) where
        pub writes : (block : Block128) → IsReading cluster_version (seen_at row host).bytes block → number_or_zero (told_number block) ≡ (seen_at row host).sequence → (not says.mark && is_value says.inp value) ≡ true → new ≡ rounds.begins r block (body_saying cluster_version (with_mark says))
            → LeadsTo of (answers ++ record { disk = r.disk; heard = Told (Some row) } ∷ []) (notes_in host slot value new)
        writes block read sequence due step =
            leads (Told (Some row)) (fits_read (Some row)) (rounds.begins r block (body_saying cluster_version (with_mark says))) new step disks
            (rounds_on.write (duty s) f r led.follows going below st row block (body_saying cluster_version (with_mark says))
            (record { due = ap (λ (x : PBlock). not x.mark && is_value x.inp value) (sym shown) ∙ due; read = read; sequence = sequence; writes = ap (λ (x : PBlock). body_saying cluster_version (with_mark x)) shown }))

        pub passes : (not says.mark && is_value says.inp value) ≡ false → new ≡ rounds.passes r says.mark → LeadsTo of (answers ++ record { disk = r.disk; heard = Told (Some row) } ∷ []) (notes_in host slot value new)
        passes none step =
            leads (Told (Some row)) (fits_read (Some row)) (rounds.passes r says.mark) new step disks
            (rounds_on.pass (duty s) f r led.follows going below st row says.mark (ap (λ (x : PBlock). not x.mark && is_value x.inp value) (sym shown) ∙ none) (ap (λ (x : PBlock). x.mark) (sym shown)))

  -- how it stands
  pub status_is : (of : Setup) (answers : List Answered) → LeadsTo of answers n → r.disk < r.disks → option_map end_of n.end ≡ end_of_status (status of (on answers))
  status_is of answers led below =
      let f = on answers in
      subst (λ (t : Setup). option_map end_of n.end ≡ end_of_status (status t f)) led.of
      (by_end r.end ∙ rounds_on.end_is (duty s) Marked (Marked (count s.disks (λ d. is_marked s (f d)))) NoMajority f r led.follows below (λ held some stands. ap Marked (sym stands.count)))
    where
      by_end : (e : Option round_end.End) → option_map end_of (option_map (end_by end.Marked end.NoMajority) e) ≡ option_map (end_by Marked NoMajority) e
      by_end None = refl
      by_end (Some (round_ends.Over held)) = refl
      by_end (Some round_ends.NoMajority) = refl
