-- What the ends of a look rest on.
use Rattle.std.specs.Prelude.{◌&&◌, nat_lt, is_some, is_none, option_and_then, if◌then◌else◌}
use Rattle.std.specs.Option.{option_or}
use Rattle.std.proofs.Common.{ℕ, zero, suc, ◌*◌, ◌<◌, ◌≤◌, ◌≡◌, ◌≢◌, ◌⊎◌, Bool, true, false, not, Option, Some, None, List, [], ◌∷◌, length, refl, sym, subst, ap, ◌∙◌, arith, inl, inr}
use Rattle.std.proofs.lemmas.Bool.{ltb-true, ltb-false, leb-true, cases_eq}
use Rattle.torn_block.specs.Layout.{cluster_version}
use Rattle.torn_block.specs.declared.layout.TheConstants.{HOSTS}
use Rattle.paxos_block.specs.Saying.{Said}
use Rattle.paxos_block.specs.Row.{DecodedBlock}
use Rattle.paxos_block.specs.Votes.{says_in, marked, marked_in, marked_below}
use Rattle.attempt.specs.Answers.{Heard, Booted, Told, Answered, Answers, on, all_good}
use Rattle.attempt.specs.Numbers.{count, first_below}
use Rattle.attempt.proofs.Firsts.{some_below, none_below, below_some}
use Rattle.attempt.proofs.Lists.{by_eq}
use Rattle.rounds.specs.Look.History.{IsHistory}
use Rattle.rounds.specs.Look.Shown.{IsMarkRead, IsNoMarkRead}
use Rattle.rounds.specs.Look.Status.{Setup, Ended, End, Decided, Unmarked, NoMajority, status, asking, visited, marked_on, are_unmarked, are_too_few, waits, mark_of, row_of, shows_no_mark, due_or, told_on, unless_told}
use Rattle.rounds.proofs.Look.Counting.{count_either}
use Rattle.rounds.proofs.Look.Histories.{all_read}

-- A MARK

-- of two the first that there is
one_of : (first second : Option (List ℕ)) (value : List ℕ) → option_or first second ≡ Some value → (first ≡ Some value) ⊎ (second ≡ Some value)
one_of None second value is = inr is
one_of (Some before) second value is = inl is

record HasMark (row : List DecodedBlock) (value : List ℕ) : Type 0 where
  host : ℕ
  below : host < HOSTS
  mark : (says_in row host).mark ≡ true
  inp : (says_in row host).inp ≡ Some value

marked_by : (says : Said) (value : List ℕ) (b : Bool) → says.mark ≡ b → (if b then says.inp else None) ≡ Some value → (says.mark ≡ true) × (says.inp ≡ Some value)
marked_by says value true is some = (is, some)
marked_by says value false is some = absurd (cc)

mark_in : (row : List DecodedBlock) (n : ℕ) (value : List ℕ) → n ≤ HOSTS → marked_below row n ≡ Some value → HasMark row value
mark_in row zero value l some = absurd (cc)
mark_in row (suc n) value l some =
    elim (one_of (marked_below row n) (marked (says_in row n)) value some) [
      | inl before ↦ mark_in row n value (omega arith) before
      | inr here ↦ (let both = marked_by (says_in row n) value (says_in row n).mark refl here in record { host = n; below = omega arith; mark = both.0; inp = both.1 })
    ]

read_by : (a : List Heard) (value : List ℕ) (o : Option (List DecodedBlock)) → row_of a ≡ o → option_and_then (marked_in cluster_version) o ≡ Some value → IsMarkRead a value
read_by a value None is some = absurd (cc)
read_by a value (Some row) is some =
    let has = mark_in row HOSTS value (omega arith) some in
    record { row = row; host = has.host; read = is; below = has.below; mark = has.mark; inp = has.inp }

-- a disk that tells a value has shown a marked block with it
pub mark_read : (a : List Heard) (value : List ℕ) → mark_of a ≡ Some value → IsMarkRead a value
mark_read a value some = read_by a value (row_of a) refl some

-- NO MARK

none_of : (first second : Option (List ℕ)) → option_or first second ≡ None → (first ≡ None) × (second ≡ None)
none_of None second is = (refl, is)
none_of (Some before) second is = absurd (cc)

no_mark_in : (row : List DecodedBlock) (n : ℕ) → marked_below row n ≡ None → (host : ℕ) → host < n → marked (says_in row host) ≡ None
no_mark_in row zero none host l = absurd (omega arith)
no_mark_in row (suc n) none host l =
    let two = none_of (marked_below row n) (marked (says_in row n)) none in
    elim (cases_eq host n) [
      | inl same ↦ ap (λ (h : ℕ). marked (says_in row h)) same ∙ two.1
      | inr off ↦ no_mark_in row n two.0 host (omega arith)
    ]

is_none_so : (o : Option (List ℕ)) → is_none o ≡ true → o ≡ None
is_none_so None is = refl
is_none_so (Some value) is = absurd (cc)

none_by : (a : List Heard) (o : Option (List DecodedBlock)) → row_of a ≡ o → (is_some o && is_none (option_and_then (marked_in cluster_version) o)) ≡ true → IsNoMarkRead a
none_by a None is shows = absurd (cc)
none_by a (Some row) is shows = record { row = row; read = is; none = no_mark_in row HOSTS (is_none_so (marked_in cluster_version row) shows) }

pub no_mark_read : (a : List Heard) → shows_no_mark a ≡ true → IsNoMarkRead a
no_mark_read a shows = none_by a (row_of a) refl shows

-- WHAT A STATUS SAYS

is_some_so : {A : Type 0} (o : Option A) → is_some o ≡ true → (x : A) × (o ≡ Some x)
is_some_so None is = absurd (cc)
is_some_so (Some x) is = (x, refl)

asking_end : (b few : Bool) (o : Option ℕ) (end : End) → (if b then Ended Unmarked else if few then Ended NoMajority else due_or o (Ended NoMajority)) ≡ Ended end
    → ((b ≡ true) × (end ≡ Unmarked)) ⊎ ((b ≡ false) × ((few ≡ true) ⊎ (o ≡ None)) × (end ≡ NoMajority))
asking_end true few o end is = inl (refl, cc)
asking_end false true o end is = inr (refl, inl refl, cc)
asking_end false false None end is = inr (refl, inr refl, cc)
asking_end false false (Some d) end is = absurd (cc)

module _ (s : Setup) (f : Answers) where
  abbrev asked : End → Type 0
  asked end = asking s f ≡ Ended end

  told_end : (e : ℕ) (o : Option (List ℕ)) (end : End) → told_on e o (asking s f) ≡ Ended end → ((value : List ℕ) × (o ≡ Some value) × (end ≡ Decided e value)) ⊎ asked end
  told_end e None end is = inr is
  told_end e (Some value) end is = inl (value, refl, cc)

  unless_end : (o : Option ℕ) (end : End) → marked_on s f ≡ o → unless_told f o (asking s f) ≡ Ended end → ((d : ℕ) × (value : List ℕ) × (marked_on s f ≡ Some d) × (mark_of (f d) ≡ Some value) × (end ≡ Decided d value)) ⊎ ((marked_on s f ≡ None) × asked end)
  unless_end None end there is = inr (there, is)
  unless_end (Some d) end there is =
      let first = some_below s.disks (λ e. is_some (mark_of (f e))) d there in
      let has = is_some_so (mark_of (f d)) first.passes in
      elim (told_end d (mark_of (f d)) end is) [
        | inl told ↦ inl (d, told.0, there, told.1, told.2)
        | inr rest ↦ absurd (let none : told_on d (Some has.0) (asking s f) ≡ Ended (Decided d has.0) = refl in
            let said : Ended (Decided d has.0) ≡ Ended end = sym none ∙ ap (λ (o : Option (List ℕ)). told_on d o (asking s f)) (sym has.1) ∙ is in
            decided_asked d has.0 (rest ∙ sym said))
      ]
    where
      decided_asked : (d : ℕ) (value : List ℕ) → asking s f ≡ Ended (Decided d value) → ⊥
      decided_asked d value is = elim (asking_end (are_unmarked s f) (are_too_few s f) (visited s f) (Decided d value) is) [
        | inl other ↦ absurd (let same : Decided d value ≡ Unmarked = other.1 in cc)
        | inr other ↦ absurd (let same : Decided d value ≡ NoMajority = other.2 in cc)
      ]

  pub decided_is : (d : ℕ) (value : List ℕ) → status s f ≡ Ended (Decided d value) → (d < s.disks) × (mark_of (f d) ≡ Some value)
  decided_is d value is = elim (unless_end (marked_on s f) (Decided d value) refl is) [
    | inl there ↦
        (let disk : d ≡ there.0 = cc in
        let same : value ≡ there.1 = cc in
        let first = some_below s.disks (λ e. is_some (mark_of (f e))) there.0 there.2 in
        (subst (λ (e : ℕ). e < s.disks) (sym disk) first.below, ap (λ (e : ℕ). mark_of (f e)) disk ∙ there.3 ∙ ap Some (sym same)))
    | inr rest ↦ elim (asking_end (are_unmarked s f) (are_too_few s f) (visited s f) (Decided d value) rest.1) [
      | inl other ↦ absurd (let same : Decided d value ≡ Unmarked = other.1 in cc)
      | inr other ↦ absurd (let same : Decided d value ≡ NoMajority = other.2 in cc)
    ]
  ]

  pub unmarked_is : status s f ≡ Ended Unmarked → s.disks < 2 * count s.disks (λ d. shows_no_mark (f d))
  unmarked_is is = elim (unless_end (marked_on s f) Unmarked refl is) [
    | inl there ↦ absurd (let same : Unmarked ≡ Decided there.0 there.1 = there.4 in cc)
    | inr rest ↦ elim (asking_end (are_unmarked s f) (are_too_few s f) (visited s f) Unmarked rest.1) [
      | inl most ↦ ltb-true s.disks (2 * count s.disks (λ d. shows_no_mark (f d))) most.0
      | inr other ↦ absurd (let same : Unmarked ≡ NoMajority = other.2 in cc)
    ]
  ]

  -- no mark was seen, too few disks have shown that there is none, and too many have failed, or no call is due
  pub record IsGivenUp : Type 0 where
    pub unmarked : marked_on s f ≡ None
    pub few : are_unmarked s f ≡ false
    pub over : (are_too_few s f ≡ true) ⊎ (visited s f ≡ None)

  pub given_up : status s f ≡ Ended NoMajority → IsGivenUp
  given_up is = elim (unless_end (marked_on s f) NoMajority refl is) [
    | inl there ↦ absurd (let same : NoMajority ≡ Decided there.0 there.1 = there.4 in cc)
    | inr rest ↦ elim (asking_end (are_unmarked s f) (are_too_few s f) (visited s f) NoMajority rest.1) [
      | inl other ↦ absurd (let same : NoMajority ≡ Unmarked = other.1 in cc)
      | inr few ↦ record { unmarked = rest.0; few = few.0; over = few.1 }
    ]
  ]

-- TOO FEW SOUND ROWS

none_left : (s : Setup) (f : Answers) (b : Bool) → waits (f s.first) ≡ b → (if b then Some s.first else first_below s.disks (λ d. waits (f d))) ≡ None → (d : ℕ) → d < s.disks → waits (f d) ≡ false
none_left s f true waiting none d l = absurd (cc)
none_left s f false waiting none d l = none_below s.disks (λ d. waits (f d)) none d l

shows_by : (o : Option (List ℕ)) (row : Bool) → row ≡ true → is_some o ≡ false → (row && is_none o) ≡ true
shows_by None row is none = rw is refl
shows_by (Some value) row is none = absurd (cc)

over_by : (a : List Heard) (good : Bool) → all_good a ≡ good → (good && nat_lt (length a) 2) ≡ false → is_some (mark_of a) ≡ false → (all_good a ≡ true → 2 ≤ length a → is_some (row_of a) ≡ true) → (shows_no_mark a ≡ true) ⊎ (not (all_good a) ≡ true)
over_by a false good over none read = inr (ap not good)
over_by a true good over none read = inl (shows_by (mark_of a) (is_some (row_of a)) (read good (ltb-false (length a) 2 over)) none)

pub too_few : (s : Setup) (heard : List Answered) → s.first < s.disks → IsHistory s heard → status s (on heard) ≡ Ended NoMajority → s.disks ≤ 2 * count s.disks (λ d. not (all_good (on heard d)))
too_few s heard first history is =
    let f : Answers = on heard in
    let up = given_up s f is in
    elim up.over [
      | inl failed ↦ leb-true s.disks (2 * count s.disks (λ d. not (all_good (f d)))) failed
      | inr over ↦
          (let few = ltb-false s.disks (2 * count s.disks (λ d. shows_no_mark (f d))) up.few in
          let all = count_either s.disks (λ d. shows_no_mark (f d)) (λ d. not (all_good (f d)))
          (λ d l. over_by (f d) (all_good (f d)) refl (none_left s f (waits (f s.first)) refl over d l) (none_below s.disks (λ e. is_some (mark_of (f e))) up.unmarked d l) (all_read s first heard history d)) in
          omega arith)
    ]

-- ONE DISK IS ENOUGH

pub one_is_enough : (s : Setup) (boot : ℕ) (row : List DecodedBlock) (value : List ℕ) → s.first < s.disks → marked_in cluster_version row ≡ Some value → status s (on (record { disk = s.first; heard = Booted boot } ∷ record { disk = s.first; heard = Told (Some row) } ∷ [])) ≡ Ended (Decided s.first value)
one_is_enough s boot row value first mark =
    let heard : List Answered = record { disk = s.first; heard = Booted boot } ∷ record { disk = s.first; heard = Told (Some row) } ∷ [] in
    let f : Answers = on heard in
    let two : List Heard = Booted boot ∷ Told (Some row) ∷ [] in
    let here : f s.first ≡ two = by_eq (λ t. (if t then Booted boot ∷ (if t then Told (Some row) ∷ [] else []) else (if t then Told (Some row) ∷ [] else [])) ≡ two) s.first s.first (λ same. refl) (λ off. absurd (off refl)) in
    let there : (e : ℕ) → e ≢ s.first → f e ≡ [] = λ e off. by_eq (λ t. (if t then Booted boot ∷ (if t then Told (Some row) ∷ [] else []) else (if t then Told (Some row) ∷ [] else [])) ≡ []) s.first e (λ same. absurd (off (sym same))) (λ other. refl) in
    let seen : mark_of (f s.first) ≡ Some value = ap mark_of here ∙ mark in
    let found : marked_on s f ≡ Some s.first = below_some s.disks (λ d. is_some (mark_of (f d))) s.first
    (record { below = first; passes = ap (λ (o : Option (List ℕ)). is_some o) seen; none = λ e l. ap (λ (a : List Heard). is_some (mark_of a)) (there e (λ same. absurd (omega arith))) ∙ refl }) in
    ap (λ (o : Option ℕ). unless_told f o (asking s f)) found ∙ ap (λ (o : Option (List ℕ)). told_on s.first o (asking s f)) seen
