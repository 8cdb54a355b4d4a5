-- A line that is not added breaks a rule.
use Rattle.std.proofs.Common.{◌≡◌, ◌⊎◌, ◌≤◌, ◌<◌, ◌+◌, ◌∙◌, inl, inr, ℕ, true, false, ◌&&◌, nat_lt, nat_le, List, [], ◌∷◌, ◌++◌, Option, Some, None, length, length-append, append-nil, arith, refl, sym, ap, subst, eq-eqb, lt-ltb, le-leb}
use Rattle.std.specs.Prelude.{map, replicate, All}
use Rattle.std.specs.List.{flat_map}
use Rattle.std.specs.Option.{is_none}
use Rattle.std.specs.Cmp.Derive.{both_true}
use Rattle.std.proofs.lemmas.List.{map-append, length-replicate}
use Rattle.std.proofs.lemmas.List.Elements.{All-cons, All-nil, All-append, All-head, All-tail}
use Rattle.std.proofs.lemmas.Grind.{flat_map-append}
use Rattle.paxos_block.specs.Shape.{Shape}
use Rattle.lock_command.specs.declared.command.Command.{Command}
use Rattle.lock_command.specs.Reading.{◌>>=◌, passed}
use Rattle.lock_script.specs.declared.event.Event.{Event}
use Rattle.lock_script.specs.declared.event.Event.TheVariants.{Step}
use Rattle.lock_script.specs.declared.line.Line.{Line}
use Rattle.lock_script.specs.declared.line.Line.TheVariants.{Cluster, Log, Once, Steps, Show}
use Rattle.lock_script.specs.declared.show.Show as shown
use Rattle.lock_script.specs.Lines.{is_passed_over}
use Rattle.lock_script.specs.Words.{words_of}
use Rattle.lock_script.specs.Spelling.{line_words, FitsSubmitted, FitsFirst, FitsBehind}
use Rattle.lock_script.specs.Script.{events_in, shows_in, Content, said_lines, IsScript, AreGood}
use Rattle.lock_script.specs.Reading.{line_at}
use Rattle.lock_script.specs.Draft.{SoFar, is_within, is_log_open, added, read_line, Says}
use Rattle.lock_script.proofs.Readings.{is_passed}
use Rattle.lock_script.proofs.Spoken.{FitsLine, line_at-only}
use Rattle.lock_script.proofs.Saying.{said_more, fits_somewhere, is_within_it}

-- words spell one line at most
one_line : (l m : Line) → FitsLine l → FitsLine m → line_words l ≡ line_words m → l ≡ m
one_line l m fits fits_too same =
    let found : Some l ≡ Some m = sym (line_at-only l fits) ∙ ap line_at same ∙ line_at-only m fits_too in
    cc

-- lines with these words in front, and one behind them
same_front : (ls ms : List Line) (words : List (List ℕ)) → All FitsLine ls → All FitsLine ms → map line_words ls ++ words ∷ [] ≡ map line_words ms → (m : Line) × (ms ≡ ls ++ m ∷ []) × (words ≡ line_words m)
same_front [] [] words fit fit_too same = absurd (cc)
same_front [] (m ∷ []) words fit fit_too same = (m, refl, cc)
same_front [] (m ∷ n ∷ ms) words fit fit_too same = absurd (cc)
same_front (l ∷ ls) [] words fit fit_too same = absurd (cc)
same_front (l ∷ ls) (m ∷ ms) words fit fit_too same =
    let heads : line_words l ≡ line_words m = cc in
    let tails : map line_words ls ++ words ∷ [] ≡ map line_words ms = cc in
    let e = one_line l m (All-head FitsLine l ls fit) (All-head FitsLine m ms fit_too) heads in
    let rest = same_front ls ms words (All-tail FitsLine l ls fit) (All-tail FitsLine m ms fit_too) tails in
    let is : m ∷ ms ≡ l ∷ (ls ++ rest.0 ∷ []) = cc (e, rest.1) in
    (rest.0, is, rest.2)

-- all lines of a script are in their ranges
all_fit : (shape : Shape) (log : List Command) (behind : List Line) → FitsFirst shape → All FitsSubmitted log → All (FitsBehind shape) behind → All FitsLine (Cluster shape ∷ (map Log log ++ behind))
all_fit shape log behind first logged fits =
    All-cons FitsLine (Cluster shape) (map Log log ++ behind) first (All-append FitsLine (map Log log) behind (logs log logged) (others behind fits)) where
      logs : (commands : List Command) → All FitsSubmitted commands → All FitsLine (map Log commands)
      logs [] fit = All-nil FitsLine
      logs (c ∷ commands) fit = All-cons FitsLine (Log c) (map Log commands) (All-head FitsSubmitted c commands fit) (logs commands (All-tail FitsSubmitted c commands fit))

      others : (lines : List Line) → All (FitsBehind shape) lines → All FitsLine lines
      others [] fits = All-nil FitsLine
      others (l ∷ lines) fits =
          All-cons FitsLine l lines (fits_somewhere shape l first.disks.1 first.slots.1 (All-head (FitsBehind shape) l lines fits)) (others lines (All-tail (FitsBehind shape) l lines fits))

-- the last of some
last_fits : {A : Type 0} (P : A → Type 0) (xs : List A) (x : A) → All P (xs ++ x ∷ []) → P x
last_fits P [] x all = All-head P x [] all
last_fits P (y ∷ xs) x all = last_fits P xs x (All-tail P y (xs ++ x ∷ []) all)

-- one line more is one of the log where none stands behind it
record InLog (log more : List Command) (behind : List Line) (l : Line) : Type 0 where
  command : Command
  line_is : l ≡ Log command
  more_is : more ≡ log ++ command ∷ []
  none : behind ≡ []

parted : (shape : Shape) (log more : List Command) (behind others : List Line) (l : Line) → All (FitsBehind shape) behind → All (FitsBehind shape) others → map Log more ++ others ≡ (map Log log ++ behind) ++ l ∷ []
    → InLog log more behind l ⊎ (others ≡ behind ++ l ∷ [])
parted shape [] [] behind others l fits fits_too same = inr same
parted shape [] (c ∷ []) [] others l fits fits_too same = inl (record { command = c; line_is = cc; more_is = refl; none = refl })
parted shape [] (c ∷ d ∷ more) [] others l fits fits_too same = absurd (cc)
parted shape [] (c ∷ more) (b ∷ behind) others l fits fits_too same =
    let heads : b ≡ Log c = cc in
    absurd (subst (FitsBehind shape) heads (All-head (FitsBehind shape) b behind fits))
parted shape (d ∷ log) [] behind [] l fits fits_too same = absurd (cc)
parted shape (d ∷ log) [] behind (o ∷ others) l fits fits_too same =
    let heads : o ≡ Log d = cc in
    absurd (subst (FitsBehind shape) heads (All-head (FitsBehind shape) o others fits_too))
parted shape (d ∷ log) (c ∷ more) behind others l fits fits_too same =
    let heads : c ≡ d = cc in
    let tails : map Log more ++ others ≡ (map Log log ++ behind) ++ l ∷ [] = cc in
    elim (parted shape log more behind others l fits fits_too tails) [
      | inl p ↦ (let is : c ∷ more ≡ d ∷ (log ++ p.command ∷ []) = cc (heads, p.more_is) in inl (record { command = p.command; line_is = p.line_is; more_is = is; none = p.none }))
      | inr is ↦ inr is
    ]

-- a command of the log is added where no other line was read
log_added : (said : SoFar) (shape : Shape) (c : Command) → said.shape ≡ Some shape → said.events ≡ [] → said.shows ≡ [] → length said.log < shape.slots → (next : SoFar) × (added said (Log c) ≡ Some next)
log_added said shape c opened no_events no_shows room =
    let test : is_log_open said && nat_lt (length said.log) shape.slots ≡ true =
    both_true (both_true (eq-eqb _ _ (ap length no_events)) (eq-eqb _ _ (ap length no_shows))) (lt-ltb (length said.log) shape.slots room) in
    let made : SoFar = record said { log = said.log ++ c ∷ [] } in
    (made, ap (λ (o : Option Shape). o >>= λ s. passed (is_log_open said && nat_lt (length said.log) s.slots) made) opened ∙ is_passed (is_log_open said && nat_lt (length said.log) shape.slots) made test)

-- a line that may stand behind the log is added
may_add : (shape : Shape) (log : List Command) (events : List Event) (shows : List shown.Show) (l : Line) → FitsBehind shape l → length events + length (events_in l) ≤ 1000000
    → (next : SoFar) × (added (record { shape = Some shape; log = log; events = events; shows = shows }) l ≡ Some next)
may_add shape log events shows (Cluster other) fits few = absurd fits
may_add shape log events shows (Log command) fits few = absurd fits
may_add shape log events shows (Once event) fits few =
    let made : SoFar = record { shape = Some shape; log = log; events = events ++ event ∷ []; shows = shows } in
    let room : nat_lt (length events) 1000000 ≡ true = lt-ltb (length events) 1000000 (omega arith) in
    (made, is_passed (nat_lt (length events) 1000000 && is_within shape event) made (both_true room (is_within_it shape event fits)))
may_add shape log events shows (Steps host times) fits few =
    let made : SoFar = record { shape = Some shape; log = log; events = events ++ replicate times (Step host); shows = shows } in
    let long = length-replicate times (Step host) in
    let room : nat_le (length events + times) 1000000 ≡ true = le-leb (length events + times) 1000000 (omega arith) in
    (made, is_passed (nat_le (length events + times) 1000000) made room)
may_add shape log events shows (Show view host) fits few = (record { shape = Some shape; log = log; events = events; shows = shows ++ record { place = length events; host = host; view = view } ∷ [] }, refl)

-- the line's words spell a line that is added
pub record IsAdded (words : List (List ℕ)) (before : SoFar) : Type 0 where
  pub line : Line
  pub reads : line_at words ≡ Some line
  pub next : SoFar
  pub is : added before line ≡ Some next

module _ (lines : List (List ℕ)) (line : List ℕ) (says : is_passed_over line ≡ false) where
  -- the words of the lines, with this line behind them
  words_with : map words_of (said_lines (lines ++ line ∷ [])) ≡ map words_of (said_lines lines) ++ words_of line ∷ []
  words_with = ap (map words_of) (said_more lines line says) ∙ map-append words_of (said_lines lines) (line ∷ [])

  -- where nothing was said yet, it is a cluster line
  first_read : (before : SoFar) (content : Content) → before.shape ≡ None → said_lines lines ≡ [] → IsScript (lines ++ line ∷ []) content → IsAdded (words_of line) before
  first_read before content unopened none script =
      let one : words_of line ∷ [] ≡ map line_words (Cluster content.shape ∷ (map Log content.log ++ script.behind)) =
      ap (λ (s : List (List ℕ)). map words_of s ++ words_of line ∷ []) (sym none) ∙ sym words_with ∙ script.words in
      let is : words_of line ≡ line_words (Cluster content.shape) = cc in
      let made : SoFar = record before { shape = Some content.shape } in
      record {
        line = Cluster content.shape;
        reads = ap line_at is ∙ line_at-only (Cluster content.shape) script.first;
        next = made;
        is = ap (λ (o : Option Shape). passed (is_none o) made) unopened;
      }

  -- behind a script it is a line that may stand there
  next_read : (shape : Shape) (log : List Command) (events : List Event) (shows : List shown.Show) (content : Content) → IsScript lines (record { shape = shape; log = log; events = events; shows = shows }) → IsScript (lines ++ line ∷ []) content
      → IsAdded (words_of line) (record { shape = Some shape; log = log; events = events; shows = shows })
  next_read shape log events shows content so_far script =
      let others = map Log content.log ++ script.behind in
      let mine = Cluster shape ∷ (map Log log ++ so_far.behind) in
      let same : map line_words mine ++ words_of line ∷ [] ≡ map line_words (Cluster content.shape ∷ others) =
      ap (λ w. w ++ words_of line ∷ []) (sym so_far.words) ∙ sym words_with ∙ script.words in
      let front = same_front mine (Cluster content.shape ∷ others) (words_of line) (all_fit shape log so_far.behind so_far.first so_far.logged so_far.fits)
      (all_fit content.shape content.log script.behind script.first script.logged script.fits) same in
      let l = front.0 in
      let whole : Cluster content.shape ∷ others ≡ Cluster shape ∷ ((map Log log ++ so_far.behind) ++ l ∷ []) = front.1 in
      let shapes : content.shape ≡ shape = cc in
      let behinds : others ≡ (map Log log ++ so_far.behind) ++ l ∷ [] = cc in
      let fits_there : All (FitsBehind shape) script.behind = subst (λ (s : Shape). All (FitsBehind s) script.behind) shapes script.fits in
      by_place shapes fits_there l front.2 (parted shape log content.log so_far.behind script.behind l so_far.fits fits_there behinds) where
        by_place : content.shape ≡ shape → All (FitsBehind shape) script.behind → (l : Line) → words_of line ≡ line_words l → InLog log content.log so_far.behind l ⊎ (script.behind ≡ so_far.behind ++ l ∷ [])
            → IsAdded (words_of line) (record { shape = Some shape; log = log; events = events; shows = shows })
        by_place shapes fits_there l spelled (inl p) =
            let c = p.command in
            let fits = last_fits FitsSubmitted log c (subst (All FitsSubmitted) p.more_is script.logged) in
            let long = length-append log (c ∷ []) in
            let whole = ap length p.more_is in
            let slots = ap (λ (s : Shape). s.slots) shapes in
            let room : length log < shape.slots = omega (arith, script.short) in
            let next = log_added (record { shape = Some shape; log = log; events = events; shows = shows }) shape c refl (so_far.events ∙ ap (flat_map events_in) p.none) (so_far.shows ∙ ap (shows_in 0) p.none) room in
            record { line = Log c; reads = ap line_at (spelled ∙ ap line_words p.line_is) ∙ line_at-only (Log c) fits; next = next.0; is = next.1 }
        by_place shapes fits_there l spelled (inr behinds) =
            let fits = last_fits (FitsBehind shape) so_far.behind l (subst (All (FitsBehind shape)) behinds fits_there) in
            let grown = flat_map-append events_in so_far.behind (l ∷ []) in
            let all : content.events ≡ events ++ (events_in l ++ []) = script.events ∙ ap (flat_map events_in) behinds ∙ grown ∙ ap (λ (e : List Event). e ++ (events_in l ++ [])) (sym so_far.events) in
            let long = ap length all in
            let sum = length-append events (events_in l ++ []) in
            let alone = ap length (append-nil (events_in l)) in
            let few : length events + length (events_in l) ≤ 1000000 = omega (arith, script.few) in
            let next = may_add shape log events shows l fits few in
            record { line = l; reads = ap line_at spelled ∙ line_at-only l (fits_somewhere shape l so_far.first.disks.1 so_far.first.slots.1 fits); next = next.0; is = next.1 }

  -- a line that is not added breaks a rule
  pub refused_breaks : (said : SoFar) → Says lines said → read_line said line ≡ None → AreGood (lines ++ line ∷ []) → ⊥
  unfolding read_line
  refused_breaks said so_far refused good =
      elim good [
        | inl none ↦ let nothing : said_lines lines ++ line ∷ [] ≡ [] = sym (said_more lines line says) ∙ none in let n = length-append (said_lines lines) (line ∷ []) in let z = ap length nothing in omega arith
        | inr script ↦ by_shape said.shape so_far script.0 script.1 refused
      ] where
        clash : (before : SoFar) → IsAdded (words_of line) before → (line_at (words_of line) >>= added before) ≡ None → ⊥
        clash before read none =
            let found : (line_at (words_of line) >>= added before) ≡ Some read.next = ap (λ (l : Option Line). l >>= added before) read.reads ∙ read.is in
            cc

        by_shape : (shape : Option Shape) → Says lines (record said { shape = shape }) → (content : Content) → IsScript (lines ++ line ∷ []) content
            → (line_at (words_of line) >>= added (record said { shape = shape })) ≡ None → ⊥
        by_shape None before content script none = clash (record said { shape = None }) (first_read (record said { shape = None }) content refl before.0 script) none
        by_shape (Some shape) before content script none = clash (record said { shape = Some shape }) (next_read shape said.log said.events said.shows content before script) none
