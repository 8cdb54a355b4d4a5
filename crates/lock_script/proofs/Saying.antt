-- What lines say, line by line.
use Rattle.std.proofs.Common.{◌≡◌, ◌==◌, ◌≤◌, ◌<◌, ◌+◌, ◌∙◌, inl, inr, ℕ, true, false, not, ◌&&◌, nat_lt, nat_le, List, [], ◌∷◌, ◌++◌, Option, Some, None, length, length-append, append_assoc, append-nil, arith, refl, sym, ap, subst, ltb-true, lt-ltb, leb-true}
use Rattle.std.specs.Prelude.{map, filter, replicate, All}
use Rattle.std.specs.List.{flat_map}
use Rattle.std.proofs.lemmas.List.{map-append, length-replicate}
use Rattle.std.proofs.lemmas.List.Elements.{All-cons, All-nil, All-append, All-head, filter-append}
use Rattle.std.proofs.lemmas.Grind.{flat_map-append}
use Rattle.std.proofs.lemmas.Bool.{eqb-true}
use Rattle.torn_block.specs.declared.layout.TheConstants.{DISKS, SLOTS}
use Rattle.paxos_block.specs.Shape.{Shape}
use Rattle.lock_command.specs.declared.command.Command.{Command}
use Rattle.lock_script.specs.declared.event.Event.{Event}
use Rattle.lock_script.specs.declared.event.Event.TheVariants.{Start, Stop, Submit, Recover, Look, Beat, Mark, Step, Tear, FailCall, DiskCrash, DiskGone}
use Rattle.lock_script.specs.declared.line.Line.{Line}
use Rattle.lock_script.specs.declared.line.Line.TheVariants.{Cluster, Log, Once, Steps, Show}
use Rattle.lock_script.specs.declared.show.Show as shown
use Rattle.lock_script.specs.Lines.{is_passed_over}
use Rattle.lock_script.specs.Words.{words_of}
use Rattle.lock_script.specs.Spelling.{line_words, FitsSubmitted, FitsEvent, FitsBehind}
use Rattle.lock_script.specs.Script.{events_in, shows_at, shows_in, Content, said_lines, IsScript, AreGood}
use Rattle.lock_script.specs.Reading.{line_at}
use Rattle.lock_script.specs.Draft.{SoFar, is_within, is_log_open, added, read_line, Says}
use Rattle.lock_script.proofs.Readings.{bound, was_passed, both_are}
use Rattle.lock_script.proofs.Spoken.{FitsLine, largest, Spells, line_at-found}

-- RANGES

on_some_disk : (c : Shape) (event : Event) → c.disks ≤ DISKS → c.slots ≤ SLOTS → FitsEvent c event → FitsEvent largest event
on_some_disk c (Start host) few short fits = fits
on_some_disk c (Stop host) few short fits = fits
on_some_disk c (Submit command tries) few short fits = fits
on_some_disk c (Recover host tries) few short fits = fits
on_some_disk c (Look host) few short fits = fits
on_some_disk c (Beat host) few short fits = fits
on_some_disk c (Mark host slot) few short fits = (fits.0, omega (arith, fits.1))
on_some_disk c (Step host) few short fits = fits
on_some_disk c (Tear host given) few short fits = fits
on_some_disk c (FailCall host given) few short fits = fits
on_some_disk c (DiskCrash disk given) few short fits = (omega (arith, fits.0), fits.1)
on_some_disk c (DiskGone disk) few short fits = omega arith

fits_within : (c : Shape) (event : Event) → FitsEvent largest event → is_within c event ≡ true → FitsEvent c event
fits_within c (Start host) fits on = fits
fits_within c (Stop host) fits on = fits
fits_within c (Submit command tries) fits on = fits
fits_within c (Recover host tries) fits on = fits
fits_within c (Look host) fits on = fits
fits_within c (Beat host) fits on = fits
fits_within c (Mark host slot) fits on = (fits.0, ltb-true slot c.slots on)
fits_within c (Step host) fits on = fits
fits_within c (Tear host given) fits on = fits
fits_within c (FailCall host given) fits on = fits
fits_within c (DiskCrash disk given) fits on = (ltb-true disk c.disks on, fits.1)
fits_within c (DiskGone disk) fits on = ltb-true disk c.disks on

pub is_within_it : (c : Shape) (event : Event) → FitsEvent c event → is_within c event ≡ true
is_within_it c (Start host) fits = refl
is_within_it c (Stop host) fits = refl
is_within_it c (Submit command tries) fits = refl
is_within_it c (Recover host tries) fits = refl
is_within_it c (Look host) fits = refl
is_within_it c (Beat host) fits = refl
is_within_it c (Mark host slot) fits = lt-ltb slot c.slots fits.1
is_within_it c (Step host) fits = refl
is_within_it c (Tear host given) fits = refl
is_within_it c (FailCall host given) fits = refl
is_within_it c (DiskCrash disk given) fits = lt-ltb disk c.disks fits.0
is_within_it c (DiskGone disk) fits = lt-ltb disk c.disks fits

pub fits_somewhere : (c : Shape) (line : Line) → c.disks ≤ DISKS → c.slots ≤ SLOTS → FitsBehind c line → FitsLine line
fits_somewhere c (Cluster shape) few short fits = absurd fits
fits_somewhere c (Log command) few short fits = absurd fits
fits_somewhere c (Once event) few short fits = on_some_disk c event few short fits
fits_somewhere c (Steps host times) few short fits = fits
fits_somewhere c (Show view host) few short fits = fits

-- LINES

-- a line that is passed over adds none, another one adds itself
said_passed : (lines : List (List ℕ)) (line : List ℕ) → is_passed_over line ≡ true → said_lines (lines ++ line ∷ []) ≡ said_lines lines
said_passed lines line over =
    filter-append (λ l. not (is_passed_over l)) lines (line ∷ [])
    ∙ ap (λ b. said_lines lines ++ filter (λ (l : List ℕ). b) (line ∷ [])) (ap not over)
    ∙ append-nil (said_lines lines)

pub said_more : (lines : List (List ℕ)) (line : List ℕ) → is_passed_over line ≡ false → said_lines (lines ++ line ∷ []) ≡ said_lines lines ++ line ∷ []
said_more lines line says =
    filter-append (λ l. not (is_passed_over l)) lines (line ∷ [])
    ∙ ap (λ b. said_lines lines ++ filter (λ (l : List ℕ). b) (line ∷ [])) (ap not says)

-- the tables behind some lines
shows_in-push : (place : ℕ) (lines : List Line) (line : Line) → shows_in place (lines ++ line ∷ []) ≡ shows_in place lines ++ shows_at (place + length (flat_map events_in lines)) line
shows_in-push place [] line =
    let same : place ≡ place + 0 = omega arith in
    append-nil (shows_at place line) ∙ ap (λ p. shows_at p line) same
shows_in-push place (first ∷ lines) line =
    let more = length-append (events_in first) (flat_map events_in lines) in
    let same : place + length (events_in first) + length (flat_map events_in lines) ≡ place + length (events_in first ++ flat_map events_in lines) = omega arith in
    let behind = shows_in (place + length (events_in first)) lines in
    ap (λ s. shows_at place first ++ s) (shows_in-push (place + length (events_in first)) lines line)
    ∙ ap (λ p. shows_at place first ++ (behind ++ shows_at p line)) same
    ∙ sym (append_assoc (shows_at place first) behind (shows_at (place + length (events_in first ++ flat_map events_in lines)) line))

-- a script and one line more behind its log
longer : (lines : List (List ℕ)) (content : Content) (line : List ℕ) (l : Line) → is_passed_over line ≡ false → IsScript lines content → Spells (words_of line) l → FitsBehind content.shape l
    → length (content.events ++ events_in l) ≤ 1000000
    → IsScript (lines ++ line ∷ []) (record { shape = content.shape; log = content.log; events = content.events ++ events_in l; shows = content.shows ++ shows_at (length content.events) l })
longer lines content line l says script spells fits few =
    let logged = map Log content.log in
    let front = map line_words (Cluster content.shape ∷ (logged ++ script.behind)) in
    record {
      behind = script.behind ++ l ∷ [];
      words =
          ap (map words_of) (said_more lines line says) ∙ map-append words_of (said_lines lines) (line ∷ [])
          ∙ ap (λ w. w ++ words_of line ∷ []) script.words ∙ ap (λ w. front ++ w ∷ []) spells.words_are
          ∙ ap (λ w. line_words (Cluster content.shape) ∷ w) (sym (map-append line_words (logged ++ script.behind) (l ∷ [])) ∙ ap (map line_words) (append_assoc logged script.behind (l ∷ [])));
      first = script.first;
      logged = script.logged;
      short = script.short;
      fits = All-append (FitsBehind content.shape) script.behind (l ∷ []) script.fits (All-cons (FitsBehind content.shape) l [] fits (All-nil (FitsBehind content.shape)));
      events =
          ap (λ e. e ++ events_in l) script.events ∙ ap (λ e. flat_map events_in script.behind ++ e) (sym (append-nil (events_in l)))
          ∙ sym (flat_map-append events_in script.behind (l ∷ []));
      few = few;
      shows =
          ap (λ s. s ++ shows_at (length content.events) l) script.shows
          ∙ ap (λ (e : List Event). shows_in 0 script.behind ++ shows_at (length e) l) script.events
          ∙ ap (λ p. shows_in 0 script.behind ++ shows_at p l) (let same : length (flat_map events_in script.behind) ≡ 0 + length (flat_map events_in script.behind) = omega arith in same)
          ∙ sym (shows_in-push 0 script.behind l);
    }

-- lines that bring neither events nor tables are none
none_behind : (shape : Shape) (behind : List Line) → All (FitsBehind shape) behind → length (flat_map events_in behind) ≡ 0 → length (shows_in 0 behind) ≡ 0 → behind ≡ []
none_behind shape [] fits no_events no_shows = refl
none_behind shape (Cluster other ∷ behind) fits no_events no_shows = absurd (All-head (FitsBehind shape) (Cluster other) behind fits)
none_behind shape (Log command ∷ behind) fits no_events no_shows = absurd (All-head (FitsBehind shape) (Log command) behind fits)
none_behind shape (Once event ∷ behind) fits no_events no_shows = absurd (omega arith)
none_behind shape (Steps host times ∷ behind) fits no_events no_shows =
    let range = All-head (FitsBehind shape) (Steps host times) behind fits in
    let long = length-replicate times (Step host) in
    let sum = length-append (replicate times (Step host)) (flat_map events_in behind) in
    let some = range.1 in
    absurd (omega arith)
none_behind shape (Show view host ∷ behind) fits no_events no_shows = absurd (omega arith)

-- a script with nothing behind its log, and one command more in it
longer_log : (lines : List (List ℕ)) (content : Content) (line : List ℕ) (command : Command) → is_passed_over line ≡ false → IsScript lines content → Spells (words_of line) (Log command)
    → length content.events ≡ 0 → length content.shows ≡ 0 → length content.log < content.shape.slots
    → IsScript (lines ++ line ∷ []) (record { shape = content.shape; log = content.log ++ command ∷ []; events = content.events; shows = content.shows })
longer_log lines content line command says script spells no_events no_shows room =
    let e = ap length script.events in
    let s = ap length script.shows in
    let none = none_behind content.shape script.behind script.fits (omega arith) (omega arith) in
    let logged = map Log content.log in
    let first = line_words (Cluster content.shape) in
    let sum = length-append content.log (command ∷ []) in
    record {
      behind = [];
      words =
          ap (map words_of) (said_more lines line says) ∙ map-append words_of (said_lines lines) (line ∷ [])
          ∙ ap (λ w. w ++ words_of line ∷ []) script.words
          ∙ ap (λ (b : List Line). first ∷ (map line_words (logged ++ b) ++ words_of line ∷ [])) none
          ∙ ap (λ (l : List Line). first ∷ (map line_words l ++ words_of line ∷ [])) (append-nil logged)
          ∙ ap (λ w. first ∷ (map line_words logged ++ w ∷ [])) spells.words_are
          ∙ ap (λ w. first ∷ w) (sym (map-append line_words logged (Log command ∷ [])))
          ∙ ap (λ (l : List Line). first ∷ map line_words l) (sym (map-append Log content.log (command ∷ [])) ∙ sym (append-nil (map Log (content.log ++ command ∷ []))));
      first = script.first;
      logged = All-append FitsSubmitted content.log (command ∷ []) script.logged (All-cons FitsSubmitted command [] spells.fits (All-nil FitsSubmitted));
      short = omega arith;
      fits = All-nil (FitsBehind content.shape);
      events = script.events ∙ ap (flat_map events_in) none;
      few = script.few;
      shows = script.shows ∙ ap (shows_in 0) none;
    }

-- the first line that is not passed over
opened : (lines : List (List ℕ)) (line : List ℕ) (shape : Shape) → is_passed_over line ≡ false → said_lines lines ≡ [] → Spells (words_of line) (Cluster shape)
    → IsScript (lines ++ line ∷ []) (record { shape = shape; log = []; events = []; shows = [] })
opened lines line shape says none spells =
    record {
      behind = [];
      words = ap (map words_of) (said_more lines line says) ∙ ap (λ (s : List (List ℕ)). map words_of (s ++ line ∷ [])) none ∙ ap (λ w. w ∷ []) spells.words_are;
      first = spells.fits;
      logged = All-nil FitsSubmitted;
      short = omega arith;
      fits = All-nil (FitsBehind shape);
      events = refl;
      few = omega arith;
      shows = refl;
    }

module _ (lines : List (List ℕ)) (line : List ℕ) (says : is_passed_over line ≡ false) where
  first_added : (said : SoFar) (l : Line) (next : SoFar) → said_lines lines ≡ [] → said.shape ≡ None → said.log ≡ [] → said.events ≡ [] → said.shows ≡ [] → Spells (words_of line) l → added said l ≡ Some next → Says (lines ++ line ∷ []) next
  first_added said l next none unopened no_log no_events no_shows spells h =
      let empty : SoFar = record { shape = None; log = []; events = []; shows = [] } in
      let is : said ≡ empty = λ i. record { shape = unopened i; log = no_log i; events = no_events i; shows = no_shows i } in
      by_line l spells (ap (λ s. added s l) (sym is) ∙ h) where
        by_line : (l : Line) → Spells (words_of line) l → added (record { shape = None; log = []; events = []; shows = [] }) l ≡ Some next → Says (lines ++ line ∷ []) next
        by_line (Cluster shape) spells h =
            let made : SoFar = record { shape = Some shape; log = []; events = []; shows = [] } in
            let e : made ≡ next = cc in
            subst (Says (lines ++ line ∷ [])) e (opened lines line shape says none spells)
        by_line (Log command) spells h = absurd (cc)
        by_line (Once event) spells h = absurd (cc)
        by_line (Steps host times) spells h = absurd (cc)
        by_line (Show view host) spells h = absurd (cc)

  next_added : (shape : Shape) (log : List Command) (events : List Event) (shows : List shown.Show) (l : Line) (next : SoFar) → IsScript lines (record { shape = shape; log = log; events = events; shows = shows }) → Spells (words_of line) l
      → added (record { shape = Some shape; log = log; events = events; shows = shows }) l ≡ Some next → Says (lines ++ line ∷ []) next
  next_added shape log events shows (Cluster other) next script spells h = absurd (cc)
  next_added shape log events shows (Log command) next script spells h =
      let said : SoFar = record { shape = Some shape; log = log; events = events; shows = shows } in
      let made : SoFar = record { shape = Some shape; log = log ++ command ∷ []; events = events; shows = shows } in
      let p = was_passed (is_log_open said && nat_lt (length log) shape.slots) made next h in
      let tests = both_are (is_log_open said) (nat_lt (length log) shape.slots) p.0 in
      let unread = both_are (length events == 0) (length shows == 0) tests.0 in
      let more = longer_log lines (record { shape = shape; log = log; events = events; shows = shows }) line command says script spells
      (eqb-true _ _ unread.0) (eqb-true _ _ unread.1) (ltb-true (length log) shape.slots tests.1) in
      subst (Says (lines ++ line ∷ [])) p.1 more
  next_added shape log events shows (Once event) next script spells h =
      let made : SoFar = record { shape = Some shape; log = log; events = events ++ event ∷ []; shows = shows } in
      let p = was_passed (nat_lt (length events) 1000000 && is_within shape event) made next h in
      let tests = both_are (nat_lt (length events) 1000000) (is_within shape event) p.0 in
      let room = ltb-true (length events) 1000000 tests.0 in
      let grown = length-append events (event ∷ []) in
      let few : length (events ++ event ∷ []) ≤ 1000000 = omega arith in
      let more = longer lines (record { shape = shape; log = log; events = events; shows = shows }) line (Once event) says script spells (fits_within shape event spells.fits tests.1) few in
      subst (Says (lines ++ line ∷ [])) p.1 (subst (λ (s : List shown.Show). IsScript (lines ++ line ∷ []) (record { shape = shape; log = log; events = events ++ event ∷ []; shows = s })) (append-nil shows) more)
  next_added shape log events shows (Steps host times) next script spells h =
      let made : SoFar = record { shape = Some shape; log = log; events = events ++ replicate times (Step host); shows = shows } in
      let p = was_passed (nat_le (length events + times) 1000000) made next h in
      let room = leb-true (length events + times) 1000000 p.0 in
      let grown = length-append events (replicate times (Step host)) in
      let long = length-replicate times (Step host) in
      let few : length (events ++ replicate times (Step host)) ≤ 1000000 = omega arith in
      let more = longer lines (record { shape = shape; log = log; events = events; shows = shows }) line (Steps host times) says script spells spells.fits few in
      subst (Says (lines ++ line ∷ [])) p.1 (subst (λ (s : List shown.Show). IsScript (lines ++ line ∷ []) (record { shape = shape; log = log; events = events ++ replicate times (Step host); shows = s })) (append-nil shows) more)
  next_added shape log events shows (Show view host) next script spells h =
      let made : SoFar = record { shape = Some shape; log = log; events = events; shows = shows ++ record { place = length events; host = host; view = view } ∷ [] } in
      let e : made ≡ next = cc in
      let few : length (events ++ []) ≤ 1000000 = subst (λ (l : List Event). length l ≤ 1000000) (sym (append-nil events)) script.few in
      let more = longer lines (record { shape = shape; log = log; events = events; shows = shows }) line (Show view host) says script spells spells.fits few in
      subst (Says (lines ++ line ∷ [])) e (subst (λ (l : List Event). IsScript (lines ++ line ∷ []) (record { shape = shape; log = log; events = l; shows = shows ++ record { place = length events; host = host; view = view } ∷ [] })) (append-nil events) more)

  -- a line that is added is said
  pub added_says : (said next : SoFar) → Says lines said → read_line said line ≡ Some next → Says (lines ++ line ∷ []) next
  unfolding read_line
  added_says said next so_far read =
      let l = bound (line_at (words_of line)) (added said) next read in
      let spells = line_at-found (words_of line) l.0 l.1 in
      by_shape said.shape said.log said.events said.shows so_far l.0 spells l.2 where
        by_shape : (shape : Option Shape) (log : List Command) (events : List Event) (shows : List shown.Show) → Says lines (record { shape = shape; log = log; events = events; shows = shows }) → (l : Line) → Spells (words_of line) l
            → added (record { shape = shape; log = log; events = events; shows = shows }) l ≡ Some next → Says (lines ++ line ∷ []) next
        by_shape None log events shows so_far l spells h = first_added (record { shape = None; log = log; events = events; shows = shows }) l next so_far.0 refl so_far.1 so_far.2 so_far.3 spells h
        by_shape (Some shape) log events shows so_far l spells h = next_added shape log events shows l next so_far spells h

-- a line that is passed over changes nothing
script_passed : (lines : List (List ℕ)) (line : List ℕ) (content : Content) → is_passed_over line ≡ true → IsScript lines content → IsScript (lines ++ line ∷ []) content
script_passed lines line content over script =
    record {
      behind = script.behind;
      words = ap (map words_of) (said_passed lines line over) ∙ script.words;
      first = script.first;
      logged = script.logged;
      short = script.short;
      fits = script.fits;
      events = script.events;
      few = script.few;
      shows = script.shows;
    }

pub passed_says : (lines : List (List ℕ)) (line : List ℕ) (said : SoFar) → is_passed_over line ≡ true → Says lines said → Says (lines ++ line ∷ []) said
passed_says lines line said over so_far = by_shape said.shape so_far where
  by_shape : (shape : Option Shape) → Says lines (record said { shape = shape }) → Says (lines ++ line ∷ []) (record said { shape = shape })
  by_shape None so_far = (said_passed lines line over ∙ so_far.0, so_far.1, so_far.2, so_far.3)
  by_shape (Some shape) so_far = script_passed lines line (record { shape = shape; log = said.log; events = said.events; shows = said.shows }) over so_far

-- lines that say something break no rule
pub says_good : (lines : List (List ℕ)) (said : SoFar) → Says lines said → AreGood lines
says_good lines said so_far = by_shape said.shape so_far where
  by_shape : (shape : Option Shape) → Says lines (record said { shape = shape }) → AreGood lines
  by_shape None so_far = inl so_far.0
  by_shape (Some shape) so_far = inr (record { shape = shape; log = said.log; events = said.events; shows = said.shows }, so_far)
