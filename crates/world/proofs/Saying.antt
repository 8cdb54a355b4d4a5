-- The answers of events are what hosts say, each at the entry of its event.
use Rattle.std.specs.Prelude.{take}
use Rattle.std.proofs.Common.{ℕ, zero, suc, ◌+◌, ◌<◌, ◌≤◌, ◌≡◌, ◌⊎◌, true, false, Option, Some, None, List, [], ◌∷◌, ◌++◌, length, slice_get, refl, sym, subst, ap, ◌∙◌, inl, inr, arith, append_assoc, append-nil, length-append}
use Rattle.std.proofs.lemmas.Bool.{cases_lt, eqb-true, eq-eqb}
use Rattle.std.proofs.lemmas.Option.{slice_get_within}
use Rattle.std.proofs.Math.Seq.{take-append_seam}
use Rattle.lock_command.specs.declared.command.Command.{Command}
use Rattle.paxos_block.specs.Shape.{Shape}
use Rattle.host.specs.declared.answer.HostAnswer.{HostAnswer}
use Rattle.host.specs.Host.{said_of}
use Rattle.world.specs.Entry as entries
use Rattle.world.specs.Entry.{Filled, Called, Torn, Crashed, Lost, Migrated, is_of}
use Rattle.world.specs.World.{world}
use Rattle.world.specs.Happens.{Event, Line, host_of, entry_of, with_entry, happens, happen, line, lines_after, lines_at, answers_from}
use Rattle.world.specs.Chosen.{SaysAt}
use Rattle.world.specs.Lines.{place_from, LinesAreSaidFrom, LinesAreSaid, LinesAreSaidAfter}

-- WHAT EVENTS ADD

abbrev entries_of : Option Filled → List Filled
entries_of None = []
entries_of (Some e) = e ∷ []

with_entry_is : (log : List Filled) (o : Option Filled) → with_entry log o ≡ log ++ entries_of o
with_entry_is log None = sym (append-nil log)
with_entry_is log (Some e) = refl

-- what events make of a list begins with it
pub begins_with : (c : Shape) (log : List Filled) (events : List Event) → (more : List Filled) × (happen c log events ≡ log ++ more)
begins_with c log [] = ([], sym (append-nil log))
begins_with c log (e ∷ es) =
    let o = entry_of c (world c log) e in
    let rest = begins_with c (happens c log e) es in
    (entries_of o ++ rest.0, rest.1 ∙ ap (λ (l : List Filled). l ++ rest.0) (with_entry_is log o) ∙ append_assoc log (entries_of o) rest.0)

-- WHOSE AN ENTRY IS

own : (e : Filled) (h : ℕ) → host_of e ≡ Some h → is_of h e ≡ true
own (entries.Start g) h is = let same : g ≡ h = cc in eq-eqb g h same
own (entries.Stop g) h is = let same : g ≡ h = cc in eq-eqb g h same
own (entries.Begin g task) h is = let same : g ≡ h = cc in eq-eqb g h same
own (Called g k call answer left) h is = let same : g ≡ h = cc in eq-eqb g h same
own (Torn g k call left) h is = let same : g ≡ h = cc in eq-eqb g h same
own (Crashed k left) h is = absurd (cc)
own (Lost k) h is = absurd (cc)
own (Migrated disks log) h is = absurd (cc)

owner : (e : Filled) (h : ℕ) → is_of h e ≡ true → host_of e ≡ Some h
owner (entries.Start g) h is = ap Some (eqb-true g h is)
owner (entries.Stop g) h is = ap Some (eqb-true g h is)
owner (entries.Begin g task) h is = ap Some (eqb-true g h is)
owner (Called g k call answer left) h is = ap Some (eqb-true g h is)
owner (Torn g k call left) h is = ap Some (eqb-true g h is)
owner (Crashed k left) h is = absurd (cc)
owner (Lost k) h is = absurd (cc)
owner (Migrated disks log) h is = absurd (cc)

-- AN ENTRY AMONG OTHERS

at_seam : (log more : List Filled) (e : Filled) → slice_get ((log ++ e ∷ []) ++ more) (length log) ≡ Some e
at_seam [] more e = refl
at_seam (x ∷ log) more e = at_seam log more e

up_to_seam : (log more : List Filled) (e : Filled) → take (length log + 1) ((log ++ e ∷ []) ++ more) ≡ log ++ e ∷ []
up_to_seam log more e =
    let long : length (log ++ e ∷ []) ≡ length log + 1 = omega (arith, length-append log (e ∷ [])) in
    ap (λ (n : ℕ). take n ((log ++ e ∷ []) ++ more)) (sym long) ∙ take-append_seam (log ++ e ∷ []) more

module _ (c : Shape) (log : List Filled) (e : Filled) (es : List Event) where
  -- what the events behind an entry add
  abbrev behind : List Filled
  behind = (begins_with c (log ++ e ∷ []) es).0

  whole : happen c (log ++ e ∷ []) es ≡ (log ++ e ∷ []) ++ behind
  whole = (begins_with c (log ++ e ∷ []) es).1

  -- what the host of an entry says behind it is said at its place
  said_there : (h : ℕ) (said : HostAnswer) → is_of h e ≡ true → said_of ((world c (log ++ e ∷ [])).host h) ≡ Some said → SaysAt c (happen c (log ++ e ∷ []) es) (length log) h said
  said_there h said of_host is = subst (λ (l : List Filled). SaysAt c l (length log) h said) (sym whole) (record {
    entry = e;
    is = at_seam log behind e;
    of_host = of_host;
    says = subst (λ (l : List Filled). said_of ((world c l).host h) ≡ Some said) (sym (up_to_seam log behind e)) is;
  })

  -- and nothing else is
  only_said : (h : ℕ) (said : HostAnswer) → SaysAt c (happen c (log ++ e ∷ []) es) (length log) h said → (host_of e ≡ Some h) × (said_of ((world c (log ++ e ∷ [])).host h) ≡ Some said)
  only_said h said says =
      let there : SaysAt c ((log ++ e ∷ []) ++ behind) (length log) h said = subst (λ (l : List Filled). SaysAt c l (length log) h said) whole says in
      let same : Some there.entry ≡ Some e = sym there.is ∙ at_seam log behind e in
      let one : there.entry ≡ e = cc in (
        owner e h (subst (λ (x : Filled). is_of h x ≡ true) one there.of_host),
        subst (λ (l : List Filled). said_of ((world c l).host h) ≡ Some said) (up_to_seam log behind e) there.says,
      )

-- EITHER OF TWO LISTS

either : {A : Type 0} (a b : List A) (k : ℕ) (x : A) → slice_get (a ++ b) k ≡ Some x → (slice_get a k ≡ Some x) ⊎ ((j : ℕ) × (slice_get b j ≡ Some x))
either [] b k x at = inr (k, at)
either (y ∷ a) b zero x at = inl at
either (y ∷ a) b (suc k) x at = either a b k x at

in_front : {A : Type 0} (a b : List A) (x : A) → slice_get a 0 ≡ Some x → slice_get (a ++ b) 0 ≡ Some x
in_front [] b x at = absurd (cc)
in_front (y ∷ a) b x at = at

further : {A : Type 0} (a b : List A) (k : ℕ) (x : A) → slice_get b k ≡ Some x → (j : ℕ) × (slice_get (a ++ b) j ≡ Some x)
further [] b k x at = (k, at)
further (y ∷ a) b k x at = let rest = further a b k x at in (suc rest.0, rest.1)

-- WHAT LINES SAY

-- the line is of the n-th of these events, the first of which has this place, and is said at its entry
record IsSaid (c : Shape) (log : List Filled) (place : ℕ) (events : List Event) (x : Line) : Type 0 where
  n : ℕ
  placed : x.place ≡ place + n
  says : SaysAt c (happen c log events) (length (happen c log (take n events))) x.host x.said

module _ (c : Shape) (log : List Filled) (place : ℕ) (es : List Event) where
  -- a line of an entry is what the entry's host says behind it
  one_line : (e : Filled) (k : ℕ) (x : Line) (o : Option ℕ) → host_of e ≡ o → slice_get (lines_after (world c (log ++ e ∷ [])) place o) k ≡ Some x
      → (x.place ≡ place) × SaysAt c (happen c (log ++ e ∷ []) es) (length log) x.host x.said
  one_line e k x None is at = absurd (cc)
  one_line e k x (Some h) is at = go (said_of ((world c (log ++ e ∷ [])).host h)) refl k at
    where
      go : (s : Option HostAnswer) → said_of ((world c (log ++ e ∷ [])).host h) ≡ s → (j : ℕ) → slice_get (line place h s) j ≡ Some x
          → (x.place ≡ place) × SaysAt c (happen c (log ++ e ∷ []) es) (length log) x.host x.said
      go None says j there = absurd (cc)
      go (Some said) says zero there =
          let one : record { place = place; host = h; said = said } ≡ x = cc in
          subst (λ (y : Line). (y.place ≡ place) × SaysAt c (happen c (log ++ e ∷ []) es) (length log) y.host y.said) one
          (refl, said_there c log e es h said (own e h is) says)
      go (Some said) says (suc j) there = absurd (cc)

  lines_said : (o : Option Filled) (k : ℕ) (x : Line) → slice_get (lines_at c log place o) k ≡ Some x → (x.place ≡ place) × SaysAt c (happen c (with_entry log o) es) (length log) x.host x.said
  lines_said None k x at = absurd (cc)
  lines_said (Some e) k x at = one_line e k x (host_of e) refl at

  -- what is said at an event's entry is its line
  one_told : (o : Option Filled) (i h : ℕ) (said : HostAnswer) → length log ≤ i → i < length (with_entry log o) → SaysAt c (happen c (with_entry log o) es) i h said
      → (slice_get (lines_at c log place o) 0 ≡ Some (record { place = place; host = h; said = said })) × (length log ≡ i)
  one_told None i h said low high says = absurd (omega arith)
  one_told (Some e) i h said low high says =
      let here : length log ≡ i = omega (arith, length-append log (e ∷ [])) in
      let is = only_said c log e es h said (subst (λ (n : ℕ). SaysAt c (happen c (log ++ e ∷ []) es) n h said) (sym here) says) in (
        ap (λ (o : Option ℕ). slice_get (lines_after (world c (log ++ e ∷ [])) place o) 0) is.0 ∙ ap (λ (s : Option HostAnswer). slice_get (line place h s) 0) is.1,
        here,
      )

said_from : (c : Shape) (log : List Filled) (place : ℕ) (events : List Event) (k : ℕ) (x : Line) → slice_get (answers_from c log place events) k ≡ Some x → IsSaid c log place events x
said_from c log place [] k x at = absurd (cc)
said_from c log place (e ∷ es) k x at =
    elim (either (lines_at c log place (entry_of c (world c log) e)) (answers_from c (happens c log e) (place + 1) es) k x at) [
      | inl here ↦ (let is = lines_said c log place es (entry_of c (world c log) e) k x here in record { n = 0; placed = omega (arith, is.0); says = is.1 })
      | inr (j, there) ↦ (let rest = said_from c (happens c log e) (place + 1) es j x there in record { n = suc rest.n; placed = omega (arith, rest.placed); says = rest.says })
    ]

told_from : (c : Shape) (log : List Filled) (place : ℕ) (events : List Event) (i h : ℕ) (said : HostAnswer) → length log ≤ i → SaysAt c (happen c log events) i h said
    → (k : ℕ) × (n : ℕ) × (slice_get (answers_from c log place events) k ≡ Some (record { place = place + n; host = h; said = said })) × (length (happen c log (take n events)) ≡ i)
told_from c log place [] i h said low says = absurd (let within = slice_get_within log i says.entry says.is in omega arith)
told_from c log place (e ∷ es) i h said low says =
    let o = entry_of c (world c log) e in
    let here = lines_at c log place o in
    let rest = answers_from c (happens c log e) (place + 1) es in
    elim (cases_lt i (length (happens c log e))) [
      | inl high ↦ (let is = one_told c log place es o i h said low high says in
          let none : place ≡ place + 0 = omega arith in
          (0, 0, in_front here rest _ (is.0 ∙ ap (λ (n : ℕ). Some (record { place = n; host = h; said = said })) none), is.1))
      | inr later ↦ (let (k, n, at, placed) = told_from c (happens c log e) (place + 1) es i h said later says in
          let far : (place + 1) + n ≡ place + suc n = omega arith in
          let there = further here rest k _ (at ∙ ap (λ (m : ℕ). Some (record { place = m; host = h; said = said })) far) in
          (there.0, suc n, there.1, placed))
    ]

-- what is said behind a beginning at which no host says anything is so
lines_from : (c : Shape) (begun : List Filled) (events : List Event) → ((i h : ℕ) (said : HostAnswer) → SaysAt c (happen c begun events) i h said → length begun ≤ i) → LinesAreSaidFrom c begun events
lines_from c begun events behind = record {
  said = λ k x at.
      let is = said_from c begun 0 events k x at in
      let same : is.n ≡ x.place = omega (arith, is.placed) in
      subst (λ (n : ℕ). SaysAt c (happen c begun events) (place_from c begun events n) x.host x.said) same is.says;
  told = λ i h said says.
      let (k, n, at, placed) = told_from c begun 0 events i h said (behind i h said says) says in
      let same : 0 + n ≡ n = omega arith in
      (k, n, at ∙ ap (λ (m : ℕ). Some (record { place = m; host = h; said = said })) same, placed);
}

pub lines_are_said : (c : Shape) (events : List Event) → LinesAreSaid c events
lines_are_said c events = lines_from c [] events (λ i h said says. omega arith)

-- nobody says anything at a migration
pub lines_are_said_after : (c : Shape) (log : List Command) (events : List Event) → LinesAreSaidAfter c log events
lines_are_said_after c log events = lines_from c (Migrated c.disks log ∷ []) events (λ i h said says. behind i h says.entry says.is says.of_host)
  where
    first : slice_get (happen c (Migrated c.disks log ∷ []) events) 0 ≡ Some (Migrated c.disks log)
    first = ap (λ (l : List Filled). slice_get l 0) (begins_with c (Migrated c.disks log ∷ []) events).1

    behind : (i h : ℕ) (e : Filled) → slice_get (happen c (Migrated c.disks log ∷ []) events) i ≡ Some e → is_of h e ≡ true → 1 ≤ i
    behind zero h e is of = absurd (let both : Some (Migrated c.disks log) ≡ Some e = sym first ∙ is in let same : Migrated c.disks log ≡ e = cc in let off : false ≡ true = ap (is_of h) same ∙ of in cc)
    behind (suc i) h e is of = omega arith
