-- Each call on a token's seat: what the table asks for, and what the seat shows afterwards.
use Rattle.std.proofs.Common.{◌≡◌, ℕ, ◌+◌, ◌-◌, ◌<◌, List, [], ◌∷◌, ◌++◌, length, map, Bool, sym, ap, ◌∙◌, subst}
use mathlib.Core.Option.{none}
use Rattle.atomic_table.specs.Table.{Me, Allows, Splits, Joins, step}
use Rattle.atomic_table.specs.Seated.{TableId}
use Rattle.world.specs.Entry.{Filled}
use Rattle.cluster_tie.specs.View.{Part, Known, part, parts_from, keeper, holder, kept_back, handed, lent}
use Rattle.cluster_tie.specs.Rules.{Each, Tied, grown, Agrees, Appended, appended, seen}
use Rattle.cluster_tie.proofs.Steps.{Covers, Apart, splits_as, joins_as, sees_as, appends_as, parts_less}

-- a seat, by its table and by what it has, is of the table of this name, and shows this
abbrev pub Shows : TableId → Known → TableId → Me ℕ Known → Type 0
Shows name v table me = (table ≡ name) × (me ≡ (v, []))

module _ {name : TableId} where
  module _ {is_journal : Bool} {log : List Filled} {p : Part} {ps : List Part} {at : TableId} {me : Me ℕ Known} (shows : Shows name (record { is_journal = is_journal; log = log; parts = p ∷ ps }) at me) where
    -- A seat may give its first part to a new one.
    pub gives : {table : TableId} {id : ℕ} → table ≡ name → 0 < table.words → Each (Apart p) ps → (at ≡ table) × (0 < table.words) × Splits Tied id me.0 (kept_back me.0) (handed me.0)
    gives is words apart = (shows.0 ∙ sym is, words, splits_as _ me.0 p ps (ap (λ (m : Me ℕ Known). m.0.parts) shows.1) apart)

    -- Then it shows the others, and the new one shows that part.
    pub left : {at' by : TableId} {id' id : ℕ} {me' other : Me ℕ Known} → (at' ≡ at) × (id' ≡ id) × (me' ≡ (kept_back me.0, me.1)) × (by ≡ at) × (other ≡ (handed me.0, [])) → Shows name (record { is_journal = is_journal; log = log; parts = ps }) at' me'
    left s = (s.0 ∙ shows.0, s.2 ∙ ap (λ (m : Me ℕ Known). (kept_back m.0, m.1)) shows.1)

    pub given : {at' by : TableId} {id' id : ℕ} {me' other : Me ℕ Known} → (at' ≡ at) × (id' ≡ id) × (me' ≡ (kept_back me.0, me.1)) × (by ≡ at) × (other ≡ (handed me.0, [])) → Shows name (holder (p ∷ [])) by other
    given s = (s.3 ∙ shows.0, s.4 ∙ ap (λ (m : Me ℕ Known). (handed m.0, [])) shows.1)

  module _ {v w : Known} {at by : TableId} {me other : Me ℕ Known} (shows : Shows name v at me) (others : Shows name w by other) where
    -- A seat may take another's parts in.
    pub takes : {table : TableId} {id id' : ℕ} → table ≡ name → 0 < table.words → (at ≡ table) × (by ≡ table) × (other.1 ≡ []) × (0 < table.words) × Joins Tied id me.0 id' other.0 (lent me.0 other.0) (holder [])
    takes is words = (shows.0 ∙ sym is, others.0 ∙ sym is, ap (λ (m : Me ℕ Known). m.1) others.1, words, joins_as _ me.0 _ other.0)

    -- Then it shows them too.
    pub taken : {at' : TableId} {id' id : ℕ} {me' : Me ℕ Known} → (at' ≡ at) × (id' ≡ id) × (me' ≡ (lent me.0 other.0, me.1)) → Shows name (lent v w) at' me'
    taken s = (s.0 ∙ shows.0, s.2 ∙ (λ i. (lent (shows.1 i).0 (others.1 i).0, (shows.1 i).1)))

  module _ {log : List Filled} {ps : List Part} {at : TableId} {me : Me ℕ Known} (shows : Shows name (keeper log ps) at me) where
    -- The journal's seat may look at the parts that it holds, which stay as they are.
    pub sees : {table : TableId} {id : ℕ} → table ≡ name → 0 < table.words → (at ≡ table) × (0 < table.words) × Allows Tied table.slots id me 0 (λ n. n) (seen (step table.slots 0 0 0 none) me)
    sees is words = (shows.0 ∙ sym is, words, sees_as _ _ 0 me log ps shows.1)

    pub stays : {at' : TableId} {id' id : ℕ} {me' : Me ℕ Known} → (at' ≡ at) × (id' ≡ id) × ((me' ≡ me) × Each (Agrees me.0.log) me.0.parts) → Shows name (keeper log ps) at' me'
    stays s = (s.0 ∙ shows.0, s.2.0 ∙ shows.1)

    -- It may append an entry, where it holds the parts that this belongs to.
    pub appends : {table : TableId} {id : ℕ} (e : Filled) → table ≡ name → 0 < table.words → Covers e ps → (at ≡ table) × (0 < table.words) × Allows Tied table.slots id me 0 (λ n. n) (appended e (step table.slots 0 0 0 none) me)
    appends e is words covers = (shows.0 ∙ sym is, words, appends_as _ _ 0 me log ps e shows.1 covers)

    -- Then the list and the parts have it, and the parts were the list's.
    pub grows : {at' : TableId} {id' id : ℕ} {me' : Me ℕ Known} (e : Filled) → (at' ≡ at) × (id' ≡ id) × (Appended e me.0 me'.0 × (me'.1 ≡ me.1)) → Shows name (keeper (log ++ e ∷ []) (map (grown (length log) e) ps)) at' me' × Each (Agrees log) ps
    grows {me' = me'} e s =
        let t : Appended e (keeper log ps) me'.0 × (me'.1 ≡ []) = subst (λ (m : Me ℕ Known). Appended e m.0 me'.0 × (me'.1 ≡ m.1)) shows.1 s.2 in
        ((s.0 ∙ shows.0, λ i. (t.0.0 i, t.1 i)), t.0.1)

  -- While the parts are dealt, the journal's seat shows that of the next number first.
  pub next_part : {at : TableId} {me : Me ℕ Known} (kind : Bool) (n count : ℕ) (rest : List Part) → n < count → Shows name (keeper [] (parts_from kind n (count - n) ++ rest)) at me
      → Shows name (keeper [] (part kind n [] ∷ (parts_from kind (n + 1) (count - (n + 1)) ++ rest))) at me
  next_part kind n count rest less shows = (shows.0, shows.1 ∙ ap (λ (l : List Part). (keeper [] l, [])) (parts_less kind n count rest less))
