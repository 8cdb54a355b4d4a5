-- Numbers only rise while a disk does not crash, so two readings tell what was seen in between.
use Rattle.std.specs.Prelude.{◌&&◌}
use Rattle.std.proofs.Common.{ℕ, ◌≡◌, ◌+◌, ◌≤◌, ◌==◌, Bool, true, false, List, [], ◌∷◌, refl, sym, ◌∙◌, ap, inl, inr, arith}
use Rattle.std.proofs.lemmas.Bool.{cases_order, cases_Bool, eqb-true, eq-eqb, ne_eqb, and_parts}
use Rattle.paxos_block.specs.Shape.{Shape}
use Rattle.world.specs.Entry.{Filled, Start, Stop, Begin, Called, Crashed, Lost, Migrated}
use Rattle.world.specs.Entry as entries
use Rattle.disk.specs.Disk.{DiskState, Attach, Read, Write, Sync}
use Rattle.epochs.specs.Acts.{Epoch, Shared, Act, In, Beside, Turns, Ends, Replaced, GoesIn, IsTurned, GoesBy, GoesThrough, HasNoCrash, shown_by, ReadingsShow}

-- it is not less
unfoldable pub Rises : Shared → Shared → Type 0
Rises old new = (area host : ℕ) → old.seen area host ≤ new.seen area host

same_rises : (old new : Shared) → new.seen ≡ old.seen → Rises old new
unfolding Rises
same_rises old new same area host = let one : new.seen area host ≡ old.seen area host = (λ i. same i area host) in omega (arith, one)

all_same : (old new : Shared) → new ≡ old → Rises old new
all_same old new same = same_rises old new (ap (λ (s : Shared). s.seen) same)

in_rises : (n : ℕ) (e : Epoch) (shown : ℕ → Bool) (old new : Shared) (entry : Filled) → GoesIn n e shown old entry new → Rises old new
in_rises n e shown old new (Called h d call answer left) (inl made) = same_rises old new made.seen
in_rises n e shown old new (Called h d call answer left) (inr refused) = all_same old new refused.same
in_rises n e shown old new (entries.Torn h d Attach left) goes = absurd goes
in_rises n e shown old new (entries.Torn h d (Read boot at len) left) goes = absurd goes
in_rises n e shown old new (entries.Torn h d (Write boot at from) left) goes = same_rises old new goes.2
in_rises n e shown old new (entries.Torn h d (Sync boot) left) goes = absurd goes
in_rises n e shown old new (Start h) goes = absurd goes
in_rises n e shown old new (Stop h) goes = absurd goes
in_rises n e shown old new (Begin h task) goes = absurd goes
in_rises n e shown old new (Crashed d left) goes = absurd goes
in_rises n e shown old new (Lost d) goes = absurd goes
in_rises n e shown old new (Migrated disks log) goes = absurd goes

turned_rises : (n : ℕ) (old new : Shared) (area host : ℕ) → IsTurned n old new area host → Rises old new
unfolding Rises
turned_rises n old new area host turned a h =
    elim (cases_Bool ((a == area) && (h == host))) [
      | inl own ↦
          (let both = and_parts (a == area) (h == host) own in
          let is_a : a ≡ area = eqb-true a area both.0 in
          let is_h : h ≡ host = eqb-true h host both.1 in
          let next : new.seen a h ≡ old.seen a h + 1 = (λ i. new.seen (is_a i) (is_h i)) ∙ turned.next ∙ (λ i. old.seen (sym is_a i) (sym is_h i) + 1) in
          omega (arith, next))
      | inr off ↦ (let same = turned.others a h off in omega (arith, same))
    ]

module _ (IsCrash : DiskState → DiskState → Type 0) (c : Shape) (k n : ℕ) where
  one_rises : (old new : Shared) (act : Act) (acts : List Act) → GoesBy IsCrash c k n old act new → HasNoCrash (act ∷ acts) → Rises old new
  one_rises old new (In e shown entry) acts goes none = in_rises n e shown old new entry goes.2
  one_rises old new (Beside call answer) acts goes none = same_rises old new goes.seen
  one_rises old new (Turns area host) acts goes none = turned_rises n old new area host goes
  one_rises old new (Ends (Crashed d left)) acts goes none = absurd none
  one_rises old new (Ends (Lost d)) acts goes none = same_rises old new goes.seen
  one_rises old new (Ends (Start h)) acts goes none = absurd goes
  one_rises old new (Ends (Stop h)) acts goes none = absurd goes
  one_rises old new (Ends (Begin h task)) acts goes none = absurd goes
  one_rises old new (Ends (Called h d call answer left)) acts goes none = absurd goes
  one_rises old new (Ends (entries.Torn h d call left)) acts goes none = absurd goes
  one_rises old new (Ends (Migrated disks log)) acts goes none = absurd goes
  one_rises old new (Replaced first) acts goes none = absurd none

  rest_has : (act : Act) (acts : List Act) → HasNoCrash (act ∷ acts) → HasNoCrash acts
  rest_has (In e shown entry) acts none = none
  rest_has (Beside call answer) acts none = none
  rest_has (Turns area host) acts none = none
  rest_has (Ends (Crashed d left)) acts none = absurd none
  rest_has (Ends (Lost d)) acts none = none
  rest_has (Ends (Start h)) acts none = none
  rest_has (Ends (Stop h)) acts none = none
  rest_has (Ends (Begin h task)) acts none = none
  rest_has (Ends (Called h d call answer left)) acts none = none
  rest_has (Ends (entries.Torn h d call left)) acts none = none
  rest_has (Ends (Migrated disks log)) acts none = none
  rest_has (Replaced first) acts none = absurd none

  pub through_rises : (acts : List Act) (old last : Shared) → GoesThrough IsCrash c k n old acts last → HasNoCrash acts → Rises old last
  unfolding Rises
  through_rises [] old last goes none area host = all_same old last goes area host
  through_rises (act ∷ acts) old last goes none area host =
      let one = one_rises old goes.0 act acts goes.1 none area host in
      let rest = through_rises acts goes.0 last goes.2 (rest_has act acts none) area host in
      omega (arith, one, rest)

pub readings_show : (IsCrash : DiskState → DiskState → Type 0) → ReadingsShow IsCrash
unfolding Rises
readings_show IsCrash c k n e first row second before behind to none back none_behind clear host few =
    let early = through_rises IsCrash c k n before first row to none e.area host in
    let late = through_rises IsCrash c k n behind row second back none_behind e.area host in
    let most = (clear host few).0 in
    elim (cases_order (second.seen e.area host) e.number) [
      | inl own ↦
          (let was = (clear host few).1 own in
          let both : shown_by e (first.seen e.area) (second.seen e.area) host ≡ true = (λ i. eq-eqb (first.seen e.area host) e.number was i && eq-eqb (second.seen e.area host) e.number own i) in
          inl (both, omega (arith, early, late, was, own)))
      | inr (inl below) ↦
          inr (hidden (first.seen e.area host == e.number) (second.seen e.area host == e.number) (ne_eqb (second.seen e.area host) e.number (λ x. absurd (omega (arith, below, x)))), omega (arith, late, below))
      | inr (inr above) ↦ absurd (omega (arith, above, most))
    ]
  where
    hidden : (a b : Bool) → b ≡ false → (a && b) ≡ false
    hidden true b is = is
    hidden false b is = refl
