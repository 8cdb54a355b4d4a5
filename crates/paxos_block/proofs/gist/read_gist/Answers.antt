use Rattle.std.proofs.Common.{◌≡◌, ◌<◌, ◌+◌, ◌∙◌, ℕ, Bool, true, false, List, Option, max, refl, sym, ap, subst, arith, inl, inr}
use Rattle.std.specs.Prelude.{◌==◌, if◌then◌else◌}
use Rattle.std.specs.Option.{IsSomeAnd, option_map, option_or}
use Rattle.std.proofs.lemmas.Bool.{cases_lt, cases_eq, eq-eqb, ne_eqb}
use Rattle.torn_block.specs.Layout.{Version, hosts_in}
use Rattle.torn_block.specs.Damage.{IsSoundBlock, block_of}
use Rattle.paxos_block.specs.declared.cell.Cell.{Cell}
use Rattle.paxos_block.specs.declared.gist.Gist.{Gist}
use Rattle.paxos_block.specs.Gist.{IsGist}
use Rattle.paxos_block.specs.Saying.{Said, said_as}
use Rattle.paxos_block.specs.Row.{DecodedBlock, IsCell, IsDamagedRow, IsSeenAs, IsSound, blank_cell, number_or_zero, row_seen, seen_at}
use Rattle.paxos_block.specs.Votes.{says_in, greatest, later_of, latest_below, marked, marked_below}
use Rattle.paxos_block.proofs.RowLemmas.{damaged_row, seen_at-row_seen, sound_row}
use Rattle.paxos_block.proofs.VoteLemmas.{greatest_next, latest_other, latest_own, later_blank, marked_next, or_none, other_mbal, others_other, others_own}
use Rattle.paxos_block.proofs.gist.read_gist.Invariants.{Sofar}
use Rattle.paxos_block.proofs.gist.read_gist.Given.{Over}
use Rattle.paxos_block.proofs.gist.read_gist.Goals as goal

either_way : {A : Type 0} (b : Bool) (x y z : A) → x ≡ y → x ≡ z → x ≡ (if b then y else z)
either_way true x y z first second = first
either_way false x y z first second = second

module _ (V : Type 0) (v : Version) (spelled : V → List ℕ) (bytes : List ℕ) (host : ℕ) (best : Said) (n : ℕ) (gist : Gist V) (sofar : Sofar V v spelled bytes host best n gist) where
  abbrev seen : List DecodedBlock
  seen = row_seen v bytes

  module _ (below : n < hosts_in v) where
    -- one block more
    next : (cell : Cell V) → IsCell v spelled n (block_of v n bytes) cell → (new : Gist V)
        → new.own ≡ (if n == host then cell else gist.own)
        → new.greatest ≡ max gist.greatest cell.says.mbal
        → new.others ≡ (if n == host then gist.others else max gist.others cell.says.mbal)
        → said_as spelled new.latest ≡ (if n == host then said_as spelled gist.latest else later_of (said_as spelled gist.latest) (said_as spelled cell.says))
        → option_map spelled new.marked ≡ option_or (option_map spelled gist.marked) (marked (said_as spelled cell.says))
        → Sofar V v spelled bytes host best (n + 1) new
    next cell is new own top others vote told =
        let here : said_as spelled cell.says ≡ says_in seen n = is.says ∙ sym (ap (λ (s : DecodedBlock). s.says) (seen_at-row_seen v bytes n below)) in
        let mbal : cell.says.mbal ≡ (says_in seen n).mbal = ap (λ (s : Said). s.mbal) here in
        let at_n : IsSeenAs v spelled (seen_at seen n) cell =
        subst (λ (s : DecodedBlock). IsSeenAs v spelled s cell) (sym (seen_at-row_seen v bytes n below)) (record { read = is.read; sequence = ap number_or_zero is.read.number; says = is.says }) in
        record {
          sound = λ k under. elim (cases_lt k n) [
            | inl lt ↦ sofar.sound k lt
            | inr ge ↦ (let same : n ≡ k = omega arith in subst (λ (j : ℕ). IsSoundBlock v (IsSound v j) (block_of v j bytes)) same is.sound)
          ];
          fresh = λ from. own ∙ ap (λ (b : Bool). if b then cell else gist.own) (ne_eqb n host (λ same. omega arith)) ∙ sofar.fresh (omega arith);
          own = λ past. elim (cases_lt host n) [
            | inl lt ↦ subst (IsSeenAs v spelled (seen_at seen host)) (sym (own ∙ ap (λ (b : Bool). if b then cell else gist.own) (ne_eqb n host (λ same. omega arith)))) (sofar.own lt)
            | inr ge ↦
                (let same : n ≡ host = omega arith in
                subst (IsSeenAs v spelled (seen_at seen host)) (sym (own ∙ ap (λ (b : Bool). if b then cell else gist.own) (eq-eqb n host same)))
                (subst (λ (k : ℕ). IsSeenAs v spelled (seen_at seen k) cell) same at_n))
          ];
          top =
              top
              ∙ ap (λ (k : ℕ). max k cell.says.mbal) sofar.top
              ∙ ap (max (greatest n (λ k. (says_in seen k).mbal))) mbal
              ∙ sym (greatest_next n (λ k. (says_in seen k).mbal));
          top_of_others = elim (cases_eq n host) [
            | inl same ↦ others ∙ ap (λ (b : Bool). if b then gist.others else max gist.others cell.says.mbal) (eq-eqb n host same) ∙ sofar.top_of_others ∙ sym (others_own host seen n same)
            | inr not ↦
                others
                ∙ ap (λ (b : Bool). if b then gist.others else max gist.others cell.says.mbal) (ne_eqb n host not)
                ∙ ap (λ (k : ℕ). max k cell.says.mbal) sofar.top_of_others
                ∙ ap (max (greatest n (other_mbal host seen))) mbal
                ∙ sym (others_other host seen n not)
          ];
          vote = elim (cases_eq n host) [
            | inl same ↦ vote ∙ ap (λ (b : Bool). if b then said_as spelled gist.latest else later_of (said_as spelled gist.latest) (said_as spelled cell.says)) (eq-eqb n host same) ∙ sofar.vote ∙ sym (latest_own host seen n best same)
            | inr not ↦
                vote
                ∙ ap (λ (b : Bool). if b then said_as spelled gist.latest else later_of (said_as spelled gist.latest) (said_as spelled cell.says)) (ne_eqb n host not)
                ∙ ap (λ (s : Said). later_of s (said_as spelled cell.says)) sofar.vote
                ∙ ap (later_of (latest_below host seen n best)) here
                ∙ sym (latest_other host seen n best not)
          ];
          told =
              told
              ∙ ap (λ (o : Option (List ℕ)). option_or o (marked (said_as spelled cell.says))) sofar.told
              ∙ ap (λ (s : Said). option_or (marked_below seen n) (marked s)) here
              ∙ sym (marked_next seen n);
        }

    -- a blank block changes nothing
    next_blank : IsCell v spelled n (block_of v n bytes) blank_cell → Sofar V v spelled bytes host best (n + 1) gist
    next_blank is =
        next blank_cell is gist
        (elim (cases_eq n host) [
          | inl same ↦ sofar.fresh (omega arith) ∙ sym (ap (λ (b : Bool). if b then blank_cell else gist.own) (eq-eqb n host same))
          | inr not ↦ sym (ap (λ (b : Bool). if b then blank_cell else gist.own) (ne_eqb n host not))
        ])
        (omega arith)
        (either_way (n == host) gist.others gist.others (max gist.others 0) refl (omega arith))
        (either_way (n == host) (said_as spelled gist.latest) (said_as spelled gist.latest) _ refl (sym (later_blank (said_as spelled gist.latest))))
        (sym (or_none (option_map spelled gist.marked)))

  -- all blocks are read
  module _ (all : n ≡ hosts_in v) where
    all_sound : (k : ℕ) → k < hosts_in v → IsSoundBlock v (IsSound v k) (block_of v k bytes)
    all_sound k below = sofar.sound k (omega arith)

    read_all : host < hosts_in v → IsGist v spelled host best seen gist
    read_all there =
        record {
          own = sofar.own (omega arith);
          greatest = sofar.top ∙ ap (λ (m : ℕ). greatest m (λ k. (says_in seen k).mbal)) all;
          others = sofar.top_of_others ∙ ap (λ (m : ℕ). greatest m (other_mbal host seen)) all;
          latest = sofar.vote ∙ ap (λ (m : ℕ). latest_below host seen m best) all;
          marked = sofar.told ∙ ap (marked_below seen) all;
        }

pub loop-g-preserved-then-is_blank : goal.loop-g-preserved-then-is_blank
loop-g-preserved-then-is_blank g c =
    let v = g.L.Layout.version in
    let spelled = g.L.Layout.spelled in
    let n = c.loop-g.g in
    let below : n < hosts_in v = omega (arith, c.HOSTS-g-end.ensures ∙ g.met.L.Layout.hosts_is, c.loop-g-test.true) in
    let is : IsCell v spelled n (block_of v n c.args.bytes.now) blank_cell = rw c.block_of-block.ensures.block at (c.is_blank.ensures c.if-is_blank.true n) in
    next_blank g.row.L-Value.Denot v spelled c.args.bytes.now c.args.host (said_as spelled c.args.best.now) n c.loop-g.gist c.loop-g.invariant below is

pub loop-g-preserved : goal.loop-g-preserved
loop-g-preserved g c =
    let v = g.L.Layout.version in
    let spelled = g.L.Layout.spelled in
    let n = c.loop-g.g in
    let old = c.loop-g.gist in
    let cell = c.in_ok-cell.cell in
    let below : n < hosts_in v = omega (arith, c.HOSTS-g-end.ensures ∙ g.met.L.Layout.hosts_is, c.loop-g-test.true) in
    let is : IsCell v spelled n (block_of v n c.args.bytes.now) cell = rw c.block_of-block.ensures.block at c.in_ok-cell.ensures.cell in
    let own : (n == c.from.result) ≡ (n == c.args.host) = ap (λ (k : ℕ). n == k) c.from.ensures in
    next g.row.L-Value.Denot v spelled c.args.bytes.now c.args.host (said_as spelled c.args.best.now) n old c.loop-g.invariant below cell is c.take.new.self
    (c.take.ensures.own ∙ ap (λ (b : Bool). if b then cell else old.own) own)
    c.take.ensures.greatest
    (c.take.ensures.others ∙ ap (λ (b : Bool). if b then old.others else max old.others cell.says.mbal) own)
    (c.take.ensures.latest spelled ∙ ap (λ (b : Bool). if b then said_as spelled old.latest else later_of (said_as spelled old.latest) (said_as spelled cell.says)) own)
    (c.take.ensures.marked spelled)

damage : (g : Over) (c : goal.After-from_residual g) → IsDamagedRow g.L.Layout.version c.args.bytes.now
damage g c =
    let v = g.L.Layout.version in
    let n = c.loop-g.g in
    (n, omega (arith, c.HOSTS-g-end.ensures ∙ g.met.L.Layout.hosts_is, c.loop-g-test.true), rw c.block_of-block.ensures.block at c.in_err-cell.ensures.damaged)

pub returns-in_err-cell-clause-unsaid : goal.returns-in_err-cell-clause-unsaid
returns-in_err-cell-clause-unsaid g c =
    let none = damaged_row g.L.Layout.version c.args.bytes.now c.requires.long (λ i. omega (arith, c.type_inv.bytes i)) (damage g c) in
    ((λ t. none), (λ is. c.from_residual.ensures.0))

pub returns-clause-unsaid : goal.returns-clause-unsaid
returns-clause-unsaid g c =
    let v = g.L.Layout.version in
    let spelled = g.L.Layout.spelled in
    let some = sound_row v c.args.bytes.now c.requires.long
    (all_sound g.row.L-Value.Denot v spelled c.args.bytes.now c.args.host (said_as spelled c.args.best.now) c.loop-g.g c.loop-g.gist c.loop-g.invariant (omega (arith, c.HOSTS-g-end.ensures ∙ g.met.L.Layout.hosts_is, c.loop-g-test.false))) in
    ((λ t. absurd cc), (λ none. absurd cc))

pub returns-clause-said : goal.returns-clause-said
returns-clause-said g c =
    let v = g.L.Layout.version in
    let spelled = g.L.Layout.spelled in
    let best = said_as spelled c.args.best.now in
    let all : c.loop-g.g ≡ hosts_in v = omega (arith, c.HOSTS-g-end.ensures ∙ g.met.L.Layout.hosts_is, c.loop-g-test.false) in
    let some = sound_row v c.args.bytes.now c.requires.long (all_sound g.row.L-Value.Denot v spelled c.args.bytes.now c.args.host best c.loop-g.g c.loop-g.gist c.loop-g.invariant all) in
    subst (λ (o : Option (List DecodedBlock)). IsSomeAnd o (λ seen. IsGist {V = g.row.L-Value.Denot} v spelled c.args.host best seen c.loop-g.gist)) (sym some)
    (read_all g.row.L-Value.Denot v spelled c.args.bytes.now c.args.host best c.loop-g.g c.loop-g.gist c.loop-g.invariant all c.requires.host)
