-- Images of a set that are laid out together: one more of them, all of them, and where a call failed.
use Rattle.std.proofs.Common.{◌≡◌, ◌<◌, ◌+◌, ◌∙◌, ℕ, zero, suc, List, [], ◌∷◌, Some, Result, Ok, Err, IfErr, OnOk, ap, arith, get_or, length, refl, slice_get, slice_set, subst, sym}
use Rattle.std.specs.Result.{IsErrAnd}
use Rattle.std.proofs.lemmas.Option.{slice_get-get_or}
use Rattle.disk.specs.Disk.{Call, Answer}
use Rattle.disk.specs.declared.boot.Boot.{Boot}
use Rattle.folders.specs.Formatting.{AreOpened, EachBecame, EndsInFault, HasGateOpened, MakesOnly, OneBecame, StopsOpening}
use Rattle.folders.specs.declared.layout.LayFault.{LayFault}
use Rattle.folders.specs.declared.layout.LayFault.TheVariants.{NotWhole, NotOpened}
use Rattle.folders.proofs.Laying.{all_became, known_more, one_more, opened_only}
use Rattle.log_folders.specs.Formatting.{AreClosed, AreLaidOutTogether, IsLaidOutClosed, OpensNoGate, StopsLaying}
use Rattle.log_folders.specs.Layout.{IsLaidOut}
use Rattle.log_folders.specs.NewSets.{Wanted, header_for, size_for}

-- LISTS

-- what is read at a number of a list is what stands there
pub at_number : {X : Type 0} (xs : List X) (i n : ℕ) (d : X) → i ≡ n → i < length xs → slice_get xs n ≡ Some (get_or xs i d)
at_number xs i n d same less = subst (λ (k : ℕ). slice_get xs k ≡ Some (get_or xs i d)) same (slice_get-get_or xs i d less)

set_there : {X : Type 0} (xs : List X) (n : ℕ) (x : X) → n < length xs → slice_get (slice_set xs n x) n ≡ Some x
set_there [] n x less = absurd (omega (arith, less))
set_there (y ∷ ys) zero x less = refl
set_there (y ∷ ys) (suc n) x less = let below : n < length ys = omega (arith, less) in set_there ys n x below

set_other : {X : Type 0} (xs : List X) (n k : ℕ) (b : X) → ¬ (k ≡ n) → slice_get (slice_set xs n b) k ≡ slice_get xs k
set_other [] n k b other = refl
set_other (x ∷ xs) zero zero b other = absurd (other refl)
set_other (x ∷ xs) zero (suc k) b other = refl
set_other (x ∷ xs) (suc n) zero b other = refl
set_other (x ∷ xs) (suc n) (suc k) b other = set_other xs n k b (λ e. other (ap suc e))

-- what stands in two lists of one length
there : {X Y : Type 0} (xs : List X) (ys : List Y) (k : ℕ) (x : X) → length ys ≡ length xs → slice_get xs k ≡ Some x → (y : Y) × (slice_get ys k ≡ Some y)
there [] ys k x same is = absurd (cc)
there (z ∷ xs) [] k x same is = let e : 0 ≡ suc (length xs) = same in absurd (omega (arith, e))
there (z ∷ xs) (y ∷ ys) zero x same is = (y, refl)
there (z ∷ xs) (y ∷ ys) (suc k) x same is = let less : length ys ≡ length xs = omega (arith, same) in there xs ys k x less is

-- ONE IMAGE

pub laid_out : {D : Type 0} (gives : D → Call → Answer → D → Type 0) (size : ℕ) (header : List ℕ) (old ready new : D) (boot : ℕ) → IsLaidOutClosed gives size header boot old ready → HasGateOpened gives ready boot new → IsLaidOut gives size header old new
laid_out gives size header old ready new boot c o = record {
  boot = boot;
  attached = c.attached;
  zeroed = c.zeroed;
  blank = c.blank;
  closed = c.closed;
  ready = ready;
  opened = o.opened;
  attaches = c.attaches;
  clears = c.clears;
  syncs_zeros = c.syncs_zeros;
  writes = c.writes;
  syncs_header = c.syncs_header;
  opens = o.opens;
  syncs_gate = o.syncs;
}

-- ALL OF THEM

module _ {D : Type 0} (gives : D → Call → Answer → D → Type 0) (set : Wanted) where
  -- this one was laid out with a closed gate under a boot that was kept
  abbrev pub ClosedUnder : List Boot → ℕ → D → D → Type 0
  ClosedUnder boots k a b = (boot : Boot) × (slice_get boots k ≡ Some boot) × IsLaidOutClosed gives (size_for set) (header_for set k) boot.number a b

  -- one more is
  pub one_more_closed : (boots : List Boot) (n : ℕ) (old now : List D) (a b : D) (boot : Boot) → slice_get now n ≡ Some a → n < length boots
      → IsLaidOutClosed gives (size_for set) (header_for set n) boot.number a b → AreClosed gives set boots n old now → AreClosed gives set (slice_set boots n boot) (n + 1) old (slice_set now n b)
  one_more_closed boots n old now a b boot at less laid w =
      one_more (ClosedUnder (slice_set boots n boot)) n old now a b at (boot, set_there boots n boot less, laid)
      (known_more (ClosedUnder boots) (ClosedUnder (slice_set boots n boot)) n old now more w)
    where
      more : (k : ℕ) (c d : D) → k < n → ClosedUnder boots k c d → ClosedUnder (slice_set boots n boot) k c d
      more k c d below was = (was.0, set_other boots n k boot (λ e. let same : k ≡ n = e in omega (arith, below, same)) ∙ was.1, was.2)

  module _ (boots : List Boot) (old whole : List D) (count : length old ≡ set.config.disks) (closed : AreClosed gives set boots set.config.disks old whole) where
    shut : EachBecame (ClosedUnder boots) old whole
    shut = all_became (ClosedUnder boots) set.config.disks old whole count closed

    abbrev OpenedUnder : ℕ → D → D → Type 0
    OpenedUnder k a b = (boot : Boot) × (slice_get boots k ≡ Some boot) × HasGateOpened gives a boot.number b

    same_boot : (k : ℕ) (a b : Boot) → slice_get boots k ≡ Some a → slice_get boots k ≡ Some b → a ≡ b
    same_boot k a b is_a is_b = let is : Some a ≡ Some b = sym is_a ∙ is_b in cc

    laid_out_together : (new : List D) → AreOpened gives boots set.config.disks whole new → AreLaidOutTogether gives set old new
    laid_out_together new opened = record {
      whole = whole;
      closed = record { as_many = shut.as_many; each = λ k a b at_a at_b. let is = shut.each k a b at_a at_b in (is.0.number, is.2) };
      opened = record { as_many = open_now.as_many; each = λ k a b at_a at_b. let is = open_now.each k a b at_a at_b in opened_only gives a b is.0.number is.2 };
      images = record { as_many = open_now.as_many ∙ shut.as_many; each = image };
    }
      where
        open_now : EachBecame OpenedUnder whole new
        open_now = all_became OpenedUnder set.config.disks whole new (closed.as_many ∙ count) opened

        image : (k : ℕ) (a b : D) → slice_get old k ≡ Some a → slice_get new k ≡ Some b → IsLaidOut gives (size_for set) (header_for set k) a b
        image k a b at_a at_b =
            let (between, at_between) = there old whole k a closed.as_many at_a in
            let (boot, is_boot, laid) = shut.each k a between at_a at_between in
            let (other, is_other, gate) = open_now.each k between b at_between at_b in
            laid_out gives (size_for set) (header_for set k) a between b boot.number laid (subst (λ (o : Boot). HasGateOpened gives between o.number b) (same_boot k other boot is_other is_boot) gate)

    pub all_laid_out : {T : Type 0} (new : List D) (result : Result T LayFault) → OnOk result (AreOpened gives boots set.config.disks whole new) → OnOk result (AreLaidOutTogether gives set old new)
    all_laid_out new (Ok done) opened = laid_out_together new opened
    all_laid_out new (Err why) opened = tt

    -- STOPS

    -- once all were whole
    pub stops_after : {T : Type 0} (new : List D) (result : Result T LayFault) → IfErr result (StopsOpening gives set.config whole new) → IfErr result (StopsLaying gives set old new)
    stops_after new (Ok done) stops = tt
    stops_after new (Err (NotWhole disk)) stops = absurd stops
    stops_after new (Err (NotOpened disk)) stops =
        (whole, record { as_many = shut.as_many; each = λ k a b at_a at_b. let is = shut.each k a b at_a at_b in (is.0.number, is.2) }, stops)

  -- before that
  pub not_whole : {T : Type 0} (old new : List D) (disk : ℕ) → disk < set.config.disks
      → OneBecame (EndsInFault gives (OpensNoGate (header_for set disk))) disk old new
      → EachBecame (λ (k : ℕ) (a b : D). MakesOnly gives (OpensNoGate (header_for set k)) a b) old new → (why : LayFault) → why ≡ NotWhole disk
      → (result : Result T LayFault) → IsErrAnd result (λ fault. fault ≡ why) → IfErr result (StopsLaying gives set old new)
  not_whole old new disk below one made why is (Ok done) ended = absurd ended
  not_whole old new disk below one made why is (Err fault) ended = subst (StopsLaying gives set old new) (sym (ended ∙ is)) (below, one, made)
