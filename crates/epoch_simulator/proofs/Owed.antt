-- What the code of a simulated cluster owes, in its own terms.
use Rattle.std.specs.Prelude.{◌^◌, nat_lt, replicate, Result, Ok, Err, IfErr, IfSome, OnOk, OnErr}
use Rattle.std.proofs.Common.{ℕ, ◌<◌, ◌≡◌, ◌&&◌, Bool, true, false, not, is_none, List, [], ◌∷◌, ◌++◌, length, get_or, set, slice_get, Option, Some, None, refl, sym, ap, ap₂, ◌∙◌, subst, arith}
use Rattle.std.proofs.lemmas.Bool.{ltb-true}
use Rattle.std.proofs.lemmas.List.{append_assoc, get_or_read, get_or-replicate, length-replicate}
use Rattle.std.proofs.lemmas.Option.{slice_get-get_or}
use Rattle.disk.specs.declared.fault.DiskFault.TheVariants.{Failed}
use Rattle.disk.specs.Disk as device
use Rattle.disk.specs.Disk.{DiskState, Call, Attach, Read, Write, Sync, Answer, Fault, FailureLeaves, Step, lost}
use Rattle.disk.specs.Simulated.{SimState, crashed, fresh_disk, outcome, refusal_of}
use Rattle.disk.proofs.StepLemmas.{shape_fresh}
use Rattle.torn_block.specs.declared.layout.TheConstants.{HOSTS}
use Rattle.paxos_block.specs.Shape.{Shape}
use Rattle.standings.specs.Epochs.{whole_length}
use Rattle.standings.specs.Past.{made}
use Rattle.world.specs.World.{Tears}
use Rattle.torn_block.specs.Layout.{cluster_version}
use Rattle.attempt.specs.declared.need.DeviceCall as code_call
use Rattle.attempt.specs.declared.need.Need.{Need}
use Rattle.attempt.specs.DeviceCalls.{IsWithin, call_of_need, device_call_of}
use Rattle.epoch_deeds.specs.Deeds.{Deeds}
use Rattle.epoch_deeds.specs.Knowing.{image_of}
use Rattle.epoch_host.specs.declared.walk.Walk.{Walk}
use Rattle.epoch_host.specs.Leading as leading
use Rattle.epoch_host.specs.Leading.{WalksBy, WalksOn}
use Rattle.epoch_host.specs.declared.task.EpochTask.{EpochTask}
use Rattle.epoch_host.specs.Walking.{MayBegin, call_due}
use Rattle.epoch_runs.specs.World.{Entry, World, opening, after, with_disk, Ends, Crashes, Loses, MayFollow, model_crashes}
use Rattle.epoch_simulator.specs.declared.simulated_epochs.SimulatedEpochs.TheInside.{Inside}
use Rattle.epoch_simulator.specs.Doing.{AreSilentOf, Begins, Changes, ChangesDisk, Hears, IsBreak, IsIdle, LeadsOn, LeadsOnBy, MakeOne, Stops, StopsWithin, cut_due, disk_of, done_by, due, due_of, is_write, left_by, may_crash, may_fail, may_lose, may_tear, outcome_due}
use Rattle.epoch_simulator.specs.Kept.{AreNew, GoesTo, IsHost, IsNew, IsReached, Kept, LeadsTo, calm}
use Rattle.epoch_simulator.proofs.Breaking.{breaks}
use Rattle.epoch_simulator.proofs.Entries.{goes_by_call, goes_silent, goes_stopped}
use Rattle.epoch_simulator.proofs.Lists.{get_other, get_same, some_at}
use Rattle.epoch_simulator.proofs.Steps.{IsStep, calm_by, calm_left, fails, step_of, tears}
use Rattle.epoch_simulator.proofs.Shown.{disk_set, host_then, is_calm, is_whole, leads_then, shown_by}

-- what is kept in the fields
abbrev pub kept_in : Inside → Kept
kept_in p = record { shape = p.config; disks = p.disks.items; hosts = p.hosts.items }

-- AT FIRST

pub opens : (c : Shape) (disks : List SimState) (hosts : List Walk) → disks ≡ replicate c.disks (calm (fresh_disk (whole_length (image_of c)))) → AreNew c hosts
    → LeadsTo [] (record { shape = c; disks = disks; hosts = hosts })
opens c disks hosts fresh new =
    let x : SimState = calm (fresh_disk (whole_length (image_of c))) in
    let at : (d : ℕ) (other : SimState) → d < c.disks → get_or disks d other ≡ x =
    λ d other inside. ap (λ (l : List SimState). get_or l d other) fresh ∙ get_or-replicate c.disks d x other inside in
    record {
      world = opening c;
      goes = refl;
      shows = record { disk_count = ap length fresh ∙ length-replicate c.disks x; host_count = new.0; disks = at; hosts = λ h own is. (new.1 h own is).0; firsts = λ d. refl };
      whole = λ d other inside. ap (λ (s : SimState). length s.disk.bytes) (at d other inside) ∙ (shape_fresh (whole_length (image_of c))).1;
    }

-- a call that is a write
record IsWriteOf (call : Call) : Type 0 where
  pub boot : ℕ
  pub at : ℕ
  pub from : List ℕ
  pub is : call ≡ Write boot at from

write_of : (call : Call) → is_write call ≡ true → IsWriteOf call
write_of Attach writes = absurd (cc)
write_of (Read boot at len) writes = absurd (cc)
write_of (Write boot at from) writes = record { boot = boot; at = at; from = from; is = refl }
write_of (Sync boot) writes = absurd (cc)

-- A HOST

-- what an index read there
pub own_at : (k : Kept) → IsReached k → (h i : ℕ) → i ≡ h → h < HOSTS → (w : Walk) → w ≡ get_or k.hosts i w → IsHost k h w
own_at k is h i same inside w value =
    let there : i < length k.hosts = omega (arith, same, inside, is.leads.shows.host_count) in
    ap (slice_get k.hosts) (sym same) ∙ slice_get-get_or k.hosts i w there ∙ ap Some (sym value)

-- there is no other
pub same_host : (k : Kept) (h : ℕ) (a b : Walk) → IsHost k h a → IsHost k h b → a ≡ b
same_host k h a b is_a is_b = let same : Some a ≡ Some b = sym is_a ∙ is_b in cc

module _ (k : Kept) (is : IsReached k) (h : ℕ) (inside : h < HOSTS) (before : Walk) (own : IsHost k h before) where
  abbrev led_own : leading.LeadsTo k.shape h (is.leads.world.deeds h) before
  led_own = is.leads.shows.hosts h before own

  -- it is of the cluster
  pub own_shape : before.config ≡ k.shape
  own_shape = led_own.config

  pub own_number : before.host ≡ h
  own_number = led_own.host

  -- another is kept of it
  abbrev pub with_host : List SimState → Walk → Kept
  with_host disks own_then = record { shape = k.shape; disks = disks; hosts = set k.hosts h own_then }

  pub changes : (disks : List SimState) (own_then : Walk) (IsSo : (first last : Walk) → Type 0) → IsSo before own_then → Changes h k (with_host disks own_then) IsSo
  changes disks own_then IsSo so =
      record {
        before = before;
        after = own_then;
        was = own;
        is = get_same k.hosts h own_then (omega (arith, inside, is.leads.shows.host_count));
        so = so;
        others = λ g not. get_other k.hosts h g own_then not;
        shape = refl;
      }

  -- it does something with no call
  pub goes_silently : (own_then : Walk) → WalksOn before own_then → LeadsOn (AreSilentOf h) k (with_host k.disks own_then)
  goes_silently own_then walks entries led =
      let w : World = led.world in
      let on : leading.GoesOn k.shape h (w.deeds h) (λ deeds. leading.LeadsTo k.shape h deeds own_then) = walks k.shape h (w.deeds h) (led.shows.hosts h before own) in (
        done_by h on.more,
        record { deeds = on.more; none = on.none; are = refl },
        host_then entries k led h (done_by h on.more) (w.deeds h ++ on.more) w.disk k.disks own_then inside (goes_silent k.shape h inside w (w.deeds h) on.more refl led.shows.firsts on.none on.may)
            (shown_by entries k led) on.so,
      )

  -- it stops
  pub goes_stopping : (own_then : Walk) → IsNew k.shape h own_then → LeadsOnBy (λ entry. entry ≡ Ends h) k (with_host k.disks own_then)
  goes_stopping own_then new entries led =
      let w : World = led.world in (
        Ends h,
        refl,
        host_then entries k led h (Ends h ∷ []) [] w.disk k.disks own_then inside (goes_stopped k.shape h inside w (Ends h) (w.disk 0) w.disk (w.disk 0, tt, refl) (λ g. refl) (λ d. refl) (λ d. refl))
            (shown_by entries k led) new.0,
      )

  -- A CALL

  module _ (d : ℕ) (call : Call) (due_is : call_due before ≡ (d, call)) (on : d < k.shape.disks) (x left : SimState) (value : x ≡ get_or k.disks d x) (calm_still : left ≡ calm left.disk)
      (as_long : length left.disk.bytes ≡ length x.disk.bytes) where
    -- it makes the call and hears the answer
    goes_by : (answer : Answer) (own_then : Walk) → Step x.disk call answer left.disk → WalksBy before own_then (call_due before) answer → LeadsOn (MakeOne h d (made call answer)) k (with_host (set k.disks d left) own_then)
    goes_by answer own_then step walks entries led =
        let w : World = led.world in
        let shown = shown_by entries k led in
        let there : x ≡ calm (w.disk d) = is_calm k.shape w.disk k.disks shown d on x value in
        let step_w : Step (w.disk d) call answer left.disk = subst (λ (s : SimState). Step s.disk call answer left.disk) there step in
        let by : leading.MakesAndGoesOn k.shape h (w.deeds h) d (made call answer) (λ deeds. leading.LeadsTo k.shape h deeds own_then) =
        subst (λ (p : ℕ × Call). leading.MakesAndGoesOn k.shape h (w.deeds h) p.0 (made p.1 answer) (λ deeds. leading.LeadsTo k.shape h deeds own_then)) due_is
        (walks k.shape h (w.deeds h) (led.shows.hosts h before own)) in (
          done_by h (by.deed ∷ by.on.more),
          record { deed = by.deed; makes = by.makes; more = by.on.more; none = by.on.none; are = refl },
          host_then entries k led h (done_by h (by.deed ∷ by.on.more)) (w.deeds h ++ by.deed ∷ by.on.more) (with_disk w.disk d left.disk) (set k.disks d left) own_then inside
              (goes_by_call k.shape h inside w (w.deeds h) d (made call answer) by.deed by.on.more left.disk refl led.shows.firsts by.makes by.may by.on.none by.on.may step_w)
              (disk_set k.shape w.disk k.disks shown d left on calm_still (as_long ∙ is_whole k.shape w.disk k.disks shown d on x value))
              (subst (λ (deeds : Deeds). leading.LeadsTo k.shape h deeds own_then) (append_assoc (w.deeds h) (by.deed ∷ []) by.on.more) by.on.so),
        )

    due_now : due k h ≡ (d, call)
    due_now = ap due_of own ∙ due_is

    -- the disk of the call
    pub disk_is : disk_of k (due k h).0 ≡ x
    disk_is =
        let there : d < length k.disks = omega (arith, on, is.leads.shows.disk_count) in
        ap (λ (p : ℕ × Call). disk_of k p.0) due_now ∙ sym (get_or_read k.disks d x there value (calm (fresh_disk 0)))

    pub call_is : (due k h).1 ≡ call
    call_is = ap (λ (p : ℕ × Call). p.1) due_now

    disks_are : set k.disks d left ≡ set k.disks (due k h).0 left
    disks_are = ap (λ (p : ℕ × Call). set k.disks p.0 left) (sym due_now)

    pub hears : (answer : Answer) (own_then : Walk) (IsSo : (first last : Walk) → Type 0) → Step x.disk call answer left.disk → WalksBy before own_then (call_due before) answer → IsSo before own_then
        → Hears h left answer k (with_host (set k.disks d left) own_then) IsSo
    hears answer own_then IsSo step walks so =
        record {
          disks = disks_are;
          host = changes (set k.disks d left) own_then IsSo so;
          leads =
              subst (λ (p : ℕ × Call). LeadsOn (MakeOne h p.0 (made p.1 answer)) k (with_host (set k.disks d left) own_then)) (sym due_now) (goes_by answer own_then step walks);
        }

    -- where the call is not made to its end
    pub left_is : (given : List ℕ) → left ≡ left_by x call given → left ≡ cut_due k h given
    left_is given is_left = is_left ∙ ap₂ (λ (s : SimState) (y : Call). left_by s y given) (sym disk_is) (sym call_is)

    -- it ends within a write
    goes_torn : (boot at : ℕ) (from : List ℕ) → call ≡ Write boot at from → (heard own_then : Walk) → Tears call x.disk left.disk → WalksBy before heard (call_due before) (Fault Failed)
        → IsNew k.shape h own_then → LeadsOnBy (IsBreak k.shape h (d, call)) k (with_host (set k.disks d left) own_then)
    goes_torn boot at from call_as heard own_then torn walks new entries led =
        let w : World = led.world in
        let shown = shown_by entries k led in
        let there : x ≡ calm (w.disk d) = is_calm k.shape w.disk k.disks shown d on x value in
        let torn_w : Tears (Write boot at from) (w.disk d) left.disk = subst (λ (y : Call). Tears y (w.disk d) left.disk) call_as (subst (λ (s : SimState). Tears call s.disk left.disk) there torn) in
        let by : leading.MakesAndGoesOn k.shape h (w.deeds h) d (made (Write boot at from) (Fault Failed)) (λ deeds. leading.LeadsTo k.shape h deeds heard) =
        subst (λ (p : ℕ × Call). leading.MakesAndGoesOn k.shape h (w.deeds h) p.0 (made p.1 (Fault Failed)) (λ deeds. leading.LeadsTo k.shape h deeds heard))
        (due_is ∙ ap (λ (y : Call). (d, y)) call_as) (walks k.shape h (w.deeds h) (led.shows.hosts h before own)) in
        let broken = breaks k.shape h d boot at from w (w.deeds h) by.deed left.disk inside on refl by.makes by.may torn_w in (
          broken.0,
          subst (λ (y : Call). IsBreak k.shape h (d, y) broken.0) (sym call_as) broken.1,
          host_then entries k led h (broken.0 ∷ []) [] (with_disk w.disk d left.disk) (set k.disks d left) own_then inside broken.2
              (disk_set k.shape w.disk k.disks shown d left on calm_still (as_long ∙ is_whole k.shape w.disk k.disks shown d on x value)) new.0,
        )

    pub stops_within : (given : List ℕ) (heard own_then : Walk) → is_write call ≡ true → Tears call x.disk left.disk → left ≡ left_by x call given → WalksBy before heard (call_due before) (Fault Failed)
        → IsNew k.shape h own_then → StopsWithin h given k (with_host (set k.disks d left) own_then)
    stops_within given heard own_then writes torn is_left walks new =
        let write : IsWriteOf call = write_of call writes in
        record {
          disks = disks_are ∙ ap (set k.disks (due k h).0) (left_is given is_left);
          host = changes (set k.disks d left) own_then (λ first last. IsNew k.shape h last) new;
          leads =
              subst (λ (p : ℕ × Call). LeadsOnBy (IsBreak k.shape h p) k (with_host (set k.disks d left) own_then)) (sym due_now)
              (goes_torn write.boot write.at write.from write.is heard own_then torn walks new);
        }

-- A DISK

abbrev pub with_disk_at : Kept → ℕ → SimState → Kept
with_disk_at k d left = record { shape = k.shape; disks = set k.disks d left; hosts = k.hosts }

module _ (k : Kept) (is : IsReached k) (d : ℕ) (on : d < k.shape.disks) (x left : SimState) (value : x ≡ get_or k.disks d x) where
  there_now : d < length k.disks
  there_now = omega (arith, on, is.leads.shows.disk_count)

  pub disk_there : disk_of k d ≡ x
  disk_there = sym (get_or_read k.disks d x there_now value (calm (fresh_disk 0)))

  -- no failure was asked for, and it is whole
  pub calm_there : x ≡ calm x.disk
  calm_there = calm_by x (is.leads.world.disk d) (is_calm k.shape is.leads.world.disk k.disks (shown_by is.entries k is.leads) d on x value)

  pub whole_there : length x.disk.bytes ≡ whole_length (image_of k.shape)
  whole_there = is_whole k.shape is.leads.world.disk k.disks (shown_by is.entries k is.leads) d on x value

  -- it is another by this entry
  leads_by : (entry : Entry) → ((w : World) → w.disk d ≡ x.disk → MayFollow model_crashes k.shape w entry left.disk) → ((w : World) → after w entry left.disk ≡ record w { disk = with_disk w.disk d left.disk })
      → left ≡ calm left.disk → length left.disk.bytes ≡ length x.disk.bytes → LeadsOnBy (λ e. e ≡ entry) k (with_disk_at k d left)
  leads_by entry may after_is calm_still as_long entries led =
      let w : World = led.world in
      let shown = shown_by entries k led in
      let same : w.disk d ≡ x.disk = ap (λ (s : SimState). s.disk) (sym (is_calm k.shape w.disk k.disks shown d on x value)) in
      let goes : GoesTo k.shape w (entry ∷ []) (after w entry left.disk) = (left.disk, may w same, refl) in (
        entry,
        refl,
        leads_then entries k led (record w { disk = with_disk w.disk d left.disk }) (entry ∷ []) (set k.disks d left) k.hosts (subst (λ (v : World). GoesTo k.shape w (entry ∷ []) v) (after_is w) goes) (λ e. refl)
            (disk_set k.shape w.disk k.disks shown d left on calm_still (as_long ∙ is_whole k.shape w.disk k.disks shown d on x value)) led.shows.host_count led.shows.hosts,
      )

  pub crashes : (given : List ℕ) → x.disk.gone ≡ false → x.disk.boot < 2 ^ 62 → device.Crashes x.disk left.disk → left ≡ record x { disk = crashed x.disk given } → length left.disk.bytes ≡ length x.disk.bytes
      → ChangesDisk d (record (disk_of k d) { disk = crashed (disk_of k d).disk given }) (Crashes d) k (with_disk_at k d left)
  crashes given there boot done is_left as_long =
      record {
        is = ap (λ (s : SimState). record { shape = k.shape; disks = set k.disks d s; hosts = k.hosts }) (is_left ∙ ap (λ (s : SimState). record s { disk = crashed s.disk given }) (sym disk_there));
        leads =
            leads_by (Crashes d)
            (λ w same. (
              on,
              subst (λ (s : DiskState). s.gone ≡ false) (sym same) there,
              (subst (λ (s : DiskState). s.boot < 2 ^ 62) (sym same) boot, subst (λ (s : DiskState). device.Crashes s left.disk) (sym same) done),
              tt,
            ))
            (λ w. refl) (calm_by left (crashed x.disk given) (is_left ∙ ap (λ (s : SimState). record s { disk = crashed x.disk given }) calm_there)) as_long;
      }

  pub loses : x.disk.gone ≡ false → left ≡ record x { disk = lost x.disk }
      → ChangesDisk d (record (disk_of k d) { disk = lost (disk_of k d).disk }) (Loses d) k (with_disk_at k d left)
  loses there is_left =
      record {
        is = ap (λ (s : SimState). record { shape = k.shape; disks = set k.disks d s; hosts = k.hosts }) (is_left ∙ ap (λ (s : SimState). record s { disk = lost s.disk }) (sym disk_there));
        leads =
            leads_by (Loses d)
            (λ w same. (on, subst (λ (s : DiskState). s.gone ≡ false) (sym same) there, ap (λ (s : SimState). s.disk) is_left ∙ ap lost (sym same)))
            (λ w. refl) (calm_by left (lost x.disk) (is_left ∙ ap (λ (s : SimState). record s { disk = lost x.disk }) calm_there)) (ap (λ (s : SimState). length s.disk.bytes) is_left);
      }

-- IN THE WORDS OF THE CONTRACTS

pub on_ok : {A E P Q : Type 0} (r : Result A E) → OnOk r P → (P → Q) → OnOk r Q
on_ok (Ok a) p goes = goes p
on_ok (Err e) p goes = tt

pub on_err : {A E P Q : Type 0} (r : Result A E) → OnErr r P → (P → Q) → OnErr r Q
on_err (Ok a) p goes = tt
on_err (Err e) p goes = goes p

-- of a result that is known
pub ok_as : {A E P : Type 0} (r : Result A E) → P → OnOk r P
ok_as (Ok a) p = p
ok_as (Err e) p = tt

pub not_ok : {A E : Type 0} (P : Type 0) (r : Result A E) (e : E) → r ≡ Err e → OnOk r P
not_ok P (Ok a) e is = absurd (cc)
not_ok P (Err f) e is = tt

pub err_as : {A E : Type 0} (P : E → Type 0) (r : Result A E) (e : E) → r ≡ Err e → P e → IfErr r P
err_as P (Ok a) e is p = absurd (cc)
err_as P (Err f) e is p = let same : e ≡ f = cc in subst P same p

pub not_err : {A E : Type 0} (P : E → Type 0) (r : Result A E) (a : A) → r ≡ Ok a → IfErr r P
not_err P (Ok b) a is = tt
not_err P (Err e) a is = absurd (cc)

pub if_some : {A : Type 0} {P Q : A → Type 0} (o : Option A) → IfSome o P → ((a : A) → P a → Q a) → IfSome o Q
if_some None p goes = tt
if_some (Some a) p goes = goes a p

-- both hold where both are true
pub both : (a b : Bool) → (a && b) ≡ true → (a ≡ true) × (b ≡ true)
both true true is = (refl, refl)
both true false is = absurd (cc)
both false b is = absurd (cc)

pub is_none_of : {A : Type 0} (o : Option A) → is_none o ≡ true → o ≡ None
is_none_of None is = refl
is_none_of (Some a) is = absurd (cc)

pub not_of : (b : Bool) → not b ≡ true → b ≡ false
not_of true is = absurd (cc)
not_of false is = refl

-- what is so of a disk that may be lost, and of one that may crash
pub record MayBeLost (k : Kept) (d : ℕ) : Type 0 where
  pub inside : d < k.shape.disks
  pub there : (disk_of k d).disk.gone ≡ false

pub lost_at : (k now : Kept) (d i : ℕ) → k ≡ now → i ≡ d → may_lose now d ≡ true → MayBeLost k i
lost_at k now d i same at may =
    let here : may_lose k i ≡ true = ap₂ may_lose same at ∙ may in
    let parts = both (nat_lt i k.shape.disks) (not (disk_of k i).disk.gone) here in
    record { inside = ltb-true i k.shape.disks parts.0; there = not_of (disk_of k i).disk.gone parts.1 }

pub record MayCrash (k : Kept) (d : ℕ) : Type 0 where
  pub lost : MayBeLost k d
  pub boot : (disk_of k d).disk.boot < 2 ^ 62

pub crash_at : (k now : Kept) (d i : ℕ) → k ≡ now → i ≡ d → may_crash now d ≡ true → MayCrash k i
crash_at k now d i same at may =
    let here : may_crash k i ≡ true = ap₂ may_crash same at ∙ may in
    let parts = both (may_lose k i) (nat_lt (disk_of k i).disk.boot (2 ^ 62)) here in
    record { lost = lost_at k k i i refl refl parts.0; boot = ltb-true (disk_of k i).disk.boot (2 ^ 62) parts.1 }

-- a call that may be torn is a write that is not refused
pub torn_by : (k now : Kept) (h : ℕ) → k ≡ now → may_tear now h ≡ true → (is_write (due k h).1 ≡ true) × (may_fail k h ≡ true)
torn_by k now h same may = both (is_write (due k h).1) (may_fail k h) (ap (λ (kept : Kept). may_tear kept h) same ∙ may)

-- where a number leads in the list of hosts
pub record Seat (h : ℕ) : Type 0 where
  pub i : ℕ
  pub same : i ≡ h
  pub inside : h < HOSTS

abbrev pub seat_of : (h number i : ℕ) → number ≡ h → number < HOSTS → i ≡ number → Seat h
seat_of h number i value range at = record { i = i; same = at ∙ value; inside = subst (λ (n : ℕ). n < HOSTS) value range }

-- a host is another there
abbrev pub seated : Kept → List SimState → ℕ → Walk → Kept
seated k disks i own = record { shape = k.shape; disks = disks; hosts = set k.hosts i own }

-- and what is kept of it
pub record Own (k : Kept) (h : ℕ) : Type 0 where
  pub seat : Seat h
  pub before : Walk
  pub is : IsHost k h before

abbrev pub own_of : (k : Kept) → IsReached k → (h : ℕ) (seat : Seat h) (before : Walk) → before ≡ get_or k.hosts seat.i before → Own k h
own_of k is h seat before value = record { seat = seat; before = before; is = own_at k is h seat.i seat.same seat.inside before value }

-- a host stops
pub stops : (k : Kept) → IsReached k → (h : ℕ) (seat : Seat h) (own_then : Walk) → IsNew k.shape h own_then → Stops h k (seated k k.disks seat.i own_then)
stops k is h seat own_then new =
    let first = some_at k.hosts h (omega (arith, seat.inside, is.leads.shows.host_count)) in
    subst (λ (i : ℕ). Stops h k (seated k k.disks i own_then)) (sym seat.same)
    (record {
      disks = refl;
      host = changes k is h seat.inside first.0 first.1 k.disks own_then (λ before last. IsNew k.shape h last) new;
      leads = goes_stopping k is h seat.inside first.0 first.1 own_then new;
    })

-- a host begins a task
pub begins : (k : Kept) (is : IsReached k) (h : ℕ) (u : Own k h) (task : EpochTask) (own_then : Walk) (IsSo : Walk → Type 0) → IsIdle k h → MayBegin h task → WalksOn u.before own_then → IsSo own_then
    → Begins h task k (seated k k.disks u.seat.i own_then) IsSo
begins k is h u task own_then IsSo idle may walks so =
    subst (λ (i : ℕ). Begins h task k (seated k k.disks i own_then) IsSo) (sym u.seat.same)
    (record {
      idle = idle;
      may = may;
      disks = refl;
      host = changes k is h u.seat.inside u.before u.is k.disks own_then (λ first last. IsSo last) so;
      leads = goes_silently k is h u.seat.inside u.before u.is own_then walks;
    })

-- the call that a host has due, and its disk
pub record Due (k : Kept) (h : ℕ) : Type 0 where
  pub own : Own k h
  pub d : ℕ
  pub call : Call
  pub is : call_due own.before ≡ (d, call)
  pub on : d < k.shape.disks
  pub x : SimState
  pub value : x ≡ get_or k.disks d x

pub on_disk : (k : Kept) → IsReached k → (h : ℕ) (u : Own k h) (d e : ℕ) → e < u.before.config.disks → d ≡ e → d < k.shape.disks
on_disk k is h u d e within same =
    subst (λ (n : ℕ). n < k.shape.disks) (sym same) (subst (λ (c : Shape). e < c.disks) (own_shape k is h u.seat.inside u.before u.is) within)

abbrev pub due_by : (k : Kept) (is : IsReached k) (h : ℕ) (u : Own k h) (need : Need) → call_of_need cluster_version need ≡ call_due u.before → need.disk < u.before.config.disks → (d : ℕ) → d ≡ need.disk
    → (x : SimState) → x ≡ get_or k.disks d x → Due k h
due_by k is h u need due within d same x value =
    record {
      own = u;
      d = d;
      call = device_call_of cluster_version need.call;
      is = sym due ∙ ap (λ (j : ℕ). (j, device_call_of cluster_version need.call)) (sym same);
      on = on_disk k is h u d need.disk within same;
      x = x;
      value = value;
    }

module _ (k : Kept) (is : IsReached k) (h : ℕ) (u : Due k h) where
  abbrev pub left_kept : SimState → Walk → Kept
  left_kept left own_then = seated k (set k.disks u.d left) u.own.seat.i own_then

  -- no failure was asked for of the disk, and the call ends on it
  pub due_calm : u.x ≡ calm u.x.disk
  due_calm = calm_there k is u.d u.on u.x u.x u.value

  pub due_range : (call : code_call.DeviceCall) → IsWithin cluster_version (whole_length (image_of u.own.before.config)) call → IsWithin cluster_version (length u.x.disk.bytes) call
  due_range call within = subst (λ (n : ℕ). IsWithin cluster_version n call) (ap (λ (c : Shape). whole_length (image_of c)) (own_shape k is h u.own.seat.inside u.own.before u.own.is) ∙ sym (whole_there k is u.d u.on u.x u.x u.value)) within

  -- of the disk that is due
  pub due_disk : disk_of k (due k h).0 ≡ u.x
  due_disk = disk_is k is h u.own.seat.inside u.own.before u.own.is u.d u.call u.is u.on u.x u.x u.value due_calm refl

  pub due_call : (due k h).1 ≡ u.call
  due_call = call_is k is h u.own.seat.inside u.own.before u.own.is u.d u.call u.is u.on u.x u.x u.value due_calm refl

  pub due_refusal : refusal_of (disk_of k (due k h).0).disk (due k h).1 ≡ refusal_of u.x.disk u.call
  due_refusal = ap₂ (λ (s : SimState) (y : Call). refusal_of s.disk y) due_disk due_call

  -- a call that may fail is not refused, and one that may be torn is a write
  pub not_refused : may_fail k h ≡ true → refusal_of u.x.disk u.call ≡ None
  not_refused may = sym due_refusal ∙ is_none_of (refusal_of (disk_of k (due k h).0).disk (due k h).1) may

  pub writes_now : is_write (due k h).1 ≡ true → is_write u.call ≡ true
  writes_now is = ap is_write (sym due_call) ∙ is

  module _ (left : SimState) (own_then : Walk) (as_long : length left.disk.bytes ≡ length u.x.disk.bytes) where
    hears_there : (answer : Answer) (IsSo : (first last : Walk) → Type 0) → left ≡ calm left.disk → Step u.x.disk u.call answer left.disk → WalksBy u.own.before own_then (call_due u.own.before) answer
        → IsSo u.own.before own_then → Hears h left answer k (left_kept left own_then) IsSo
    hears_there answer IsSo calm_still step walks so =
        subst (λ (i : ℕ). Hears h left answer k (seated k (set k.disks u.d left) i own_then) IsSo) (sym u.own.seat.same)
        (hears k is h u.own.seat.inside u.own.before u.own.is u.d u.call u.is u.on u.x left u.value calm_still as_long answer own_then IsSo step walks so)

    -- it steps
    pub stepped : (answer : Answer) (IsSo : (first last : Walk) → Type 0) → (left, answer) ≡ outcome u.x u.call → WalksBy u.own.before own_then (call_due u.own.before) answer → IsSo u.own.before own_then
        → Hears h (outcome_due k h).0 (outcome_due k h).1 k (left_kept left own_then) IsSo
    stepped answer IsSo gave walks so =
        let by : IsStep u.x.disk u.call (left, answer) = step_of u.x left u.call answer due_calm gave in
        let so_due : (left, answer) ≡ outcome_due k h = gave ∙ ap₂ outcome (sym due_disk) (sym due_call) in
        subst (λ (o : SimState × Answer). Hears h o.0 o.1 k (left_kept left own_then) IsSo) so_due (hears_there answer IsSo by.calm_still by.step walks so)

    -- its call fails
    pub failed : (given : List ℕ) (IsSo : (first last : Walk) → Type 0) → left ≡ left_by u.x u.call given → FailureLeaves u.call u.x.disk left.disk → refusal_of u.x.disk u.call ≡ None
        → WalksBy u.own.before own_then (call_due u.own.before) (Fault Failed) → IsSo u.own.before own_then → Hears h (cut_due k h given) (Fault Failed) k (left_kept left own_then) IsSo
    failed given IsSo is_left leaves none walks so =
        let so_due : left ≡ cut_due k h given = is_left ∙ ap₂ (λ (s : SimState) (y : Call). left_by s y given) (sym due_disk) (sym due_call) in
        subst (λ (s : SimState). Hears h s (Fault Failed) k (left_kept left own_then) IsSo) so_due
        (hears_there (Fault Failed) IsSo (calm_left u.x left u.call given due_calm is_left) (fails u.x.disk left.disk u.call none leaves) walks so)

    -- it stops within the call
    pub torn : (given : List ℕ) (heard : Walk) → is_write u.call ≡ true → left ≡ left_by u.x u.call given → FailureLeaves u.call u.x.disk left.disk → refusal_of u.x.disk u.call ≡ None
        → WalksBy u.own.before heard (call_due u.own.before) (Fault Failed) → IsNew k.shape h own_then → StopsWithin h given k (left_kept left own_then)
    torn given heard writes is_left leaves none walks new =
        subst (λ (i : ℕ). StopsWithin h given k (seated k (set k.disks u.d left) i own_then)) (sym u.own.seat.same)
        (stops_within k is h u.own.seat.inside u.own.before u.own.is u.d u.call u.is u.on u.x left u.value (calm_left u.x left u.call given due_calm is_left) as_long given heard own_then writes
        (tears u.x.disk left.disk u.call writes none leaves) is_left walks new)

-- REACHED

-- what was kept is led to, and so is what is kept
pub reached_on : (old new : Kept) (AreSo : List Entry → Type 0) → IsReached old → LeadsOn AreSo old new → IsReached new
reached_on old new AreSo is on = let goes = on is.entries is.leads in record { entries = is.entries ++ goes.0; leads = goes.2 }

pub reached_by : (old new : Kept) (IsSo : Entry → Type 0) → IsReached old → LeadsOnBy IsSo old new → IsReached new
reached_by old new IsSo is on = let goes = on is.entries is.leads in record { entries = is.entries ++ goes.0 ∷ []; leads = goes.2 }
