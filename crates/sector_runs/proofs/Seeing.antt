-- What a host has seen of a sector, and sees of it later, by the touches in between.
use Rattle.std.specs.Prelude.{◌≡◌, ◌≢◌, ◌⊎◌, ◌==◌, ◌+◌, ◌<◌, ◌^◌, ℕ, zero, suc, Bool, true, false, List, [], ◌∷◌, ◌++◌, length, Contains, Option, None, Some, if◌then◌else◌}
use Rattle.std.proofs.Common.{refl, sym, ◌∙◌, ap, subst, arith, inl, inr, true≢false}
use Rattle.disk.specs.declared.fault.DiskFault.TheVariants.{Reset, Failed, Gone}
use Rattle.disk.specs.Disk.{Call, Attach, Read, Write, Sync, Answer, Booted, Told, Done, Fault}
use Rattle.paxos_block.specs.Places.{Spot}
use Rattle.paxos_block.specs.Shape.{Shape}
use Rattle.world.specs.Entry.{Filled, Called, Torn, Crashed, Lost, is_of}
use Rattle.sectors.specs.declared.geometry.Geometry.{Geometry}
use Rattle.sectors.specs.Geometry.{IsGeometry}
use Rattle.sectors.specs.Moments.{Sectors, Touch, Sees, Puts, Tries, Keeps, IsStamped, WritesStamped, Leads, changed}
use Rattle.sectors.specs.Places.{IsSpot}
use Rattle.sectors.specs.Sector.{stamp_of, stamped_of, sector_with}
use Rattle.sectors.proofs.Moving.{agrees}
use Rattle.sectors.proofs.SectorLaws.{length_with}
use Rattle.sectors.proofs.Shapes.{long_sector}
use Rattle.sector_runs.specs.Device.{Device, Moment, Reads, Effect, GoesOn, GoesBy, IsSeen, IsSeenBy, effects, noted, sector_of, lost, Restarts}
use Rattle.sector_runs.specs.Touches.{IsToPut, PutsOrNot, PutsAll, Succeeds, Fails, Answers, IsCutOff, TakesEffect, Happens, GoesThrough}
use Rattle.sector_runs.specs.Owning.{host_of, IsOfHost, IsOwn, IsOwnEntry, AllOwn}
use Rattle.sector_runs.specs.Showing.{IsSized}
use Rattle.sector_runs.proofs.Sectors.{Spares, is_itself, spared, hosts_apart, own_block}

-- stamped touches lead here from sectors of which this one had these bytes
pub record Came (s : ℕ) (bytes : List ℕ) (now : Sectors) : Type 0 where
  pub old : Sectors
  pub touches : List Touch
  pub leads : Leads old touches now
  pub had : old s ≡ bytes

-- and from here to sectors of which it has these
pub record Comes (s : ℕ) (bytes : List ℕ) (now : Sectors) : Type 0 where
  pub new : Sectors
  pub touches : List Touch
  pub leads : Leads now touches new
  pub has : new s ≡ bytes

-- by what was seen before these moments
pub record Known (geometry : Geometry) (past : List Moment) (device : Device) : Type 0 where
  pub sized : IsSized geometry device
  pub came : (s : ℕ) (bytes : List ℕ) → IsSeen s bytes past → Came s bytes device.now
  pub fresh : (h : ℕ) (spot : Spot) (bytes : List ℕ) → IsSpot geometry spot → host_of spot ≡ h → IsSeenBy h (sector_of geometry spot) bytes past → device.now (sector_of geometry spot) ≡ bytes

leads_more : (old middle new : Sectors) (xs ys : List Touch) → Leads old xs middle → Leads middle ys new → Leads old (xs ++ ys) new
leads_more old middle new [] ys before after = subst (λ (d : Sectors). Leads d ys new) before after
leads_more old middle new (x ∷ xs) ys before after = (before.0, before.1, before.2, leads_more before.0 middle new xs ys before.3 after)

-- what was seen, and is seen once again alike, is there in between
pub is_there : (s : ℕ) (one other : List ℕ) (now : Sectors) → Came s one now → Comes s other now → stamped_of one ≡ stamped_of other → now s ≡ one
is_there s one other now came comes agree =
    agrees came.old now comes.new came.touches comes.touches s came.leads comes.leads
    (ap stamped_of comes.has ∙ sym agree ∙ ap stamped_of (sym came.had))
    ∙ came.had

-- A TOUCH

-- a write is of a host's own block, as it was seen to be
pub record IsPut (geometry : Geometry) (h : ℕ) (past : List Moment) (s : ℕ) (bytes : List ℕ) : Type 0 where
  pub at : ℕ
  pub from : List ℕ
  pub put : IsToPut geometry h past at from s bytes
  pub own : host_of put.block.spot ≡ h

abbrev pub Fits : Geometry → ℕ → List Moment → Option Touch → Type 0
Fits geometry h past None = Unit {0}
Fits geometry h past (Some (Sees s bytes)) = Unit {0}
Fits geometry h past (Some (Puts s bytes)) = IsPut geometry h past s bytes
Fits geometry h past (Some (Tries s bytes)) = IsPut geometry h past s bytes
Fits geometry h past (Some Keeps) = Unit {0}

module _ (geometry : Geometry) (is : IsGeometry geometry) (h : ℕ) (past : List Moment) (by : Option Touch) where
  none_fits : by ≡ None → Fits geometry h past by
  none_fits e = subst (Fits geometry h past) (sym e) tt

  abbrev pub put_fits : (at : ℕ) (from : List ℕ) (s : ℕ) (bytes : List ℕ) → IsOfHost h at → IsToPut geometry h past at from s bytes → IsPut geometry h past s bytes
  put_fits at from s bytes own put =
      let b = put.block in
      record { at = at; from = from; put = put; own = own_block geometry is b.spot b.offset at (length from) h b.is_spot b.within own }

  tried_fits : (at : ℕ) (from : List ℕ) → IsOfHost h at → PutsOrNot geometry h past at from by → Fits geometry h past by
  tried_fits at from own (block, inl none) = none_fits none
  tried_fits at from own (block, inr (s, bytes, some, put)) = subst (Fits geometry h past) (sym some) (put_fits at from s bytes own put)

  all_fits : (at : ℕ) (from : List ℕ) → IsOfHost h at → PutsAll geometry h past at from by → Fits geometry h past by
  all_fits at from own (inl none) = none_fits none.2
  all_fits at from own (inr (s, bytes, some, put)) = subst (Fits geometry h past) (sym some) (put_fits at from s bytes own put)

  success_fits : (future : List Moment) (call : Call) (answer : Answer) → IsOwn h call → Succeeds geometry h past future call answer by → Fits geometry h past by
  success_fits future Attach answer own e = none_fits e.1
  success_fits future (Read boot at len) answer own e = none_fits e.2
  success_fits future (Write boot at from) answer own e = all_fits at from own e.1
  success_fits future (Sync boot) answer own e = subst (Fits geometry h past) (sym e.1) tt

  failure_fits : (call : Call) → IsOwn h call → Fails geometry h past call by → Fits geometry h past by
  failure_fits Attach own e = none_fits e
  failure_fits (Read boot at len) own e = none_fits e
  failure_fits (Write boot at from) own e = tried_fits at from own e
  failure_fits (Sync boot) own e = none_fits e

  pub call_fits : (future : List Moment) (gone : Bool) (call : Call) (answer : Answer) → IsOwn h call → Answers geometry h past future gone call answer by → Fits geometry h past by
  call_fits future gone call (Booted boot) own e = success_fits future call (Booted boot) own e.2
  call_fits future gone call (Told bytes) own e = success_fits future call (Told bytes) own e.2
  call_fits future gone call Done own e = success_fits future call Done own e.2
  call_fits future gone call (Fault Reset) own e = absurd e
  call_fits future gone call (Fault Failed) own e = failure_fits call own e.2
  call_fits future gone call (Fault Gone) own e = none_fits e.1

  pub cut_off_fits : (gone : Bool) (call : Call) → IsOwn h call → IsCutOff geometry h past gone call by → Fits geometry h past by
  cut_off_fits gone Attach own e = absurd e
  cut_off_fits gone (Read boot at len) own e = absurd e
  cut_off_fits gone (Write boot at from) own e = tried_fits at from own e.2
  cut_off_fits gone (Sync boot) own e = absurd e

-- what is contained in two items and more
pub one_of : (a b : List ℕ) (rest : List (List ℕ)) (x : List ℕ) → Contains (a ∷ b ∷ rest) x → (x ≡ a) ⊎ ((x ≡ b) ⊎ Contains rest x)
one_of a b rest x (zero, below, is) = inl (sym is)
one_of a b rest x (suc zero, below, is) = inr (inl (sym is))
one_of a b rest x (suc (suc k), below, is) = inr (inr (k, omega (arith, below), is))

pub none_in : (x : List ℕ) → Contains [] x → ⊥
none_in x (k, below, is) = absurd (omega (arith, below))

-- the touch, if there is one
abbrev pub touched : Option Touch → List Touch
touched None = []
touched (Some touch) = touch ∷ []

module _ (geometry : Geometry) (is : IsGeometry geometry) (h : ℕ) (past : List Moment) (old : Device) (known : Known geometry past old) where
  -- what was seen is there
  pub was_there : (s : ℕ) (bytes : List ℕ) (w : IsPut geometry h past s bytes) → old.now s ≡ w.put.was
  was_there s bytes w =
      let p = w.put in
      ap old.now p.sector ∙ known.fresh h p.block.spot p.was p.block.is_spot w.own (subst (λ (t : ℕ). IsSeenBy h t p.was past) p.sector p.seen)

  -- so it is stamped
  pub stamped : (s : ℕ) (bytes : List ℕ) → IsPut geometry h past s bytes → IsStamped (old.now s) bytes
  stamped s bytes w =
      let p = w.put in
      let size = known.sized.0 s in
      let long = long_sector geometry.sector_size is.sector_size in
      let seen = was_there s bytes w in
      record {
        offset = p.block.offset;
        from = w.from;
        long = omega (arith, size, long);
        within = p.block.within.ends;
        unspent = subst (λ (l : List ℕ). stamp_of l + 1 < 2 ^ 64) (sym seen) p.unspent;
        made = p.made ∙ ap (sector_with p.block.offset w.from) (sym seen);
      }

  put_sized : (s : ℕ) (bytes : List ℕ) → IsPut geometry h past s bytes → length bytes ≡ geometry.sector_size
  put_sized s bytes w =
      let t = stamped s bytes w in
      let size = known.sized.0 s in
      let long = t.long in
      ap (λ (l : List ℕ). length l) t.made ∙ length_with (old.now s) t.from t.offset t.within (omega (arith, long)) long ∙ size

  writes_stamped : (touch : Touch) → Fits geometry h past (Some touch) → WritesStamped old.now touch
  writes_stamped (Sees s bytes) fits = tt
  writes_stamped (Puts s bytes) fits = stamped s bytes fits
  writes_stamped (Tries s bytes) fits = stamped s bytes fits
  writes_stamped Keeps fits = tt

  -- a touch leads from the sectors as they were to those that they are
  pub leads_by : (by : Option Touch) (new : Device) → Fits geometry h past by → GoesBy by old new → Leads old.now (touched by) new.now
  leads_by None new fits goes = ap (λ (d : Device). d.now) goes
  leads_by (Some touch) new fits goes = (new.now, goes.0, writes_stamped touch fits, refl)

  -- SIZES

  one_sized : (b : Bool) (bytes was : List ℕ) → length bytes ≡ geometry.sector_size → length was ≡ geometry.sector_size → length (if b then bytes else was) ≡ geometry.sector_size
  one_sized true bytes was new old_one = new
  one_sized false bytes was new old_one = old_one

  noted_sized : (b : Bool) (was bytes : List ℕ) (held : List (List ℕ)) (had : List ℕ) → length was ≡ geometry.sector_size → length bytes ≡ geometry.sector_size
      → ((l : List ℕ) → Contains held l → length l ≡ geometry.sector_size) → Contains (if b then was ∷ bytes ∷ held else held) had → length had ≡ geometry.sector_size
  noted_sized false was bytes held had size new held_so in_it = held_so had in_it
  noted_sized true was bytes held had size new held_so in_it =
      elim (one_of was bytes held had in_it) [
        | inl first ↦ ap (λ (l : List ℕ). length l) first ∙ size
        | inr (inl second) ↦ ap (λ (l : List ℕ). length l) second ∙ new
        | inr (inr rest) ↦ held_so had rest
      ]

  put_all_sized : (s : ℕ) (bytes : List ℕ) (new : Device) → IsPut geometry h past s bytes → (new.now ≡ old.now) ⊎ (new.now ≡ changed s bytes old.now) → new.since ≡ noted s bytes old → IsSized geometry new
  put_all_sized s bytes new put now since =
      let size = put_sized s bytes put in (
        λ t. elim now [
          | inl kept ↦ ap (λ (f : Sectors). length (f t)) kept ∙ known.sized.0 t
          | inr put_there ↦ ap (λ (f : Sectors). length (f t)) put_there ∙ one_sized (t == s) bytes (old.now t) size (known.sized.0 t)
        ],
        λ t had in_it. noted_sized (t == s) (old.now t) bytes (old.since t) had (known.sized.0 t) size (known.sized.1 t) (subst (λ (f : ℕ → List (List ℕ)). Contains (f t) had) since in_it),
      )

  same_sized : (new : Device) → new.now ≡ old.now → new.since ≡ old.since → IsSized geometry new
  same_sized new now since = (
    λ t. ap (λ (f : Sectors). length (f t)) now ∙ known.sized.0 t,
    λ t had in_it. known.sized.1 t had (subst (λ (f : ℕ → List (List ℕ)). Contains (f t) had) since in_it),
  )

  pub sized_by : (by : Option Touch) (new : Device) → Fits geometry h past by → GoesBy by old new → IsSized geometry new
  sized_by None new fits goes = same_sized new (ap (λ (d : Device). d.now) goes) (ap (λ (d : Device). d.since) goes)
  sized_by (Some (Sees s bytes)) new fits goes = same_sized new goes.0.1 goes.1
  sized_by (Some (Puts s bytes)) new fits goes = put_all_sized s bytes new fits (inr goes.0) goes.1
  sized_by (Some (Tries s bytes)) new fits goes = put_all_sized s bytes new fits goes.0 goes.1
  sized_by (Some Keeps) new fits goes = (
    λ t. ap (λ (f : Sectors). length (f t)) goes.0 ∙ known.sized.0 t,
    λ t had in_it. absurd (none_in had (subst (λ (f : ℕ → List (List ℕ)). Contains (f t) had) goes.1 in_it)),
  )

  -- ONE MOMENT FURTHER

  came_by : (by : Option Touch) (new : Device) → Fits geometry h past by → GoesBy by old new → (s : ℕ) (bytes : List ℕ) → Came s bytes old.now → Came s bytes new.now
  came_by by new fits goes s bytes came =
      record {
        old = came.old;
        touches = came.touches ++ touched by;
        leads = leads_more came.old old.now new.now came.touches (touched by) came.leads (leads_by by new fits goes);
        had = came.had;
      }

  -- a sector is read
  pub known_read : (t : ℕ) (got : List ℕ) (new : Device) → GoesBy (Some (Sees t got)) old new → Known geometry (Reads t got ∷ past) new
  known_read t got new goes =
      let now : (s : ℕ) → new.now s ≡ old.now s = λ s. ap (λ (f : Sectors). f s) goes.0.1 in
      let here : (s : ℕ) (bytes : List ℕ) → t ≡ s → got ≡ bytes → new.now s ≡ bytes = λ s bytes same are. ap new.now (sym same) ∙ now t ∙ sym goes.0.0 ∙ are in
      record {
        sized = sized_by (Some (Sees t got)) new tt goes;
        came =
            λ s bytes seen.
            elim seen [
              | inl same ↦ record { old = new.now; touches = []; leads = refl; had = here s bytes same.0 same.1 }
              | inr earlier ↦ came_by (Some (Sees t got)) new tt goes s bytes (known.came s bytes earlier)
            ];
        fresh =
            λ g spot bytes is_spot own seen.
            elim seen [
              | inl same ↦ here (sector_of geometry spot) bytes same.0 same.1
              | inr earlier ↦ now (sector_of geometry spot) ∙ known.fresh g spot bytes is_spot own earlier
            ];
      }

  spares_put : (t : ℕ) (bytes : List ℕ) → IsPut geometry h past t bytes → (spot : Spot) → IsSpot geometry spot → host_of spot ≢ h → t ≢ sector_of geometry spot
  spares_put t bytes w spot is_spot other same =
      let b = w.put.block in
      hosts_apart geometry spot b.spot is_spot b.is_spot (λ e. other (e ∙ w.own)) (sym same ∙ w.put.sector)

  -- it spares the sectors of other hosts
  spares_others : (by : Option Touch) → Fits geometry h past by → (spot : Spot) → IsSpot geometry spot → host_of spot ≢ h → Spares (sector_of geometry spot) by
  spares_others None fits spot is_spot other = tt
  spares_others (Some (Sees t bytes)) fits spot is_spot other = tt
  spares_others (Some (Puts t bytes)) fits spot is_spot other = spares_put t bytes fits spot is_spot other
  spares_others (Some (Tries t bytes)) fits spot is_spot other = spares_put t bytes fits spot is_spot other
  spares_others (Some Keeps) fits spot is_spot other = tt

  -- a call takes effect
  pub known_effect : (entry : Filled) (by : Option Touch) (new : Device) → Fits geometry h past by → GoesBy by old new → is_of h entry ≡ true → Known geometry (Effect entry by ∷ past) new
  known_effect entry by new fits goes mine =
      record {
        sized = sized_by by new fits goes;
        came = λ s bytes seen. came_by by new fits goes s bytes (known.came s bytes seen.1);
        fresh =
            λ g spot bytes is_spot own seen.
            spared (sector_of geometry spot) by old new goes
            (spares_others by fits spot is_spot (λ same. true≢false (sym mine ∙ ap (λ (n : ℕ). is_of n entry) (sym same ∙ own) ∙ seen.1)))
            ∙ known.fresh g spot bytes is_spot own seen.2;
      }

  -- the device is lost
  known_lost : (d : ℕ) (by : Option Touch) (new : Device) → new ≡ lost old → Known geometry (Effect (Lost d) by ∷ past) new
  known_lost d by new is =
      subst (Known geometry (Effect (Lost d) by ∷ past)) (sym is)
      (record { sized = known.sized; came = λ s bytes seen. known.came s bytes seen.1; fresh = λ g spot bytes is_spot own seen. known.fresh g spot bytes is_spot own seen.2 })

  -- the device restarts
  pub known_restart : (d : ℕ) (left : List ℕ) (by : Option Touch) (new : Device) → Restarts old new → Known geometry (Effect (Crashed d left) by ∷ past) new
  known_restart d left by new restarts =
      record {
        sized = (
          λ t. elim (restarts.kept t) [
            | inl same ↦ ap (λ (l : List ℕ). length l) same ∙ known.sized.0 t
            | inr had ↦ known.sized.1 t (new.now t) had
          ],
          λ t had in_it. absurd (none_in had (subst (λ (f : ℕ → List (List ℕ)). Contains (f t) had) restarts.since in_it)),
        );
        came = λ s bytes seen. absurd seen.0;
        fresh = λ g spot bytes is_spot own seen. absurd seen.0;
      }

module _ (c : Shape) (k : ℕ) (geometry : Geometry) (is : IsGeometry geometry) where
  known_by : (past future : List Moment) (old new : Device) (entry : Filled) (by : Option Touch) → Known geometry past old → IsOwnEntry entry → TakesEffect c k geometry past future old entry by new → Known geometry (Effect entry by ∷ past) new
  known_by past future old new (Called h d call answer left) by known own takes =
      known_effect geometry is h past old known (Called h d call answer left) by new (call_fits geometry is h past by future old.gone call answer own takes.0) takes.1 (is_itself h)
  known_by past future old new (Torn h d call left) by known own takes =
      known_effect geometry is h past old known (Torn h d call left) by new (cut_off_fits geometry is h past by old.gone call own takes.0) takes.1 (is_itself h)
  known_by past future old new (Crashed d left) by known own takes = known_restart geometry is 0 past old known d left by new takes.3
  known_by past future old new (Lost d) by known own takes = known_lost geometry is 0 past old known d by new takes.3
  known_by past future old new other by known own takes = absurd takes

  pub known_next : (past future : List Moment) (old new : Device) (moment : Moment) → Known geometry past old → AllOwn (effects (moment ∷ [])) → Happens c k geometry past future old moment new → Known geometry (moment ∷ past) new
  known_next past future old new (Reads s bytes) known own happens = known_read geometry is 0 past old known s bytes new happens
  known_next past future old new (Effect entry by) known own happens = known_by past future old new entry by known own.0 happens

  -- LATER

  comes_by : (s : ℕ) (bytes : List ℕ) (old new : Sectors) (touches : List Touch) → Leads old touches new → Comes s bytes new → Comes s bytes old
  comes_by s bytes old new touches leads comes =
      record { new = comes.new; touches = touches ++ comes.touches; leads = leads_more old new comes.new touches comes.touches leads comes.leads; has = comes.has }

  comes_behind : (s : ℕ) (bytes : List ℕ) (past future : List Moment) (old new : Device) (entry : Filled) (by : Option Touch) → Known geometry past old → IsOwnEntry entry → GoesOn entry → TakesEffect c k geometry past future old entry by new → Comes s bytes new.now → Comes s bytes old.now
  comes_behind s bytes past future old new (Called h d call answer left) by known own on takes later =
      comes_by s bytes old.now new.now (touched by) (leads_by geometry is h past old known by new (call_fits geometry is h past by future old.gone call answer own takes.0) takes.1) later
  comes_behind s bytes past future old new (Torn h d call left) by known own on takes later =
      comes_by s bytes old.now new.now (touched by) (leads_by geometry is h past old known by new (cut_off_fits geometry is h past by old.gone call own takes.0) takes.1) later
  comes_behind s bytes past future old new (Crashed d left) by known own on takes later = absurd on
  comes_behind s bytes past future old new (Lost d) by known own on takes later =
      subst (λ (e : Device). Comes s bytes e.now) takes.3 later
  comes_behind s bytes past future old new other by known own on takes later = absurd takes

  -- what is seen at a later moment, before the device restarts, is what it comes to by then
  pub comes_later : (s : ℕ) (bytes : List ℕ) (past : List Moment) (old : Device) (future : List Moment) → Known geometry past old → AllOwn (effects future) → GoesThrough c k geometry past old future → IsSeen s bytes future → Comes s bytes old.now
  comes_later s bytes past old [] known own goes seen = absurd seen
  comes_later s bytes past old (Reads t got ∷ future) known own goes (inl same) =
      record { new = old.now; touches = []; leads = refl; has = ap old.now (sym same.0) ∙ sym goes.1.0.0 ∙ same.1 }
  comes_later s bytes past old (Reads t got ∷ future) known own goes (inr later) =
      comes_by s bytes old.now goes.0.now (Sees t got ∷ []) (leads_by geometry is 0 past old known (Some (Sees t got)) goes.0 tt goes.1)
      (comes_later s bytes (Reads t got ∷ past) goes.0 future (known_next past future old goes.0 (Reads t got) known tt goes.1) own goes.2 later)
  comes_later s bytes past old (Effect entry by ∷ future) known own goes seen =
      comes_behind s bytes past future old goes.0 entry by known own.0 seen.0 goes.1
      (comes_later s bytes (Effect entry by ∷ past) goes.0 future (known_next past future old goes.0 (Effect entry by) known (own.0, tt) goes.1) own.1 goes.2 seen.1)
