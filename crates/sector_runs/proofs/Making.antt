-- How a device serves one call: the sectors of a row are read twice, a sector is seen and put, and all is kept.
use Rattle.std.specs.Prelude.{◌≡◌, ◌+◌, ◌*◌, ◌≤◌, ◌<◌, ◌^◌, ℕ, zero, suc, false, List, [], ◌∷◌, ◌++◌, length, None, Some, take, drop, slice_range}
use Rattle.std.proofs.Common.{refl, sym, ◌∙◌, ap, subst, arith, inl, inr, length-append, length-drop}
use Rattle.std.proofs.Math.Nat.{mul-suc}
use Rattle.std.proofs.lemmas.Bool.{cases_lt}
use Rattle.std.proofs.lemmas.List.{take_all, drop_at, take-append-le, drop-append-le}
use Rattle.disk.specs.Disk.{DiskState, Call, Attach, Read, Write, Sync, Booted, Told, Done, success_of}
use Rattle.paxos_block.specs.Shape.{Shape}
use Rattle.world.specs.Entry.{Filled, Called}
use Rattle.sectors.specs.declared.geometry.Geometry.{Geometry}
use Rattle.sectors.specs.Geometry.{IsGeometry}
use Rattle.sectors.specs.Moments.{Sectors, Puts, Keeps, changed}
use Rattle.sectors.specs.Row.{IsRowOf, sector_in}
use Rattle.sectors.specs.Sector.{stamp_of, sector_with}
use Rattle.sectors.proofs.Putting.{part, part_is}
use Rattle.sectors.proofs.Shapes.{they_follow}
use Rattle.sector_runs.specs.Device.{Device, Moment, Reads, Effect, IsSeen, effects, first_of, sector_of, noted}
use Rattle.sector_runs.specs.Made.{IsRowHere, IsFor, CallsCanBeServed}
use Rattle.sector_runs.specs.Showing.{ShowsDisk}
use Rattle.sector_runs.specs.Touches.{IsInBlock, GoesThrough, ServesBySectors}
use Rattle.sector_runs.proofs.Reading.{row_is}

-- A PASS OVER A ROW

-- n sectors from one on are read, the last first
abbrev pass : ℕ → ℕ → Sectors → List Moment
pass base zero now = []
pass base (suc n) now = Reads (base + n) (now (base + n)) ∷ pass base n now

-- their bytes, the first first
abbrev joined : ℕ → ℕ → Sectors → List ℕ
joined base zero now = []
joined base (suc n) now = joined base n now ++ now (base + n)

-- a pass makes no call
effects_of : (base n : ℕ) (now : Sectors) (rest : List Moment) → effects (pass base n now ++ rest) ≡ effects rest
effects_of base zero now rest = refl
effects_of base (suc n) now rest = effects_of base n now rest

-- a part that ends before the last sector, and the last
front_part : (place n : ℕ) (items more : List ℕ) → place + n ≤ length items → part place n (items ++ more) ≡ part place n items
front_part place n items more fits =
    ap (take n) (drop-append-le place items more (omega (arith, fits)))
    ∙ take-append-le n (drop place items) more (let long = length-drop place items in omega (arith, fits, long))

last_part : (place n : ℕ) (items last : List ℕ) → length items ≡ place → length last ≡ n → part place n (items ++ last) ≡ last
last_part place n items last long size =
    ap (take n) (drop_at items last place long) ∙ take_all n last (omega (arith, size))

module _ (base : ℕ) (now : Sectors) where
  passed : (n host : ℕ) (rest : List Moment) → host < n → IsSeen (base + host) (now (base + host)) (pass base n now ++ rest)
  passed zero host rest below = absurd (omega (arith, below))
  passed (suc n) host rest below =
      elim (cases_lt host n) [
        | inl less ↦ inr (passed n host rest less)
        | inr last ↦ (let same : base + n ≡ base + host = omega (arith, below, last) in inl (same, ap now same))
      ]

  module _ (size : ℕ) (sized : (s : ℕ) → length (now s) ≡ size) where
    joined_long : (n : ℕ) → length (joined base n now) ≡ size * n
    joined_long zero = omega arith
    joined_long (suc n) =
        let before = joined_long n in
        let last = sized (base + n) in
        omega (arith, length-append (joined base n now) (now (base + n)), before, last, mul-suc size n)

    joined_part : (n host : ℕ) → host < n → part (size * host) size (joined base n now) ≡ now (base + host)
    joined_part zero host below = absurd (omega (arith, below))
    joined_part (suc n) host below =
        let before = joined_long n in
        elim (cases_lt host n) [
          | inl less ↦ front_part (size * host) size (joined base n now) (now (base + n)) (let fits = they_follow size host n less in omega (arith, fits, before)) ∙ joined_part n host less
          | inr last ↦
              (let same : host ≡ n = omega (arith, below, last) in
              ap (λ (i : ℕ). part (size * i) size (joined base n now ++ now (base + n))) same
              ∙ last_part (size * n) size (joined base n now) (now (base + n)) before (sized (base + n))
              ∙ ap (λ (i : ℕ). now (base + i)) (sym same))
        ]

-- A PASS IS MADE

module _ (c : Shape) (k : ℕ) (geometry : Geometry) (device : Device) (base : ℕ) where
  -- so many of the row's sectors were seen
  abbrev HasSeen : ℕ → List Moment → Type 0
  HasSeen n past = (host : ℕ) → n ≤ host → host < geometry.hosts → IsSeen (base + host) (device.now (base + host)) past

  one_more_seen : (n : ℕ) (past : List Moment) → HasSeen (suc n) past → HasSeen n (Reads (base + n) (device.now (base + n)) ∷ past)
  one_more_seen n past seen host from_there below =
      elim (cases_lt n host) [
        | inl more ↦ inr (seen host more below)
        | inr last ↦ (let same : base + n ≡ base + host = omega (arith, from_there, last) in inl (same, ap device.now same))
      ]

  -- the moments behind a pass are those behind whatever it has seen
  goes_pass : (n : ℕ) (past rest : List Moment) → HasSeen n past → ((seen : List Moment) → HasSeen 0 seen → GoesThrough c k geometry seen device rest) → GoesThrough c k geometry past device (pass base n device.now ++ rest)
  goes_pass zero past rest seen next = next past seen
  goes_pass (suc n) past rest seen next =
      (device, ((refl, refl), refl, refl), goes_pass n (Reads (base + n) (device.now (base + n)) ∷ past) rest (one_more_seen n past seen) next)

-- ONE CALL

module _ (c : Shape) (k h : ℕ) (geometry : Geometry) (is : IsGeometry geometry) (device : Device) (disk : DiskState) (shows : ShowsDisk geometry device disk) (there : device.gone ≡ false) (unspent : (s : ℕ) → stamp_of (device.now s) + 1 < 2 ^ 64) where
  attach_made : ServesBySectors c k geometry device (Called h k Attach (Booted disk.boot) [] ∷ [])
  attach_made =
      record {
        history = Effect (Called h k Attach (Booted disk.boot) []) None ∷ [];
        same = refl;
        goes = (device, ((there, tt, (ap Booted shows.boot, refl)), refl), tt);
      }

  sync_made : (boot : ℕ) → boot ≡ 1 → ServesBySectors c k geometry device (Called h k (Sync boot) Done [] ∷ [])
  sync_made boot first =
      record {
        history = Effect (Called h k (Sync boot) Done []) (Some Keeps) ∷ [];
        same = refl;
        goes = (record { now = device.now; since = λ s. []; gone = device.gone }, ((there, first, (refl, refl)), (refl, refl, refl)), tt);
      }

  write_made : (boot at : ℕ) (from : List ℕ) → boot ≡ 1 → IsInBlock geometry at (length from) → ServesBySectors c k geometry device (Called h k (Write boot at from) Done [] ∷ [])
  write_made boot at from first block =
      let s = sector_of geometry block.spot in
      let bytes = sector_with block.offset from (device.now s) in
      let entry = Called h k (Write boot at from) Done [] in
      record {
        history = Reads s (device.now s) ∷ Effect entry (Some (Puts s bytes)) ∷ [];
        same = refl;
        goes = (
          device,
          ((refl, refl), refl, refl),
          (
            record { now = changed s bytes device.now; since = noted s bytes device; gone = device.gone },
            (
              (there, first, (refl, inr (s, bytes, refl, record { block = block; sector = refl; was = device.now s; seen = inl (refl, refl); unspent = unspent s; made = refl }))),
              (refl, refl, refl),
            ),
            tt,
          ),
        );
      }

  read_made : (boot at len : ℕ) → boot ≡ 1 → IsRowHere geometry at len → ServesBySectors c k geometry device (Called h k (Read boot at len) (Told (slice_range disk.bytes at (at + len))) [] ∷ [])
  read_made boot at len first row =
      let base = first_of geometry row.row in
      let entry = Called h k (Read boot at len) (Told (slice_range disk.bytes at (at + len))) [] in
      let one = joined base geometry.hosts device.now in
      let each : (host : ℕ) → host < geometry.hosts → sector_in geometry host one ≡ device.now (base + host) =
      (λ host below. part_is (geometry.sector_size * host) geometry.sector_size one ∙ joined_part base device.now geometry.sector_size shows.sized.0 geometry.hosts host below) in
      let second = pass base geometry.hosts device.now in
      let has_row = row_is geometry is device disk shows one row.row row.is_row (λ host below. sym (each host below)) in
      record {
        history = pass base geometry.hosts device.now ++ (Effect entry None ∷ (second ++ []));
        same = sym (effects_of base geometry.hosts device.now (Effect entry None ∷ (second ++ [])) ∙ ap (λ (l : List Filled). entry ∷ l) (effects_of base geometry.hosts device.now []));
        goes =
            goes_pass c k geometry device base geometry.hosts [] (Effect entry None ∷ (second ++ [])) (λ host above below. absurd (omega (arith, above, below)))
            (λ past seen. (
              device,
              (
                (
                  there,
                  first,
                  (
                    slice_range disk.bytes at (at + len),
                    refl,
                    refl,
                    record {
                      row = row.row;
                      is_row = row.is_row;
                      here = row.here;
                      whole = row.whole;
                      one = one;
                      other = one;
                      before = λ host below. subst (λ (l : List ℕ). IsSeen (base + host) l past) (sym (each host below)) (seen host (omega arith) below);
                      after = λ host below. subst (λ (l : List ℕ). IsSeen (base + host) l (second ++ [])) (sym (each host below)) (passed base device.now geometry.hosts host [] below);
                      agree = λ host below. refl;
                      gathered = subst (λ (l : List ℕ). IsRowOf geometry one l) (λ i. slice_range disk.bytes (sym row.here i) (sym row.here i + sym row.whole i)) has_row;
                    },
                  ),
                ),
                refl,
              ),
              goes_pass c k geometry device base geometry.hosts (Effect entry None ∷ past) [] (λ host above below. absurd (omega (arith, above, below))) (λ then so. tt),
            ));
      }

  call_made : (call : Call) → IsFor geometry call → ServesBySectors c k geometry device (Called h k call (success_of disk call) [] ∷ [])
  call_made Attach for_it = attach_made
  call_made (Read boot at len) for_it = read_made boot at len for_it.0 for_it.1
  call_made (Write boot at from) for_it = write_made boot at from for_it.0 for_it.1
  call_made (Sync boot) for_it = sync_made boot for_it

pub calls_can_be_served : CallsCanBeServed
calls_can_be_served c k h geometry device disk call is shows there unspent for_it = call_made c k h geometry is device disk shows there unspent call for_it
