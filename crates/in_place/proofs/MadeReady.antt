-- An image with zeros behind it, call by call: it is one that the making begins with. One that was found marked is one that it goes on with.
use Rattle.std.specs.Prelude.{◌≡◌, ◌+◌, ◌-◌, ◌≤◌, ◌<◌, ℕ, true, false, List, [], ◌∷◌, ◌++◌, length, take, replicate, slice_index, slice_index_or, slice_set}
use Rattle.std.proofs.Common.{refl, sym, ◌∙◌, ap, subst, inl, inr, arith, get_or}
use Rattle.std.proofs.lemmas.Bool.{cases_lt}
use Rattle.std.proofs.lemmas.List.{ext_get_or, get_or-replicate, get_or-set_other, get_or-take, get_or_past, length-replicate, length-set, length-take-le}
use Rattle.disk.specs.Disk.{DiskState, Answer, Booted, Told, Done, Fault, Step, written, synced, put_at}
use Rattle.disk.specs.Crash.{IsWhole, MayLeave}
use Rattle.disk.specs.declared.boot.Boot.{Boot}
use Rattle.disk.proofs.CrashLemmas.{length-put, put-below, put-inside, may_leave_synced}
use Rattle.torn_block.specs.Block.{number_bytes}
use Rattle.torn_block.specs.Layout.{cluster_version}
use Rattle.paxos_block.specs.declared.header.Header.{Header}
use Rattle.paxos_block.specs.Headers as older
use Rattle.paxos_block.specs.Headers.{short_bytes}
use Rattle.paxos_block.specs.Saying.{zeros}
use Rattle.endless_image.specs.declared.header.EndlessHeader.{EndlessHeader}
use Rattle.endless_image.specs.declared.progress.Progress.{Progress}
use Rattle.endless_image.specs.declared.progress.Progress.TheVariants.{Ending, Marked, Endless}
use Rattle.endless_image.specs.Headers.{IsRight, header_with}
use Rattle.endless_image.specs.InPlace.{AllDone, IsBegun, IsEnding, IsExtended, IsMarked, IsNew, IsReady, IsUnfinished, endless_of, finishing, making}
use Rattle.endless_image.specs.Sets.{IsSameSet}
use Rattle.endless_image.specs.Sizes.{area_size, size_of}
use Rattle.endless_image.proofs.Extended.{header_by, new_header}
use Rattle.endless_image.proofs.HeaderLaws.{reads_mark, reads_version}
use Rattle.endless_image.proofs.Making.{finished_from, made_from}
use Rattle.folders.specs.Layout.{WritesZeros, none, more}
use Rattle.in_place.specs.InPlaceImages.{IsAt, IsFound, IsMadeReady, TellsSurely, becomes, calls_of, due_of}
use Rattle.in_place.specs.declared.in_place_disk.Due.{Due}
use Rattle.in_place.specs.declared.in_place_disk.Due.TheVariants.{Nothing, Make, Finish}

-- WHAT IS READ

abbrev bytes_told : Answer → List ℕ
bytes_told (Booted boot) = []
bytes_told (Told bytes) = bytes
bytes_told Done = []
bytes_told (Fault fault) = []

module _ (old looked : DiskState) (boot : ℕ) (bytes : List ℕ) (told : TellsSurely Step boot bytes old looked) where
  looked_is : looked ≡ synced old
  looked_is = told.tells.2.1 ∙ told.syncs.2.1 ∙ ap synced told.attaches.2.1

  first_is : bytes ≡ take 1024 looked.bytes
  first_is = ap bytes_told told.tells.2.0 ∙ ap (λ (d : DiskState). take 1024 d.bytes) (sym told.tells.2.1)

  looked_whole : IsWhole looked
  looked_whole = subst IsWhole (sym looked_is) (length-replicate (length old.bytes) false)

  looked_long : length looked.bytes ≡ length old.bytes
  looked_long = ap (λ (d : DiskState). length d.bytes) looked_is

  looked_sure : (l : List ℕ) → MayLeave looked l → l ≡ looked.bytes
  looked_sure l may = may_leave_synced old l (subst (λ (d : DiskState). MayLeave d l) looked_is may) ∙ sym (ap (λ (d : DiskState). d.bytes) looked_is)

-- ZEROS BEHIND

-- From there to here stand zeros, and all before that is as it was.
record Behind (from at : ℕ) (old new : DiskState) : Type 0 where
  pub whole : IsWhole new
  pub as_many : length new.bytes ≡ length old.bytes
  pub before : (p : ℕ) → p < from → slice_index new.bytes p ≡ slice_index old.bytes p
  pub zero : (p : ℕ) → from ≤ p → p < at → slice_index new.bytes p ≡ 0

abbrev blank : ℕ → List ℕ
blank len = replicate len 0

written_behind : (from n len : ℕ) (old between : DiskState) → Behind from n old between → from ≤ n → n + len ≤ length old.bytes → Behind from (n + len) old (written between n (blank len))
written_behind from n len old between w least room = record {
  whole = flags ∙ w.whole ∙ sym long;
  as_many = long ∙ w.as_many;
  before = λ p less. put-below between.bytes n (blank len) within 0 p (omega (arith, less, least)) ∙ w.before p less;
  zero = λ p from_there less.
      elim (cases_lt p n) [
        | inl below ↦ put-below between.bytes n (blank len) within 0 p below ∙ w.zero p from_there below
        | inr above ↦
            (let e : p ≡ n + (p - n) = omega (arith, above) in
            let inside : p - n < len = omega (arith, above, less) in
            ap (λ (m : ℕ). get_or (put_at between.bytes n (blank len)) m 0) e
            ∙ put-inside between.bytes n (blank len) within 0 (p - n) (omega (arith, inside, many))
            ∙ get_or-replicate len (p - n) 0 0 inside)
      ];
}
  where
    many : length (blank len) ≡ len
    many = length-replicate len 0

    within : n + length (blank len) ≤ length between.bytes
    within = omega (arith, many, w.as_many, room)

    long : length (put_at between.bytes n (blank len)) ≡ length between.bytes
    long = length-put between.bytes n (blank len) within 0

    flags : length (put_at between.unsynced n (replicate (length (blank len)) true)) ≡ length between.unsynced
    flags = length-put between.unsynced n (replicate (length (blank len)) true) (omega (arith, within, w.whole, length-replicate (length (blank len)) true)) false

zeros_on : (boot from at : ℕ) (old new : DiskState) → WritesZeros Step boot from at old new → from ≤ at
zeros_on boot from at old new (none n disk) = omega arith
zeros_on boot from at old new (more f n t o b w wrote len step end) = let least : f ≤ n = zeros_on boot f n o b wrote in omega (arith, least, end)

zeros_behind : (boot from at : ℕ) (old new : DiskState) → IsWhole old → at ≤ length old.bytes → WritesZeros Step boot from at old new → Behind from at old new
zeros_behind boot from at old new whole room (none n disk) =
    record { whole = whole; as_many = refl; before = λ p less. refl; zero = λ p least less. absurd (omega (arith, least, less)) }
zeros_behind boot from at old new whole room (more f n t o b w wrote len step end) =
    let fits : n + len ≤ length o.bytes = omega (arith, room, end) in
    let first = zeros_behind boot f n o b whole (omega (arith, fits)) wrote in
    let next = written_behind f n len o b first (zeros_on boot f n o b wrote) fits in
    subst (λ (m : ℕ). Behind f m o w) (sym end) (subst (Behind f (n + len) o) (sym step.2.1) next)

-- MADE READY

zeros_split : zeros (1024 - 16) ≡ number_bytes 0 ++ (0 ∷ zeros (1024 - 25))
unfolding zeros number_bytes
zeros_split = refl

older_is : (header : Header) → older.header_saying cluster_version header ≡ header_with 2 0 (endless_of header)
unfolding older.header_saying header_with
older_is header = ap (λ (l : List ℕ). 165 ∷ 2 ∷ header.disk ∷ header.disks ∷ (short_bytes header.slots ++ (number_bytes header.cluster ++ l))) zeros_split

synced_flag : (n p : ℕ) → slice_index_or (replicate n false) p false ≡ false
synced_flag n p =
    elim (cases_lt p n) [
      | inl below ↦ get_or-replicate n p false false below
      | inr past ↦ get_or_past (replicate n false) p false (omega (arith, past, length-replicate n false))
    ]

-- an old image, with zeros behind it, that is synced
ready_from : (disk : ℕ) (header : Header) (d : DiskState) → IsExtended disk header d.bytes → IsReady d.bytes (synced d)
ready_from disk header d is = record {
  header = omega (arith, is.long);
  version = sym (get_or-take 1024 d.bytes 1 0 (omega arith)) ∙ ap (λ (l : List ℕ). slice_index l 1) (is.right.spelled ∙ older_is header) ∙ reads_version 2 0 (endless_of header);
  mark = sym (get_or-take 1024 d.bytes 24 0 (omega arith)) ∙ ap (λ (l : List ℕ). slice_index l 24) (is.right.spelled ∙ older_is header) ∙ reads_mark 2 0 (endless_of header);
  whole = length-replicate (length d.bytes) false;
  bytes = refl;
  synced = λ p. synced_flag (length d.bytes) p;
}

module _ (set : EndlessHeader) (disk : ℕ) (old looked : DiskState) (long : length old.bytes ≡ size_of set.slots) where
  -- the old image, as it was looked at, and with zeros behind it
  extended_from : (boot other : ℕ) (bytes : List ℕ) (header : Header) (zeroed : DiskState) → TellsSurely Step boot bytes old looked → IsEnding disk (size_of set.slots) bytes header → header.slots ≡ set.slots
      → WritesZeros Step other (area_size set.slots) (size_of set.slots) looked zeroed → IsExtended disk header zeroed.bytes
  extended_from boot other bytes header zeroed told is slots wrote = record {
    right = subst (λ (l : List ℕ). older.IsRight cluster_version disk (area_size header.slots) l header) (first_is old looked boot bytes told ∙ sym front) is.right;
    slots = is.slots;
    long = behind.as_many ∙ many ∙ ap size_of (sym slots);
    zeros = λ p least.
        elim (cases_lt p (size_of set.slots)) [
          | inl below ↦ behind.zero p (omega (arith, least, slots)) below
          | inr past ↦ get_or_past zeroed.bytes p 0 (omega (arith, past, behind.as_many, many))
        ];
  }
    where
      many : length looked.bytes ≡ size_of set.slots
      many = looked_long old looked boot bytes told ∙ long

      behind : Behind (area_size set.slots) (size_of set.slots) looked zeroed
      behind = zeros_behind other (area_size set.slots) (size_of set.slots) looked zeroed (looked_whole old looked boot bytes told) (omega (arith, many)) wrote

      front : take 1024 zeroed.bytes ≡ take 1024 looked.bytes
      front =
          let m : length (take 1024 zeroed.bytes) ≡ 1024 = length-take-le 1024 zeroed.bytes (omega (arith, behind.as_many, many)) in
          let n : length (take 1024 looked.bytes) ≡ 1024 = length-take-le 1024 looked.bytes (omega (arith, many)) in
          ext_get_or 0 (take 1024 zeroed.bytes) (take 1024 looked.bytes) (m ∙ sym n)
          (λ k inside.
          let below : k < 1024 = omega (arith, inside, m) in
          get_or-take 1024 zeroed.bytes k 0 below ∙ behind.before k (omega (arith, below)) ∙ sym (get_or-take 1024 looked.bytes k 0 below))

  pub made_ready : (boot : Boot) (ready : DiskState) → IsFound Step set disk (Make boot) old looked → IsMadeReady Step set.slots (Make boot) looked ready
      → (header : Header) × IsSameSet (endless_of header) set × IsExtended disk header ready.bytes × IsReady ready.bytes ready
  made_ready boot ready found made = by_progress found.progress found.due_is found.is_at found.same
    where
      by_progress : (progress : Progress) → Make boot ≡ due_of found.boot progress → IsAt disk (size_of set.slots) found.bytes progress → IsSameSet (becomes progress) set
          → (header : Header) × IsSameSet (endless_of header) set × IsExtended disk header ready.bytes × IsReady ready.bytes ready
      by_progress (Marked header) due at same = absurd (cc)
      by_progress (Endless header) due at same = absurd (cc)
      by_progress (Ending header) due at same =
          let (zeroed, wrote, sync) = made in
          let extended : IsExtended disk header zeroed.bytes = extended_from found.boot.number boot.number found.bytes header zeroed found.told at same.slots wrote in
          let ready_is : ready ≡ synced zeroed = sync.2.1 in (
            header,
            same,
            subst (λ (d : DiskState). IsExtended disk header d.bytes) (sym ready_is) extended,
            subst (λ (d : DiskState). IsReady d.bytes d) (sym ready_is) (ready_from disk header zeroed extended),
          )

  -- FOUND MARKED

  -- what its image was before it was marked
  abbrev before : List ℕ → List ℕ
  before bytes = slice_set (slice_set bytes 1 2) 24 0

  marked_from : (boot : ℕ) (bytes : List ℕ) (header : EndlessHeader) → TellsSurely Step boot bytes old looked → IsUnfinished disk (size_of set.slots) bytes header → IsMarked (before looked.bytes) looked.bytes
  marked_from boot bytes header told is = (
    is.version,
    is.mark,
    is.marked,
    record {
      as_many = sym (length-set (slice_set looked.bytes 1 2) 24 0 ∙ length-set looked.bytes 1 2);
      at_version = sym (get_or-take 1024 looked.bytes 1 0 (omega arith)) ∙ ap (λ (l : List ℕ). slice_index l 1) spelled ∙ reads_version is.version is.mark header;
      at_mark = sym (get_or-take 1024 looked.bytes 24 0 (omega arith)) ∙ ap (λ (l : List ℕ). slice_index l 24) spelled ∙ reads_mark is.version is.mark header;
      others = λ p not_one not_two. sym (get_or-set_other (slice_set looked.bytes 1 2) 24 p 0 0 not_two ∙ get_or-set_other looked.bytes 1 p 2 0 not_one);
    },
  )
    where
      spelled : take 1024 looked.bytes ≡ header_with is.version is.mark header
      spelled = sym (first_is old looked boot bytes told) ∙ is.spelled

  begun_from : (boot : ℕ) (bytes : List ℕ) (header : EndlessHeader) → TellsSurely Step boot bytes old looked → IsUnfinished disk (size_of set.slots) bytes header → IsBegun (before looked.bytes) looked
  begun_from boot bytes header told is =
      let many : length looked.bytes ≡ size_of set.slots = looked_long old looked boot bytes told ∙ long in
      let same : length (before looked.bytes) ≡ length looked.bytes = length-set (slice_set looked.bytes 1 2) 24 0 ∙ length-set looked.bytes 1 2 in
      let marked = marked_from boot bytes header told is in
      record {
        header = omega (arith, same, many);
        whole = looked_whole old looked boot bytes told;
        marked = marked;
        leaves = λ l may. inr (inl (subst (IsMarked (before looked.bytes)) (sym (looked_sure old looked boot bytes told l may)) marked));
      }

  pub begun : (boot : Boot) → IsFound Step set disk (Finish boot) old looked → (image : List ℕ) × IsBegun image looked
  begun boot found = by_progress found.progress found.due_is found.is_at
    where
      by_progress : (progress : Progress) → Finish boot ≡ due_of found.boot progress → IsAt disk (size_of set.slots) found.bytes progress → (image : List ℕ) × IsBegun image looked
      by_progress (Ending header) due at = absurd (cc)
      by_progress (Endless header) due at = absurd (cc)
      by_progress (Marked header) due at = (before looked.bytes, begun_from found.boot.number found.bytes header found.told at)

  -- MADE

  -- What became of a marked image begins with its header, with the new version and no mark.
  finished_header : (boot : ℕ) (bytes : List ℕ) (header : EndlessHeader) (left : List ℕ) → TellsSurely Step boot bytes old looked → IsUnfinished disk (size_of set.slots) bytes header → IsNew (before looked.bytes) left → take 1024 left ≡ header_with 4 0 header
  finished_header boot bytes header left told is new =
      let many : length looked.bytes ≡ size_of set.slots = looked_long old looked boot bytes told ∙ long in
      let same : length (before looked.bytes) ≡ length looked.bytes = length-set (slice_set looked.bytes 1 2) 24 0 ∙ length-set looked.bytes 1 2 in
      let marked = marked_from boot bytes header told is in
      let spelled : take 1024 looked.bytes ≡ header_with is.version is.mark header = sym (first_is old looked boot bytes told) ∙ is.spelled in
      header_by 4 0 is.version is.mark header (take 1024 left) (length-take-le 1024 left (omega (arith, new.as_many, same, many)))
      (get_or-take 1024 left 1 0 (omega arith) ∙ new.at_version)
      (get_or-take 1024 left 24 0 (omega arith) ∙ new.at_mark)
      (λ p below not_one not_two.
      get_or-take 1024 left p 0 below
      ∙ new.others p not_one not_two
      ∙ sym (marked.3.others p not_one not_two)
      ∙ sym (get_or-take 1024 looked.bytes p 0 below)
      ∙ ap (λ (l : List ℕ). slice_index l p) spelled)

  abbrev IsNewOfSet : List ℕ → Type 0
  IsNewOfSet left = (header : EndlessHeader) × IsSameSet header set × IsRight disk (size_of set.slots) (take 1024 left) header

  made_whole : (boot : Boot) (ready new : DiskState) → IsFound Step set disk (Make boot) old looked → IsMadeReady Step set.slots (Make boot) looked ready → AllDone Step (making boot.number) ready new → (left : List ℕ) → MayLeave new left → IsNewOfSet left
  made_whole boot ready new found made all left may =
      let (header, same, extended, is_ready) = made_ready boot ready found made in
      let is_new : IsNew ready.bytes left = made_from ready.bytes is_ready.header boot.number ready new is_ready all left may in (
        endless_of header,
        same,
        subst (λ (n : ℕ). IsRight disk n (take 1024 left) (endless_of header)) (ap size_of same.slots) (new_header disk header ready.bytes extended left is_new),
      )

  finished_whole : (boot : Boot) (ready new : DiskState) → IsFound Step set disk (Finish boot) old looked → ready ≡ looked → AllDone Step (finishing boot.number) ready new → (left : List ℕ) → MayLeave new left → IsNewOfSet left
  finished_whole boot ready new found kept all left may = by_progress found.progress found.due_is found.is_at found.same
    where
      by_progress : (progress : Progress) → Finish boot ≡ due_of found.boot progress → IsAt disk (size_of set.slots) found.bytes progress → IsSameSet (becomes progress) set → IsNewOfSet left
      by_progress (Ending header) due at same = absurd (cc)
      by_progress (Endless header) due at same = absurd (cc)
      by_progress (Marked header) due at same =
          let is_begun = begun_from found.boot.number found.bytes header found.told at in
          let rest : AllDone Step (finishing boot.number) looked new = subst (λ (d : DiskState). AllDone Step (finishing boot.number) d new) kept all in
          let is_new : IsNew (before looked.bytes) left = finished_from (before looked.bytes) is_begun.header boot.number looked new is_begun rest left may in (
            header,
            same,
            record { may_be = at.may_be; fits = at.fits; named = at.named; as_long = ap size_of same.slots; spelled = finished_header found.boot.number found.bytes header left found.told at is_new },
          )

  kept_whole : (new : DiskState) → IsFound Step set disk Nothing old looked → new ≡ looked → (left : List ℕ) → MayLeave new left → IsNewOfSet left
  kept_whole new found kept left may = by_progress found.progress found.due_is found.is_at found.same
    where
      left_is : left ≡ looked.bytes
      left_is = looked_sure old looked found.boot.number found.bytes found.told left (subst (λ (d : DiskState). MayLeave d left) kept may)

      by_progress : (progress : Progress) → Nothing ≡ due_of found.boot progress → IsAt disk (size_of set.slots) found.bytes progress → IsSameSet (becomes progress) set → IsNewOfSet left
      by_progress (Ending header) due at same = absurd (cc)
      by_progress (Marked header) due at same = absurd (cc)
      by_progress (Endless header) due at same = (
        header,
        same,
        subst (λ (l : List ℕ). IsRight disk (size_of set.slots) l header) (first_is old looked found.boot.number found.bytes found.told ∙ ap (λ (l : List ℕ). take 1024 l) (sym left_is)) at,
      )

  pub whole_in_the_end : (due : Due) (ready new : DiskState) → IsFound Step set disk due old looked → IsMadeReady Step set.slots due looked ready → AllDone Step (calls_of due) ready new → (left : List ℕ) → MayLeave new left → IsNewOfSet left
  whole_in_the_end Nothing ready new found made all left may = kept_whole new found (all ∙ made) left may
  whole_in_the_end (Make boot) ready new found made all left may = made_whole boot ready new found made all left may
  whole_in_the_end (Finish boot) ready new found made all left may = finished_whole boot ready new found made all left may
