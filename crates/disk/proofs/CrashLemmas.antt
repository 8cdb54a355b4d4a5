-- How the calls change what a crash may leave.
use Rattle.std.specs.Prelude.{◌≡◌, ◌+◌, ◌-◌, ◌≤◌, ◌<◌, ℕ, Bool, true, false, List, ◌++◌, length, take, drop, replicate}
use Rattle.std.proofs.Common.{get_or, refl, sym, ◌∙◌, ap, inl, inr, arith, length-append, length-drop}
use Rattle.std.proofs.lemmas.List.{length-take-le, get_or-take, get_or-drop, get_or-replicate, length-replicate, get_or_append_left, get_or-append_right, ext_get_or}
use Rattle.std.proofs.lemmas.Bool.{cases_lt}
use Rattle.disk.specs.Disk.{DiskState, Crashes, put_at, written, synced}
use Rattle.disk.specs.Crash.{ChangesOnly, IsWhole, MayLeave}

module _ {X : Type 0} (old : List X) (at : ℕ) (items : List X) (within : at + length items ≤ length old) (d : X) where
  front : length (take at old) ≡ at
  front = length-take-le at old (omega arith)

  both : length (take at old ++ items) ≡ at + length items
  both = omega (arith, length-append (take at old) items, front)

  pub length-put : length (put_at old at items) ≡ length old
  length-put =
      omega (arith, length-append (take at old ++ items) (drop (at + length items) old), both, length-drop (at + length items) old)

  pub put-below : (k : ℕ) → k < at → get_or (put_at old at items) k d ≡ get_or old k d
  put-below k below =
      get_or_append_left (take at old ++ items) (drop (at + length items) old) d k (omega (arith, both))
      ∙ get_or_append_left (take at old) items d k (omega (arith, front))
      ∙ get_or-take at old k d below

  pub put-inside : (k : ℕ) → k < length items → get_or (put_at old at items) (at + k) d ≡ get_or items k d
  put-inside k inside =
      let e : (at + k) - at ≡ k = omega arith in
      get_or_append_left (take at old ++ items) (drop (at + length items) old) d (at + k) (omega (arith, both))
      ∙ get_or-append_right (take at old) items at (at + k) d front (omega arith)
      ∙ ap (λ (j : ℕ). get_or items j d) e

  pub put-above : (k : ℕ) → at + length items ≤ k → get_or (put_at old at items) k d ≡ get_or old k d
  put-above k above =
      let n = at + length items in
      let e : n + (k - n) ≡ k = omega arith in
      get_or-append_right (take at old ++ items) (drop n old) n k d both above
      ∙ get_or-drop n old (k - n) d
      ∙ ap (λ (j : ℕ). get_or old j d) e

-- what is there now is one of them
pub may_leave_now : (disk : DiskState) → MayLeave disk disk.bytes
may_leave_now disk = record { as_many = refl; same = λ k synced. refl }

-- after a sync there is no other
pub may_leave_synced : (disk : DiskState) (bytes : List ℕ) → MayLeave (synced disk) bytes → bytes ≡ disk.bytes
may_leave_synced disk bytes left =
    ext_get_or 0 bytes disk.bytes left.as_many (λ k within. left.same k (get_or-replicate (length disk.bytes) k false false (omega (arith, left.as_many))))

-- after a crash there is no other, and it is one of those from before
pub may_leave_crashed : (old new : DiskState) (bytes : List ℕ) → Crashes old new → MayLeave new bytes → bytes ≡ new.bytes
may_leave_crashed old new bytes crash left =
    ext_get_or 0 bytes new.bytes left.as_many (λ k within. left.same k (ap (λ (l : List Bool). get_or l k false) crash.unsynced ∙ get_or-replicate (length old.bytes) k false false (omega (arith, left.as_many, crash.bytes.as_many))))

module _ (disk : DiskState) (at : ℕ) (from bytes : List ℕ) (whole : IsWhole disk) (within : at + length from ≤ length disk.bytes) (left : MayLeave (written disk at from) bytes) where
  -- what stood in the range
  middle : List ℕ
  middle = take (length from) (drop at disk.bytes)

  unfoldable before : List ℕ
  before = put_at bytes at middle

  length-middle : length middle ≡ length from
  unfolding middle
  length-middle = length-take-le (length from) (drop at disk.bytes) (omega (arith, length-drop at disk.bytes))

  length-bytes : length bytes ≡ length disk.bytes
  length-bytes = left.as_many ∙ length-put disk.bytes at from within 0

  room : at + length middle ≤ length bytes
  room = omega (arith, length-middle, length-bytes)

  marks_room : at + length (replicate (length from) true) ≤ length disk.unsynced
  marks_room = omega (arith, length-replicate (length from) true, whole)

  before-same : (k : ℕ) → get_or disk.unsynced k false ≡ false → get_or before k 0 ≡ get_or disk.bytes k 0
  unfolding before middle
  before-same k synced =
      elim (cases_lt k at) [
        | inl below ↦
            put-below bytes at middle room 0 k below
            ∙ left.same k (put-below disk.unsynced at (replicate (length from) true) marks_room false k below ∙ synced)
            ∙ put-below disk.bytes at from within 0 k below
        | inr from_at ↦
            elim (cases_lt k (at + length from)) [
              | inl inside ↦
                  (let j = k - at in
                  let e : at + j ≡ k = omega arith in
                  let f : get_or before k 0 ≡ get_or before (at + j) 0 = ap (λ (i : ℕ). get_or before i 0) (sym e) in
                  f
                  ∙ put-inside bytes at middle room 0 j (omega (arith, length-middle))
                  ∙ get_or-take (length from) (drop at disk.bytes) j 0 (omega arith)
                  ∙ get_or-drop at disk.bytes j 0
                  ∙ ap (λ (i : ℕ). get_or disk.bytes i 0) e)
              | inr above ↦
                  put-above bytes at middle room 0 k (omega (arith, length-middle))
                  ∙ left.same k (put-above disk.unsynced at (replicate (length from) true) marks_room false k (omega (arith, length-replicate (length from) true)) ∙ synced)
                  ∙ put-above disk.bytes at from within 0 k above
            ]
      ]

  -- After a write, whole or torn, each of them is one from before but for the range.
  pub may_leave_written : (old : List ℕ) × MayLeave disk old × ChangesOnly at (length from) old bytes
  unfolding before
  may_leave_written = (
    before,
    record { as_many = length-put bytes at middle room 0 ∙ length-bytes; same = before-same },
    record {
      as_many = sym (length-put bytes at middle room 0);
      below = λ k below. sym (put-below bytes at middle room 0 k below);
      above = λ k above. sym (put-above bytes at middle room 0 k (omega (arith, length-middle)));
    },
  )
