-- An image is used by one header at most, and never by the layout that images had before.
use Rattle.std.specs.Prelude.{◌≡◌, ◌≢◌, ◌⊎◌, ◌↔◌, ◌≤◌, ◌<◌, ℕ, List, Result, Ok, Err, IfOk, IfErr, min, slice_index}
use Rattle.std.proofs.Common.{◌∙◌, sym, ap, subst, arith, inl, inr}
use Rattle.std.proofs.lemmas.Bool.{cases_lt}
use Rattle.disk.specs.Disk.{Call, Answer}
use Rattle.disk.specs.FileStates.{FileState}
use Rattle.disk.specs.declared.fault.ImageFault.{ImageFault}
use Rattle.disk.specs.declared.fault.ImageFault.TheVariants.{NotFormatted, WrongHeader, Unreadable, OldLayout}
use Rattle.torn_block.specs.Layout.{Version, Version1, Version2, cluster_version, number_of}
use Rattle.paxos_block.specs.Headers as older
use Rattle.paxos_block.specs.declared.header.Header.{Header}
use Rattle.endless_image.specs.Headers.{IsRight}
use Rattle.endless_image.specs.Kinds.{IsRightBy}
use Rattle.endless_image.specs.declared.any_header.AnyHeader.{AnyHeader}
use Rattle.endless_image.specs.declared.any_header.AnyHeader.TheVariants.{Ending, Endless}
use Rattle.endless_image.specs.declared.header.EndlessHeader.{EndlessHeader}
use Rattle.endless_image.proofs.HeaderLaws.{older_version, reads_version}
use Rattle.endless_image.proofs.KindLaws.{any_gate, long_enough, neither, one_kind}
use Rattle.folders.specs.Folders.{HasToldFirst}
use Rattle.folders.specs.Headers.{IsOld, HasWrongHeader}
use Rattle.log_folders.specs.AnyHeaders.{HasNoneUsed, IsAnyHeader, IsCutBy, IsUnusedBy, ReadsAnyHeader, ReadsNoAnyHeader, disk_in, size_in}

module _ (disk long : ℕ) (bytes : List ℕ) where
  -- the number of its layout, or of its kind
  endless_number : (header : EndlessHeader) → IsRight disk long bytes header → slice_index bytes 1 ≡ 4
  endless_number header right = ap (λ (l : List ℕ). slice_index l 1) right.spelled ∙ reads_version 4 0 header

  layout_number : (v : Version) (header : Header) → older.IsRight v disk long bytes header → slice_index bytes 1 ≡ number_of v
  layout_number v header right = ap (λ (l : List ℕ). slice_index l 1) right.spelled ∙ older_version v header

  not_old : (header : EndlessHeader) → IsRight disk long bytes header → IsOld cluster_version disk long bytes → ⊥
  not_old header right old =
      let endless = endless_number header right in
      let first = layout_number Version1 old.header old.right in
      omega (arith, endless, first)

  pub one_used : (a b : AnyHeader) → IsRightBy disk long bytes a → IsRightBy disk long bytes b → a ≡ b
  one_used a b is_a is_b = one_kind disk long bytes a b is_a is_b

  -- none is used where none is right by either kind
  pub neither_used : ((header : EndlessHeader) → IsRight disk long bytes header → ⊥) → ((header : Header) → older.IsRight cluster_version disk long bytes header → ⊥) → (header : AnyHeader) → IsRightBy disk long bytes header → ⊥
  neither_used endless ending header used = neither disk long bytes endless ending header used

  pub none_used : ((header : EndlessHeader) → IsRight disk long bytes header → ⊥) → HasWrongHeader cluster_version disk long bytes → HasNoneUsed disk long bytes
  none_used endless wrong =
      record { formatted = wrong.none.formatted; none = neither_used endless wrong.none.wrong; not_old = wrong.not_old }

  -- the cause of a fault, where no header of a log without an end is right
  pub unused_by : ((header : EndlessHeader) → IsRight disk long bytes header → ⊥) → (fault : ImageFault) (result : Result Header ImageFault) → result ≡ Err fault
      → ((result ≡ Err NotFormatted) ↔ ((1024 ≤ long) × ¬ older.IsFormatted bytes))
      → ((result ≡ Err WrongHeader) ↔ ((long < 1024) ⊎ HasWrongHeader cluster_version disk long bytes))
      → ((result ≡ Err OldLayout) ↔ IsOld cluster_version disk long bytes)
      → result ≢ Err Unreadable → IsUnusedBy disk long bytes fault
  unused_by endless NotFormatted result is closed wrong old readable = closed.0 is
  unused_by endless WrongHeader result is closed wrong old readable = elim (wrong.0 is) [ inl short ↦ inl short | inr none ↦ inr (none_used endless none) ]
  unused_by endless OldLayout result is closed wrong old readable = old.0 is
  unused_by endless Unreadable result is closed wrong old readable = absurd (readable is)

  -- WHAT A HEADER THAT IS USED SAYS

  pub may_be : (header : AnyHeader) → IsRightBy disk long bytes header → IsAnyHeader header
  may_be (Ending header) used = used.may_be
  may_be (Endless header) used = used.may_be

  pub own_number : (header : AnyHeader) → IsRightBy disk long bytes header → disk_in header ≡ disk
  own_number (Ending header) used = used.named
  own_number (Endless header) used = used.named

  pub own_size : (header : AnyHeader) → IsRightBy disk long bytes header → size_in header ≡ long
  own_size (Ending header) used = used.as_long
  own_size (Endless header) used = used.as_long

  pub has_header : (header : AnyHeader) → IsRightBy disk long bytes header → 1024 ≤ long
  has_header header used = long_enough disk long bytes header used

  -- HOW LONG IT IS

  -- by the layout that images had before, where its number is there
  pub kind_by_first : (header : AnyHeader) → IsRightBy disk long bytes header → slice_index bytes 1 ≡ 1 → ⊥
  kind_by_first (Ending header) right first = let number = layout_number Version2 header right in omega (arith, number, first)
  kind_by_first (Endless header) right first = let number = endless_number header right in omega (arith, number, first)

  -- by the cluster's layout elsewhere
  pub layout_by_other : (v : Version) (header : Header) → older.IsRight v disk long bytes header → slice_index bytes 1 ≢ 1 → (told : ℕ) → ((header : AnyHeader) → IsRightBy disk long bytes header → told ≡ long) → told ≡ long
  layout_by_other Version1 header right other told tells = absurd (other (layout_number Version1 header right))
  layout_by_other Version2 header right other told tells = tells (Ending header) right

-- how far a device is used on
pub cut_by : (bytes : List ℕ) (told size used : ℕ) → used ≡ min told size → ((disk long : ℕ) (header : AnyHeader) → IsRightBy disk long bytes header → told ≡ long) → IsCutBy bytes size used
cut_by bytes told size used is long_of =
    record {
      within = (let less : min told size ≤ size = omega arith in omega (arith, is, less));
      as_far = λ disk long header right. is ∙ ap (λ (n : ℕ). min n size) (long_of disk long header right);
    }

pub cut_as : (read new : FileState) (size : ℕ) → new ≡ record read { size = size } → new ≡ record read { size = new.size }
cut_as read new size is = is ∙ ap (λ (n : ℕ). record read { size = n }) (sym (ap (λ (d : FileState). d.size) is))

-- WHAT IS READ OF A DEVICE

-- what is said of a value is said of each that follows from it
pub on_ok : {T E : Type 0} (P Q : T → Type 0) (result : Result T E) → ((value : T) → P value → Q value) → IfOk result P → IfOk result Q
on_ok P Q (Ok value) more so = more value so
on_ok P Q (Err fault) more so = tt

module _ {D : Type 0} (gives : D → Call → Answer → D → Type 0) (old new : D) (disk size : ℕ) (bytes : List ℕ) (told : 1024 ≤ size → HasToldFirst gives old bytes new) where
  pub reads_header : (result : Result AnyHeader ImageFault) → IfOk result (IsRightBy disk size bytes) → IfOk result (λ header. ReadsAnyHeader gives old disk size header new)
  reads_header (Err fault) used = tt
  reads_header (Ok header) used =
      let first = told (has_header disk size bytes header used) in
      record { boot = first.boot; attached = first.attached; bytes = bytes; boots = first.boots; tells = first.tells; used = used }

  pub reads_none : (result : Result AnyHeader ImageFault) → IfErr result (IsUnusedBy disk size bytes) → IfErr result (ReadsNoAnyHeader gives old disk size new)
  reads_none (Ok header) unused = tt
  reads_none (Err NotFormatted) unused = (bytes, told unused.0, unused.1)
  reads_none (Err WrongHeader) unused =
      elim unused [
        | inl short ↦ inl short
        | inr none ↦ elim (cases_lt size 1024) [ inl short ↦ inl short | inr room ↦ inr (bytes, told room, none) ]
      ]
  reads_none (Err OldLayout) unused = (bytes, told (let long = unused.right.as_long in omega (arith, long)), unused)
  reads_none (Err Unreadable) unused = absurd unused
