-- An image is of one kind, and its first bytes say which.
use Rattle.std.specs.Prelude.{◌≡◌, ◌≢◌, ◌≤◌, ◌<◌, ◌^◌, ℕ, List, slice_index}
use Rattle.std.proofs.Common.{refl, sym, ◌∙◌, ap, arith}
use Rattle.torn_block.specs.Layout.{Version2, cluster_version}
use Rattle.paxos_block.specs.declared.header.Header.{Header}
use Rattle.paxos_block.specs.Headers as older
use Rattle.paxos_block.specs.Headers.{short_at}
use Rattle.paxos_block.specs.Places.{image_length}
use Rattle.paxos_block.proofs.HeaderLemmas.{right_since, right_gate}
use Rattle.endless_image.specs.declared.any_header.AnyHeader.{AnyHeader}
use Rattle.endless_image.specs.declared.any_header.AnyHeader.TheVariants.{Ending, Endless}
use Rattle.endless_image.specs.declared.header.EndlessHeader.{EndlessHeader}
use Rattle.endless_image.specs.Headers.{IsRight}
use Rattle.endless_image.specs.declared.kind.Kind.{Kind}
use Rattle.endless_image.specs.declared.kind.Kind.TheVariants as of_kind
use Rattle.paxos_block.specs.Shape.{Shape}
use Rattle.endless_image.specs.Kinds.{IsRightBy, IsSlotsBy, header_by, kind_of, size_by}
use Rattle.endless_image.specs.Sizes.{size_of}
use Rattle.endless_image.proofs.HeaderLaws.{one_header, reads_gate, reads_version, reads_slots, older_version}

module _ (disk long : ℕ) (bytes : List ℕ) where
  endless_version : (header : EndlessHeader) → IsRight disk long bytes header → slice_index bytes 1 ≡ 4
  endless_version header right = ap (λ (l : List ℕ). slice_index l 1) right.spelled ∙ reads_version 4 0 header

  ending_version : (header : Header) → older.IsRight cluster_version disk long bytes header → slice_index bytes 1 ≡ 2
  ending_version header right = ap (λ (l : List ℕ). slice_index l 1) right.spelled ∙ older_version Version2 header

  pub apart : (a : EndlessHeader) (b : Header) → IsRight disk long bytes a → older.IsRight cluster_version disk long bytes b → ⊥
  apart a b endless ending = absurd (omega (arith, endless_version a endless, ending_version b ending))

  same_ending : (a b : Header) → older.IsRight cluster_version disk long bytes a → older.IsRight cluster_version disk long bytes b → a ≡ b
  same_ending a b is_a is_b = sym (right_since Version2 disk long bytes a is_a).1 ∙ (right_since Version2 disk long bytes b is_b).1

  pub one_kind : (a b : AnyHeader) → IsRightBy disk long bytes a → IsRightBy disk long bytes b → a ≡ b
  one_kind (Ending a) (Ending b) is_a is_b = ap Ending (same_ending a b is_a is_b)
  one_kind (Ending a) (Endless b) is_a is_b = absurd (apart b a is_b is_a)
  one_kind (Endless a) (Ending b) is_a is_b = absurd (apart a b is_a is_b)
  one_kind (Endless a) (Endless b) is_a is_b = ap Endless (one_header disk long bytes a b is_a is_b)

  -- a right image has its gate open
  pub any_gate : (header : AnyHeader) → IsRightBy disk long bytes header → slice_index bytes 0 ≡ 165
  any_gate (Ending header) right = right_gate Version2 disk long bytes header right
  any_gate (Endless header) right = ap (λ (l : List ℕ). slice_index l 0) right.spelled ∙ reads_gate 4 0 header

  -- and is as long as its first bytes say
  pub endless_long : (header : AnyHeader) → slice_index bytes 1 ≡ 4 → IsRightBy disk long bytes header → size_of (short_at 4 bytes) ≡ long
  endless_long (Ending header) version right = absurd (omega (arith, version, ending_version header right))
  endless_long (Endless header) version right =
      ap size_of (ap (short_at 4) right.spelled ∙ reads_slots 4 0 header right.may_be right.fits) ∙ right.as_long

  pub ending_long : (header : AnyHeader) → slice_index bytes 1 ≢ 4 → IsRightBy disk long bytes header → image_length cluster_version (older.header_in bytes).slots ≡ long
  ending_long (Ending header) version right =
      ap (λ (h : Header). image_length cluster_version h.slots) (right_since Version2 disk long bytes header right).1 ∙ right.as_long
  ending_long (Endless header) version right = absurd (version (endless_version header right))

  -- what says nothing of either kind says nothing
  pub neither : ((header : EndlessHeader) → IsRight disk long bytes header → ⊥) → ((header : Header) → older.IsRight cluster_version disk long bytes header → ⊥) → (header : AnyHeader) → IsRightBy disk long bytes header → ⊥
  neither endless ending (Ending header) right = ending header right
  neither endless ending (Endless header) right = endless header right

  pub long_enough : (header : AnyHeader) → IsRightBy disk long bytes header → 1024 ≤ long
  long_enough (Ending header) right = omega (arith, right.as_long)
  long_enough (Endless header) right = omega (arith, right.as_long)

-- a new image of a kind is right, and of that kind
pub new_of_kind : (kind : Kind) (disk : ℕ) (config : Shape) (cluster : ℕ) → disk < config.disks → config.disks ≤ 7 → IsSlotsBy kind config.slots → cluster < 2 ^ 64 →
    (header : AnyHeader) × (kind_of header ≡ kind) × IsRightBy disk (size_by kind config.slots) (header_by kind disk config cluster) header
new_of_kind of_kind.Ending disk config cluster below few slots fits = (
  Ending (record { disk = disk; disks = config.disks; slots = config.slots; cluster = cluster }),
  refl,
  record { may_be = record { disk = below; disks = few; some_slots = slots.0; slots = slots.1 }; fits = fits; named = refl; as_long = refl; spelled = refl },
)
new_of_kind of_kind.Endless disk config cluster below few slots fits = (
  Endless (record { disk = disk; disks = config.disks; slots = config.slots; cluster = cluster; first_epoch = 0 }),
  refl,
  record {
    may_be = record { among = record { below = below; few = few }; slots = slots; epoch = omega arith };
    fits = fits;
    named = refl;
    as_long = refl;
    spelled = refl;
  },
)
