-- An image is in one stage only, and its header says in which.
use Rattle.std.specs.Prelude.{◌≡◌, ◌≢◌, ◌≤◌, ℕ, List, length, slice_index}
use Rattle.std.proofs.Common.{refl, sym, ◌∙◌, ap, subst, arith, set}
use Rattle.std.proofs.lemmas.List.{get_or-set_same, get_or-set_other, length-set}
use Rattle.torn_block.specs.Layout.{Version2, cluster_version}
use Rattle.paxos_block.specs.declared.header.Header.{Header}
use Rattle.paxos_block.specs.Headers as older
use Rattle.paxos_block.specs.Headers.{short_at}
use Rattle.paxos_block.specs.Places.{image_length}
use Rattle.paxos_block.proofs.HeaderLemmas.{right_since}
use Rattle.endless_image.specs.declared.header.EndlessHeader.{EndlessHeader}
use Rattle.endless_image.specs.Headers.{IsRight}
use Rattle.endless_image.specs.InPlace.{IsEnding, IsUnfinished}
use Rattle.endless_image.specs.Sizes.{area_size, size_of}
use Rattle.endless_image.proofs.HeaderLaws.{reads_version, reads_mark, older_version, older_mark, reads_slots}
use Rattle.endless_image.proofs.Extended.{header_by}

module _ (disk long : ℕ) (bytes : List ℕ) where
  right_version : (header : EndlessHeader) → IsRight disk long bytes header → slice_index bytes 1 ≡ 4
  right_version header right = ap (λ (l : List ℕ). slice_index l 1) right.spelled ∙ reads_version 4 0 header

  right_mark : (header : EndlessHeader) → IsRight disk long bytes header → slice_index bytes 24 ≡ 0
  right_mark header right = ap (λ (l : List ℕ). slice_index l 24) right.spelled ∙ reads_mark 4 0 header

  ending_version : (header : Header) → IsEnding disk long bytes header → slice_index bytes 1 ≡ 2
  ending_version header is = ap (λ (l : List ℕ). slice_index l 1) is.right.spelled ∙ older_version Version2 header

  ending_mark : (header : Header) → IsEnding disk long bytes header → slice_index bytes 24 ≡ 0
  ending_mark header is = ap (λ (l : List ℕ). slice_index l 24) is.right.spelled ∙ older_mark Version2 header

  unfinished_mark : (header : EndlessHeader) → IsUnfinished disk long bytes header → slice_index bytes 24 ≢ 0
  unfinished_mark header is none =
      is.marked (sym (reads_mark is.version is.mark header) ∙ ap (λ (l : List ℕ). slice_index l 24) (sym is.spelled) ∙ none)

  pub right_not_ending : (a : EndlessHeader) (b : Header) → IsRight disk long bytes a → IsEnding disk long bytes b → ⊥
  right_not_ending a b right ending = absurd (omega (arith, right_version a right, ending_version b ending))

  pub right_not_marked : (a b : EndlessHeader) → IsRight disk long bytes a → IsUnfinished disk long bytes b → ⊥
  right_not_marked a b right marked = unfinished_mark b marked (right_mark a right)

  pub ending_not_marked : (a : Header) (b : EndlessHeader) → IsEnding disk long bytes a → IsUnfinished disk long bytes b → ⊥
  ending_not_marked a b ending marked = unfinished_mark b marked (ending_mark a ending)

  -- AN IMAGE OF A LOG THAT ENDS

  pub ending_by : (own : ℕ) (header : Header) → older.IsRight cluster_version disk own bytes header → 320 ≤ header.slots → own ≤ long → IsEnding disk long bytes header
  ending_by own header right slots room =
      record {
        right = subst (λ (n : ℕ). older.IsRight cluster_version disk n bytes header) (sym right.as_long) right;
        slots = slots;
        room = omega (arith, room, right.as_long);
      }

  pub ending_own : (header : Header) → IsEnding disk long bytes header → image_length cluster_version (older.header_in bytes).slots ≡ area_size header.slots
  ending_own header is = ap (λ (h : Header). image_length cluster_version h.slots) (right_since Version2 disk (area_size header.slots) bytes header is.right).1

  pub ending_right : (own : ℕ) (header : Header) → own ≡ image_length cluster_version (older.header_in bytes).slots → IsEnding disk long bytes header → older.IsRight cluster_version disk own bytes header
  ending_right own header told is = subst (λ (n : ℕ). older.IsRight cluster_version disk n bytes header) (sym (told ∙ ending_own header is)) is.right

  -- ONE THAT IS MARKED

  finished_at : (p : ℕ) → p ≢ 1 → p ≢ 24 → slice_index (set (set bytes 1 4) 24 0) p ≡ slice_index bytes p
  finished_at p one two = get_or-set_other (set bytes 1 4) 24 p 0 0 two ∙ get_or-set_other bytes 1 p 4 0 one

  module _ (many : length bytes ≡ 1024) where
    many_finished : length (set (set bytes 1 4) 24 0) ≡ 1024
    many_finished = length-set (set bytes 1 4) 24 0 ∙ length-set bytes 1 4 ∙ many

    finished_version : slice_index (set (set bytes 1 4) 24 0) 1 ≡ 4
    finished_version =
        get_or-set_other (set bytes 1 4) 24 1 0 0 (λ same. absurd (omega (arith, same))) ∙ get_or-set_same bytes 1 4 0 (omega (arith, many))

    finished_mark : slice_index (set (set bytes 1 4) 24 0) 24 ≡ 0
    finished_mark = get_or-set_same (set bytes 1 4) 24 0 0 (omega (arith, many, length-set bytes 1 4))

    pub marked_by : (own : ℕ) (header : EndlessHeader) → IsRight disk own (set (set bytes 1 4) 24 0) header → header.first_epoch ≡ 0 → slice_index bytes 24 ≢ 0 → own ≤ long → IsUnfinished disk long bytes header
    marked_by own header right first marked room =
        record {
          version = slice_index bytes 1;
          mark = slice_index bytes 24;
          marked = marked;
          may_be = right.may_be;
          fits = right.fits;
          named = right.named;
          first = first;
          room = omega (arith, right.as_long, room);
          spelled =
              header_by (slice_index bytes 1) (slice_index bytes 24) 4 0 header bytes many refl refl
              (λ p below one two. sym (finished_at p one two) ∙ ap (λ (l : List ℕ). slice_index l p) right.spelled);
        }

    pub marked_right : (own : ℕ) (header : EndlessHeader) → own ≡ size_of (short_at 4 bytes) → IsUnfinished disk long bytes header → IsRight disk own (set (set bytes 1 4) 24 0) header
    marked_right own header told is =
        let slots : short_at 4 bytes ≡ header.slots = ap (short_at 4) is.spelled ∙ reads_slots is.version is.mark header is.may_be is.fits in
        record {
          may_be = is.may_be;
          fits = is.fits;
          named = is.named;
          as_long = sym (told ∙ ap size_of slots);
          spelled =
              header_by 4 0 is.version is.mark header (set (set bytes 1 4) 24 0) many_finished finished_version finished_mark
              (λ p below one two. finished_at p one two ∙ ap (λ (l : List ℕ). slice_index l p) is.spelled);
        }

    pub unfinished_own : (own : ℕ) (header : EndlessHeader) → own ≡ size_of (short_at 4 bytes) → IsUnfinished disk long bytes header → own ≤ long
    unfinished_own own header told is =
        let slots : short_at 4 bytes ≡ header.slots = ap (short_at 4) is.spelled ∙ reads_slots is.version is.mark header is.may_be is.fits in
        omega (arith, is.room, told, slots)

  pub mark_there : (header : EndlessHeader) → IsUnfinished disk long bytes header → slice_index bytes 24 ≢ 0
  mark_there = unfinished_mark
