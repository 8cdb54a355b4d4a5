-- What a disk shows once a range of one page was put and marked.
use Rattle.std.proofs.Common.{◌≡◌, ℕ, ◌+◌, ◌-◌, ◌*◌, ◌/◌, ◌%◌, ◌<◌, ◌≤◌, true, false, List, length, replicate, refl, sym, ◌∙◌, ap, subst, arith}
use Rattle.std.proofs.lemmas.List.{length-replicate}
use Rattle.disk.specs.declared.pages.Page.{Page}
use Rattle.disk.specs.declared.word.Word.{Word}
use Rattle.disk.specs.Disk.{put_at}
use Rattle.disk.specs.Marks.{marks, all_marks}
use Rattle.disk.specs.Pages.{nth_page, home, seen, HaveRooms, Covers, BlankOutside}
use Rattle.disk.proofs.MarkLemmas.{length-marks, all_marks_put}
use Rattle.disk.proofs.PageLemmas.{blank_put}
use Rattle.disk.proofs.PutLemmas.{length-put_at}
use Rattle.disk.proofs.SeenLemmas.{length-seen, wrote, fits}

-- what a disk keeps and shows once a range holds these bytes, marked
pub record Written (old new : List Page) (kept after xs : List ℕ) (words marked : List Word) (epoch at size : ℕ) : Type 0 where
  pub bytes : seen new 0 after size ≡ put_at (seen old 0 kept size) at xs
  pub flags : seen new false (all_marks epoch marked) size ≡ put_at (seen old false (all_marks epoch words) size) at (replicate (length xs) true)
  pub rooms : HaveRooms new (length after)
  pub as_many : length after ≡ 64 * length marked
  pub blank : BlankOutside new (seen new 0 after size) (seen new false (all_marks epoch marked) size)

-- the pages, bytes and words were made ready before, so that the same was seen
module _ (old new : List Page) (bytes ready after xs : List ℕ) (words blanks marked : List Word) (epoch at len size : ℕ) (page : Page) (long : length xs ≡ len) (within : at + len ≤ size) (one : at % 4096 + len ≤ 4096) (rooms : HaveRooms new (length ready)) (page_is : page ≡ nth_page new (at / 4096)) (kept : 4096 * page.room + 4096 ≤ length ready) (enough : length ready ≡ 64 * length blanks) where
  abbrev place : ℕ
  place = 4096 * page.room + at % 4096

  is : place ≡ home new at
  is = ap (λ (p : Page). 4096 * p.room + at % 4096) page_is

  here : 4096 * (nth_page new (at / 4096)).room < length ready
  here = omega (arith, kept, ap (λ (p : Page). p.room) page_is)

  bytes_wrote : seen new 0 ready size ≡ seen old 0 bytes size → after ≡ put_at ready place xs → seen new 0 after size ≡ put_at (seen old 0 bytes size) at xs
  bytes_wrote same put =
      wrote old new 0 bytes ready after xs at size (length ready) same rooms refl (omega (arith, one, long)) here (omega (arith, within, long)) (put ∙ ap (λ (k : ℕ). put_at ready k xs) is)

  flags_wrote : seen new false (all_marks epoch blanks) size ≡ seen old false (all_marks epoch words) size → length marked ≡ length blanks → ((m : ℕ) → place + len ≤ m → marks epoch marked m ≡ put_at (marks epoch blanks m) place (replicate ((place + len) - place) true)) → seen new false (all_marks epoch marked) size ≡ put_at (seen old false (all_marks epoch words) size) at (replicate (length xs) true)
  flags_wrote same as_many mark =
      let run = replicate (length xs) true in
      let n : length run ≡ len = length-replicate (length xs) true ∙ long in
      let room : home new at + len ≤ length ready = subst (λ (k : ℕ). home new at + k ≤ length ready) long (fits new 0 ready xs at size rooms (omega (arith, one, long)) here (omega (arith, within, long))) in
      let put : all_marks epoch marked ≡ put_at (all_marks epoch blanks) (home new at) run =
      all_marks_put epoch place len blanks marked (omega (arith, is, room, enough)) as_many mark
      ∙ ap (λ (k : ℕ). put_at (all_marks epoch blanks) k (replicate len true)) is
      ∙ ap (λ (k : ℕ). put_at (all_marks epoch blanks) (home new at) (replicate k true)) (sym long) in
      wrote old new false (all_marks epoch words) (all_marks epoch blanks) (all_marks epoch marked) run at size (length ready) same rooms
      (length-marks epoch blanks (64 * length blanks) ∙ sym enough)
      (omega (arith, one, n)) here (omega (arith, within, n)) put

  pub written : seen new 0 ready size ≡ seen old 0 bytes size → seen new false (all_marks epoch blanks) size ≡ seen old false (all_marks epoch words) size → after ≡ put_at ready place xs → length marked ≡ length blanks → ((m : ℕ) → place + len ≤ m → marks epoch marked m ≡ put_at (marks epoch blanks m) place (replicate ((place + len) - place) true)) → ((k : ℕ) → Covers old k → Covers new k) → ((k : ℕ) → at ≤ k → k < at + len → Covers new k) → BlankOutside old (seen old 0 bytes size) (seen old false (all_marks epoch words) size) → Written old new bytes after xs words marked epoch at size
  written same_bytes same_flags put as_many mark keeps range blank =
      let seen_bytes = seen old 0 bytes size in
      let seen_flags = seen old false (all_marks epoch words) size in
      let now = bytes_wrote same_bytes put in
      let flags = flags_wrote same_flags as_many mark in
      let same : length after ≡ length ready = ap length put ∙ length-put_at ready place xs (omega (arith, kept, long, one)) in
      record {
        bytes = now;
        flags = flags;
        rooms = subst (HaveRooms new) (sym same) rooms;
        as_many = omega (arith, same, enough, as_many);
        blank =
            rw (now, flags)
            (blank_put old new seen_bytes xs seen_flags (replicate (length xs) true) at (at + len) (omega (arith, long)) (length-replicate (length xs) true)
            (omega (arith, long, within, length-seen old 0 bytes size))
            (length-seen old false (all_marks epoch words) size ∙ sym (length-seen old 0 bytes size))
            keeps range blank);
      }
