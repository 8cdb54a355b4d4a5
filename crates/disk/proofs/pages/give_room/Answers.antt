use Rattle.std.proofs.Common.{◌≡◌, ◌+◌, ◌-◌, ◌*◌, ◌/◌, ◌^◌, ◌<◌, ◌≤◌, ℕ, Bool, false, List, ◌++◌, length, get_or, set, take, replicate, refl, sym, ◌∙◌, ap, subst, arith, length-append}
use Rattle.std.specs.Prelude.{if◌then◌else◌, vec_len}
use Rattle.std.proofs.lemmas.List.{get_or_read, get_or-set_same, take_all, length-replicate}
use Rattle.disk.specs.declared.pages.Page.{Page}
use Rattle.disk.specs.declared.word.Word.{Word}
use Rattle.disk.specs.Marks.{blank, all_marks}
use Rattle.disk.specs.Pages.{unwritten, nth_page, HaveRooms}
use Rattle.disk.proofs.ListLemmas.{get_or_more}
use Rattle.disk.proofs.MarkLemmas.{length-marks, more_words}
use Rattle.disk.proofs.RoomLemmas.{is_room, rooms_given, same_covers, same_seen}
use Rattle.disk.proofs.pages.give_room.Goals as goal

module _ (c : goal.After-resize) where
  abbrev pages : List Page
  pages = c.args.pages.now.items

  abbrev bytes : List ℕ
  bytes = c.args.bytes.now.items

  abbrev words : List Word
  words = c.args.words.now.items

  abbrev page : Page
  page = record { room = c.len.result / 4096; from = 4096; to = 0 }

  small : length bytes < 2 ^ 64
  small = omega (arith, c.len.ensures, c.len.type_inv)

  nowhere : (nth_page pages c.args.index).room ≡ 2 ^ 64 - 1
  nowhere =
      ap (λ (p : Page). p.room) (sym (get_or_read pages c.args.index c.index.result.now c.requires.within c.index.ensures unwritten)) ∙ c.if-index.true

  next : 4096 * (c.len.result / 4096) ≡ length bytes
  next = omega (arith, c.len.ensures, c.requires.rooms.all)

  enough : length bytes + 4096 ≤ 4096 * length pages
  enough = is_room pages (length bytes) c.args.index page c.requires.rooms small c.requires.within nowhere next refl refl

  abbrev zeros : List ℕ
  zeros = replicate 4096 0

  long : length zeros ≡ 4096
  long = length-replicate {A = ℕ} 4096 0

  more_bytes : c.extend_from_slice.new.self.items ≡ bytes ++ zeros
  more_bytes =
      c.extend_from_slice.ensures.items
      ∙ ap (λ (b : Bool). if b then bytes ++ zeros else bytes) (c.extend_from_slice.ensures.succeeds (omega (arith, long, enough, c.requires.capacity)))

  now_long : length c.extend_from_slice.new.self.items ≡ length bytes + 4096
  now_long = ap length more_bytes ∙ length-append bytes zeros ∙ ap (λ (k : ℕ). length bytes + k) long

  abbrev count : ℕ
  count = c.len-then-index.result / 64

  more_words_is : c.resize.new.self.items ≡ words ++ replicate (count - vec_len c.args.words.now) blank
  more_words_is =
      let n = count - vec_len c.args.words.now in
      c.resize.ensures.items
      ∙ ap (λ (b : Bool). if b then take count words ++ replicate n blank else words) (c.resize.ensures.succeeds (omega (arith, now_long, c.len-then-index.ensures, enough, c.requires.word_capacity)))
      ∙ ap (λ (l : List Word). l ++ replicate n blank) (take_all count words (omega (arith, now_long, c.len-then-index.ensures, c.requires.words)))

pub returns-then-index-clause-bytes : goal.returns-then-index-clause-bytes
returns-then-index-clause-bytes c =
    same_seen (pages c) (length (bytes c)) c.args.index (page c) c.requires.rooms (small c) c.requires.within (nowhere c) (next c) refl refl
    0 (bytes c) c.extend_from_slice.new.self.items
    (λ q. ap (λ (l : List ℕ). get_or l q 0) (more_bytes c) ∙ get_or_more (bytes c) 4096 q 0) (omega arith)

pub returns-then-index-clause-marks : goal.returns-then-index-clause-marks
returns-then-index-clause-marks c = λ epoch.
    same_seen (pages c) (length (bytes c)) c.args.index (page c) c.requires.rooms (small c) c.requires.within (nowhere c) (next c) refl refl
    false (all_marks epoch (words c)) (all_marks epoch c.resize.new.self.items)
    (λ q. ap (λ (l : List Word). get_or (all_marks epoch l) q false) (more_words_is c) ∙ more_words epoch (words c) (count c - vec_len c.args.words.now) q)
    (omega (arith, length-marks epoch (words c) (64 * length (words c)), c.requires.words))

pub returns-then-index-clause-ranges : goal.returns-then-index-clause-ranges
returns-then-index-clause-ranges c =
    same_covers (pages c) (length (bytes c)) c.args.index (page c) c.requires.rooms (small c) c.requires.within (nowhere c) (next c) refl refl

pub returns-then-index-clause-kept : goal.returns-then-index-clause-kept
returns-then-index-clause-kept c =
    let here = ap (λ (p : Page). p.room) (get_or-set_same (pages c) c.args.index (page c) unwritten c.requires.within) in
    omega (arith, here, next c, now_long c)

pub returns-then-index-clause-rooms : goal.returns-then-index-clause-rooms
returns-then-index-clause-rooms c =
    subst (HaveRooms (set (pages c) c.args.index (page c))) (sym (now_long c))
    (rooms_given (pages c) (length (bytes c)) c.args.index (page c) c.requires.rooms (small c) c.requires.within (nowhere c) (next c) refl refl)

pub returns-then-index-clause-words : goal.returns-then-index-clause-words
returns-then-index-clause-words c =
    let n = count c - vec_len c.args.words.now in
    let many : length c.resize.new.self.items ≡ length (words c) + n =
    ap length (more_words_is c) ∙ length-append (words c) (replicate n blank) ∙ ap (λ (k : ℕ). length (words c) + k) (length-replicate n blank) in
    omega (arith, many, now_long c, c.len-then-index.ensures, c.requires.words, c.requires.rooms.all)
