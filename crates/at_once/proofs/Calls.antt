-- The calls of a format, and of a migration, make one of each image that makes a step with each of them.
use Rattle.std.specs.Prelude.{replicate}
use Rattle.std.proofs.Common.{ℕ, List, [], ◌∷◌, ◌++◌, inl, inr, refl, sym, subst}
use Rattle.disk.specs.Disk.{DiskState, Call, Write, Sync, Answer, Done, Step}
use Rattle.torn_block.specs.Layout.{cluster_version}
use Rattle.torn_block.specs.declared.block.TheConstants.{OPEN_GATE}
use Rattle.paxos_block.specs.declared.header.Header.{Header}
use Rattle.paxos_block.specs.Places.{image_length}
use Rattle.paxos_block.specs.Image.{Setup}
use Rattle.migration.specs.declared.end.End.TheVariants.{Migrated}
use Rattle.folders.specs.Layout.{WritesZeros, none as no_zeros, more as more_zeros, IsLaidOut, closed_header}
use Rattle.dlm_images.specs.Operations.{Made, Gave, GaveOne}
use Rattle.folder_migration.specs.Gates.{IsCleared}
use Rattle.folder_migration.specs.Moving.{Makes, none, more, HasMoved}
use Rattle.at_once.specs.Beginnings.{zeroing, laying, clearing, moving, succeeded, LaidOutFileIsBlank, LaidOutFileSaysHeader, ClearedFileIsFresh, FilesMakeAllOrNothing, StopsWithin, StoppedFilesAreAllOrNothing, MovedFilesAreWhole, MovedFilesHoldLog}
use Rattle.at_once.specs.Disks.{GaveAlone}
use Rattle.at_once.proofs.Clearing.{cleared_is_fresh, laid_out_is_blank, laid_out_says_header}
use Rattle.at_once.proofs.Moving.{makes_all_or_nothing, power_leaves_all_or_nothing, moved_is_whole, moved_holds_log}

-- what is called behind the zeros
abbrev behind : Header → ℕ → List Made
behind header boot =
    let call = succeeded header.disk in
    call (Sync boot) Done ∷ call (Write boot 0 (closed_header header)) Done ∷ call (Sync boot) Done ∷ call (Write boot 0 (OPEN_GATE ∷ [])) Done ∷ call (Sync boot) Done ∷ []

-- ONE AFTER ANOTHER

module _ {D : Type 0} (gives : D → Call → Answer → D → Type 0) where
  alone_then : (xs ys : List Made) (old between new : D) → GaveAlone gives old xs between → GaveAlone gives between ys new → GaveAlone gives old (xs ++ ys) new
  alone_then [] ys old between new first later = subst (λ (d : D). GaveAlone gives d ys new) first later
  alone_then (x ∷ xs) ys old between new first later = (first.0, first.1, alone_then xs ys first.0 between new first.2 later)

  alone_parts : (xs ys : List Made) (old new : D) → GaveAlone gives old (xs ++ ys) new → (between : D) × GaveAlone gives old xs between × GaveAlone gives between ys new
  alone_parts [] ys old new gave = (old, refl, gave)
  alone_parts (x ∷ xs) ys old new gave = let rest = alone_parts xs ys gave.0 new gave.2 in (rest.0, (gave.0, gave.1, rest.1), rest.2)

  gave_then : (xs ys : List Made) (old between new : List D) → Gave gives old xs between → Gave gives between ys new → Gave gives old (xs ++ ys) new
  gave_then [] ys old between new first later = subst (λ (d : List D). Gave gives d ys new) first later
  gave_then (x ∷ xs) ys old between new first later = (first.0, first.1, gave_then xs ys first.0 between new first.2 later)

  gave_parts : (xs ys : List Made) (old new : List D) → Gave gives old (xs ++ ys) new → (between : List D) × Gave gives old xs between × Gave gives between ys new
  gave_parts [] ys old new gave = (old, refl, gave)
  gave_parts (x ∷ xs) ys old new gave = let rest = gave_parts xs ys gave.0 new gave.2 in (rest.0, (gave.0, gave.1, rest.1), rest.2)

-- THEY WERE GIVEN, AND ARE THOSE OF SUCH AN IMAGE

module _ {D : Type 0} (gives : D → Call → Answer → D → Type 0) where
  gave_zeros : (k boot from to : ℕ) (old new : D) → (is : WritesZeros gives boot from to old new) → GaveAlone gives old (zeroing k is) new
  gave_zeros k boot from to old new (no_zeros at disk) = refl
  gave_zeros k boot from to old new (more_zeros first n last before between after writes len gave is) =
      alone_then gives (zeroing k writes) (succeeded k (Write boot n (replicate len 0)) Done ∷ []) before between after (gave_zeros k boot first n before between writes) (after, gave, refl)

  gave_laying : (header : Header) (old new : D) → (is : IsLaidOut gives old header new) → GaveAlone gives old (laying is) new
  gave_laying header old new is = (
    is.attached,
    is.attaches,
    alone_then gives (zeroing header.disk is.clears) (behind header is.boot) is.attached is.zeroed new (gave_zeros header.disk is.boot 0 (image_length cluster_version header.slots) is.attached is.zeroed is.clears)
        (is.blank, is.syncs_zeros, (is.closed, is.writes, (is.ready, is.syncs_header, (is.opened, is.opens, (new, is.syncs_gate, refl))))),
  )

  gave_clearing : (size k : ℕ) (old new : D) → (is : IsCleared gives size old new) → GaveAlone gives old (clearing k is) new
  gave_clearing size k old new is = (
    is.attached,
    is.attaches,
    alone_then gives (zeroing k is.clears) (succeeded k (Sync is.boot) Done ∷ []) is.attached is.zeroed new (gave_zeros k is.boot 0 size is.attached is.zeroed is.clears) (new, is.syncs, refl),
  )

  gave_moving : (s : Setup) (old : List D) (answers : List Answer) (new : List D) → (is : Makes gives s old answers new) → Gave gives old (moving is) new
  gave_moving s old answers new none = refl
  gave_moving s old answers new (more before between makes x due after gave) =
      gave_then gives (moving makes) (x ∷ []) old between after (gave_moving s old before between makes) (after, gave, refl)

  image_zeros : (k boot from to : ℕ) (old new : D) → (is : WritesZeros gives boot from to old new) → (image left : DiskState) → GaveAlone Step image (zeroing k is) left → WritesZeros Step boot from to image left
  image_zeros k boot from to old new (no_zeros at disk) image left gave = subst (WritesZeros Step boot from from image) (sym gave) (no_zeros from image)
  image_zeros k boot from to old new (more_zeros first n last before between after writes len gave is) image left gave' =
      let (now, was, one) = alone_parts Step (zeroing k writes) (succeeded k (Write boot n (replicate len 0)) Done ∷ []) image left gave' in
      let written = subst (λ (d : DiskState). Step now (Write boot n (replicate len 0)) Done d) (sym one.2) one.1 in
      more_zeros from n to image now left (image_zeros k boot first n before between writes image now was) len written is

  image_laid : (header : Header) (old new : D) → (is : IsLaidOut gives old header new) → (image left : DiskState) → GaveAlone Step image (laying is) left → IsLaidOut Step image header left
  image_laid header old new is image left (attached, attaches, gave) =
      let (zeroed, clears, rest) = alone_parts Step (zeroing header.disk is.clears) (behind header is.boot) attached left gave in
      let (blank, syncs_zeros, after_zeros) = rest in
      let (closed, writes, after_header) = after_zeros in
      let (ready, syncs_header, after_sync) = after_header in
      let (opened, opens, after_gate) = after_sync in
      let (last, syncs_gate, same) = after_gate in
      record {
        boot = is.boot;
        attached = attached;
        zeroed = zeroed;
        blank = blank;
        closed = closed;
        ready = ready;
        opened = opened;
        attaches = attaches;
        clears = image_zeros header.disk is.boot 0 (image_length cluster_version header.slots) is.attached is.zeroed is.clears attached zeroed clears;
        syncs_zeros = syncs_zeros;
        writes = writes;
        syncs_header = syncs_header;
        opens = opens;
        syncs_gate = subst (Step opened (Sync is.boot) Done) (sym same) syncs_gate;
      }

  image_cleared : (size k : ℕ) (old new : D) → (is : IsCleared gives size old new) → (image left : DiskState) → GaveAlone Step image (clearing k is) left → IsCleared Step size image left
  image_cleared size k old new is image left (attached, attaches, gave) =
      let (zeroed, clears, rest) = alone_parts Step (zeroing k is.clears) (succeeded k (Sync is.boot) Done ∷ []) attached left gave in
      let (last, syncs, same) = rest in
      record {
        boot = is.boot;
        attached = attached;
        zeroed = zeroed;
        attaches = attaches;
        clears = image_zeros k is.boot 0 size is.attached is.zeroed is.clears attached zeroed clears;
        syncs = subst (Step zeroed (Sync is.boot) Done) (sym same) syncs;
      }

  images_moved : (s : Setup) (old : List D) (answers : List Answer) (new : List D) → (is : Makes gives s old answers new) → (images left : List DiskState) → Gave Step images (moving is) left → Makes Step s images answers left
  images_moved s old answers new none images left gave = subst (Makes Step s images []) (sym gave) none
  images_moved s old answers new (more before between makes x due after gave) images left gave' =
      let (now, was, one) = gave_parts Step (moving makes) (x ∷ []) images left gave' in
      more before now (images_moved s old before between makes images now was) x due left (subst (GaveOne Step now x) (sym one.2) one.1)

-- ALL OF IT

module _ {D : Type 0} (gives : D → Call → Answer → D → Type 0) where
  pub laid_out_file_is_blank : LaidOutFileIsBlank gives
  laid_out_file_is_blank header old new is = (
    gave_laying gives header old new is,
    λ image left one gave. laid_out_is_blank Step (λ (d : DiskState). d) (λ a b call answer step. step) header image left one (image_laid gives header old new is image left gave),
  )

  pub laid_out_file_says_header : LaidOutFileSaysHeader gives
  laid_out_file_says_header header old new is image left one gave =
      laid_out_says_header Step (λ (d : DiskState). d) (λ a b call answer step. step) header image left one (image_laid gives header old new is image left gave)

  pub cleared_file_is_fresh : ClearedFileIsFresh gives
  cleared_file_is_fresh size k old new is = (
    gave_clearing gives size k old new is,
    λ image left one gave. cleared_is_fresh Step (λ (d : DiskState). d) (λ a b call answer step. step) size image left one (image_cleared gives size k old new is image left gave),
  )

  pub files_make_all_or_nothing : FilesMakeAllOrNothing gives
  files_make_all_or_nothing s old new answers is = (
    gave_moving gives s old answers new is,
    λ images left fits fresh gave. makes_all_or_nothing Step (λ (d : DiskState). d) (λ a b call answer step. step) s images left answers fits fresh (images_moved gives s old answers new is images left gave),
  )

  -- what was under way is one call more
  made_so : (s : Setup) (images left stopped : List DiskState) (answers : List Answer) → Makes Step s images answers left → StopsWithin s answers left stopped → (all : List Answer) × Makes Step s images all stopped
  made_so s images left stopped answers makes (inl same) = (answers, subst (Makes Step s images answers) (sym same) makes)
  made_so s images left stopped answers makes (inr (x, due, gave)) = (answers ++ x.answer ∷ [], more answers left makes x due stopped gave)

  pub stopped_files_are_all_or_nothing : StoppedFilesAreAllOrNothing gives
  stopped_files_are_all_or_nothing s old new answers is images left stopped fits fresh gave stops =
      let (all, makes) = made_so s images left stopped answers (images_moved gives s old answers new is images left gave) stops in (
        makes_all_or_nothing Step (λ (d : DiskState). d) (λ a b call answer step. step) s images stopped all fits fresh makes,
        λ dark power. power_leaves_all_or_nothing Step (λ (d : DiskState). d) (λ a b call answer step. step) s images stopped all fits fresh makes dark power,
      )

  moved_so : (s : Setup) (old new : List D) (is : HasMoved gives s old new Migrated) (images left : List DiskState) → Gave Step images (moving is.makes) left → HasMoved Step s images left Migrated
  moved_so s old new is images left gave = record { room = is.room; answers = is.answers; makes = images_moved gives s old is.answers new is.makes images left gave; history = is.history; ended = is.ended }

  pub moved_files_are_whole : MovedFilesAreWhole gives
  moved_files_are_whole s old new is images left values fresh gave k below =
      moved_is_whole Step (λ (d : DiskState). d) (λ a b call answer step. step) s images left values fresh (moved_so s old new is images left gave) k below

  pub moved_files_hold_log : MovedFilesHoldLog gives
  moved_files_hold_log s commands old new is images left values log fresh gave k image there =
      moved_holds_log Step (λ (d : DiskState). d) (λ a b call answer step. step) s commands images left values log fresh (moved_so s old new is images left gave) k image there
