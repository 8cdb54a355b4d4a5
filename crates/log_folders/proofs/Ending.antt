-- What a format of a folder of a log that ends came to, said of a set of that kind.
use Rattle.std.proofs.Common.{◌≡◌, ◌⊎◌, ℕ, List, Result, Ok, Err, OnOk, inl, inr, subst}
use Rattle.disk.specs.Disk.{Call, Answer}
use Rattle.disk.specs.FileStates.{FileGives}
use Rattle.paxos_block.specs.Shape.{Shape}
use Rattle.endless_image.specs.declared.kind.Kind.{Kind}
use Rattle.endless_image.specs.declared.kind.Kind.TheVariants.{Ending}
use Rattle.folders.specs.Finishing as older
use Rattle.folders.specs.Formatting as laid
use Rattle.folders.specs.Formatting.{EachBecame}
use Rattle.folders.specs.Layout as one
use Rattle.folders.specs.Layout.{header_of}
use Rattle.folders.specs.declared.fault.FolderFault.{FolderFault}
use Rattle.folders.specs.declared.unfinished.Left.TheVariants.{Closed}
use Rattle.log_folders.specs.Finishing.{AreFinished, AreUnfinished, FindsLeft, IsLeft, WereFinished}
use Rattle.log_folders.specs.Formatting.{AreLaidOutTogether, AreWhole, WereLaidOut}
use Rattle.log_folders.specs.Layout.{IsLaidOut}
use Rattle.log_folders.specs.NewSets.{Wanted, header_for, size_for}

module _ (config : Shape) (cluster : ℕ) where
  -- the set of a log that ends, with these numbers
  abbrev pub ending : Wanted
  ending = record { kind = Ending; config = config; cluster = cluster }

  module _ {D : Type 0} (gives : D → Call → Answer → D → Type 0) where
    whole_ending : (old new : List D) → laid.AreWhole gives config cluster old new → AreWhole gives ending old new
    whole_ending old new w = record {
      as_many = w.as_many;
      each = λ k a b at_a at_b.
          let (boot, is) = w.each k a b at_a at_b in (
            boot,
            record {
              attached = is.attached;
              zeroed = is.zeroed;
              blank = is.blank;
              closed = is.closed;
              attaches = is.attaches;
              clears = is.clears;
              syncs_zeros = is.syncs_zeros;
              writes = is.writes;
              syncs_header = is.syncs_header;
            },
          );
    }

    image_ending : (k : ℕ) (old new : D) → one.IsLaidOut gives old (header_of config cluster k) new → IsLaidOut gives (size_for ending) (header_for ending k) old new
    image_ending k old new is = record {
      boot = is.boot;
      attached = is.attached;
      zeroed = is.zeroed;
      blank = is.blank;
      closed = is.closed;
      ready = is.ready;
      opened = is.opened;
      attaches = is.attaches;
      clears = is.clears;
      syncs_zeros = is.syncs_zeros;
      writes = is.writes;
      syncs_header = is.syncs_header;
      opens = is.opens;
      syncs_gate = is.syncs_gate;
    }

    together_ending : (old new : List D) → laid.AreLaidOutTogether gives config cluster old new → AreLaidOutTogether gives ending old new
    together_ending old new w = record {
      whole = w.whole;
      closed = whole_ending old w.whole w.closed;
      opened = w.opened;
      images = record { as_many = w.images.as_many; each = λ k a b at_a at_b. image_ending k a b (w.images.each k a b at_a at_b) };
    }

    closed_ending : (k : ℕ) (old new : D) → older.FindsLeft gives (header_of config cluster k) old new Closed → FindsLeft gives (size_for ending) (header_for ending k) old new Closed
    closed_ending k old new (bytes, told, first, header, zeros) = (bytes, told, first, record { closed = header.closed; right = header.right }, zeros)

    left_ending : (k : ℕ) (old new : D) → older.IsLeft gives (header_of config cluster k) old new → IsLeft gives (size_for ending) (header_for ending k) old new
    left_ending k old new (inl open_now) = inl open_now
    left_ending k old new (inr closed) = inr (closed_ending k old new closed)

    unfinished_ending : (old new : List D) → older.AreUnfinished gives config cluster old new → AreUnfinished gives ending old new
    unfinished_ending old new w =
        let (disk, below, found) = w.closed in record {
          left = record { as_many = w.left.as_many; each = λ k a b at_a at_b. left_ending k a b (w.left.each k a b at_a at_b) };
          closed = (
            disk,
            below,
            record { before = found.before; after = found.after; was = found.was; is = found.is; became = closed_ending disk found.before found.after found.became },
          );
        }

    finished_ending : (old new : List D) → older.AreFinished gives config cluster old new → AreFinished gives ending old new
    finished_ending old new w = record { looked = w.looked; left = unfinished_ending old w.looked w.left; opened = w.opened }

  were_made : laid.WereLaidOut config cluster ⊎ older.WereFinished config cluster → WereLaidOut ending ⊎ WereFinished ending
  were_made (inl w) = inl (record { old = w.old; new = w.new; fresh = record { as_many = w.fresh.as_many; room = w.fresh.room }; laid_out = together_ending FileGives w.old w.new w.laid_out })
  were_made (inr w) = inr (record { old = w.old; new = w.new; as_many = w.as_many; finished = finished_ending FileGives w.old w.new w.finished })

-- the images of a set of this kind, with these numbers, were made
abbrev Made : Kind → Shape → ℕ → Type 0
Made k c n = WereLaidOut (record { kind = k; config = c; cluster = n }) ⊎ WereFinished (record { kind = k; config = c; cluster = n })

-- so it is of a set that has this kind and these numbers
pub made_ending : {T : Type 0} (set : Wanted) (config : Shape) (cluster : ℕ) → Ending ≡ set.kind → config ≡ set.config → cluster ≡ set.cluster
    → (result : Result T FolderFault) → OnOk result (laid.WereLaidOut config cluster ⊎ older.WereFinished config cluster) → OnOk result (WereLaidOut set ⊎ WereFinished set)
made_ending set config cluster kind same number (Err fault) made = tt
made_ending set config cluster kind same number (Ok done) made =
    subst (λ (k : Kind). Made k set.config set.cluster) kind (subst (λ (c : Shape). Made Ending c set.cluster) same (subst (λ (n : ℕ). Made Ending config n) number (were_made config cluster made)))
