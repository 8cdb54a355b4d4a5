-- What is so by a past is so once more was done.
use Rattle.std.proofs.Common.{ℕ, ◌≡◌, ◌∙◌, List, [], ◌∷◌, ◌++◌, Option, Some, None, ap, subst, append_assoc}
use Rattle.disk.specs.Disk.{Attach, Sync, Booted, Done}
use Rattle.torn_block.specs.declared.layout.TheConstants.{BLOCK_LENGTH}
use Rattle.standings.specs.declared.epoch.Epoch.{Epoch}
use Rattle.standings.specs.Epochs.{number_place}
use Rattle.standings.specs.Past.{Made, Past, made, reading, AllSpare, Spares, IsSureOf}
use Rattle.window.specs.declared.sight.Sight.{Sight}
use Rattle.window.specs.Knows.{AllTellNone, TellsNone, IsAttached, IsSynced, AreNumbers, AreNumbersOf, Knows, KnowsOf, ShowsLater}

-- one call more at the end of what came behind a call
more_behind : (before : Past) (m : Made) (behind past more : Past) → past ≡ before ++ m ∷ behind → past ++ more ≡ before ++ m ∷ (behind ++ more)
more_behind before m behind past more is = ap (λ (p : Past). p ++ more) is ∙ append_assoc before (m ∷ behind) more

module _ (at len : ℕ) where
  pub spare_more : (past : Past) (m : Made) → AllSpare at len past → Spares at len m.call → AllSpare at len (past ++ m ∷ [])
  spare_more [] m all here = (here, tt)
  spare_more (x ∷ past) m all here = (all.0, spare_more past m all.1 here)

pub none_more : (past : Past) (m : Made) → AllTellNone past → TellsNone m.answer → AllTellNone (past ++ m ∷ [])
none_more [] m all here = (here, tt)
none_more (x ∷ past) m all here = (all.0, none_more past m all.1 here)

pub later_more : (n : ℕ) (e : Epoch) (past : Past) → ShowsLater n e past → (more : Past) → ShowsLater n e (past ++ more)
later_more n e past is more =
    record { boot = is.boot; row = is.row; before = is.before; behind = is.behind ++ more; is = more_behind is.before (reading n e.area is.boot is.row) is.behind past more is.is; passed = is.passed }

module _ (n : ℕ) (e : Epoch) (host : ℕ) (past : Past) (m : Made) where
  pub numbers_more : (boot : ℕ) (numbers : List ℕ) → AreNumbers n e.area boot numbers past → AreNumbers n e.area boot numbers (past ++ m ∷ [])
  numbers_more boot numbers is =
      record { row = is.row; early = is.early; later = is.later ++ m ∷ []; is = more_behind is.early (reading n e.area boot is.row) is.later past (m ∷ []) is.is; says = is.says }

  pub numbers_of_more : (boot : ℕ) (numbers : Option (List ℕ)) → AreNumbersOf n e.area boot numbers past → AreNumbersOf n e.area boot numbers (past ++ m ∷ [])
  numbers_of_more boot None is = tt
  numbers_of_more boot (Some numbers) is = numbers_more boot numbers is

  module _ (tells : TellsNone m.answer) (spares : Spares (number_place n e.area host) BLOCK_LENGTH m.call) where
    pub attached_more : (boot : ℕ) → IsAttached boot past → IsAttached boot (past ++ m ∷ [])
    attached_more boot is =
        record { before = is.before; behind = is.behind ++ m ∷ []; is = more_behind is.before (made Attach (Booted boot)) is.behind past (m ∷ []) is.is; last = none_more is.behind m is.last tells }

    pub synced_more : (boot : ℕ) → IsSynced n e.area host boot past → IsSynced n e.area host boot (past ++ m ∷ [])
    synced_more boot is =
        record {
          before = is.before;
          behind = is.behind ++ m ∷ [];
          is = more_behind is.before (made (Sync boot) Done) is.behind past (m ∷ []) is.is;
          last = none_more is.behind m is.last tells;
          still = spare_more (number_place n e.area host) BLOCK_LENGTH is.behind m is.still spares;
        }

  pub sure_more : Spares (number_place n e.area host) BLOCK_LENGTH m.call → IsSureOf n e.area host e.number past → IsSureOf n e.area host e.number (past ++ m ∷ [])
  sure_more spares is =
      record {
        boot = is.boot;
        row = is.row;
        before = is.before;
        between = is.between;
        behind = is.behind ++ m ∷ [];
        is = more_behind (is.before ++ made (Sync is.boot) Done ∷ is.between) (reading n e.area is.boot is.row) is.behind past (m ∷ []) is.is;
        read = is.read;
        still =
            subst (AllSpare (number_place n e.area host) BLOCK_LENGTH) (append_assoc is.between is.behind (m ∷ []))
            (spare_more (number_place n e.area host) BLOCK_LENGTH (is.between ++ is.behind) m is.still spares);
      }

  pub knows_more : TellsNone m.answer → Spares (number_place n e.area host) BLOCK_LENGTH m.call → (s : Sight) → Knows n e host past s → Knows n e host (past ++ m ∷ []) s
  knows_more tells spares s is =
      record {
        attached = attached_more tells spares s.boot.number is.attached;
        synced = λ so. synced_more tells spares s.boot.number (is.synced so);
        sure = λ so. sure_more spares (is.sure so);
        numbers = numbers_of_more s.boot.number s.numbers is.numbers;
      }

  pub knows_of_more : TellsNone m.answer → Spares (number_place n e.area host) BLOCK_LENGTH m.call → (s : Option Sight) → KnowsOf n e host past s → KnowsOf n e host (past ++ m ∷ []) s
  knows_of_more tells spares None is = tt
  knows_of_more tells spares (Some s) is = knows_more tells spares s is
