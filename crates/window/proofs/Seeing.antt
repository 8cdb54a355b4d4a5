-- What is known of a disk once it was synced, or the standings were read there.
use Rattle.std.proofs.Common.{ℕ, ◌≡◌, ◌⊎◌, Bool, true, false, List, [], ◌∷◌, ◌++◌, Option, Some, None, refl, sym, ap, subst, inl, inr}
use Rattle.std.specs.Prelude.{◌==◌, IsSome}
use Rattle.std.proofs.lemmas.Bool.{cases_Bool, cond-true, cond-false, eq-eqb, eqb-true}
use Rattle.std.proofs.lemmas.List.{append-nil}
use Rattle.disk.specs.Disk.{Attach, Sync, Booted, Done}
use Rattle.disk.specs.declared.boot.Boot.{Boot}
use Rattle.torn_block.specs.declared.layout.TheConstants.{BLOCK_LENGTH}
use Rattle.standings.specs.declared.epoch.Epoch.{Epoch}
use Rattle.standings.specs.Epochs.{number_place}
use Rattle.standings.specs.Reading.{numbers_in}
use Rattle.standings.specs.Past.{Past, made, reading, AllSpare, IsSureOf}
use Rattle.window.specs.declared.sight.Sight.{Sight}
use Rattle.window.specs.Sights.{IsKnownUnder, Keeps}
use Rattle.window.specs.Knows.{AreSaid, IsSynced, AreNumbersOf, Knows}
use Rattle.window.proofs.Pasts.{attached_more, synced_more, sure_more, numbers_of_more}

-- numbers that are kept are known under their boot number
pub known_under : (s : Sight) (boot : ℕ) → s.boot.number ≡ boot → IsSome s.numbers → IsKnownUnder boot (Some s)
known_under s boot same some = subst IsSome (sym (cond-true (s.boot.number == boot) s.numbers None (eq-eqb s.boot.number boot same))) some

-- and under no other one
pub only_under : (s : Sight) (boot : ℕ) → IsKnownUnder boot (Some s) → s.boot.number ≡ boot
only_under s boot known = elim (cases_Bool (s.boot.number == boot)) [
  | inl same ↦ eqb-true s.boot.number boot same
  | inr other ↦ absurd (let wrong : false ≡ true = subst IsSome (cond-false (s.boot.number == boot) s.numbers None other) known in cc)
]

-- what a sync, or a reading, leaves of what was seen
pub synced_keeps : (before : Option Sight) (s : Sight) (is_synced : Bool) → before ≡ Some s → (s.is_synced ≡ true → is_synced ≡ true) → Keeps before (Some (record s { is_synced = is_synced }))
synced_keeps before s is_synced is up =
    subst (λ (o : Option Sight). Keeps o (Some (record s { is_synced = is_synced }))) (sym is)
    (record { under = λ boot so. so; synced = λ boot so. (so.0, up so.1); sure = λ boot so. so; known = λ boot so. so })

pub read_keeps : (before : Option Sight) (s : Sight) (is_sure : Bool) (numbers : List ℕ) → before ≡ Some s → (s.is_sure ≡ true → is_sure ≡ true) →
    Keeps before (Some (record s { is_sure = is_sure; numbers = Some numbers }))
read_keeps before s is_sure numbers is up =
    subst (λ (o : Option Sight). Keeps o (Some (record s { is_sure = is_sure; numbers = Some numbers }))) (sym is)
    (record {
      under = λ boot so. so;
      synced = λ boot so. so;
      sure = λ boot so. (so.0, up so.1);
      known = λ boot so. known_under (record s { is_sure = is_sure; numbers = Some numbers }) boot (only_under s boot so) refl;
    })

module _ (n : ℕ) (e : Epoch) (host : ℕ) (past : Past) where
  -- behind an attach nothing is sure, and the numbers are those of the same boot number
  pub attached_knows : (boot : Boot) (numbers : Option (List ℕ)) → AreNumbersOf n e.area boot.number numbers past →
      Knows n e host (past ++ made Attach (Booted boot.number) ∷ []) (record { boot = boot; is_synced = false; is_sure = false; numbers = numbers })
  attached_knows boot numbers are =
      record {
        attached = record { before = past; behind = []; is = refl; last = tt };
        synced = λ so. absurd (let wrong : false ≡ true = so in cc);
        sure = λ so. absurd (let wrong : false ≡ true = so in cc);
        numbers = numbers_of_more n e host past (made Attach (Booted boot.number)) boot.number numbers are;
      }

  abbrev sync_of : ℕ → Past
  sync_of boot = past ++ made (Sync boot) Done ∷ []

  pub synced_knows : (s : Sight) (boot : ℕ) (is_synced : Bool) → (is_synced ≡ true → (s.is_synced ≡ true) ⊎ (s.boot.number ≡ boot)) → Knows n e host past s →
      Knows n e host (sync_of boot) (record s { is_synced = is_synced })
  synced_knows s boot is_synced why is =
      let m = made (Sync boot) Done in
      record {
        attached = attached_more n e host past m tt tt s.boot.number is.attached;
        synced =
            λ so.
            elim (why so) [
              | inl before ↦ synced_more n e host past m tt tt s.boot.number (is.synced before)
              | inr same ↦
                  subst (λ (b : ℕ). IsSynced n e.area host b (sync_of boot)) (sym same)
                  (record { before = past; behind = []; is = refl; last = tt; still = tt })
            ];
        sure = λ so. sure_more n e host past m tt (is.sure so);
        numbers = numbers_of_more n e host past m s.boot.number s.numbers is.numbers;
      }

  module _ (row numbers : List ℕ) (says : AreSaid row numbers) where
    pub now_sure : (boot : ℕ) → numbers_in row host ≡ e.number → IsSynced n e.area host boot past → IsSureOf n e.area host e.number (past ++ reading n e.area boot row ∷ [])
    now_sure boot inside is =
        record {
          boot = boot;
          row = row;
          before = is.before;
          between = is.behind;
          behind = [];
          is = ap (λ (p : Past). p ++ reading n e.area boot row ∷ []) is.is;
          read = inside;
          still = subst (AllSpare (number_place n e.area host) BLOCK_LENGTH) (sym (append-nil is.behind)) is.still;
        }

    pub read_knows : (s : Sight) (is_sure : Bool) → (is_sure ≡ true → (s.is_sure ≡ true) ⊎ ((s.is_synced ≡ true) × (numbers_in row host ≡ e.number))) → Knows n e host past s →
        Knows n e host (past ++ reading n e.area s.boot.number row ∷ []) (record s { is_sure = is_sure; numbers = Some numbers })
    read_knows s is_sure why is =
        let m = reading n e.area s.boot.number row in
        record {
          attached = attached_more n e host past m tt tt s.boot.number is.attached;
          synced = λ so. synced_more n e host past m tt tt s.boot.number (is.synced so);
          sure =
              λ so.
              elim (why so) [
                | inl before ↦ sure_more n e host past m tt (is.sure before)
                | inr synced ↦ now_sure s.boot.number synced.1 (is.synced synced.0)
              ];
          numbers = record { row = row; early = past; later = []; is = refl; says = says };
        }
