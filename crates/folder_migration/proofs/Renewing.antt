-- A table that was carried over onto new images.
use Rattle.std.proofs.Common.{◌≡◌, ◌<◌, ◌+◌, ◌∷◌, [], ℕ, Bool, true, false, cond, List, None, Some, drop, find, get_or, length, map, take, ◌∙◌, ap, subst, sym}
use Rattle.std.specs.Option.{option_or}
use Rattle.std.proofs.lemmas.List.{length-map, take-append-drop, take_more}
use Rattle.std.proofs.lemmas.List.Folds.{find-append}
use Rattle.disk.specs.Disk.{Call, Answer}
use Rattle.paxos_block.specs.Shape.{Shape}
use Rattle.lock_command.specs.declared.command.Command.{Command}
use Rattle.lock_command.specs.Command.{spelling}
use Rattle.lock_table.specs.Apply.{table_after}
use Rattle.lock_table.specs.Picture.{Shown, IsPictureOf}
use Rattle.migration.specs.Kept.{setup_by}
use Rattle.migration.specs.declared.end.End.{End}
use Rattle.folder_migration.specs.Moving.{HasMoved}
use Rattle.folder_migration.specs.Renewing.{Carries, carried_without, first_with_locks}

-- what a table shows was written onto the disks that were made
pub carries : {E : Type 0} (gives : E → Call → Answer → E → Type 0) (makes : List E → Type 0) (config : Shape) (cluster : ℕ) (leave : List ℕ) (learned : List Command) (shown : Shown) (log : List (List ℕ)) (blank images new : List E) (commands : ℕ) (end : End)
    → IsPictureOf shown (table_after learned) → first_with_locks leave shown ≡ None → log ≡ map spelling (carried_without leave shown) → makes blank → images ≡ blank → HasMoved gives (setup_by config cluster log) images new end → commands ≡ length log → commands < config.slots
    → Carries gives makes config cluster leave learned commands end
carries {E} gives makes config cluster leave learned shown log blank images new commands end pictured lockless is made same moves count free = record {
  shown = shown;
  pictured = pictured;
  lockless = lockless;
  blank = blank;
  new = new;
  made = made;
  moves =
      subst (λ (l : List (List ℕ)). HasMoved gives (setup_by config cluster l) blank new end) is
      (subst (λ (l : List E). HasMoved gives (setup_by config cluster log) l new end) same moves);
  commands_is = count ∙ ap length is ∙ length-map (carried_without leave shown) spelling;
  free = free;
}

-- THE FIRST CLIENT THAT HAS A LOCK

find_more : {X : Type 0} (p : X → Bool) (xs : List X) (i : ℕ) (d : X) → i < length xs → find p (take i xs) ≡ None → find p (take (i + 1) xs) ≡ cond (p (get_or xs i d)) (Some (get_or xs i d)) None
find_more p xs i d inside none =
    ap (find p) (take_more xs i d inside)
    ∙ find-append p (take i xs) (get_or xs i d ∷ [])
    ∙ ap (λ o. option_or o (find p (get_or xs i d ∷ []))) none

-- none is found, also with the next one
pub none_more : {X : Type 0} (p : X → Bool) (xs : List X) (i : ℕ) (d : X) → i < length xs → find p (take i xs) ≡ None → p (get_or xs i d) ≡ false → find p (take (i + 1) xs) ≡ None
none_more p xs i d inside none fails = find_more p xs i d inside none ∙ ap (λ b. cond b (Some (get_or xs i d)) None) fails

-- the next one is the first
pub first_more : {X : Type 0} (p : X → Bool) (xs : List X) (i : ℕ) (d : X) → i < length xs → find p (take i xs) ≡ None → p (get_or xs i d) ≡ true → find p xs ≡ Some (get_or xs i d)
first_more p xs i d inside none passes =
    ap (find p) (sym (take-append-drop (i + 1) xs))
    ∙ find-append p (take (i + 1) xs) (drop (i + 1) xs)
    ∙ ap (λ o. option_or o (find p (drop (i + 1) xs))) (find_more p xs i d inside none ∙ ap (λ b. cond b (Some (get_or xs i d)) None) passes)
