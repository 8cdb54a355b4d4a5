-- There is no second log of all epochs, and long epochs have room for what carries a table over.
use Rattle.std.specs.Prelude.{◌-◌, drop, slice_get}
use Rattle.std.proofs.Common.{ℕ, zero, suc, ◌≤◌, ◌≡◌, Some, List, [], length, sym, subst, ap, ap₂, ◌∙◌, arith, inl, inr, ◌<◌}
use Rattle.std.proofs.lemmas.Bool.{cases_lt}
use Rattle.lock_command.specs.declared.command.Command.{Command}
use Rattle.lock_command.specs.Command.{spelling}
use Rattle.lock_table.specs.Apply.{table_after}
use Rattle.lock_table.specs.Carrying.{carried_over}
use Rattle.lock_table.specs.Picture.{IsPictureOf}
use Rattle.lock_table.proofs.Carrying.{carried_few}
use Rattle.lock_table.proofs.Unique.{one_shown}
use Rattle.paxos_block.specs.Shape.{Shape}
use Rattle.host.specs.declared.task.Task.TheVariants.{Submit}
use Rattle.world.specs.Entry.{Begin}
use Rattle.world.specs.World.{IsRun, ReadsBack}
use Rattle.world.specs.Chosen.{migrated}
use Rattle.world.proofs.Runs.{each}
use Rattle.world_safety.proofs.Claims.Renewing.{full_logs_are_final}
use Rattle.world_safety.proofs.Runs.Commands.{begins_by, map_item, one_command}
use Rattle.endless.specs.Headline.{learned_in, CarriesInto, Stretch, place_of, log_of, ComesFrom, HasOneLogWithoutEnd, EndlessLogsAreOne, LongEpochsHaveRoom}
use Rattle.endless.specs.Lived.{Lived, part, now}
use Rattle.endless.proofs.Headline.{upto_last}
use Rattle.endless.proofs.Lists.{prefix_get, item_below, get_from, drop_get, prefix_both}

module _ (c : Shape) (lived : List Lived) (run : (e : ℕ) → IsRun c (part e lived)) (fresh : (e : ℕ) → migrated (part (suc e) lived) ≡ []) where
  -- whoever has learned an epoch whole carries the same over
  over_same : (e : ℕ) (over other : List Command) → CarriesInto c lived e over → CarriesInto c lived e other → over ≡ other
  over_same zero over other one two = one ∙ sym two
  over_same (suc e) over other (i, h, shown, full, pictured, is) (j, g, seen, whole, drawn, also) =
      let same : learned_in c lived j e g ≡ learned_in c lived i e h = full_logs_are_final c (part e lived) (run e) (now e j lived) (now e i lived) g h whole full in
      let there : IsPictureOf seen (table_after (learned_in c lived i e h)) = subst (λ (l : List Command). IsPictureOf seen (table_after l)) same drawn in
      is ∙ ap carried_over (one_shown (table_after (learned_in c lived i e h)) shown seen pictured there) ∙ sym also

  reads : (last : ℕ) (stretch : ℕ → Stretch) (n : ℕ) (command : Command) → ComesFrom c lived last stretch n command → ReadsBack command
  reads last stretch n command from = (each c (part from.epoch lived) from.place (Begin from.host (Submit command from.tries)) (run from.epoch) from.submitted).1.0

  module _ (a b : HasOneLogWithoutEnd c lived) where
    same_stretch : (e : ℕ) → e ≤ a.last → e ≤ b.last → a.stretch e ≡ b.stretch e
    same_stretch zero one two = a.first ∙ sym b.first
    same_stretch (suc e) one two =
        let before = same_stretch e (omega (arith, one)) (omega (arith, two)) in
        let overs = over_same (suc e) (a.stretch (suc e)).over (b.stretch (suc e)).over (a.over e (omega (arith, one))) (b.over e (omega (arith, two))) in
        let behinds : (a.stretch (suc e)).behind ≡ (b.stretch (suc e)).behind =
        a.next e (omega (arith, one)) ∙ ap (λ (s : Stretch). place_of s c.slots) before ∙ sym (b.next e (omega (arith, two))) in
        ap₂ (λ (o : List Command) (n : ℕ). record { over = o; behind = n }) overs behinds

    -- what was migrated begins both
    stands_first : (n : ℕ) (command : Command) → n < length (migrated (part zero lived)) → slice_get a.commands n ≡ Some command → slice_get b.commands n ≡ Some command
    stands_first n command early found =
        let first = migrated (part zero lived) in
        let item = item_below first n early in
        let here = prefix_get first a.commands n item.0 a.begun item.1 in
        let same : Some item.0 ≡ Some command = sym here ∙ found in
        prefix_get first b.commands n item.0 b.begun item.1 ∙ same

    stands_later : (n : ℕ) (command : Command) → length (migrated (part zero lived)) ≤ n → slice_get a.commands n ≡ Some command → slice_get b.commands n ≡ Some command
    stands_later n command late found =
        let from = a.submitted n command late found in
        let same = same_stretch from.epoch from.upto (upto_last c lived b.last run fresh b.none from.epoch from.slot (spelling command) from.chosen) in
        let s = b.stretch from.epoch in
        let item = map_item (log_of b.commands s) from.slot (spelling command) (b.one from.epoch from.slot (spelling command) from.chosen) in
        let past : length s.over ≤ from.slot = subst (λ (t : Stretch). length t.over ≤ from.slot) same from.behind in
        let there : n ≡ place_of s from.slot = sym from.there ∙ ap (λ (t : Stretch). place_of t from.slot) same in
        let is : slice_get b.commands n ≡ Some item.0 = drop_get s.behind b.commands (from.slot - length s.over) item.0 n (get_from s.over (drop s.behind b.commands) from.slot item.0 item.1 past) there in
        is ∙ ap Some (one_command item.0 command (reads b.last b.stretch n item.0 (b.submitted n item.0 late is)) (reads a.last a.stretch n command from) item.2)

    stands : (n : ℕ) (command : Command) → slice_get a.commands n ≡ Some command → slice_get b.commands n ≡ Some command
    stands n command found = elim (cases_lt n (length (migrated (part zero lived)))) [ inl early ↦ stands_first n command early found | inr late ↦ stands_later n command late found ]

pub endless_logs_are_one : EndlessLogsAreOne
endless_logs_are_one c lived run fresh a b =
    prefix_both a.commands b.commands (begins_by a.commands b.commands (stands c lived run fresh a b)) (begins_by b.commands a.commands (stands c lived run fresh b a))

pub long_epochs_have_room : LongEpochsHaveRoom
long_epochs_have_room c lived zero over long is = let many = ap (λ (l : List Command). length l) is in omega (arith, many)
long_epochs_have_room c lived (suc e) over long (i, h, shown, full, pictured, is) =
    let few = carried_few (learned_in c lived i e h) shown pictured in
    let many = ap (λ (l : List Command). length l) is in
    omega (arith, few, many, long)
