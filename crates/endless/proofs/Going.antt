-- Tables go on from epoch to epoch.
use Rattle.std.specs.List.{fold}
use Rattle.std.proofs.Common.{ℕ, zero, suc, ◌<◌, ◌≤◌, ◌≡◌, List, [], ◌∷◌, ◌++◌, length, drop, refl, sym, subst, ap, arith}
use Rattle.lock_command.specs.declared.command.Command.{Command}
use Rattle.lock_table.specs.Apply.{Plain, applied, table_after, no_locks}
use Rattle.lock_table.specs.Carrying.{carried_over}
use Rattle.lock_table.specs.Picture.{Shown, HasZeros, IsPictureOf, pictured}
use Rattle.lock_table.proofs.Behave.{reachable_distinct, zeros-applied}
use Rattle.lock_table.proofs.Carrying.{pictured_later, replied_later}
use Rattle.lock_table.proofs.Pictures.{picture_of_pictured}
use Rattle.lock_table.proofs.Unique.{one_shown}
use Rattle.paxos_block.specs.Shape.{Shape}
use Rattle.world.specs.Entry.{Filled}
use Rattle.world.specs.Headline.{prefix_at}
use Rattle.endless.specs.Epochs.{IsChain, all_later, IsAsAfter, TablesGoOn, IsEndless, carried_by, HasGoneOn, EpochsGoOn}
use Rattle.endless.proofs.First.{prefix_first}

-- each table that commands leave has a picture
zeros_from : (commands : List Command) (t : Plain) → HasZeros t.locks t.values → HasZeros (fold (λ u c. (applied u c).table) t commands).locks (fold (λ u c. (applied u c).table) t commands).values
zeros_from [] t has = has
zeros_from (command ∷ commands) t has = zeros_from commands (applied t command).table (zeros-applied t command has)

pub has_picture : (commands : List Command) → IsPictureOf (pictured (table_after commands)) (table_after commands)
has_picture commands = picture_of_pictured (table_after commands) (reachable_distinct commands) (zeros_from commands no_locks (λ name none. refl))

-- what shows what other commands leave has the one picture of it
same_picture : (learned others : List Command) (shown : Shown) → IsAsAfter learned others → IsPictureOf shown (table_after learned) → IsPictureOf shown (table_after others)
same_picture learned others shown as_after is =
    let own = has_picture others in
    subst (λ (s : Shown). IsPictureOf s (table_after others)) (one_shown (table_after learned) (pictured (table_after others)) shown (as_after.shows (pictured (table_after others)) own) is) own

-- one epoch more
pub one_more : (learned others own : List Command) (shown : Shown) → IsAsAfter learned others → IsPictureOf shown (table_after learned) → IsAsAfter (carried_over shown ++ own) (others ++ own)
one_more learned others own shown as_after is =
    let there = same_picture learned others shown as_after is in
    record {
      shows = λ after then. pictured_later others own shown after there then;
      replies = λ command. replied_later others own shown command there;
    }

pub same_list : (learned others : List Command) → learned ≡ others → IsAsAfter learned others
same_list learned others same = record {
  shows = λ after is. subst (λ (l : List Command). IsPictureOf after (table_after l)) (sym same) is;
  replies = λ command. ap (λ (l : List Command). (applied (table_after l) command).reply) same;
}

pub of_list : (learned same others : List Command) → learned ≡ same → IsAsAfter same others → IsAsAfter learned others
of_list learned same others is as_after = subst (λ (l : List Command). IsAsAfter l others) (sym is) as_after

pub tables_go_on : TablesGoOn
tables_go_on last logs later shown chain zero reached = same_list (logs zero) (later zero) chain.first
tables_go_on last logs later shown chain (suc e) reached =
    let before : IsAsAfter (logs e) (all_later later e) = tables_go_on last logs later shown chain e (omega (arith, reached)) in
    of_list (logs (suc e)) (carried_over (shown e) ++ later (suc e)) (all_later later e ++ later (suc e)) (chain.next e (omega (arith, reached)))
    (one_more (logs e) (all_later later e) (later (suc e)) (shown e) before (chain.pictured e (omega (arith, reached))))

module _ (c : Shape) (last : ℕ) (runs : ℕ → List Filled) (shown : ℕ → Shown) (is : IsEndless c last runs shown) where
  abbrev full : ℕ → List Command
  full e = prefix_at c (runs e) (is.place e) (is.host e)

  later : ℕ → List Command
  later zero = full zero
  later (suc e) = drop (length (carried_over (shown e))) (full (suc e))

  -- what a host has learned of the next epoch
  begun : (e i h : ℕ) → e < last → length (carried_over (shown e)) ≤ length (prefix_at c (runs (suc e)) i h)
      → prefix_at c (runs (suc e)) i h ≡ carried_over (shown e) ++ drop (length (carried_over (shown e))) (prefix_at c (runs (suc e)) i h)
  begun e i h less fits =
      prefix_first c (runs (suc e)) (carried_over (shown e)) (is.is_run (suc e)) (is.fresh (suc e)) (is.carries e less) i h fits

  whole : (e : ℕ) → e < last → full e ≡ carried_by shown e ++ later e
  unfolding later
  whole zero less = refl
  whole (suc e) less =
      let long = is.full (suc e) less in
      let fits = is.fits e (omega (arith, less)) in
      begun e (is.place (suc e)) (is.host (suc e)) (omega (arith, less)) (omega (arith, long, fits))

  chain : (e : ℕ) → e < last → IsChain e full later shown
  chain e less =
      record {
        first = whole zero (omega (arith, less));
        next = λ k below. whole (suc k) (omega (arith, below, less));
        pictured = λ k below. is.pictured k (omega (arith, below, less));
      }

  gone : (e i h : ℕ) → e ≤ last → length (carried_by shown e) ≤ length (prefix_at c (runs e) i h) → HasGoneOn later shown e (prefix_at c (runs e) i h)
  gone zero i h reached fits = record { own = prefix_at c (runs zero) i h; is = refl; as_after = same_list _ _ refl }
  gone (suc e) i h reached fits =
      let less : e < last = omega (arith, reached) in
      let own = drop (length (carried_over (shown e))) (prefix_at c (runs (suc e)) i h) in
      let same = begun e i h less fits in
      let before : IsAsAfter (full e) (all_later later e) = tables_go_on e full later shown (chain e less) e (omega arith) in
      record {
        own = own;
        is = same;
        as_after =
            of_list (prefix_at c (runs (suc e)) i h) (carried_over (shown e) ++ own) (all_later later e ++ own) same
            (one_more (full e) (all_later later e) own (shown e) before (is.pictured e less));
      }

pub epochs_go_on : EpochsGoOn
epochs_go_on c last runs shown is = (later c last runs shown is, whole c last runs shown is, gone c last runs shown is)
