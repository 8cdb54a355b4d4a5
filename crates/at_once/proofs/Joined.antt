-- What hosts keep goes by the one log of the run.
use Rattle.std.specs.Prelude.{take, drop, slice_get}
use Rattle.std.proofs.Common.{ℕ, zero, suc, ◌+◌, ◌<◌, ◌≤◌, ◌≡◌, Some, List, [], ◌∷◌, ◌++◌, length, refl, sym, subst, ap, ◌∙◌, append_assoc, arith}
use Rattle.std.proofs.lemmas.List.{take-append-drop, take-take, length-append}
use Rattle.lock_command.specs.declared.command.Command.{Command}
use Rattle.lock_command.specs.declared.reply.Reply.{Reply}
use Rattle.paxos_block.specs.Shape.{Shape}
use Rattle.host.specs.Host.{learned_of, reply_after}
use Rattle.host.specs.Kept.{Kept}
use Rattle.world.specs.Entry.{Filled}
use Rattle.world.specs.Chosen.{migrated}
use Rattle.world.specs.Headline.{IsPrefix, prefix_at}
use Rattle.dlm_images.specs.Operations.{IsAcknowledged}
use Rattle.at_once.specs.AtOnce.{IsRunOf}
use Rattle.at_once.proofs.Recovered.{begins_alike, says, holds}
use Rattle.at_once.specs.Joined.{HasCome, HasRecovered, DeedsAreJoined}

module _ {A : Type 0} where
  next_of_some : (before : List A) (x : A) (rest : List A) → slice_get (before ++ x ∷ rest) (length before) ≡ Some x
  next_of_some [] x rest = refl
  next_of_some (y ∷ before) x rest = next_of_some before x rest

  those_before : (before : List A) (rest : List A) → take (length before) (before ++ rest) ≡ before
  those_before [] rest = refl
  those_before (y ∷ before) rest = ap (λ (l : List A). y ∷ l) (those_before before rest)

  those_below : (l : List A) (n k : ℕ) → k < n → slice_get (take n l) k ≡ slice_get l k
  those_below l zero k below = absurd (omega (arith, below))
  those_below [] (suc n) k below = refl
  those_below (x ∷ l) (suc n) zero below = refl
  those_below (x ∷ l) (suc n) (suc k) below = those_below l n k (omega (arith, below))

  -- the last of a list stands within it
  last_within : (l before : List A) (x : A) → l ≡ before ++ x ∷ [] → length before < length l
  last_within l before x is = let long : length l ≡ length before + 1 = ap length is ∙ length-append before (x ∷ []) in omega (arith, long)

  -- a list that begins with these and this one goes on after them
  goes_on : (short long before : List A) (x : A) → IsPrefix short long → short ≡ before ++ x ∷ [] → long ≡ before ++ x ∷ drop (length short) long
  goes_on short long before x begins is =
      let rest = drop (length short) long in
      sym (take-append-drop (length short) long) ∙ ap (λ (l : List A). l ++ rest) (sym begins ∙ is) ∙ append_assoc before (x ∷ []) rest

module _ (c : Shape) (log : List Filled) (of : IsRunOf c log) where
  -- what it keeps is what it has learned in the run
  kept_is : (i h : ℕ) (kept : Kept) → HasCome c log i h kept → prefix_at c of.run i h ≡ kept.prefix
  kept_is i h kept come =
      ap learned_of (of.hosts i h ∙ come.knows) ∙ sym come.leads.prefix

  begun : IsPrefix (migrated log) of.one.commands
  begun = subst (λ (l : List Command). IsPrefix l of.one.commands) (begins_alike c log of) of.one.is_safe.begun

  learned : (i h : ℕ) (kept : Kept) → HasCome c log i h kept → IsPrefix kept.prefix of.one.commands
  learned i h kept come = subst (λ (l : List Command). IsPrefix l of.one.commands) (kept_is i h kept come) (of.one.is_safe.prefix i h)

  acknowledged : (i h : ℕ) (kept : Kept) (command : Command) (slot : ℕ) (reply : Reply) → HasCome c log i h kept →
      IsAcknowledged command slot reply kept.prefix → (slice_get of.one.commands slot ≡ Some command) × (reply ≡ reply_after (take slot of.one.commands) command)
  acknowledged i h kept command slot reply come ack =
      let commands = of.one.commands in
      let rest = drop (length kept.prefix) commands in
      let is : commands ≡ ack.before ++ command ∷ rest = goes_on kept.prefix commands ack.before command (learned i h kept come) ack.last in
      let first : take slot commands ≡ ack.before = ap (λ (n : ℕ). take n commands) ack.at ∙ ap (take (length ack.before)) is ∙ those_before ack.before (command ∷ rest) in (
        ap (slice_get commands) ack.at ∙ ap (λ (l : List Command). slice_get l (length ack.before)) is ∙ next_of_some ack.before command rest,
        ack.replied ∙ ap (λ (l : List Command). reply_after l command) (sym first),
      )

  recovered : (i j h n : ℕ) (kept : Kept) → HasRecovered c log i j h n kept → (n ≤ length of.one.commands) × (kept.prefix ≡ take n of.one.commands)
  recovered i j h n kept r =
      let told = of.one.is_safe.recovered j h n (says c log of i j h n kept r) in
      (told.0, sym (kept_is (j + 1) h kept r.come) ∙ told.1)

  -- a recovery has what was migrated
  moved : (i j h n : ℕ) (kept : Kept) → HasRecovered c log i j h n kept → IsPrefix (migrated log) kept.prefix
  moved i j h n kept r =
      let commands = of.one.commands in
      let few : length (migrated log) ≤ n = subst (λ (l : List Command). length l ≤ n) (begins_alike c log of) (of.one.is_safe.keeps j h n (says c log of i j h n kept r)) in
      begun ∙ sym (take-take (length (migrated log)) n commands few) ∙ ap (take (length (migrated log))) (sym (recovered i j h n kept r).1)

  -- a recovery holds what had been learned by then
  held : (k i j g h n : ℕ) (other kept : Kept) → k ≤ i → HasCome c log k g other → HasRecovered c log i j h n kept → length other.prefix ≤ n
  held k i j g h n other kept by come r = holds c log of i j h n kept r k g other by (kept_is k g other come)

  keeps : (k i j g h n : ℕ) (other kept : Kept) (command : Command) (slot : ℕ) (reply : Reply) → k ≤ i → HasCome c log k g other →
      IsAcknowledged command slot reply other.prefix → HasRecovered c log i j h n kept → slice_get kept.prefix slot ≡ Some command
  keeps k i j g h n other kept command slot reply by come ack r =
      let below : slot < n = (let last = last_within other.prefix ack.before command ack.last in omega (arith, last, ack.at, held k i j g h n other kept by come r)) in
      ap (λ (l : List Command). slice_get l slot) (recovered i j h n kept r).1 ∙ those_below of.one.commands n slot below ∙ (acknowledged k g other command slot reply come ack).0

pub deeds_are_joined : DeedsAreJoined
deeds_are_joined c log of = record {
  begun = begun c log of;
  learned = learned c log of;
  acknowledged = acknowledged c log of;
  recovered = recovered c log of;
  moved = moved c log of;
  holds = held c log of;
  keeps = keeps c log of;
}
