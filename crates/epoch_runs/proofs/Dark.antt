-- Where a disk loses power no host runs in any epoch.
use Rattle.std.specs.Prelude.{take, slice_get}
use Rattle.std.specs.Prelude.{◌||◌}
use Rattle.std.proofs.Common.{ℕ, zero, suc, ◌≡◌, ◌==◌, Bool, true, false, cond, Option, Some, None, List, [], ◌∷◌, ◌++◌, refl, sym, subst}
use Rattle.paxos_block.specs.Shape.{Shape}
use Rattle.host.specs.Host.{Host, Stopped}
use Rattle.world.specs.Entry.{Filled, Start, Stop, Begin, Called, Torn, Crashed, Lost, Migrated, is_of, of_host, host_step, host_after}
use Rattle.endless.specs.Lived.{Lived, In, part}
use Rattle.epoch_deeds.specs.Deeds.{Calls, CallsIn, Starts, Begins, Stops}
use Rattle.epoch_runs.specs.World.{Entry, Does, Breaks, BreaksIn, Ends, Crashes, Loses, Replaces, World, opening, deeds_after, after, power_losses, GoesFrom, Goes}
use Rattle.epoch_runs.specs.Living.{is_row, Showing, showing_next, shows_row, below, stops_below, has_stopped, others_stop, lived_at, lived_from, lived_of, core_now}
use Rattle.epoch_runs.proofs.Hosts.{step, first_now}
use Rattle.epoch_runs.proofs.Lists.{part_both}

module _ (c : Shape) (h : ℕ) where
  -- where one of these is a crash the host has stopped before it
  abbrev pub IsDark : Host → List Filled → Type 0
  IsDark host es = (i k : ℕ) (left : List ℕ) → slice_get es i ≡ Some (Crashed k left) → host_after c h host (of_host h (take i es)) ≡ Stopped

  dark_both : (host : Host) (one more : List Filled) → IsDark host one → IsDark (host_after c h host (of_host h one)) more → IsDark host (one ++ more)
  dark_both host [] more first then i k left is = then i k left is
  dark_both host (x ∷ one) more first then zero k left is = first zero k left is
  dark_both host (x ∷ one) more first then (suc i) k left is = either (is_of h x) refl (λ other before behind. dark_both other one more before behind i k left is)
    where
      Rest : Type 0
      Rest = (other : Host) → IsDark other one → IsDark (host_after c h other (of_host h one)) more → host_after c h other (of_host h (take i (one ++ more))) ≡ Stopped

      either : (b : Bool) → is_of h x ≡ b → Rest → host_after c h host (cond b (x ∷ of_host h (take i (one ++ more))) (of_host h (take i (one ++ more)))) ≡ Stopped
      either true own rest =
          rest (host_step c h host x)
          (λ j d bytes at. subst (λ (b : Bool). host_after c h host (cond b (x ∷ of_host h (take j one)) (of_host h (take j one))) ≡ Stopped) own (first (suc j) d bytes at))
          (subst (λ (b : Bool). IsDark (host_after c h host (cond b (x ∷ of_host h one) (of_host h one))) more) own then)
      either false own rest =
          rest host (λ j d bytes at. subst (λ (b : Bool). host_after c h host (cond b (x ∷ of_host h (take j one)) (of_host h (take j one))) ≡ Stopped) own (first (suc j) d bytes at))
          (subst (λ (b : Bool). IsDark (host_after c h host (cond b (x ∷ of_host h one) (of_host h one))) more) own then)

-- none of these is a crash
HasNone : List Filled → Type 0
HasNone es = (i k : ℕ) (left : List ℕ) → slice_get es i ≡ Some (Crashed k left) → ⊥

abbrev IsOther : Filled → Type 0
IsOther (Crashed k left) = ⊥
IsOther other = Unit {0}

none_of_none : HasNone []
unfolding HasNone
none_of_none i k left is = absurd (cc)

none_more : (x : Filled) (es : List Filled) → IsOther x → HasNone es → HasNone (x ∷ es)
unfolding HasNone
none_more (Crashed d bytes) es other none zero k left is = absurd other
none_more (Start h) es other none zero k left is = absurd (cc)
none_more (Stop h) es other none zero k left is = absurd (cc)
none_more (Begin h task) es other none zero k left is = absurd (cc)
none_more (Called h d call answer bytes) es other none zero k left is = absurd (cc)
none_more (Torn h d call bytes) es other none zero k left is = absurd (cc)
none_more (Lost d) es other none zero k left is = absurd (cc)
none_more (Migrated disks log) es other none zero k left is = absurd (cc)
none_more x es other none (suc i) k left is = none i k left is

none_in : (e epoch : ℕ) (entry : Filled) (rest : List Lived) → IsOther entry → HasNone (part e rest) → HasNone (part e (In epoch entry ∷ rest))
none_in e epoch entry rest other none = either (epoch == e)
  where
    either : (b : Bool) → HasNone (cond b (entry ∷ part e rest) (part e rest))
    either true = none_more entry (part e rest) other none
    either false = none

stops_none : (e h : ℕ) (stopped : ℕ → Bool) (n : ℕ) → HasNone (part e (stops_below h stopped n))
stops_none e h stopped zero = none_of_none
stops_none e h stopped (suc n) = either (stopped n) (stops_none e h stopped n)
  where
    either : (b : Bool) → HasNone (part e (stops_below h stopped n)) → HasNone (part e (cond b (stops_below h stopped n) (In n (Stop h) ∷ stops_below h stopped n)))
    either true rest = rest
    either false rest = none_in e n (Stop h) (stops_below h stopped n) tt rest

none_dark : (c : Shape) (h : ℕ) (host : Host) (es : List Filled) → HasNone es → IsDark c h host es
unfolding HasNone
none_dark c h host es none i k left is = absurd (none i k left is)

module _ (c : Shape) (h e : ℕ) where
  dark_at : (entries : List Entry) (w : World) (entry : Entry) → GoesFrom power_losses c w (entry ∷ entries) → IsDark c h (core_now c h e w.deeds (entry ∷ entries)) (part e (lived_at c w.deeds entry entries))
  dark_at entries w (Does g (Calls d made)) goes i k left is = none_dark c h _ (part e (lived_at c w.deeds (Does g (Calls d made)) entries)) (either (showing_next g entries)) i k left is
    where
      either : (next : Option Showing) → HasNone (part e (shows_row g d next))
      either None = none_of_none
      either (Some s) = none_in e s.epoch (Called g d s.call s.heard []) [] tt none_of_none
  dark_at entries w (Does g (CallsIn epoch d made call heard)) goes i k left is = none_dark c h _ (part e (lived_at c w.deeds (Does g (CallsIn epoch d made call heard)) entries)) (either (is_row call heard)) i k left is
    where
      either : (b : Bool) → HasNone (part e (cond b [] (In epoch (Called g d call heard []) ∷ [])))
      either true = none_of_none
      either false = none_in e epoch (Called g d call heard []) [] tt none_of_none
  dark_at entries w (Does g (Starts epoch)) goes i k left is = none_dark c h _ (part e (In epoch (Start g) ∷ [])) (none_in e epoch (Start g) [] tt none_of_none) i k left is
  dark_at entries w (Does g (Begins epoch task)) goes i k left is = none_dark c h _ (part e (In epoch (Begin g task) ∷ [])) (none_in e epoch (Begin g task) [] tt none_of_none) i k left is
  dark_at entries w (Does g (Stops epoch)) goes i k left is = none_dark c h _ (part e (In epoch (Stop g) ∷ [])) (none_in e epoch (Stop g) [] tt none_of_none) i k left is
  dark_at entries w (Breaks g d call) goes i k left is = none_dark c h _ (part e (lived_at c w.deeds (Breaks g d call) entries)) (stops_none e g (has_stopped c g (w.deeds g)) (below (w.deeds g))) i k left is
  dark_at entries w (BreaksIn epoch g d call) goes i k left is =
      none_dark c h _ (part e (lived_at c w.deeds (BreaksIn epoch g d call) entries))
      (none_in e epoch (Torn g d call []) (others_stop c g epoch (w.deeds g)) tt (stops_none e g (λ x. epoch == x || has_stopped c g (w.deeds g) x) (below (w.deeds g)))) i k left is
  dark_at entries w (Ends g) goes i k left is = none_dark c h _ (part e (lived_at c w.deeds (Ends g) entries)) (stops_none e g (has_stopped c g (w.deeds g)) (below (w.deeds g))) i k left is
  dark_at entries w (Loses d) goes i k left is = none_dark c h _ (Lost d ∷ []) (none_more (Lost d) [] tt none_of_none) i k left is
  dark_at entries w (Replaces d first newest) goes i k left is = none_dark c h _ [] none_of_none i k left is
  dark_at entries w (Crashes d) goes zero k left is = first_now power_losses c h e (Crashes d ∷ entries) w goes (goes.1.3 h)
  dark_at entries w (Crashes d) goes (suc i) k left is = absurd (cc)

  dark_from : (entries : List Entry) (w : World) → GoesFrom power_losses c w entries → IsDark c h (core_now c h e w.deeds entries) (part e (lived_from c w.deeds entries))
  dark_from [] w goes i k left is = absurd (cc)
  dark_from (entry ∷ entries) w goes i k left is =
      subst (IsDark c h (core_now c h e w.deeds (entry ∷ entries))) (sym (part_both e (lived_at c w.deeds entry entries) (lived_from c (deeds_after w.deeds entry) entries)))
      (dark_both c h (core_now c h e w.deeds (entry ∷ entries)) (part e (lived_at c w.deeds entry entries)) (part e (lived_from c (deeds_after w.deeds entry) entries)) (dark_at entries w entry goes)
      (subst (λ (host : Host). IsDark c h host (part e (lived_from c (deeds_after w.deeds entry) entries))) (sym (step power_losses c w entries e entry goes.0 h goes.1 goes.2).1) (dark_from entries (after w entry goes.0) goes.2))) i k left is

pub all_dark : (c : Shape) (entries : List Entry) → Goes power_losses c entries → (e h : ℕ) → IsDark c h Stopped (part e (lived_of c entries))
all_dark c entries goes e h =
    subst (λ (host : Host). IsDark c h host (part e (lived_of c entries))) (first_now power_losses c h e entries (opening c) goes refl) (dark_from c h e entries (opening c) goes)
