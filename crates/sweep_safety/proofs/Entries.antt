-- Lists of entries that begin another one, what a host did by each, and the one log of all.
use Rattle.std.proofs.Common.{ℕ, ◌+◌, ◌≤◌, ◌≡◌, List, [], ◌∷◌, ◌++◌, length, take, refl, sym, ap, ◌∙◌, subst, inl, inr, append_assoc, append-nil, length-append, arith}
use Rattle.std.proofs.lemmas.Bool.{cases_Bool}
use Rattle.std.proofs.Math.Seq.{take-append_seam}
use Rattle.lock_command.specs.declared.record.TheConstants.{LOCKS}
use Rattle.lock_table.specs.declared.clients.TheConstants.{CLIENTS}
use Rattle.paxos_block.specs.Shape.{Shape}
use Rattle.epoch_deeds.specs.Deeds.{Deeds}
use Rattle.epoch_runs.specs.World.{Entry, World, Ends, opening, after, model_crashes, Goes, GoesFrom}
use Rattle.epoch_runs.proofs.Lists.{same_self}
use Rattle.epoch_simulator.specs.Kept.{Kept, GoesTo, LeadsTo}
use Rattle.epochs_at_once.specs.AtOnce.{is_of, of_host, deeds_with, deeds_behind, deeds_since}
use Rattle.epochs_at_once.specs.Joined.{deeds_by, HasOneLog}
use Rattle.epochs_at_once.proofs.Joined.{hosts_have_one_log}
use Rattle.epochs_at_once.proofs.Parting.{deeds_there, deeds_own, own_more, other_more, goes_at_once}

-- BEGINNINGS

-- these are the first of all entries
pub record IsBeginning (first all : List Entry) : Type 0 where
  pub later : List Entry
  pub is : all ≡ first ++ later

pub itself : (entries : List Entry) → IsBeginning entries entries
itself entries = record { later = []; is = sym (append-nil entries) }

pub with_more : (entries more : List Entry) → IsBeginning entries (entries ++ more)
with_more entries more = record { later = more; is = refl }

pub both : (first mid all : List Entry) → IsBeginning first mid → IsBeginning mid all → IsBeginning first all
both first mid all one other =
    record {
      later = one.later ++ other.later;
      is = other.is ∙ ap (λ (l : List Entry). l ++ other.later) one.is ∙ append_assoc first one.later other.later;
    }

pub no_longer : (first all : List Entry) → IsBeginning first all → length first ≤ length all
no_longer first all begins =
    let long : length all ≡ length first + length begins.later = ap (λ (l : List Entry). length l) begins.is ∙ length-append first begins.later in
    omega (arith, long)

-- what a host did by the place where the first ones end
pub did_by : (h : ℕ) (first all : List Entry) → IsBeginning first all → deeds_by all (length first) h ≡ deeds_since (of_host h first)
did_by h first all begins =
    ap (λ (l : List Entry). deeds_since (of_host h l)) (ap (λ (l : List Entry). take (length first) l) begins.is ∙ take-append_seam first begins.later)

-- WHAT A HOST DID

-- in the world to which entries lead each host has done what its own entries say
goes_deeds : (c : Shape) (h : ℕ) (old new : World) (entries : List Entry) → GoesTo c old entries new → new.deeds h ≡ deeds_behind (old.deeds h) (of_host h entries)
goes_deeds c h old new [] same = ap (λ (w : World). w.deeds h) same
goes_deeds c h old new (entry ∷ entries) (left, may, goes) =
    let rest = goes_deeds c h (after old entry left) new entries goes in
    elim (cases_Bool (is_of h entry)) [
      | inl own ↦
          rest
          ∙ ap (λ (l : Deeds). deeds_behind l (of_host h entries)) (deeds_own h old.deeds entry own)
          ∙ sym (ap (deeds_behind (old.deeds h)) (own_more h entry entries own))
      | inr other ↦
          rest
          ∙ ap (λ (l : Deeds). deeds_behind l (of_host h entries)) (deeds_there h old.deeds entry other)
          ∙ sym (ap (deeds_behind (old.deeds h)) (other_more h entry entries other))
    ]

pub led_deeds : (h : ℕ) (entries : List Entry) (k : Kept) (led : LeadsTo entries k) → led.world.deeds h ≡ deeds_since (of_host h entries)
led_deeds h entries k led = goes_deeds k.shape h (opening k.shape) led.world entries led.goes

-- one that stopped last has done nothing since
stopped_behind : (h : ℕ) (deeds : Deeds) (entries : List Entry) → deeds_behind deeds (of_host h (entries ++ Ends h ∷ [])) ≡ []
stopped_behind h deeds [] = ap (deeds_behind deeds) (own_more h (Ends h) [] (same_self h))
stopped_behind h deeds (entry ∷ entries) =
    elim (cases_Bool (is_of h entry)) [
      | inl own ↦ ap (deeds_behind deeds) (own_more h entry (entries ++ Ends h ∷ []) own) ∙ stopped_behind h (deeds_with deeds entry) entries
      | inr other ↦ ap (deeds_behind deeds) (other_more h entry (entries ++ Ends h ∷ []) other) ∙ stopped_behind h deeds entries
    ]

pub stopped_last : (h : ℕ) (entries : List Entry) (last : Entry) → last ≡ Ends h → deeds_since (of_host h (entries ++ last ∷ [])) ≡ []
stopped_last h entries last is = ap (λ (x : Entry). deeds_since (of_host h (entries ++ x ∷ []))) is ∙ stopped_behind h [] entries

-- ONE LOG

-- each entry may follow those before it
all_go : (c : Shape) (old new : World) (entries : List Entry) → GoesTo c old entries new → GoesFrom model_crashes c old entries
all_go c old new [] is = tt
all_go c old new (entry ∷ entries) goes = (goes.0, goes.1, all_go c (after old entry goes.0) new entries goes.2)

-- so all that hosts tell goes by one log
pub one_log : (c : Shape) (entries : List Entry) (k : Kept) → LOCKS + CLIENTS ≤ c.slots → LeadsTo entries k → k.shape ≡ c → HasOneLog c entries
one_log c entries k long led shape =
    let goes : Goes model_crashes k.shape entries = all_go k.shape (opening k.shape) led.world entries led.goes in
    hosts_have_one_log c entries long (goes_at_once c entries (subst (λ (x : Shape). Goes model_crashes x entries) shape goes))
