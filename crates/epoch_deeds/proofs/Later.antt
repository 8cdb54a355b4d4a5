-- What a host learned or read of epochs it learned or read at any time later.
use Rattle.std.proofs.Common.{ℕ, zero, suc, ◌≡◌, ◌≤◌, ◌<◌, ◌⊎◌, Bool, true, false, cond, true≢false, Option, Some, None, List, [], ◌∷◌, ◌++◌, length, refl, sym, ◌∙◌, ap, subst, inl, inr, arith}
use Rattle.std.proofs.lemmas.List.{append_assoc, append-nil}
use Rattle.paxos_block.specs.Shape.{Shape}
use Rattle.standings.specs.Past.{Past, reading}
use Rattle.lock_command.specs.declared.command.Command.{Command}
use Rattle.host.specs.Host.{Memory, Running}
use Rattle.epoch_deeds.specs.Deeds.{Deeds, past_on, core_in}
use Rattle.epoch_deeds.specs.Knowing.{image_of, HasLearned, HasSeen, IsOpen, Carries}
use Rattle.epoch_deeds.proofs.Lists.{past_both}

pub learned_later : (c : Shape) (h e : ℕ) (deeds more : Deeds) (learned : List Command) → HasLearned c h e deeds learned → HasLearned c h e (deeds ++ more) learned
learned_later c h e deeds more learned has =
    record {
      before = has.before;
      behind = has.behind ++ more;
      is = ap (λ (l : Deeds). l ++ more) has.is ∙ append_assoc has.before has.behind more;
      memory = has.memory;
      runs = has.runs;
      told = has.told;
      whole = has.whole;
    }

-- an epoch of which all slots are learned now
pub learned_now : (c : Shape) (h e : ℕ) (deeds : Deeds) (memory : Memory) → core_in c h e deeds ≡ Running memory → length memory.learned ≡ c.slots → HasLearned c h e deeds memory.learned
learned_now c h e deeds memory runs whole =
    record { before = deeds; behind = []; is = sym (append-nil deeds); memory = memory; runs = runs; told = refl; whole = whole }

pub seen_later : (c : Shape) (e : ℕ) (deeds more : Deeds) → HasSeen c e deeds → HasSeen c e (deeds ++ more)
seen_later c e deeds more has =
    record {
      disk = has.disk;
      area = has.area;
      boot = has.boot;
      row = has.row;
      early = has.early;
      later = has.later ++ past_on has.disk more;
      is =
          past_both has.disk deeds more
          ∙ ap (λ (l : Past). l ++ past_on has.disk more) has.is
          ∙ append_assoc has.early (reading (image_of c) has.area has.boot has.row ∷ has.later) (past_on has.disk more);
      is_area = has.is_area;
      host = has.host;
      is_host = has.is_host;
      order = has.order;
      belongs = has.belongs;
      as_new = has.as_new;
    }

-- a number of an epoch is one for each epoch up to that
pub seen_before : (c : Shape) (e order : ℕ) (deeds : Deeds) → order ≤ e → HasSeen c e deeds → HasSeen c order deeds
seen_before c e order deeds below has =
    record {
      disk = has.disk;
      area = has.area;
      boot = has.boot;
      row = has.row;
      early = has.early;
      later = has.later;
      is = has.is;
      is_area = has.is_area;
      host = has.host;
      is_host = has.is_host;
      order = has.order;
      belongs = has.belongs;
      as_new = (let new : e ≤ has.order = has.as_new in omega (arith, new, below));
    }

pub open_later : (c : Shape) (h e : ℕ) (deeds more : Deeds) → IsOpen c h e deeds → IsOpen c h e (deeds ++ more)
open_later c h zero deeds more is = is
open_later c h (suc e) deeds more (inl has) = inl (has.0, learned_later c h e deeds more has.0 has.1)
open_later c h (suc e) deeds more (inr seen) = inr (seen_later c (suc e) deeds more seen)

-- an epoch that was seen, and each one before
pub open_seen : (c : Shape) (h e order : ℕ) (deeds : Deeds) → order ≤ e → HasSeen c e deeds → IsOpen c h order deeds
open_seen c h e zero deeds below has = tt
open_seen c h e (suc order) deeds below has = inr (seen_before c e (suc order) deeds below has)

pub carries_later : (c : Shape) (h e : ℕ) (deeds more : Deeds) (over : List Command) → Carries c h e deeds over → Carries c h e (deeds ++ more) over
carries_later c h zero deeds more over is = is
carries_later c h (suc e) deeds more over (learned, shown, has, pictured, same) = (learned, shown, learned_later c h e deeds more learned has, pictured, same)
