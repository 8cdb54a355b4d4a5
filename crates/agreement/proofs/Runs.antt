-- Each event keeps what holds, and forgets nothing; so does each run.
use Rattle.std.proofs.Common.{ℕ, inl, List, ◌++◌, refl, sym, subst, arith}
use Rattle.agreement.specs.State.{State, start}
use Rattle.agreement.specs.Event.{Event, proposal_of, Allowed, AllAllowed, after, run, IsRun, state_after}
use Rattle.agreement.specs.Event.Event.{Settles, Crashes, Stops, Starts, Drops, Sees, Takes, Begins, Confirms, ReadsOne, Proposes, ReadsTwo}
use Rattle.agreement.proofs.Invariant.{Holds}
use Rattle.agreement.proofs.Growing.{Grows, grown_none, grown}
use Rattle.agreement.proofs.Steps.{state_by-append, may_early, may_late, kept_by}
use Rattle.agreement.proofs.Settling.{keeps_settles, keeps_crashes, keeps_drops, keeps_stops, keeps_starts}
use Rattle.agreement.proofs.Opening.{keeps_sees, keeps_takes}
use Rattle.agreement.proofs.Writing.{keeps_begins, keeps_confirms}
use Rattle.agreement.proofs.Asking.{keeps_reads_one}
use Rattle.agreement.proofs.Proposing as Proposing
use Rattle.agreement.proofs.Accepting as Accepting

-- at the start nothing has happened
pub holds_at_start : {Value : Type 0} (disks : ℕ) → Holds disks (start {Value = Value})
holds_at_start disks = record {
  registers = λ h d. record {
    confirmed = record { low = omega arith; vote = record { backed = inl (refl, refl); owned = inl refl } };
    writing = λ x e. absurd (cc);
    kept = λ b acc own. absurd (cc);
    promised = λ b p made. absurd (cc);
  };
  stages = λ h d. tt;
  minds = λ h. tt;
  proposals = λ b p made. absurd (cc);
}

module _ {Value : Type 0} (disks : ℕ) where
  -- by the event
  pub holds_after : (s : State Value) (e : Event Value) → Holds disks s → Allowed disks s e → Holds disks (after s e)
  holds_after s (Settles h d x) i a = keeps_settles disks s i h d x a
  holds_after s (Crashes d left) i a = keeps_crashes disks s i d left a
  holds_after s (Stops h) i a = keeps_stops disks s i h
  holds_after s (Starts h) i a = keeps_starts disks s i h
  holds_after s (Drops h d) i a = keeps_drops disks s i h d
  holds_after s (Sees h d old new) i a = keeps_sees disks s i h d old new a
  holds_after s (Takes h o ballot) i a = keeps_takes disks s i h o ballot a
  holds_after s (Begins h d w) i a = keeps_begins disks s i h d w a
  holds_after s (Confirms h d w) i a = keeps_confirms disks s i h d w a
  holds_after s (ReadsOne h d row t best) i a = keeps_reads_one disks s i h d row t best a
  holds_after s (Proposes h t value) i a = Proposing.keeps_proposes disks s i h t value a
  holds_after s (ReadsTwo h d row t) i a = Accepting.keeps_reads_two disks s i h d row t a

  -- only two events add to what has happened
  pub grows_after : (s : State Value) (e : Event Value) → Holds disks s → Allowed disks s e → Grows s (after s e)
  grows_after s (Proposes h t value) i a = record {
    proposed = Proposing.stays s.proposed t.ballot (proposal_of t value (s.cell h)) (Proposing.is_fresh disks s i h t value a.0.asking);
    accepted = λ b d acc. acc;
  }
  grows_after s (ReadsTwo h d row t) i a = record { proposed = λ b p made. made; accepted = Accepting.stays s.accepted t.ballot d }
  grows_after s other i a = record { proposed = λ b p made. made; accepted = λ b d acc. acc }

  -- and so of runs
  pub holds_run : (s : State Value) (es : List (Event Value)) → Holds disks s → AllAllowed disks s es → Holds disks (run s es)
  holds_run = kept_by after (Allowed disks) (Holds disks) holds_after

  pub holds_reached : (events : List (Event Value)) → IsRun disks events → Holds disks (state_after events)
  holds_reached events is_run = holds_run start events (holds_at_start disks) is_run

  pub grows_run : (s : State Value) (es : List (Event Value)) → Holds disks s → AllAllowed disks s es → Grows s (run s es)
  grows_run s es i a =
      (kept_by after (Allowed disks) (λ t. Holds disks t × Grows s t)
      (λ t e k may. (holds_after t e k.0 may, grown s t (after t e) k.1 (grows_after t e k.0 may)))
      s es (i, grown_none s) a).1

-- A PLACE IN A RUN: early and late events

-- the states at the two places, in which all holds, and of which the later one has grown
pub record Places {Value : Type 0} (disks : ℕ) (early late : List (Event Value)) : Type 0 where
  pub first : Holds disks (state_after early)
  pub second : Holds disks (state_after (early ++ late))
  pub grows : Grows (state_after early) (state_after (early ++ late))

pub places : {Value : Type 0} (disks : ℕ) (early late : List (Event Value)) → IsRun disks (early ++ late) → Places disks early late
places disks early late is_run =
    let first = holds_reached disks early (may_early after (Allowed disks) start early late is_run) in
    record {
      first = first;
      second = holds_reached disks (early ++ late) is_run;
      grows = subst (Grows (state_after early)) (sym (state_by-append after start early late))
          (grows_run disks (state_after early) late first (may_late after (Allowed disks) start early late is_run));
    }
