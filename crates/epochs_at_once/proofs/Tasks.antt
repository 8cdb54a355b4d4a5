-- Tasks of a host, one after another, are what it may do by itself.
use Rattle.std.proofs.Common.{ℕ, ◌≡◌, ◌<◌, Some, List, [], ◌∷◌, ◌++◌, refl, sym, ◌∙◌, ap, subst, inl, inr}
use Rattle.std.proofs.lemmas.List.{append_assoc, append-nil, map-append}
use Rattle.disk.specs.Disk.{Call, Answer}
use Rattle.torn_block.specs.declared.layout.TheConstants.{HOSTS}
use Rattle.paxos_block.specs.Shape.{Shape}
use Rattle.epoch_deeds.specs.Deeds.{Deed, Deeds, Calls, CallsIn, Starts as StartsIn, Begins, Stops}
use Rattle.epoch_deeds.specs.Knowing.{DoesFrom}
use Rattle.epoch_host.specs.Ending.{AreSilentBy, EndsSo}
use Rattle.epoch_host.specs.Leading.{LeadsTo}
use Rattle.epoch_runs.specs.World.{Entry, Does, Breaks, BreaksIn, Ends}
use Rattle.epochs_at_once.specs.AtOnce.{deeds_with, deeds_behind, deeds_since, MayDoNext, DoesAlone}
use Rattle.epochs_at_once.specs.Tasks.{done_by, Starts, Works, IsStopAt, StopsMidway, StopsLast}

-- ONE AFTER ANOTHER

behind_both : (deeds : Deeds) (first more : List Entry) → deeds_behind deeds (first ++ more) ≡ deeds_behind (deeds_behind deeds first) more
behind_both deeds [] more = refl
behind_both deeds (entry ∷ first) more = behind_both (deeds_with deeds entry) first more

behind_done : (h : ℕ) (deeds more : Deeds) → deeds_behind deeds (done_by h more) ≡ deeds ++ more
behind_done h deeds [] = sym (append-nil deeds)
behind_done h deeds (deed ∷ more) = behind_done h (deeds ++ deed ∷ []) more ∙ append_assoc deeds (deed ∷ []) more

-- what was done since, and then these
pub since_done : (h : ℕ) (entries : List Entry) (more : Deeds) → deeds_since (entries ++ done_by h more) ≡ deeds_since entries ++ more
since_done h entries more = behind_both [] entries (done_by h more) ∙ behind_done h (deeds_since entries) more

-- behind the same deeds the same ones
same_rest : {A : Type 0} (first one other : List A) → first ++ one ≡ first ++ other → one ≡ other
same_rest [] one other same = same
same_rest (x ∷ first) one other same = let rest : first ++ one ≡ first ++ other = cc in same_rest first one other rest

module _ (c : Shape) (h : ℕ) where
  alone_both : (deeds : Deeds) (first more : List Entry) → DoesAlone c h deeds first → DoesAlone c h (deeds_behind deeds first) more → DoesAlone c h deeds (first ++ more)
  alone_both deeds [] more before then = then
  alone_both deeds (entry ∷ first) more before then = (before.0, alone_both (deeds_with deeds entry) first more before.1 then)

  alone_first : (deeds : Deeds) (first more : List Entry) → DoesAlone c h deeds (first ++ more) → DoesAlone c h deeds first
  alone_first deeds [] more both = tt
  alone_first deeds (entry ∷ first) more both = (both.0, alone_first (deeds_with deeds entry) first more both.1)

  alone_rest : (deeds : Deeds) (first more : List Entry) → DoesAlone c h deeds (first ++ more) → DoesAlone c h (deeds_behind deeds first) more
  alone_rest deeds [] more both = both
  alone_rest deeds (entry ∷ first) more both = alone_rest (deeds_with deeds entry) first more both.1

  alone_done : h < HOSTS → (deeds more : Deeds) → DoesFrom c h deeds more → DoesAlone c h deeds (done_by h more)
  alone_done number deeds [] may = tt
  alone_done number deeds (deed ∷ more) may = ((number, may.0), alone_done number (deeds ++ deed ∷ []) more may.1)

  -- STOPS

  stop_may : (deeds : Deeds) (deed : Deed) (stop : Entry) → MayDoNext c h deeds (Does h deed) → IsStopAt h deed stop → MayDoNext c h deeds stop
  stop_may deeds deed stop may (inl ends) = subst (MayDoNext c h deeds) (sym ends) tt
  stop_may deeds (Calls k now) stop may (inr within) =
      let same : Breaks h k now.call ≡ stop = cc in
      subst (MayDoNext c h deeds) same (may.0, may.1.0, may.1.1, may.1.2)
  stop_may deeds (CallsIn e k now call heard) stop may (inr within) =
      let same : BreaksIn e h k call ≡ stop = cc in
      subst (MayDoNext c h deeds) same (may.0, may.1.0, may.1.1)
  stop_may deeds (StartsIn epoch) stop may (inr within) = absurd (cc)
  stop_may deeds (Begins epoch task) stop may (inr within) = absurd (cc)
  stop_may deeds (Stops epoch) stop may (inr within) = absurd (cc)

  stop_none : (deeds : Deeds) (deed : Deed) (stop : Entry) → IsStopAt h deed stop → deeds_with deeds stop ≡ []
  stop_none deeds deed stop (inl ends) = ap (deeds_with deeds) ends
  stop_none deeds (Calls k now) stop (inr within) = let same : Breaks h k now.call ≡ stop = cc in sym (ap (deeds_with deeds) same)
  stop_none deeds (CallsIn e k now call heard) stop (inr within) = let same : BreaksIn e h k call ≡ stop = cc in sym (ap (deeds_with deeds) same)
  stop_none deeds (StartsIn epoch) stop (inr within) = absurd (cc)
  stop_none deeds (Begins epoch task) stop (inr within) = absurd (cc)
  stop_none deeds (Stops epoch) stop (inr within) = absurd (cc)

  -- behind what it may do it stops
  stopped : (entries : List Entry) (stop : Entry) → DoesAlone c h [] entries → MayDoNext c h (deeds_since entries) stop → deeds_with (deeds_since entries) stop ≡ []
      → DoesAlone c h [] (entries ++ stop ∷ []) × (deeds_since (entries ++ stop ∷ []) ≡ [])
  stopped entries stop alone may none = (alone_both [] entries (stop ∷ []) alone (may, tt), behind_both [] entries (stop ∷ []) ∙ none)

-- THE LAWS

pub starts : Starts
starts c h host entries number does none leads = record { number = number; does = does; leads = subst (λ (l : Deeds). LeadsTo c h l host) (sym none) leads }

pub works : {D : Type 0} (gives : D → Call → Answer → D → Type 0) → Works gives
works gives c h entries task said old new before worked =
    let did = worked.leads c h (deeds_since entries) before.leads in
    let since : deeds_since entries ++ did.more ≡ deeds_since (entries ++ done_by h did.more) = sym (since_done h entries did.more) in (
      did.more,
      did.calls,
      record {
        done = record {
          number = before.number;
          does = alone_both c h [] entries (done_by h did.more) before.does (alone_done c h before.number (deeds_since entries) did.more did.may);
          leads = subst (λ (l : Deeds). LeadsTo c h l new.host) since did.so.leads;
        };
        ended = subst (λ (l : Deeds). EndsSo c h l (Some task) said) since did.so.ended;
        idle = did.so.idle;
        silent = λ done.
            (let was = did.so.silent done in
            record {
              early = was.early;
              later = was.later;
              is = same_rest (deeds_since entries) did.more (was.early ++ was.later) (was.is ∙ append_assoc (deeds_since entries) was.early was.later);
              silent = subst (AreSilentBy c h) (sym (since_done h entries was.early)) was.silent;
            });
      },
    )

pub stops_last : StopsLast
stops_last c h entries does = stopped c h entries (Ends h) does tt refl

pub stops_midway : StopsMidway
stops_midway c h before early deed later stop does is =
    let split : done_by h (early ++ deed ∷ later) ≡ done_by h early ++ Does h deed ∷ done_by h later = map-append (λ (x : Deed). Does h x) early (deed ∷ later) in
    let same : before ++ done_by h (early ++ deed ∷ later) ≡ (before ++ done_by h early) ++ Does h deed ∷ done_by h later =
    ap (λ (l : List Entry). before ++ l) split ∙ sym (append_assoc before (done_by h early) (Does h deed ∷ done_by h later)) in
    let all : DoesAlone c h [] ((before ++ done_by h early) ++ Does h deed ∷ done_by h later) = subst (DoesAlone c h []) same does in
    let first = alone_first c h [] (before ++ done_by h early) (Does h deed ∷ done_by h later) all in
    let next = (alone_rest c h [] (before ++ done_by h early) (Does h deed ∷ done_by h later) all).0 in
    let since = deeds_since (before ++ done_by h early) in
    stopped c h (before ++ done_by h early) stop first (stop_may c h since deed stop next is) (stop_none c h since deed stop is)
