-- A host that is started anew: what led to the old one goes on to it, once the core that runs is stopped.
use Rattle.std.proofs.Common.{ℕ, ◌≡◌, ◌≢◌, ◌==◌, Bool, true, false, cond, [], ◌∷◌, ◌++◌, Option, Some, None, refl, sym, ◌∙◌, ap, subst, inl, inr}
use Rattle.std.proofs.lemmas.Bool.{eqb-false}
use Rattle.std.proofs.lemmas.List.{append-nil}
use Rattle.paxos_block.specs.Shape.{Shape}
use Rattle.standings.specs.Past.{Made, Past}
use Rattle.coming.specs.declared.found.Found.{Found}
use Rattle.coming.specs.declared.search.Search.{Search}
use Rattle.coming.specs.declared.search.Step.{Step}
use Rattle.coming.specs.declared.search.Step.TheVariants.{Attaching, First, Second}
use Rattle.coming.specs.Finding.{Knows, Pasts, Standings, IsAt, IsGoing, WasAsked, image_of}
use Rattle.host.specs.Host.{Memory, Stopped, Running, is_stopped}
use Rattle.epoch_deeds.specs.Deeds.{Deeds, Stops, core_in}
use Rattle.epoch_deeds.specs.Knowing as epochs
use Rattle.epoch_deeds.proofs.Lists.{core_in_next}
use Rattle.epoch_host.specs.declared.stay.Stay.{Stay}
use Rattle.epoch_host.specs.declared.walk.Walk.{Walk}
use Rattle.epoch_host.specs.declared.walk.Whereabouts.{Whereabouts}
use Rattle.epoch_host.specs.declared.walk.Whereabouts.TheVariants.{Nowhere, Finds, In}
use Rattle.epoch_host.specs.Leading.{AllStopped, GoesOn, LeadsTo, LeadsToPlace, LeadsToStay, pasts_of}
use Rattle.epoch_images.specs.Working.{LeadsOn}

-- THE CORE STOPS

stopped_here : (c : Shape) (h : ℕ) (deeds : Deeds) (e epoch : ℕ) → (e ≢ epoch → core_in c h e deeds ≡ Stopped) → core_in c h e (deeds ++ Stops epoch ∷ []) ≡ Stopped
stopped_here c h deeds e epoch others = core_in_next c h e deeds (Stops epoch) ∙ either (epoch == e) refl
  where
    either : (b : Bool) → (epoch == e) ≡ b → cond b Stopped (core_in c h e deeds) ≡ Stopped
    either true is = refl
    either false is = others (λ same. eqb-false epoch e is (sym same))

leaves : (c : Shape) (h : ℕ) (deeds : Deeds) (place : Whereabouts) → LeadsToPlace c h deeds place → GoesOn c h deeds (AllStopped c h)
leaves c h deeds Nowhere is = record { more = []; none = tt; may = tt; so = subst (AllStopped c h) (sym (append-nil deeds)) is }
leaves c h deeds (Finds search) is = record { more = []; none = tt; may = tt; so = subst (AllStopped c h) (sym (append-nil deeds)) is.0 }
leaves c h deeds (In s) is = record { more = Stops s.epoch ∷ []; none = tt; may = (ap is_stopped is.runs, tt); so = λ e. stopped_here c h deeds e s.epoch (is.alone e) }

-- WHO DID NOTHING

no_past : (before : Past) (made : Made) (behind : Past) → [] ≡ before ++ made ∷ behind → ⊥
no_past [] made behind is = absurd (cc)
no_past (x ∷ before) made behind is = absurd (cc)

not_asked : (n : ℕ) (o : Option Standings) → WasAsked n o [] → ⊥
not_asked n None was = elim was [ inl failed ↦ no_past failed.before _ [] failed.is | inr shows ↦ no_past shows.before _ [] shows.is ]
not_asked n (Some standings) was = no_past was.before _ _ was.is

at_any : (n : ℕ) (step : Step) (past : Past) → IsAt n step [] → IsAt n step past
at_any n Attaching past is = tt
at_any n (First boot) past is = absurd (no_past is.0 _ [] is.1)
at_any n (Second boot first) past is = absurd (no_past is.0 _ _ is.2)

going_any : (end : Option Found) (s : Search) (past : Past) → IsGoing end s [] → IsGoing end s past
going_any None s past is = at_any (image_of s) s.step past is
going_any (Some found) s past is = tt

-- what is known of a search by no call at all is known by any
knows_any : (n : ℕ) (pasts : Pasts) (s : Search) → Knows n (pasts_of []) s → Knows n pasts s
knows_any n pasts s is =
    record {
      image = is.image;
      kept = record { read = λ d below. absurd (not_asked (image_of s) _ (is.kept.read d below)); here = going_any s.end s (pasts s.disk) is.kept.here };
    }

not_running : (memory : Memory) → Stopped ≡ Running memory → ⊥
not_running memory is = absurd (cc)

place_any : (c : Shape) (h : ℕ) (deeds : Deeds) (place : Whereabouts) → LeadsToPlace c h [] place → AllStopped c h deeds → LeadsToPlace c h deeds place
place_any c h deeds Nowhere is stopped = stopped
place_any c h deeds (Finds search) is stopped = (stopped, knows_any (epochs.image_of c) (pasts_of deeds) search is.1)
place_any c h deeds (In s) is stopped = absurd (not_running is.memory is.runs)

-- a host to which no deed leads is one to which any deeds lead, once all cores are stopped
pub started_anew : (old new : Walk) → LeadsTo old.config old.host [] new → LeadsOn old new
started_anew old new fresh c h deeds is =
    let left : GoesOn c h deeds (AllStopped c h) = leaves c h deeds old.is is.place in
    let anew : LeadsTo c h [] new = subst (λ (k : Shape). LeadsTo k h [] new) is.config (subst (λ (n : ℕ). LeadsTo old.config n [] new) is.host fresh) in
    record {
      more = left.more;
      none = left.none;
      may = left.may;
      so = record { config = anew.config; host = anew.host; place = place_any c h (deeds ++ left.more) new.is anew.place left.so };
    }
