-- A host that starts, stops or begins a task makes a few moves.
use Rattle.std.specs.Prelude.{IsTrue}
use Rattle.std.proofs.Common.{ℕ, ◌<◌, ◌≡◌, inl, inr, Some, None, [], ◌∷◌, ◌++◌, append-nil, refl, sym, subst, ap, ◌∙◌}
use Rattle.torn_block.specs.declared.layout.TheConstants.{HOSTS}
use Rattle.paxos_block.specs.Shape.{Shape}
use Rattle.host.specs.declared.answer.HostAnswer.TheVariants.{Recovered}
use Rattle.host.specs.declared.task.Task.{Task}
use Rattle.host.specs.declared.task.Task.TheVariants.{Submit, Recover, Look, Beat, Mark}
use Rattle.host.specs.Host.{Attempts, Beats, Submitting, Recovering, Memory, Host, Stopped, Running, fresh, does, starts, is_stopped, idles}
use Rattle.world.specs.Entry.{Filled, Start, Stop, Begin, started, begins_on, host_step}
use Rattle.world.specs.World.{World, MayBeGiven}
use Rattle.agreement.specs.Log.{slots_after}
use Rattle.agreement.specs.Log.Move.{Restart}
use Rattle.world_safety.specs.Goes.{HostGoes, Goes}
use Rattle.world_safety.specs.Next.{next_world}
use Rattle.world_safety.specs.Tied.{Moves, IsRunning, HostAt, Tied}
use Rattle.world_safety.proofs.Moves.Beside.{starts_none}
use Rattle.world_safety.proofs.Moves.Hosts.{Late, rests_late, goes_on_late, tied_but, tied_with, but_stops, stops_learned}
use Rattle.lock_command.proofs.Lengths.{spelling_long}
use Rattle.world_safety.proofs.Moves.Looking.{looks_on_late}
use Rattle.world_safety.proofs.Moves.Marking.{starts_marking_late}
use Rattle.world_safety.proofs.Moves.Moving.{marks_stay, for_host, late_goes, late_tied, stopped_goes, running_at}

module _ (c : Shape) (w : World) (ms : Moves) (tied : Tied c w ms) where
  -- A HOST STARTS

  pub starts_goes : (h : ℕ) → h < HOSTS → (host : Host) → w.host h ≡ host → IsTrue (is_stopped host) → Goes c w (Start h) ms
  starts_goes h below (Running m) is stopped = absurd (cc)
  starts_goes h below Stopped is stopped =
      let nil = sym (append-nil ms) in
      let e : Filled = Start h in
      let now : host_step c h (w.host h) (Start h) ≡ Running fresh = ap started is in
      let none : (slots_after ms).learned h ≡ [] = subst (HostAt c w ms h) is (tied.hosts h) in
      let run : IsRunning c w ms h fresh = record { below = below; learned = none; doing = tt } in
      record {
        more = [];
        tied = subst (λ (l : Moves). Tied c (next_world c w (Start h)) l) nil (tied_with c w ms h (λ g. host_step c g (w.host g) (Start h)) (tied_but c w ms h tied) (subst (HostAt c w ms h) (sym now) run));
        inputs = λ j v input. absurd input;
        host = λ g of. for_host (λ i. HostGoes c w (Start h) ms [] i) h g of (record {
          begun = λ m t same does. absurd (let both : Running fresh ≡ Running m = sym now ∙ same in let one : fresh ≡ m = cc in let none_does : fresh.doing ≡ Some (Attempts t) = ap (λ (k : Memory). k.doing) one ∙ does in cc);
          empty = λ m n same said. absurd (let both : Running fresh ≡ Running m = sym now ∙ same in let one : fresh ≡ m = cc in let none_said : fresh.said ≡ Some (Recovered n) = ap (λ (k : Memory). k.said) one ∙ said in cc);
        });
        carries = tt;
        marks = marks_stay c w (Start h) (λ d. refl);
      }

  -- A HOST STOPS

  pub stops_goes : (h : ℕ) → Goes c w (Stop h) ms
  stops_goes h =
      record {
        more = Restart h ∷ [];
        tied = tied_with c w (ms ++ Restart h ∷ []) h (λ g. Stopped) (but_stops c w ms h (tied_but c w ms h tied)) (stops_learned c w ms h (tied_but c w ms h tied));
        inputs = λ j v input. absurd (elim input [ inl puts ↦ puts | inr rest ↦ rest ]);
        host = λ g of. for_host (λ i. HostGoes c w (Stop h) ms (Restart h ∷ []) i) h g of (stopped_goes c w (Stop h) ms (Restart h ∷ []) h refl);
        carries = tt;
        marks = marks_stay c w (Stop h) (λ d. refl);
      }

  -- A TASK BEGINS

  starts_late : (h : ℕ) (m : Memory) → IsRunning c w ms h m → (task : Task) → MayBeGiven c h task → Late c w ms h None (starts c m task)
  starts_late h m run (Submit command tries) may = goes_on_late c w ms h m (tied_but c w ms h tied) run.below run.learned None (Submitting command) tries (spelling_long command may.0)
  starts_late h m run (Recover tries) may = goes_on_late c w ms h m (tied_but c w ms h tied) run.below run.learned None Recovering tries tt
  starts_late h m run Look may = looks_on_late c w ms h m (tied_but c w ms h tied) run.below run.learned 0
  starts_late h m run Beat may =
      rests_late c w ms h None (does m (Beats [])) (tied_but c w ms h tied) (record { below = run.below; learned = run.learned; doing = tt }) (starts_none c m Beat tt)
  starts_late h m run (Mark slot) may = starts_marking_late c w ms h m (tied_but c w ms h tied) run slot may

  pub begins_goes : (h : ℕ) (task : Task) → MayBeGiven c h task → (host : Host) → w.host h ≡ host → IsTrue (idles host) → Goes c w (Begin h task) ms
  begins_goes h task may Stopped is idle = absurd (cc)
  begins_goes h task may (Running m) is idle =
      let now : host_step c h (w.host h) (Begin h task) ≡ Running (starts c m task) = ap (λ (host : Host). begins_on c host task) is in
      let by : Late c w (ms ++ []) h None (starts c m task) = subst (λ (l : Moves). Late c w l h None (starts c m task)) (sym (append-nil ms)) (starts_late h m (running_at c w ms tied h m is) task may) in
      record {
        more = by.late;
        tied = late_tied c w w (Begin h task) ms [] h None (starts c m task) by now (λ n none. absurd (cc)) (λ g. host_step c g (w.host g) (Begin h task)) now;
        inputs = λ j v input. absurd (by.quiet j v input);
        host = λ g of. for_host (λ i. HostGoes c w (Begin h task) ms by.late i) h g of (late_goes c w w (Begin h task) ms [] h None (starts c m task) by now (λ n none. absurd (cc)));
        carries = tt;
        marks = marks_stay c w (Begin h task) (λ d. refl);
      }
