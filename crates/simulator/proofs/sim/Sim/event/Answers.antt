use Rattle.std.proofs.Common.{ℕ, ◌+◌, ◌≡◌, ◌++◌, ◌∷◌, [], List, Option, Some, length, sym, ap, ◌∙◌, subst, arith}
use Rattle.std.proofs.lemmas.List.{length-map}
use Rattle.lock_script.specs.declared.event.Event as code
use Rattle.world.specs.Happens.{Line}
use Rattle.world.specs.Opening.{Opening, run_of, answers_to}
use Rattle.simulator.specs.declared.simulated_cluster.Said.{Said}
use Rattle.simulator.specs.Answers.{line_of}
use Rattle.simulator.specs.Events.{event_of, events_of, lines_of}
use Rattle.simulator.specs.Kept.{Brings}
use Rattle.simulator.specs.Past.{Past, answers_of}
use Rattle.simulator.proofs.Lines.{speaker_runs}
use Rattle.simulator.proofs.OneMore.{kept_on, moved_leads, moved_answers}
use Rattle.simulator.proofs.Telling.{goes_with, goes_without}
use Rattle.simulator.proofs.Learning.{only_learning}
use Rattle.simulator.proofs.sim.Sim.event.Goals as goal

pub listed-requires-clause-room : goal.listed-requires-clause-room
listed-requires-clause-room c =
    let s = c.self.inside in
    let o : Opening = record { shape = s.cluster.shape; moved = s.log.items } in
    let log = run_of o (events_of s.events.items) in
    let event = event_of c.args.event.now in
    let brings : Brings log event s.cluster c.event.new.self (Some c.in-Some.said) =
    subst (λ (o : Option Said). Brings log event s.cluster c.event.new.self o) c.in-Some.is (c.in_ok-said.ensures.brings log c.self.invariant) in
    λ tells. c.in_ok-prepare.ensures (only_learning log event s.cluster c.event.new.self c.in-Some.said brings tells)

pub listed-requires-clause-runs : goal.listed-requires-clause-runs
listed-requires-clause-runs c =
    let s = c.self.inside in
    let o : Opening = record { shape = s.cluster.shape; moved = s.log.items } in
    let log = run_of o (events_of s.events.items) in
    let brings : Brings log (event_of c.args.event.now) s.cluster c.event.new.self (Some c.in-Some.said) =
    subst (λ (o : Option Said). Brings log (event_of c.args.event.now) s.cluster c.event.new.self o) c.in-Some.is (c.in_ok-said.ensures.brings log c.self.invariant) in
    speaker_runs log (event_of c.args.event.now) s.cluster c.event.new.self c.in-Some.said brings

pub invariant_of-self-in-Some : goal.invariant_of-self-in-Some
invariant_of-self-in-Some c =
    let s = c.self.inside in
    let o : Opening = record { shape = s.cluster.shape; moved = s.log.items } in
    let log = run_of o (events_of s.events.items) in
    moved_leads s.log.items s.events.items c.args.event.now s.cluster c.event.new.self c.in_ok-said.said (c.in_ok-said.ensures.brings log c.self.invariant) c.push_reserved.new.self.items
    (kept_on c.push_reserved.ensures.items c.reserve.ensures.items c.in_ok-kept.ensures)

pub invariant_of-self-in-None : goal.invariant_of-self-in-None
invariant_of-self-in-None c =
    let s = c.self.inside in
    let o : Opening = record { shape = s.cluster.shape; moved = s.log.items } in
    let log = run_of o (events_of s.events.items) in
    moved_leads s.log.items s.events.items c.args.event.now s.cluster c.event.new.self c.in_ok-said.said (c.in_ok-said.ensures.brings log c.self.invariant) c.push_reserved.new.self.items
    (kept_on c.push_reserved.ensures.items c.reserve.ensures.items c.in_ok-kept.ensures)

pub returns-in-Some-clause-answer : goal.returns-in-Some-clause-answer
returns-in-Some-clause-answer c =
    let s = c.self.inside in
    let o : Opening = record { shape = s.cluster.shape; moved = s.log.items } in
    let log = run_of o (events_of s.events.items) in
    let placed : c.len-place.result ≡ length s.events.items = omega (arith, c.len-place.ensures, s.events.ok.0) in
    let one : lines_of (length s.events.items) c.in_ok-said.said ≡ line_of c.listed.result ∷ [] =
    ap (lines_of (length s.events.items)) c.in-Some.is ∙ ap (λ (n : ℕ). lines_of n (Some c.in-Some.said)) (sym placed) ∙ ap (λ (x : Line). x ∷ []) (sym c.listed.ensures.line) in
    moved_answers s.log.items s.events.items c.args.event.now s.cluster c.event.new.self c.in_ok-said.said (c.in_ok-said.ensures.brings log c.self.invariant) c.push_reserved.new.self.items
    (kept_on c.push_reserved.ensures.items c.reserve.ensures.items c.in_ok-kept.ensures)
    ∙ ap (λ (l : List Line). answers_to o (events_of s.events.items) ++ l) one
    ∙ ap (λ (p : Past). answers_of p ++ line_of c.listed.result ∷ []) c.self.view_is

pub returns-in-Some-clause-picture : goal.returns-in-Some-clause-picture
returns-in-Some-clause-picture c =
    c.listed.ensures.picture (run_of (record { shape = c.event.new.self.shape; moved = c.self.inside.log.items }) (events_of c.push_reserved.new.self.items)) (invariant_of-self-in-Some c)

pub returns-in-None-clause-answer : goal.returns-in-None-clause-answer
returns-in-None-clause-answer c =
    let s = c.self.inside in
    let o : Opening = record { shape = s.cluster.shape; moved = s.log.items } in
    let log = run_of o (events_of s.events.items) in
    moved_answers s.log.items s.events.items c.args.event.now s.cluster c.event.new.self c.in_ok-said.said (c.in_ok-said.ensures.brings log c.self.invariant) c.push_reserved.new.self.items
    (kept_on c.push_reserved.ensures.items c.reserve.ensures.items c.in_ok-kept.ensures)
    ∙ ap (λ (none : Option Said). answers_to o (events_of s.events.items) ++ lines_of (length s.events.items) none) c.in-None.is
    ∙ ap (λ (p : Past). answers_of p ++ []) c.self.view_is

pub returns-in-Some-clause-one_log : goal.returns-in-Some-clause-one_log
returns-in-Some-clause-one_log c =
    let s = c.self.inside in
    let o : Opening = record { shape = s.cluster.shape; moved = s.log.items } in
    let more : List code.Event = c.push_reserved.new.self.items in
    let many : length more ≡ c.len-place.result + 1 = omega (arith, c.push_reserved.ensures.len, c.reserve.ensures.len, c.len-place.ensures, c.push_reserved.new.self.ok.0) in
    let last : c.listed.result.place + 1 ≡ length (events_of more) = ap (λ (x : Line). x.place + 1) c.listed.ensures.line ∙ sym many ∙ sym (length-map more event_of) in
    goes_with (record { opening = record { shape = c.event.new.self.shape; moved = s.log.items }; events = events_of more }) (invariant_of-self-in-Some c).run c.listed.result (answers_of c.args.self.now) (returns-in-Some-clause-answer c) last
    (returns-in-Some-clause-picture c)

pub returns-in-None-clause-one_log : goal.returns-in-None-clause-one_log
returns-in-None-clause-one_log c = goes_without (record { opening = record { shape = c.event.new.self.shape; moved = c.self.inside.log.items }; events = events_of c.push_reserved.new.self.items }) (invariant_of-self-in-None c).run
