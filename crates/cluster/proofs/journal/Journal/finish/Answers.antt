use Rattle.std.proofs.Common.{◌≡◌, ◌≢◌, ◌<◌, ◌++◌, ℕ, List, [], length, take, drop, refl, sym, ap, ◌∙◌, subst, arith}
use Rattle.std.proofs.lemmas.Grind.{common_steps}
use Rattle.torn_block.specs.declared.layout.TheConstants.{HOSTS}
use Rattle.world.specs.Entry.{Filled}
use Rattle.world.specs.World.{IsFreshRun}
use Rattle.world.proofs.Runs.{fresh_is_run}
use Rattle.cluster_tie.specs.Parts.{Own, of_host}
use Rattle.cluster.specs.Journal.{JournalState}
use Rattle.cluster.specs.Record.{ArePartsOf, HasSeat, AreCovered, LacksSeat}
use Rattle.cluster.proofs.Recording.{recorded, covered}
use Rattle.cluster.proofs.journal.Journal.finish.Goals as goal
use Rattle.cluster.proofs.journal.Journal.finish.Goals.{After-one_log_and_nothing_lost}

module _ (g : _) (c : After-one_log_and_nothing_lost g) where
  abbrev log : List Filled
  log = c.is_covered-covered.new.self.log

  same : c.is_covered-covered.new.self ≡ c.args.self
  same = c.is_covered-covered.ensures.same ∙ c.meet_all.ensures.same.0

  all : take c.args.seats.len (c.meet_all.new.seats ++ drop (length c.meet_all.new.seats) c.args.seats.items) ≡ c.args.seats.items
  all = let kept : c.meet_all.new.seats ≡ c.args.seats.items = c.meet_all.ensures.same.1 ∙ c.as_mut_slice.ensures.value in grind (arith, common_steps)

  parts : ArePartsOf log c.args.seats.items
  parts = subst (λ (j : JournalState). ArePartsOf j.log c.args.seats.items) (sym same) (subst (λ (s : List Own). ArePartsOf c.args.self.log s) c.as_mut_slice.ensures.value c.meet_all.ensures.parts)

  run : IsFreshRun g.N.ClusterName.shape log
  run = c.into_entries-entries.ensures.run

  has : (h : ℕ) → h < HOSTS → of_host h log ≢ [] → HasSeat c.args.seats.items h
  has h below some =
      subst (λ (s : List Own). HasSeat s h) (c.as_slice.ensures.value ∙ all)
      (c.if-not-covered.ensures.covered refl h below (λ none. some (ap (λ (j : JournalState). of_host h j.log) c.is_covered-covered.ensures.same ∙ none)))

  covers : AreCovered log c.args.seats.items
  covers = covered g.N.ClusterName.shape log c.args.seats.items run has

pub returns-clause-record : goal.returns-clause-record
returns-clause-record g c =
    recorded g.N.ClusterName.shape (log g c) _ _ c.into_entries-entries.ensures.entries (run g c) (subst (AreCovered (log g c)) (sym (all g c)) (covers g c)) (subst (ArePartsOf (log g c)) (sym (all g c)) (parts g c))
    (c.one_log_and_nothing_lost.ensures.headline g.N.ClusterName.shape (log g c) (fresh_is_run g.N.ClusterName.shape (log g c) (run g c)))

pub returns-clause-missing : goal.returns-clause-missing
returns-clause-missing g c =
    let there : AreCovered c.args.self.log c.args.seats.items = subst (λ (j : JournalState). AreCovered j.log c.args.seats.items) (same g c) (covers g c) in
    (λ is. absurd (cc is), λ lacks. absurd (lacks.2 (there lacks.0 lacks.1)))

pub returns-then-not-covered-clause-missing : goal.returns-then-not-covered-clause-missing
returns-then-not-covered-clause-missing g c =
    let kept : c.meet_all.new.seats ≡ c.args.seats.items = c.meet_all.ensures.same.1 ∙ c.as_mut_slice.ensures.value in
    let all : take c.args.seats.len (c.meet_all.new.seats ++ drop (length c.meet_all.new.seats) c.args.seats.items) ≡ c.args.seats.items = grind (arith, common_steps) in
    let lacks : LacksSeat c.meet_all.new.journal.log c.as_slice.result.now = c.if-not-covered.ensures.lacking refl in
    let here : LacksSeat c.args.self.log c.args.seats.items = subst (λ (j : JournalState). LacksSeat j.log c.args.seats.items) c.meet_all.ensures.same.0 (subst (LacksSeat c.meet_all.new.journal.log) (c.as_slice.ensures.value ∙ all) lacks) in
    (λ is. here, λ lacking. refl)
