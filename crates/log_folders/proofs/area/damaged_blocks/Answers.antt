use Rattle.std.specs.Prelude.{◌↔◌, IsTrue, slice_index_or}
use Rattle.std.proofs.Common.{◌<◌, ◌∙◌, ℕ, false, ap, sym, subst, inl, inr}
use Rattle.torn_block.specs.declared.layout.TheConstants.{HOSTS}
use Rattle.log_folders.specs.declared.area.Part.{Part}
use Rattle.log_folders.specs.Areas.{IsDamagedAt, damaged_in}
use Rattle.log_folders.proofs.area.damaged_blocks.Goals as goal

pub returns-in-Standings : goal.returns-in-Standings
returns-in-Standings c =
    let Each : Part → Type 0 = λ part. (host : ℕ) → host < HOSTS → IsTrue (slice_index_or c.damaged_beats.result host false) ↔ IsDamagedAt part host c.args.row.now in
    record {
      each = elim c.in-Standings.is [ inl standings ↦ subst Each (sym standings) c.damaged_beats.ensures.each.each | inr beats ↦ subst Each (sym beats) c.damaged_beats.ensures.each.each ];
      exact =
          elim c.in-Standings.is [
            | inl standings ↦ c.damaged_beats.ensures.exact ∙ ap (λ (part : Part). damaged_in part c.args.row.now) (sym standings)
            | inr beats ↦ c.damaged_beats.ensures.exact ∙ ap (λ (part : Part). damaged_in part c.args.row.now) (sym beats)
          ];
    }

pub returns-in-Slot-clause-each : goal.returns-in-Slot-clause-each
returns-in-Slot-clause-each c =
    subst (λ (part : Part). (host : ℕ) → host < HOSTS → IsTrue (slice_index_or c.damaged_hosts.result host false) ↔ IsDamagedAt part host c.args.row.now) (sym c.in-Slot.is) c.damaged_hosts.ensures.each.each

pub returns-in-Slot-clause-exact : goal.returns-in-Slot-clause-exact
returns-in-Slot-clause-exact c = c.damaged_hosts.ensures.exact ∙ ap (λ (part : Part). damaged_in part c.args.row.now) (sym c.in-Slot.is)
