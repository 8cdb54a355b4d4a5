use Rattle.std.proofs.Common.{◌∙◌, sym}
use Rattle.std.proofs.lemmas.Bool.{both_ways}
use Rattle.paxos_block.specs.Saying.{zeros}
use Rattle.sectors.specs.Names.{nobody}
use Rattle.sectors.proofs.Owners.{is_other, others_differ}
use Rattle.sectors.proofs.owner.is_another.Goals as goal

pub returns-then-ne : goal.returns-then-ne
unfolding zeros
returns-then-ne c = (
  λ other. record {
    somebody = is_other c.args.name.now nobody (sym c.ne.ensures ∙ c.if-ne.true);
    other = is_other c.args.name.now c.args.machine.now (sym c.ne-then-ne.ensures ∙ other);
  },
  λ another. c.ne-then-ne.ensures ∙ others_differ c.args.name.now c.args.machine.now another.other,
)

pub returns-else-ne : goal.returns-else-ne
unfolding zeros
returns-else-ne c = (
  λ other. absurd (both_ways c.ne.result c.if-ne.false other),
  λ another. absurd (both_ways c.ne.result c.if-ne.false (c.ne.ensures ∙ others_differ c.args.name.now nobody another.somebody)),
)
