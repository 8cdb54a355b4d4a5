use Rattle.std.proofs.Common.{ℕ, ◌+◌, ◌-◌, [], false, ap, ◌∙◌, arith}
use Rattle.atomic_table.specs.Table.{Me}
use Rattle.torn_block.specs.declared.layout.TheConstants.{HOSTS}
use Rattle.cluster_tie.specs.Parts.{own_of}
use Rattle.cluster_tie.specs.View.{Known, number_in, entries_in}
use Rattle.cluster_tie.proofs.Steps.{rest_apart, fresh_more}
use Rattle.cluster_tie.proofs.Seats.{gives, left, given, next_part}
use Rattle.cluster_tie.proofs.ties.Ties.deal_hosts.Goals as goal

pub split_seat-first-requires : goal.split_seat-first-requires
split_seat-first-requires g c =
    let t = c.args.self.now in
    let i = c.loop-k.invariant in
    let k = c.loop-k._k in
    let shows = next_part false k HOSTS [] (omega arith) (i.same_table ∙ c.requires.table, i.left) in
    gives shows t.table_is t.has_word (rest_apart k (HOSTS - (k + 1)))

pub loop-k-preserved : goal.loop-k-preserved
loop-k-preserved g c =
    let i = c.loop-k.invariant in
    let k = c.loop-k._k in
    let shows = next_part false k HOSTS [] (omega arith) (i.same_table ∙ c.requires.table, i.left) in
    let first = given shows c.split_seat-first.ensures in
    record {
      same_table = c.split_seat-first.ensures.0 ∙ i.same_table;
      left = (left shows c.split_seat-first.ensures).1;
      dealt = fresh_more k c.loop-k.tokens.items _ _ c.push_reserved.ensures.items (ap (λ (m : Me ℕ Known). own_of (number_in m.0.parts) (entries_in m.0.parts)) first.1) i.dealt;
      room = omega arith;
    }
