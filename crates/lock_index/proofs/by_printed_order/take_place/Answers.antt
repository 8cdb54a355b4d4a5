use Rattle.std.proofs.Common.{vec_len, set, ap, ◌∙◌, arith}
use Rattle.std.proofs.lemmas.List.{get_or-set_same}
use Rattle.lock_index.specs.Shelved.{no_lock, at_place}
use Rattle.lock_index.proofs.Places.{last_below}
use Rattle.lock_index.proofs.by_printed_order.take_place.Goals as goal

pub index_mut-requires : goal.index_mut-requires
index_mut-requires c =
    let inside = last_below c.pop.new.self.items c.args.free.now.items c.in-Some.place (vec_len c.args.records.now) c.in-Some.ensures.items c.requires.below in
    omega (arith, inside, c.from.ensures)

pub returns-in-Some-clause-own : goal.returns-in-Some-clause-own
returns-in-Some-clause-own c =
    ap (λ i. at_place (set c.args.records.now.items i c.args.new) c.in-Some.place) c.from.ensures
    ∙ get_or-set_same c.args.records.now.items c.in-Some.place c.args.new no_lock (omega (
      arith,
      last_below c.pop.new.self.items c.args.free.now.items c.in-Some.place (vec_len c.args.records.now) c.in-Some.ensures.items c.requires.below,
    ))
