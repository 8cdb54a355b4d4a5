use Rattle.std.proofs.Common.{◌<◌, ◌++◌, [], ◌∷◌, ℕ, List, length, slice_set, false, arith, sym, subst}
use Rattle.inspect.specs.Peeled.{IsPeeled}
use Rattle.inspect.proofs.PeelLemmas.{has_room, peeled_more}
use Rattle.inspect.proofs.peeling.Peeling.take.Goals as goal

pub overflow_cast-self : goal.overflow_cast-self
overflow_cast-self c = let room : length c.args.self.now.taken.items < 256 = has_room c.args.edges.now _ _ _ c.args.a c.requires.peeled c.requires.fits c.requires.left in omega (arith, room, c.len.ensures.value)

pub push-requires : goal.push-requires
push-requires c = let room : length c.args.self.now.taken.items < 256 = has_room c.args.edges.now _ _ _ c.args.a c.requires.peeled c.requires.fits c.requires.left in (omega arith, room)

pub returns-clause-peeled : goal.returns-clause-peeled
returns-clause-peeled c =
    let more = peeled_more c.args.edges.now _ _ _ c.args.a c.requires.peeled c.requires.fits c.requires.left c.requires.free in
    subst (λ (t : List ℕ). IsPeeled c.args.edges.now (slice_set c.args.self.now.left c.args.a false) (slice_set c.args.self.now.ranks c.args.a c.len.result) t) (sym c.push.ensures.items)
    (subst (λ (n : ℕ). IsPeeled c.args.edges.now (slice_set c.args.self.now.left c.args.a false) (slice_set c.args.self.now.ranks c.args.a n) (c.args.self.now.taken.items ++ c.args.a ∷ [])) (sym c.len.ensures.value) more)
