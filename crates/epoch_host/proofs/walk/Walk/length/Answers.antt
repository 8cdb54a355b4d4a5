use Rattle.std.proofs.Common.{ℕ, length, sym, ◌∙◌, ap}
use Rattle.paxos_block.specs.Shape.{Shape}
use Rattle.epoch_host.specs.Ending.{place_in}
use Rattle.epoch_host.specs.Knowing.{length_at}
use Rattle.epoch_host.proofs.Ending.{knows_upto}
use Rattle.epoch_host.proofs.Knowing.{is_there}
use Rattle.epoch_host.proofs.walk.Walk.length.Goals as goal

pub returns-clause-is : goal.returns-clause-is
returns-clause-is c =
    let w = c.args.self.now in
    let s = c.in_ok-stay.stay.now in
    c.place_of.ensures ∙ ap (λ (n : ℕ). place_in w.config s.epoch n) c.length.ensures ∙ ap (length_at w.config) (sym c.in_ok-stay.ensures.at_work.is)

pub returns-clause-only : goal.returns-clause-only
returns-clause-only c = λ some. is_there c.args.self.now c.in_ok-stay.stay.now c.in_ok-stay.ensures.at_work

pub returns-clause-known : goal.returns-clause-known
returns-clause-known c =
    let s = c.in_ok-stay.stay.now in
    let at = c.in_ok-stay.ensures.at_work in
    knows_upto c.args.self.now s at c.place_of.result
    (c.place_of.ensures ∙ ap (λ (n : ℕ). place_in c.args.self.now.config s.epoch n) c.length.ensures ∙ ap (λ (k : Shape). place_in k s.epoch (length s.core.prefix)) (sym at.stays.config))
