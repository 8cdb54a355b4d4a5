use Rattle.std.proofs.Common.{◌≡◌, rules}
use Rattle.std.proofs.lemmas.Option.{IfSome_then}
use Rattle.in_place.proofs.replace_epoch.told_by.Goals as goal

pub returns-clause-told : goal.returns-clause-told
returns-clause-told g c =
    let other : ¬ (c.args.disk ≡ c.args.lost) = search rules in
    IfSome_then c.told_of.result c.told_of.ensures.told (λ told is. record { other = other; first = is.0; new = c.told_of.new.device; shows = is.1 })
