use Rattle.std.specs.Prelude.{OnOk}
use Rattle.std.proofs.Common.{List, ℕ, Option, [], refl, subst, inl, inr, append_assoc}
use Rattle.std.specs.Io.KnownBytes.{Appends}
use Rattle.std.proofs.KnownBytes.{Appends-nil}
use Rattle.log_folders.specs.Areas.{SaysNumbers, epoch_line}
use Rattle.log_folders.proofs.Steps.{then_ok}
use Rattle.log_folders.proofs.check.print_epoch.Goals as goal

pub returns-in-Some-Some : goal.returns-in-Some-Some
returns-in-Some-Some g c =
    let line = epoch_line c.args.disk c.newest_of-newest.result in
    let wrote : OnOk c.writeln.result (Appends (g.O.Write.contents c.args.out.now) (g.O.Write.contents c.writeln.new.self) line) = simp append_assoc c.writeln.ensures.bytes in
    then_ok c.writeln.result _ _
    (λ printed one other of_one of_other.
    let says_one = subst (λ (o : Option (List ℕ)). SaysNumbers one o) c.in-Some-Some.is-0 of_one in
    let says_other = subst (λ (o : Option (List ℕ)). SaysNumbers other o) c.in-Some-Some.is-1 of_other in (
      line,
      inl (c.newest_of-newest.result, says_one.0, says_other.0, c.newest_of-newest.ensures one other says_one says_other, refl),
      printed,
    ))
    wrote

pub returns-in_default : goal.returns-in_default
returns-in_default g c = λ one other of_one of_other.
    ([], inr (inr (subst (λ (o : Option (List ℕ)). SaysNumbers other o) c.in_default.is-1 of_other), refl), Appends-nil _)
