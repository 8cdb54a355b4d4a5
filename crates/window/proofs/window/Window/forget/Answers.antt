use Rattle.std.proofs.Common.{◌≡◌, ◌<◌, ◌∙◌, length, None, sym, ap, arith}
use Rattle.std.proofs.lemmas.List.{get_or-set_same, get_or-set_other}
use Rattle.window.specs.Knows.{sight_in}
use Rattle.window.specs.Calls.{length_of}
use Rattle.window.proofs.Following.{all_forget}
use Rattle.window.proofs.window.Window.forget.Goals as goal

pub returns-clause-follows : goal.returns-clause-follows
returns-clause-follows c before after is adds =
    let w = c.args.self.now in
    let same : c.from.result ≡ c.args.disk = omega arith in
    let room : c.from.result < length w.sights = omega arith in
    all_forget (length_of w) w.standpoint.epoch w.standpoint.host before after c.args.disk adds w.sights _ w.reading w.row w.has_passed is
    (ap (sight_in _) (sym same) ∙ get_or-set_same w.sights c.from.result None None room)
    (λ other off. get_or-set_other w.sights c.from.result other None None (λ e. off (e ∙ same)))
