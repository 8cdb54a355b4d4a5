-- All that stands from the place on is taken.
use Rattle.std.proofs.Common.{◌≡◌, ◌-◌, ◌∙◌, ℕ, List, Bor, map, length, take, drop, ap, sym, arith, length-drop, take_all}
use Rattle.std.proofs.lemmas.List.{drop-map}
use Rattle.mg_words.proofs.request.command_in.Goals as goal

pub returns : goal.returns
returns c =
    let words = c.args.words.now in
    let place = c.args.place in
    let all : take (length words - place) (drop place words) ≡ drop place words = take_all (length words - place) (drop place words) (omega (arith, length-drop place words)) in
    ap (map (λ (word : Bor (List ℕ)). word.now)) all ∙ sym (drop-map (λ (word : Bor (List ℕ)). word.now) place words)
