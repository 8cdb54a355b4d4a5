use Rattle.std.proofs.Common.{◌≡◌, Bool, true, false, Bor, drop, List, Some, None, refl, sym, ap, subst, ◌∙◌}
use Rattle.std.specs.Bool.{then_some}
use Rattle.std.specs.List.{slice_get}
use Rattle.std.specs.Option.{option_copied}
use Rattle.lock_table.specs.declared.known_client.KnownClient.{KnownClient}
use Rattle.lock_table.specs.Apply.{is_client}
use Rattle.lock_table.specs.Known.{AreKnown}
use Rattle.lock_index.proofs.Parts.{first}
use Rattle.lock_table.proofs.KnownPlaces.{client_of}
use Rattle.lock_index.proofs.Keyed.{first_if, then_some_if, find_at_cut}
use Rattle.lock_index.proofs.Cuts.{slice_get_is_first}
use Rattle.lock_table.proofs.clients.Clients.get.Goals as goal

copied_if : (b : Bool) (r : Bor KnownClient) → option_copied (then_some b r) ≡ then_some b r.now
copied_if true r = refl
copied_if false r = refl

pub returns-in_err-found : goal.returns-in_err-found
returns-in_err-found c =
    let xs = c.args.self.now in
    let i = c.args.place in
    let known = subst (λ (l : List KnownClient). AreKnown l) c.self.view_is c.self.invariant.0 in
    let stands : None ≡ first (drop i xs) =
    ap option_copied (sym c.in_err-found.was) ∙ c.client_at.ensures ∙ ap (λ l. slice_get l i) (c.deref.ensures.value ∙ c.self.view_is) ∙ slice_get_is_first xs i in
    ap option_copied c.from_residual.ensures ∙ ap (first_if (is_client c.args.client)) stands ∙ sym (find_at_cut client_of c.args.client xs i known.rising c.requires.point)

pub returns : goal.returns
returns c =
    let xs = c.args.self.now in
    let i = c.args.place in
    let k = c.in_ok-found.found.now in
    let known = subst (λ (l : List KnownClient). AreKnown l) c.self.view_is c.self.invariant.0 in
    let stands : Some k ≡ first (drop i xs) =
    ap option_copied (sym c.in_ok-found.was) ∙ c.client_at.ensures ∙ ap (λ l. slice_get l i) (c.deref.ensures.value ∙ c.self.view_is) ∙ slice_get_is_first xs i in
    ap option_copied c.then_some.ensures
    ∙ ap (λ b. option_copied (then_some b c.in_ok-found.found)) c.eq.ensures
    ∙ copied_if (is_client c.args.client k) c.in_ok-found.found
    ∙ then_some_if (is_client c.args.client) k
    ∙ ap (first_if (is_client c.args.client)) stands
    ∙ sym (find_at_cut client_of c.args.client xs i known.rising c.requires.point)
