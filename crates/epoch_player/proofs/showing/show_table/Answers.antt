-- The picture is that of the host's table, and its text is what is shown. Where no table is given, the host has none.
use Rattle.std.specs.Prelude.{IsSome}
use Rattle.std.proofs.Common.{ℕ, ◌≡◌, Option, Some, None, refl, sym, subst, inl, inr}
use Rattle.std.proofs.lemmas.Bool.{false≢true}
use Rattle.lock_table.specs.Picture.{Shown}
use Rattle.epoch_host.specs.Ending.{IsTableOf}
use Rattle.epoch_simulator.specs.Doing.{OfDeeds}
use Rattle.epoch_player.specs.Text.{no_table_text}
use Rattle.epoch_player.proofs.showing.show_table.Goals as goal

-- none is not some
none_some : {T : Type 0} (o : Option T) → o ≡ None → IsSome o → ⊥
none_some None is some = false≢true some
none_some (Some x) is some = let never : ⊥ = cc in never

pub returns-in_default : goal.returns-in_default
returns-in_default g c =
    (no_table_text, inl ((λ w is there. none_some c.table.result c.in_default.is (c.table.ensures.there w is there)), refl), c.in_ok-write_all.ensures.bytes)

pub returns : goal.returns
returns g c =
    let k = c.args.cluster.now in
    let h = c.args.show.now.host in
    let text = c.in_ok-show_view.ensures in
    let known = subst (λ (shown : Shown). OfDeeds k h (λ deeds. (upto : ℕ) × IsTableOf k.shape h deeds upto shown)) (sym c.in_ok-picture.ensures.shown) c.in-Some.ensures.known in
    (text.0, inr (c.in_ok-picture.picture, known, text.1), text.2)
