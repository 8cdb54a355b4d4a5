use Rattle.std.proofs.Common.{◌≡◌, ℕ, true, false, slice_index_or, sym, ◌∙◌, ap, subst, true≢false, arith, refl, length, slice_set, ◌+◌, ◌*◌}
use Rattle.std.proofs.lemmas.Option.{get_or_from_slice_get, slice_get_read}
use Rattle.lock_command.specs.declared.record.LockRecord.{LockRecord}
use Rattle.inspect.specs.Blocked.{is_in_the_way}
use Rattle.inspect.specs.Marks.{Marked}
use Rattle.inspect.proofs.MarkLemmas.{in_its_way, one_marked}
use Rattle.inspect.proofs.edges.mark_pair.Goals as goal
use Rattle.inspect.proofs.edges.mark_pair.Goals.{else-not-edges-pair-via-then-not-edges-pair+else-is_in_the_way, else-not-edges-pair-via-else-not-edges-pair}

pub returns-else-not-edges-pair-clause-complete : goal.returns-else-not-edges-pair-clause-complete
returns-else-not-edges-pair-clause-complete c = λ x y at_x at_y blocked.
    let is_x : c.index-locks-i.result ≡ x = c.index-locks-i.is ∙ get_or_from_slice_get c.args.locks.now c.args.i x c.index-locks-i.result at_x in
    let is_y : c.index-locks-j.result ≡ y = c.index-locks-j.is ∙ get_or_from_slice_get c.args.locks.now c.args.j y c.index-locks-j.result at_y in
    elim c.else-not-edges-pair.branch [
      | else-not-edges-pair-via-then-not-edges-pair+else-is_in_the_way w ↦
          let here : is_in_the_way c.args.i c.index-locks-i.result c.args.j c.index-locks-j.result ≡ true = subst (λ r. is_in_the_way c.args.i r c.args.j c.index-locks-j.result ≡ true) (sym is_x) (subst (λ r. is_in_the_way c.args.i x c.args.j r ≡ true) (sym is_y) (in_its_way c.args.i x c.args.j y blocked)) in
          absurd (true≢false (sym here ∙ sym w.is_in_the_way.ensures ∙ w.if-is_in_the_way.false))
      | else-not-edges-pair-via-else-not-edges-pair w ↦
          let a : c.get.result ≡ x.client = c.get.ensures.value ∙ ap (λ (r : LockRecord). r.client) is_x in
          let b : c.get-2.result ≡ y.client = c.get-2.ensures.value ∙ ap (λ (r : LockRecord). r.client) is_y in
          record { a_fits = omega (arith, a, c.get.ensures.range); b_fits = omega (arith, b, c.get-2.ensures.range); set = ap (λ (n : ℕ). slice_index_or c.args.edges.now n false) (omega (arith, a, b, c.from.ensures, c.from-2.ensures)) ∙ w.if-not-edges-pair.false }
    ]

pub returns-then-is_in_the_way-clause-sound : goal.returns-then-is_in_the_way-clause-sound
returns-then-is_in_the_way-clause-sound c = λ a b m.
    let is_i = slice_get_read c.args.locks.now (length c.args.locks.now) c.args.i c.index-locks-i.result refl c.requires.fits.0 c.index-locks-i.is in
    let is_j = slice_get_read c.args.locks.now (length c.args.locks.now) c.args.j c.index-locks-j.result refl c.requires.fits.1 c.index-locks-j.is in
    let of_i : c.from.result ≡ c.index-locks-i.result.client = c.from.ensures ∙ c.get.ensures.value in
    let of_j : c.from-2.result ≡ c.index-locks-j.result.client = c.from-2.ensures ∙ c.get-2.ensures.value in
    let pair : 256 * c.from.result + c.from-2.result ≡ 256 * c.index-locks-i.result.client + c.index-locks-j.result.client = omega (arith, of_i, of_j) in
    one_marked c.args.locks.now c.args.i c.args.j c.index-locks-i.result c.index-locks-j.result c.args.edges.now c.requires.fits.0 c.requires.fits.1 c.index-locks-i.is c.index-locks-j.is (c.requires.name _ _ is_i is_j) (sym c.is_in_the_way.ensures ∙ c.if-is_in_the_way.true) (omega (arith, c.get.ensures.value, c.get.ensures.range)) (omega (arith, c.get-2.ensures.value, c.get-2.ensures.range)) a b (subst (λ n. Marked (slice_set c.args.edges.now n true) a b) pair m)
