use Rattle.std.proofs.Common.{◌≡◌, ◌+◌, ℕ, ◌++◌, length, sym, ◌∙◌, ap, arith}
use Rattle.disk.specs.Filling.{spread}
use Rattle.disk.specs.Image.{Contents, overwritten}
use Rattle.disk.proofs.FillingLemmas.{length-spread, spread_split}
use Rattle.disk.proofs.PutLemmas.{overwritten_nothing, overwritten_twice}
use Rattle.disk.proofs.SeenLemmas.{size_is}
use Rattle.disk.proofs.image.Image.fill.Goals as goal

pub loop-done-init : goal.loop-done-init
loop-done-init c = record { within = omega arith; so_far = sym (overwritten_nothing c.args.self.now c.args.at) }

pub overflow_add-next : goal.overflow_add-next
overflow_add-next c = omega (arith, size_is _ _ _ _ _ c.self.view_is, c.requires.range)

pub loop-done-preserved : goal.loop-done-preserved
loop-done-preserved c =
    let given = c.args.given.now in
    let at = c.args.at in
    let done = c.loop-done.done in
    let more = c.min-more.result in
    let xs = spread given 0 done in
    let zero : 0 + done ≡ done = omega arith in
    let long : done ≡ length xs = sym (length-spread given 0 done) in
    record {
      within = omega arith;
      so_far =
          c.fill_page.ensures
          ∙ ap (λ (s : Contents). overwritten s (at + done) (spread given done more)) c.loop-done.invariant.so_far
          ∙ ap (λ (k : ℕ). overwritten (overwritten c.args.self.now at xs) (at + k) (spread given done more)) long
          ∙ overwritten_twice c.args.self.now xs (spread given done more) at
          ∙ ap (overwritten c.args.self.now at) (sym (spread_split given 0 done more ∙ ap (λ (k : ℕ). xs ++ spread given k more) zero));
    }

pub overflow_sub-self-inside : goal.overflow_sub-self-inside
overflow_sub-self-inside c = omega (arith, size_is _ _ _ _ _ c.self.view_is, c.requires.range)

pub prove-unreachable-requires : goal.prove-unreachable-requires
prove-unreachable-requires c = omega (arith, size_is _ _ _ _ _ c.self.view_is, c.requires.range, c.if-prove.true)
