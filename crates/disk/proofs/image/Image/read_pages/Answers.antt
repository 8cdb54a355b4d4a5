use Rattle.std.proofs.Common.{◌≡◌, ◌+◌, ◌-◌, ◌≤◌, ℕ, List, ◌++◌, length, take, drop, sym, ◌∙◌, ap, arith, length-drop}
use Rattle.std.proofs.lemmas.List.{length-take-le, take_all}
use Rattle.std.proofs.lemmas.Slice.{take-put_mid}
use Rattle.disk.proofs.PageLemmas.{split_take}
use Rattle.disk.proofs.SeenLemmas.{size_is}
use Rattle.disk.proofs.image.Image.read_pages.Goals as goal

pub overflow_sub-self-inside : goal.overflow_sub-self-inside
overflow_sub-self-inside c = omega (arith, size_is _ _ _ _ _ c.self.view_is, c.requires)

pub prove-unreachable-requires : goal.prove-unreachable-requires
prove-unreachable-requires c = omega (arith, size_is _ _ _ _ _ c.self.view_is, c.requires, c.if-prove.true)

pub overflow_add-next : goal.overflow_add-next
overflow_add-next c = omega (arith, size_is _ _ _ _ _ c.self.view_is, c.requires)

pub loop-done-preserved : goal.loop-done-preserved
loop-done-preserved c =
    let all = c.args.self.now.bytes in
    let at = c.args.at in
    let into = c.loop-done.into in
    let done = c.loop-done.done in
    let more = c.min-more.result in
    let part = c.read_in_page.new.into in
    let fits : at + (done + more) ≤ length all = omega (arith, c.requires) in
    let mid : length (take (done + more - done) (drop done into)) ≡ more =
    length-take-le (done + more - done) (drop done into) (omega (arith, length-drop done into)) ∙ (let e : done + more - done ≡ more = omega arith in e) in
    let long : length part ≡ more = c.read_in_page.auto.into ∙ mid in
    let width : at + done + length (take (done + more - done) (drop done into)) - (at + done) ≡ more = omega (arith, mid) in
    record {
      within = omega arith;
      so_far =
          take-put_mid done (done + more - done) into part (done + more) (omega (arith, long)) (omega arith)
          ∙ ap (λ (l : List ℕ). l ++ part) c.loop-done.invariant.so_far
          ∙ ap (λ (l : List ℕ). take done (drop at all) ++ l) (c.read_in_page.ensures ∙ ap (λ (k : ℕ). take k (drop (at + done) all)) width)
          ∙ sym (split_take all at done more (omega (arith, fits)));
    }

pub returns : goal.returns
returns c =
    let all = c.args.self.now.bytes in
    let n = length c.args.into.now in
    let whole : c.loop-done.done ≡ length c.loop-done.into = omega arith in
    let e : c.loop-done.done ≡ (c.args.at + n) - c.args.at = omega (arith, whole) in
    sym (take_all c.loop-done.done c.loop-done.into (omega arith)) ∙ c.loop-done.invariant.so_far ∙ ap (λ (k : ℕ). take k (drop c.args.at all)) e
