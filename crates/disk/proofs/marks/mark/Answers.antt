use Rattle.std.proofs.Common.{◌+◌, ◌<◌, ◌≤◌, length, refl, ◌∙◌, arith, length-set}
use Rattle.std.proofs.lemmas.List.{get_or_read}
use Rattle.std.proofs.lemmas.List.Elements.{All-set}
use Rattle.disk.specs.declared.word.Word.{Word}
use Rattle.disk.specs.Marks.{blank}
use Rattle.disk.proofs.MarkLemmas.{reached, marks_more, marks_put}
use Rattle.disk.proofs.marks.mark.Goals as goal

pub loop-left-init : goal.loop-left-init
loop-left-init c =
    record {
      begun = omega arith;
      from = omega arith;
      left = omega arith;
      capacity = refl;
      as_many = refl;
      no_later = λ all. all;
      marked = record { inside = λ k f u. absurd (omega arith); outside = λ k o. refl };
    }

pub index-requires : goal.index-requires
index-requires c = omega (arith, c.loop-left.invariant.left, c.loop-left.invariant.as_many, c.requires.within)

pub marked-requires-clause-first : goal.marked-requires-clause-first
marked-requires-clause-first c = omega (arith, c.loop-left.invariant.from, c.loop-left.invariant.begun)

pub marked-requires-clause-order : goal.marked-requires-clause-order
marked-requires-clause-order c = omega (arith, c.loop-left.invariant.from, c.loop-left.invariant.begun)

pub index_mut-requires : goal.index_mut-requires
index_mut-requires c = omega (arith, c.loop-left.invariant.left, c.loop-left.invariant.as_many, c.requires.within)

pub overflow_add-index : goal.overflow_add-index
overflow_add-index c = omega (arith, c.loop-left.invariant.left)

pub loop-left-preserved : goal.loop-left-preserved
loop-left-preserved c =
    let words = c.loop-left.words.items in
    let i = c.loop-left.index in
    let l = c.loop-left.invariant in
    let m = c.marked.ensures in
    let within : i < length words = omega (arith, l.left, l.as_many, c.requires.within) in
    let P : Word → Type 0 = λ w. w.stamp ≤ c.args.epoch in
    record {
      begun = omega (arith, l.begun);
      from = omega (arith, l.begun);
      left = omega (arith, l.left);
      capacity = l.capacity;
      as_many = length-set words i _ ∙ l.as_many;
      no_later = λ before. All-set P words i _ (omega (arith, m.stamp)) (l.no_later before);
      marked =
          marks_more c.args.epoch c.args.at c.args.end i c.loop-left.from 64 c.args.words.now.items words c.index.result.now _
          within (get_or_read words i c.index.result.now within c.index.ensures blank) c.requires.order l.begun (omega (arith, l.left)) l.from (omega (arith, l.left))
          l.marked (record { below = m.below; inside = m.inside; above = m.above });
    }

pub index-requires-then-from-left : goal.index-requires-then-from-left
index-requires-then-from-left c = omega (arith, c.loop-left.invariant.left, c.loop-left.invariant.as_many, c.requires.within)

pub index_mut-requires-then-from-left : goal.index_mut-requires-then-from-left
index_mut-requires-then-from-left c = omega (arith, c.loop-left.invariant.left, c.loop-left.invariant.as_many, c.requires.within)

pub returns-then-from-left : goal.returns-then-from-left
returns-then-from-left c =
    let words = c.loop-left.words.items in
    let i = c.loop-left.index in
    let cell = c.index-then-from-left.result.now in
    let l = c.loop-left.invariant in
    let m = c.marked-then-from-left.ensures in
    let within : i < length words = omega (arith, l.left, l.as_many, c.requires.within) in
    let P : Word → Type 0 = λ w. w.stamp ≤ c.args.epoch in
    record {
      marks =
          marks_put c.args.epoch c.args.at c.args.end (reached c.args.at c.args.end (i + 1)) c.args.words.now.items _ c.requires.order (omega (arith, l.left, l.begun))
          (marks_more c.args.epoch c.args.at c.args.end i c.loop-left.from c.loop-left.left c.args.words.now.items words cell _
          within (get_or_read words i cell within c.index-then-from-left.ensures blank) c.requires.order l.begun (omega (arith, l.left)) l.from (omega (arith, l.left))
          l.marked (record { below = m.below; inside = m.inside; above = m.above }));
      no_later = λ before. All-set P words i _ (omega (arith, m.stamp)) (l.no_later before);
      as_many = length-set words i _ ∙ l.as_many;
      capacity = l.capacity;
    }

pub returns-else-from-left : goal.returns-else-from-left
returns-else-from-left c =
    let l = c.loop-left.invariant in
    record {
      marks = marks_put c.args.epoch c.args.at c.args.end (reached c.args.at c.args.end c.loop-left.index) c.args.words.now.items _ c.requires.order (omega (arith, l.left, l.begun, l.from)) l.marked;
      no_later = l.no_later;
      as_many = l.as_many;
      capacity = l.capacity;
    }
