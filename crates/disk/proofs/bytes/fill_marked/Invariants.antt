use Rattle.std.proofs.Common.{◌-◌, min, false}
use Rattle.disk.specs.Marks.{all_marks}
use Rattle.disk.specs.Pages.{seen}
use Rattle.disk.proofs.PageLemmas.{filling}
use Rattle.disk.proofs.bytes.fill_marked.Given as goal

abbrev pub invariant-loop-i : goal.invariant-loop-i
invariant-loop-i l = filling l.given l.pages.items (seen l.pages.items false (all_marks l.epoch l.words.items) l.size) l.size l.fn.bytes l.bytes l.turn (min l.i l.size)

abbrev pub decreases-loop-i : goal.decreases-loop-i
decreases-loop-i l = l.size - l.i

abbrev pub invariant-loop-k : goal.invariant-loop-k
invariant-loop-k l = filling l.given l.pages.items (seen l.pages.items false (all_marks l.epoch l.words.items) l.size) l.size l.fn.bytes l.bytes l.turn l.k
