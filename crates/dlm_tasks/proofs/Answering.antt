-- Events behind events: what is answered with them is written one after the other.
use Rattle.std.specs.Prelude.{replicate}
use Rattle.std.specs.Io.KnownBytes.{Appends}
use Rattle.std.proofs.Common.{ℕ, ◌+◌, ◌≡◌, List, [], ◌++◌, length, Option, refl, sym, ap, ◌∙◌, subst}
use Rattle.std.proofs.KnownBytes.{Appends-nil, Appends-trans}
use Rattle.std.proofs.lemmas.Grind.{flat_map-append}
use Rattle.std.proofs.lemmas.List.{length-replicate, replicate-append-replicate, append-nil}
use Rattle.paxos_block.specs.Shape.{Shape}
use Rattle.world.specs.Entry.{Filled}
use Rattle.world.specs.Happens.{Event, Line, happen, answers_from, entry_of, lines_at}
use Rattle.world.specs.World.{world}
use Rattle.lock_script.specs.declared.event.Event as code
use Rattle.simulator.specs.Events.{event_of}
use Rattle.simulator.specs.Kept.{Kept, LeadsTo}
use Rattle.simulator.proofs.Entries.{happen_on, answers_on}
use Rattle.dlm_tasks.specs.Printed.{WritesAnswer, WritesAnswers, line_text, lines_text}

pub none : (log : List Filled) (first : ℕ) (k : Kept) (at : Option (List ℕ)) → LeadsTo log k → WritesAnswers log [] first k k at at
none log first k at leads = record { shape = refl; leads = leads; written = Appends-nil at }

pub joined : (log : List Filled) (a b : List Event) (first : ℕ) (old mid new : Kept) (p q r : Option (List ℕ)) → WritesAnswers log a first old mid p q
    → WritesAnswers (happen old.shape log a) b (first + length a) mid new q r → WritesAnswers log (a ++ b) first old new p r
joined log a b first old mid new p q r one rest =
    let c = old.shape in
    let then = happen c log a in
    let here = answers_from c log first a in
    let text : lines_text here ++ lines_text (answers_from mid.shape then (first + length a) b) ≡ lines_text (answers_from c log first (a ++ b)) =
    ap (λ (s : Shape). lines_text here ++ lines_text (answers_from s then (first + length a) b)) one.shape
    ∙ sym (flat_map-append line_text here (answers_from c then (first + length a) b))
    ∙ ap lines_text (sym (answers_on c log first a b)) in
    record {
      shape = rest.shape ∙ one.shape;
      leads =
          subst (λ (l : List Filled). LeadsTo l new) (sym (happen_on c log a b))
          (subst (λ (s : Shape). LeadsTo (happen s then b) new) one.shape rest.leads);
      written = subst (Appends p r) text (Appends-trans p q r _ _ one.written rest.written);
    }

-- an event so many times, and then so many times more
pub more : (log : List Filled) (e : Event) (k m first : ℕ) (old mid new : Kept) (p q r : Option (List ℕ)) → WritesAnswers log (replicate k e) first old mid p q
    → ((log : List Filled) → LeadsTo log mid → WritesAnswers log (replicate m e) (first + k) mid new q r) → WritesAnswers log (replicate (k + m) e) first old new p r
more log e k m first old mid new p q r one rest =
    let then = happen old.shape log (replicate k e) in
    let far : first + k ≡ first + length (replicate k e) = ap (λ (n : ℕ). first + n) (sym (length-replicate k e)) in
    subst (λ (l : List Event). WritesAnswers log l first old new p r) (replicate-append-replicate k m e)
    (joined log (replicate k e) (replicate m e) first old mid new p q r one
    (subst (λ (n : ℕ). WritesAnswers then (replicate m e) n mid new q r) far (rest then one.leads)))

-- an event, once
pub once : (log : List Filled) (event : code.Event) (place : ℕ) (old new : Kept) (p q : Option (List ℕ)) → WritesAnswer log event place old new p q
    → WritesAnswers log (replicate 1 (event_of event)) place old new p q
once log event place old new p q one =
    let lines = lines_at old.shape log place (entry_of old.shape (world old.shape log) (event_of event)) in
    record {
      shape = one.shape;
      leads = one.leads;
      written = subst (λ (l : List Line). Appends p q (lines_text l)) (sym (append-nil lines)) one.written;
    }
