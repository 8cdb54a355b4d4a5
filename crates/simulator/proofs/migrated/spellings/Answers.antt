use Rattle.std.specs.Prelude.{map, slice_get}
use Rattle.std.proofs.Common.{ℕ, ◌+◌, ◌≡◌, Some, List, [], ◌∷◌, ◌++◌, take, sym, ap, ap₂, ◌∙◌, subst, arith, below_more}
use Rattle.std.proofs.lemmas.List.{map-append, take_more}
use Rattle.std.proofs.lemmas.Option.{slice_get-get_or, slice_get_within}
use Rattle.lock_command.specs.declared.command.Command.{Command}
use Rattle.lock_command.specs.Command.{spelling}
use Rattle.world.specs.World.{ReadsBack}
use Rattle.world.proofs.Follow.{command_reads_back}
use Rattle.simulator.proofs.migrated.spellings.Goals as goal

pub loop-command-preserved : goal.loop-command-preserved
loop-command-preserved c =
    let at = c.loop-command in
    let log = c.args.log.now in
    let i = at.command-index in
    let x = c.command-item.result in
    let next : take (i + 1) log ≡ take i log ++ x ∷ [] = take_more log i x c.loop-command-test.true ∙ ap (λ (e : Command). take i log ++ e ∷ []) (sym c.command-item.is) in
    let found : slice_get log i ≡ Some x = slice_get-get_or log i x c.loop-command-test.true ∙ ap Some (sym c.command-item.is) in
    let Reads : ℕ → Type 0 = λ k. (command : Command) → slice_get log k ≡ Some command → ReadsBack command in
    let here : Reads i = λ command is. (let same : x ≡ command = cc in subst ReadsBack same (command_reads_back x c.encode.ensures.fits)) in
    record {
      items =
          c.push_reserved.ensures.items ∙ ap₂ (λ (l : List (List ℕ)) (v : List ℕ). l ++ v ∷ []) at.invariant.items c.encode.ensures.spelling
          ∙ sym (ap (map spelling) next ∙ map-append spelling (take i log) (x ∷ []));
      room = omega (arith, c.push_reserved.ensures.capacity, at.invariant.room);
      reads = λ k command within is. below_more Reads i (λ j less given at_j. at.invariant.reads j given less at_j) here k within command is;
    }

pub returns-clause-reads : goal.returns-clause-reads
returns-clause-reads c = λ k command is.
    let within = slice_get_within c.args.log.now k command is in
    c.loop-command.invariant.reads k command (omega (arith, within, c.loop-command-test.false)) is
