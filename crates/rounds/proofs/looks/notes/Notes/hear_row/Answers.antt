use Rattle.std.proofs.Common.{◌≡◌, ◌∙◌, List, ℕ, Option, None, Some, refl, sym, subst}
use Rattle.std.specs.Option.{option_map}
use Rattle.torn_block.specs.Layout.{cluster_version}
use Rattle.paxos_block.specs.Row.{DecodedBlock}
use Rattle.attempt.specs.Answers.{Told, more}
use Rattle.attempt.proofs.ReadRows.{reads_gist}
use Rattle.rounds.specs.Look.Kept.{Follows, disk_of}
use Rattle.rounds.proofs.looks.notes.Notes.hear_row.Goals as goal

same_option : (o : Option (List ℕ)) → option_map (λ value. value) o ≡ o
same_option None = refl
same_option (Some value) = refl

pub returns-in-Ok-clause-follows : goal.returns-in-Ok-clause-follows
returns-in-Ok-clause-follows c f is =
    let reads = reads_gist cluster_version (λ value. value) 0 _ c.args.bytes.now c.in-Ok.gist c.in-Ok.ensures.said in
    subst (λ (o : Option (List DecodedBlock)). Follows (more f (disk_of c.args.self.now) (Told o)) c.take_row.new.self) (sym reads.said)
    (c.take_row.ensures.follows f reads.seen (sym reads.so.marked ∙ same_option c.in-Ok.gist.marked) is)

pub returns-in-Err-clause-follows : goal.returns-in-Err-clause-follows
returns-in-Err-clause-follows c f is =
    subst (λ (o : Option (List DecodedBlock)). Follows (more f (disk_of c.args.self.now) (Told o)) c.pass_over.new.self) (sym (c.in-Err.ensures.unsaid.0 refl)) (c.pass_over.ensures.follows f (Told None) is refl)
