-- A full log is final, and a run that begins with what carries its table over goes on from it.
use Rattle.std.proofs.Common.{◌≡◌, ◌+◌, ℕ, List, ◌++◌, length, take, drop, sym, ap, subst, ◌∙◌}
use Rattle.std.proofs.lemmas.List.{take-take, take-append-drop}
use Rattle.lock_command.specs.declared.command.Command.{Command}
use Rattle.lock_table.specs.Apply.{applied, table_after}
use Rattle.lock_table.specs.Carrying.{carried_over, without_clients}
use Rattle.lock_table.specs.Picture.{IsPictureOf}
use Rattle.lock_table.proofs.Carrying.{forgotten_later, forgotten_replied, pictured_later, replied_later}
use Rattle.paxos_block.specs.Shape.{Shape}
use Rattle.world.specs.Entry.{Filled}
use Rattle.world.specs.World.{IsRun}
use Rattle.host.specs.declared.answer.HostAnswer.TheVariants.{Recovered}
use Rattle.world.specs.Chosen.{migrated, SaysAt}
use Rattle.world.specs.Headline.{HasOneLog, prefix_at}
use Rattle.world_safety.specs.Renewals.{FullLogsAreFinal, RecoveriesGoOn, RecoveriesGoOnWithout}
use Rattle.world_safety.proofs.Claims.Safety.{headline}

pub full_logs_are_final : (c : Shape) (log : List Filled) → IsRun c log → FullLogsAreFinal c log
full_logs_are_final c log is_run i j host other full also =
    let h : HasOneLog c log = headline c log is_run in
    h.is_safe.prefix i host ∙ ap (λ n. take n h.commands) (full ∙ sym also) ∙ sym (h.is_safe.prefix j other)

-- a recovery gives what the run begins with, and then other commands
recovers_both : (c : Shape) (log : List Filled) (begun : List Command) (i host n : ℕ) → IsRun c log → migrated log ≡ begun → SaysAt c log i host (Recovered n) → (later : List Command) × (prefix_at c log (i + 1) host ≡ begun ++ later)
recovers_both c log begun i host n is_run same says =
    let h : HasOneLog c log = headline c log is_run in
    let m = length (migrated log) in
    let learned = take n h.commands in
    let first : take m learned ≡ begun = take-take m n h.commands (h.is_safe.keeps i host n says) ∙ sym h.is_safe.begun ∙ same in
    (drop m learned, (h.is_safe.recovered i host n says).1 ∙ sym (take-append-drop m learned) ∙ ap (λ l. l ++ drop m learned) first)

pub recoveries_go_on : (c : Shape) (log : List Filled) → IsRun c log → RecoveriesGoOn c log
recoveries_go_on c log is_run past shown i host n pictured begun says =
    let both = recovers_both c log (carried_over shown) i host n is_run begun says in
    let later = both.0 in
    let is : prefix_at c log (i + 1) host ≡ carried_over shown ++ later = both.1 in
    record {
      later = later;
      is = is;
      shows = λ after then. subst (λ (l : List Command). IsPictureOf after (table_after l)) (sym is) (pictured_later past later shown after pictured then);
      replies = λ command. ap (λ (l : List Command). (applied (table_after l) command).reply) is ∙ replied_later past later shown command pictured;
    }

pub recoveries_go_on_without : (c : Shape) (log : List Filled) → IsRun c log → RecoveriesGoOnWithout c log
recoveries_go_on_without c log is_run leave past shown i host n pictured begun says =
    let over = carried_over (without_clients leave shown) in
    let both = recovers_both c log over i host n is_run begun says in
    let later = both.0 in
    let is : prefix_at c log (i + 1) host ≡ over ++ later = both.1 in
    record {
      later = later;
      is = is;
      shows = λ after then. subst (λ (l : List Command). IsPictureOf after (table_after l)) (sym is) (forgotten_later past later shown after leave pictured then);
      replies = λ command. ap (λ (l : List Command). (applied (table_after l) command).reply) is ∙ forgotten_replied past later shown leave command pictured;
    }
