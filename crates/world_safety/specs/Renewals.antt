-- What a renewal leads to: a full log is final, and a run that begins with what carries its table over goes on from it.
use Rattle.std.specs.Prelude.{◌≡◌, ◌+◌, ℕ, Bool, List, ◌++◌, length}
use Rattle.lock_command.specs.declared.command.Command.{Command}
use Rattle.lock_table.specs.Apply.{applied, table_after}
use Rattle.lock_table.specs.Carrying.{carried_over, forgetting, table_later, without_clients}
use Rattle.lock_table.specs.Picture.{Shown, IsPictureOf}
use Rattle.paxos_block.specs.Shape.{Shape}
use Rattle.host.specs.declared.answer.HostAnswer.TheVariants.{Recovered}
use Rattle.world.specs.Entry.{Filled}
use Rattle.world.specs.Chosen.{migrated, SaysAt}
use Rattle.world.specs.Headline.{prefix_at}

-- the host has learned every slot by then
abbrev pub IsFullAt : Shape → List Filled → ℕ → ℕ → Type 0
IsFullAt c log i host = length (prefix_at c log i host) ≡ c.slots

-- whoever has learned every slot, and whenever, has learned the same
abbrev pub FullLogsAreFinal : Shape → List Filled → Type 0
FullLogsAreFinal c log = (i j host other : ℕ) → IsFullAt c log i host → IsFullAt c log j other → prefix_at c log i host ≡ prefix_at c log j other

-- What was learned is what carries a table over, and then other commands. It shows what the commands that left the table and then these
-- others leave, and each further command is given the reply that it would be given after those.
pub record GoesOn (past : List Command) (shown : Shown) (learned : List Command) : Type 0 where
  pub later : List Command
  pub is : learned ≡ carried_over shown ++ later
  pub shows : (after : Shown) → IsPictureOf after (table_after (past ++ later)) → IsPictureOf after (table_after learned)
  pub replies : (command : Command) → (applied (table_after learned) command).reply ≡ (applied (table_after (past ++ later)) command).reply

-- so it is with every recovery, where the run begins with what carries over a table that these commands left
abbrev pub RecoveriesGoOn : Shape → List Filled → Type 0
RecoveriesGoOn c log =
    (past : List Command) (shown : Shown) (i host n : ℕ) → IsPictureOf shown (table_after past) → migrated log ≡ carried_over shown → SaysAt c log i host (Recovered n)
    → GoesOn past shown (prefix_at c log (i + 1) host)

-- What was learned is what carries a table over without some clients, and then other commands. It shows what these others leave of the table that was left
-- once it forgets those clients, and each further command is given the reply that it would be given there.
pub record GoesOnWithout (leave : ℕ → Bool) (past : List Command) (shown : Shown) (learned : List Command) : Type 0 where
  pub later : List Command
  pub is : learned ≡ carried_over (without_clients leave shown) ++ later
  pub shows : (after : Shown) → IsPictureOf after (table_later (forgetting leave (table_after past)) later) → IsPictureOf after (table_after learned)
  pub replies : (command : Command) → (applied (table_after learned) command).reply ≡ (applied (table_later (forgetting leave (table_after past)) later) command).reply

-- so it is with every recovery, where the run begins with what carries a table over without some clients
abbrev pub RecoveriesGoOnWithout : Shape → List Filled → Type 0
RecoveriesGoOnWithout c log =
    (leave : ℕ → Bool) (past : List Command) (shown : Shown) (i host n : ℕ) → IsPictureOf shown (table_after past) → migrated log ≡ carried_over (without_clients leave shown) → SaysAt c log i host (Recovered n)
    → GoesOnWithout leave past shown (prefix_at c log (i + 1) host)
