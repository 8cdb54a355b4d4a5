-- What is printed of a race.
use Rattle.std.specs.Prelude.{◌≡◌, ◌+◌, ℕ, Bool, List, [], ◌∷◌, ◌++◌, codes, decimal, length, Option, if◌then◌else◌}
use Rattle.std.specs.Io.KnownBytes.{Appends}
use Rattle.cluster.specs.declared.fault.HostFault.{HostFault}
use Rattle.cluster.specs.declared.fault.HostFault.TheVariants as fault
use Rattle.race.specs.Race.{IsRace}
use Rattle.race.specs.declared.answer.Answer.{Answer}
use Rattle.race.specs.declared.answer.Answer.TheVariants as race
use Rattle.dlm_words.specs.Text.{refusal_text, reply_text}

-- the numbers and names of what a cluster of host threads refuses
abbrev pub host_fault_text : HostFault → List ℕ
host_fault_text (fault.Refused refusal) = refusal_text refusal
host_fault_text fault.NoMemory = codes "21 NoMemory"
host_fault_text fault.JournalFull = codes "22 JournalFull"
host_fault_text fault.SeatTaken = codes "27 SeatTaken"
host_fault_text fault.SeatsMissing = codes "28 SeatsMissing"
host_fault_text fault.OpenCall = codes "35 OpenCall"

-- what a host of a race is answered
abbrev pub race_answer_text : Answer → List ℕ
race_answer_text (race.Acknowledged slot reply) = codes "ack " ++ decimal slot ++ codes " " ++ reply_text reply
race_answer_text (race.Refused cause) = codes "refused " ++ host_fault_text cause

-- a host of a race, and what it is answered
abbrev pub race_line : ℕ → Answer → List ℕ
race_line host answer = codes "host " ++ decimal host ++ codes " " ++ race_answer_text answer ++ 10 ∷ []

-- the answers of the hosts from one on, in their order
abbrev pub race_lines : ℕ → List Answer → List ℕ
race_lines host [] = []
race_lines host (answer ∷ rest) = race_line host answer ++ race_lines (host + 1) rest

-- whether the prefixes agree
abbrev pub agreement_line : Bool → List ℕ
agreement_line agree = (if agree then codes "agree" else codes "differ") ++ 10 ∷ []

abbrev pub race_text : List Answer → Bool → List ℕ
race_text answers agree = race_lines 0 answers ++ agreement_line agree

-- The hosts raced, and what they were answered was written, one answer a host.
pub record WritesRace (hosts : ℕ) (before after : Option (List ℕ)) : Type 0 where
  pub answers : List Answer
  pub agree : Bool
  pub each : length answers ≡ hosts
  pub race : IsRace hosts answers agree
  pub written : Appends before after (race_text answers agree)
