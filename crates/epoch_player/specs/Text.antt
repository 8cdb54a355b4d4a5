-- What is printed of hosts of all epochs.
use Rattle.std.specs.Prelude.{◌≡◌, ◌⊎◌, ℕ, List, [], ◌∷◌, ◌++◌, codes, decimal, Option, Some, None}
use Rattle.std.specs.List.{flat_map}
use Rattle.lock_table.specs.Picture.{Shown}
use Rattle.inspect.specs.declared.verdict.Blocking.{Blocking}
use Rattle.inspect.specs.declared.verdict.Blocking.TheVariants.{Ranked, Cycle}
use Rattle.inspect.specs.Text.{queues_text, word}
use Rattle.inspect.specs.Verdicts.{IsVerdict}
use Rattle.dlm_words.specs.Text.{reply_text, refusal_text}
use Rattle.lock_script.specs.declared.show.Show.{Show}
use Rattle.lock_script.specs.declared.show.View.{View}
use Rattle.lock_script.specs.declared.show.View.TheVariants as shown_as
use Rattle.epoch_host.specs.declared.answer.EpochAnswer.{EpochAnswer}
use Rattle.epoch_host.specs.declared.answer.EpochAnswer.TheVariants.{Ack, Recovered, Looked, Beaten, Marked, Refused}
use Rattle.epoch_host.specs.Ending.{IsTableOf, IsThere}
use Rattle.epoch_simulator.specs.Kept.{Kept}
use Rattle.epoch_simulator.specs.Doing.{OfDeeds, OfHost}
use Rattle.epoch_player.specs.declared.happening.Said.{Said}
use Rattle.epoch_player.specs.Happening.{IsAt}

-- ANSWERS

-- how a task ended
abbrev pub answer_text : EpochAnswer → List ℕ
answer_text (Ack place reply) = codes "ack " ++ decimal place ++ codes " " ++ reply_text reply
answer_text (Recovered length) = codes "recovered " ++ decimal length
answer_text (Looked length) = codes "looked " ++ decimal length
answer_text (Beaten host) = codes "beaten " ++ decimal host
answer_text (Marked count) = codes "marked " ++ decimal count
answer_text (Refused refusal) = codes "refused " ++ refusal_text refusal

-- the number of the event, the host, and what it answers
abbrev pub said_text : (place : ℕ) → Option Said → List ℕ
said_text place None = []
said_text place (Some said) = decimal place ++ codes " h" ++ decimal said.host ++ codes " " ++ answer_text said.answer ++ 10 ∷ []

-- TABLES

-- where a host is
abbrev pub epoch_text : (h : ℕ) → Option ℕ → List ℕ
epoch_text h (Some epoch) = codes "h" ++ decimal h ++ codes " in epoch " ++ decimal epoch ++ 10 ∷ []
epoch_text h None = codes "h" ++ decimal h ++ (codes " in no epoch" ++ 10 ∷ [])

-- it has no table
abbrev pub no_table_text : List ℕ
no_table_text = codes "no table" ++ 10 ∷ []

-- a client's number behind a space
abbrev pub client_word : ℕ → List ℕ
client_word client = word (decimal client)

-- the clients of a cycle, in its order
abbrev pub blocking_text : Blocking → List ℕ
blocking_text (Ranked ranks) = codes "no cycle" ++ 10 ∷ []
blocking_text (Cycle clients) = codes "cycle" ++ flat_map client_word clients.items ++ 10 ∷ []

-- a table is shown as its queues, or as what blocks whom in it
abbrev pub IsViewOf : View → Shown → List ℕ → Type 0
IsViewOf shown_as.Queues shown text = text ≡ queues_text shown
IsViewOf shown_as.Blocking shown text = (found : Blocking) × IsVerdict shown.locks found × (text ≡ blocking_text found)

-- of a host whose table is there, the table is shown that is so by whatever it did
abbrev pub IsTableText : Show → Kept → List ℕ → Type 0
IsTableText show k text =
    (OfHost k show.host (λ w. IsThere w → ⊥) × (text ≡ no_table_text))
    ⊎ ((shown : Shown) × OfDeeds k show.host (λ deeds. (upto : ℕ) × IsTableOf k.shape show.host deeds upto shown) × IsViewOf show.view shown text)

-- where the host is, and then its table
abbrev pub IsShowOf : Show → Kept → List ℕ → Type 0
IsShowOf show k text =
    (at : Option ℕ) × IsAt k show.host at
    × ((shown : List ℕ) × IsTableText show k shown × (text ≡ epoch_text show.host at ++ shown))
