-- What goes by the log goes by each beginning of it that reaches far enough.
use Rattle.std.specs.Prelude.{All, take, slice_get}
use Rattle.std.proofs.Common.{ℕ, zero, suc, ◌<◌, ◌≤◌, ◌≡◌, Option, Some, None, List, [], ◌∷◌, length, refl, sym, ap, ◌∙◌, subst, arith}
use Rattle.std.proofs.lemmas.List.{take-take, length-take-le}
use Rattle.std.proofs.lemmas.List.Elements.{All-weaker}
use Rattle.lock_command.specs.declared.command.Command.{Command}
use Rattle.lock_table.specs.Apply.{table_after}
use Rattle.lock_table.specs.Picture.{IsPictureOf, Shown}
use Rattle.host.specs.declared.answer.HostAnswer.{HostAnswer}
use Rattle.host.specs.declared.answer.HostAnswer.TheVariants.{Ack, Recovered, Looked, Beaten, Marked, Refused}
use Rattle.host.specs.Host.{reply_after}
use Rattle.world.specs.Happens.{Event, Line}
use Rattle.world.specs.Opening.{Opening}
use Rattle.world.specs.Told as logged
use Rattle.world.specs.Told.{ShowsTable}
use Rattle.simulator.specs.declared.answer.Answer.{Answer}
use Rattle.simulator.specs.Answers.{line_of}
use Rattle.fault_sweep.specs.Judging as judging
use Rattle.fault_sweep.specs.Judging.{is_shown_after, GoesByCommands, AllGoBy}
use Rattle.simulator.specs.OneLog.{GoesBy}

-- what is answered is of the first n slots
abbrev pub IsWithin : ℕ → HostAnswer → Type 0
IsWithin n (Ack slot reply) = slot < n
IsWithin n (Recovered m) = m ≤ n
IsWithin n (Looked m) = m ≤ n
IsWithin n (Beaten host) = Unit {0}
IsWithin n (Marked count) = Unit {0}
IsWithin n (Refused refusal) = Unit {0}

-- the first slots are those of the beginning, too
slot_there : {A : Type 0} (l : List A) (n slot : ℕ) → slot < n → slice_get (take n l) slot ≡ slice_get l slot
slot_there l zero slot less = absurd (omega (arith, less))
slot_there [] (suc n) slot less = refl
slot_there (x ∷ l) (suc n) zero less = refl
slot_there (x ∷ l) (suc n) (suc slot) less = slot_there l n slot (omega (arith, less))

shown : (log : List Command) (n m : ℕ) (picture : Option Shown) → n ≤ length log → m ≤ n → ShowsTable picture (table_after (take m log)) → is_shown_after (take n log) m picture
shown log n m None long less is = absurd is
shown log n m (Some picture) long less is =
    record {
      within = subst (λ (k : ℕ). m ≤ k) (sym (length-take-le n log long)) less;
      table = subst (λ (l : List Command). IsPictureOf picture (table_after l)) (sym (take-take m n log less)) is;
    }

module _ (o : Opening) (events : List Event) (log : List Command) (n : ℕ) (long : n ≤ length log) where
  by_said : (x : Line) (picture : Option Shown) (said : HostAnswer) → IsWithin n said → logged.goes_by o events log x picture said → judging.goes_by (take n log) picture said
  by_said x picture (Ack slot reply) within is =
      record {
        command = is.command;
        stands = slot_there log n slot within ∙ is.in_log;
        replied = is.replied ∙ ap (λ (l : List Command). reply_after l is.command) (sym (take-take slot n log (omega (arith, within))));
      }
  by_said x picture (Recovered m) within is = shown log n m picture long within is.table
  by_said x picture (Looked m) within is = shown log n m picture long within is.table
  by_said x picture (Beaten host) within is = tt
  by_said x picture (Marked count) within is = tt
  by_said x picture (Refused refusal) within is = tt

  pub goes : (a : Answer) → IsWithin n a.said × GoesBy o events log a → GoesByCommands (take n log) a
  goes a both = by_said (line_of a) a.picture a.said both.0 both.1

  pub all_go : (report : List Answer) → All (λ a. IsWithin n a.said × GoesBy o events log a) report → AllGoBy (take n log) report
  all_go report all = All-weaker (λ a. IsWithin n a.said × GoesBy o events log a) (GoesByCommands (take n log)) goes report all
