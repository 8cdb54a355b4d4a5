-- Why a task is refused, from why a part of it was.
use Rattle.std.proofs.Common.{◌≡◌, ◌+◌, ℕ, List, Option, Some, Result, Ok, Err, IfErr, IfOk, OnOk, inr, refl, subst, sym}
use Rattle.std.specs.Result.{IsErrAnd}
use Rattle.std.specs.Io.KnownBytes.{Appends}
use Rattle.disk.specs.Disk.{Call, Answer}
use Rattle.attempt.specs.declared.refusal.Refusal.TheVariants as refusal
use Rattle.lock_command.specs.declared.command.Command.{Command}
use Rattle.epoch_host.specs.declared.answer.EpochAnswer.{EpochAnswer}
use Rattle.epoch_host.specs.declared.answer.EpochAnswer.TheVariants as answers
use Rattle.epoch_host.specs.declared.answer.EpochAnswer.TheVariants.{Marked}
use Rattle.epoch_images.specs.Tries.{HasTried}
use Rattle.epoch_images.specs.Working.{Standing, said_by}
use Rattle.epoch_images.specs.declared.fault.EpochFault.{EpochFault}
use Rattle.epoch_images.specs.declared.fault.EpochFault.TheVariants as epoch
use Rattle.epoch_player.specs.declared.failure.PlayFailure.{PlayFailure}
use Rattle.epoch_player.specs.declared.failure.PlayFailure.TheVariants as play
use Rattle.epoch_script.specs.declared.any_script.EpochScript.{EpochScript}
use Rattle.epoch_sweep.specs.Counting.{IsSwept}
use Rattle.epoch_sweep.specs.declared.tally.Sweep.{Sweep}
use Rattle.dlm_tasks.specs.Faults.{IfRefused, of_play}
use Rattle.dlm_tasks.specs.Printed.{counts_text}
use Rattle.dlm_tasks.specs.Refusing.{IsNoMemory, IsNotRight}
use Rattle.dlm_tasks.specs.declared.command_failure.CommandFailure.{CommandFailure}
use Rattle.dlm_tasks.specs.declared.command_failure.CommandFailure.TheVariants.{Refused}
use Rattle.dlm_tasks.specs.declared.fault.Fault.{Fault}
use Rattle.dlm_tasks.specs.declared.fault.Fault.TheVariants.{WrongRun}
use Rattle.dlm_tasks.proofs.Checking.{weaker}

-- at the exit of a `?` a function gives this fault
pub fault_is : {T : Type 0} (P : Fault → Type 0) (fault : Fault) → P fault → (result : Result T Fault) → IsErrAnd result (λ told. told ≡ fault) → IfErr result P
fault_is P fault so (Ok done) ended = absurd ended
fault_is P fault so (Err told) ended = subst P (sym ended) so

-- at the exit of a `?` a task is refused with this fault
pub refused : {T : Type 0} (P : Fault → Type 0) (fault : Fault) → P fault → (result : Result T CommandFailure) → IsErrAnd result (λ failure. failure ≡ Refused fault)
    → IfErr result (λ failure. IfRefused failure P)
refused P fault so (Ok done) ended = absurd ended
refused P fault so (Err failure) ended = subst (λ (f : CommandFailure). IfRefused f P) (sym ended) so

-- a task is refused as its last part is
pub as_part : {T : Type 0} (P Q : Fault → Type 0) (result : Result T CommandFailure) → IfErr result (λ failure. IfRefused failure P) → ((fault : Fault) → P fault → Q fault)
    → IfErr result (λ failure. IfRefused failure Q)
as_part P Q (Ok done) so each = tt
as_part P Q (Err failure) so each = weaker P Q each failure so

-- what is known is known where all ends well
pub known : {T E : Type 0} (P : Type 0) → P → (result : Result T E) → OnOk result P
known P so (Ok done) = so
known P so (Err why) = tt

-- a script that is not run to its end is refused for want of memory alone
of_memory : (of : PlayFailure) → IfRefused (of_play of) IsNoMemory
of_memory play.NoMemory = refl
of_memory (play.Output error) = tt

pub play_refused : {T : Type 0} (of : PlayFailure) → (result : Result T CommandFailure) → IsErrAnd result (λ failure. failure ≡ of_play of) → IfErr result (λ failure. IfRefused failure IsNoMemory)
play_refused of (Ok done) ended = absurd ended
play_refused of (Err failure) ended = subst (λ (f : CommandFailure). IfRefused f IsNoMemory) (sym ended) (of_memory of)

-- whether a marking ended well or not, the host has worked for it
pub marking_ended : (P : Option EpochAnswer → Type 0) (r : Result ℕ EpochFault) → IfOk r (λ count. P (Some (Marked count))) → IfErr r (λ fault. P (said_by fault)) → (said : Option EpochAnswer) × P said
marking_ended P (Ok count) well ill = (Some (Marked count), well)
marking_ended P (Err fault) well ill = (said_by fault, ill)

-- a submission that was refused used all its tries, where it was outrun
pub endless_tries_used : {A D : Type 0} (gives : D → Call → Answer → D → Type 0) (command : Command) (tries : ℕ) (old new : Standing D) (result : Result A EpochFault) (cause : EpochFault) → result ≡ Err cause
    → HasTried gives command tries (said_by cause) old new
    → (result ≡ Err (epoch.Refused refusal.Outrun) → (done : HasTried gives command tries (Some (answers.Refused refusal.Outrun)) old new) × (done.outrun + 1 ≡ tries))
    → (tried : HasTried gives command tries (said_by cause) old new) × (cause ≡ epoch.Refused refusal.Outrun → tried.outrun + 1 ≡ tries)
endless_tries_used gives command tries old new result epoch.NoMemory is tried outrun = (tried, λ never. absurd (cc))
endless_tries_used gives command tries old new result (epoch.Refused refusal.Outrun) is tried outrun = let used = outrun is in (used.0, λ same. used.1)
endless_tries_used gives command tries old new result (epoch.Refused refusal.NoMajority) is tried outrun = (tried, λ never. absurd (cc))
endless_tries_used gives command tries old new result (epoch.Refused refusal.BallotsSpent) is tried outrun = (tried, λ never. absurd (cc))
endless_tries_used gives command tries old new result (epoch.Refused refusal.LogFull) is tried outrun = (tried, λ never. absurd (cc))
endless_tries_used gives command tries old new result (epoch.Refused refusal.NotACommand) is tried outrun = (tried, λ never. absurd (cc))
endless_tries_used gives command tries old new result (epoch.Refused refusal.NotLearned) is tried outrun = (tried, λ never. absurd (cc))

-- a sweep has found a wrong variant, and told of it
pub found_wrong : (script : EpochScript) (swept : Sweep) (before after : Option (List ℕ)) (run : ℕ) → IsSwept script swept → Appends before after (counts_text swept.runs swept.recovered swept.wrong)
    → swept.first ≡ Some run → IsNotRight script (WrongRun run) before after
found_wrong script swept before after run is written first =
    inr (record { swept = swept; run = run; counts = record { is = is; written = written }; first = first; told = refl })
