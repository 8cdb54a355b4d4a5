-- Values that spell commands are the spellings of a list of commands.
use Rattle.std.specs.Prelude.{slice_get, map}
use Rattle.std.proofs.Common.{ℕ, zero, suc, ◌≡◌, Some, List, [], ◌∷◌, refl, sym, subst, ap, ap₂, ◌∙◌}
use Rattle.lock_command.specs.declared.command.Command.{Command}
use Rattle.lock_command.specs.Command.{spelling}
use Rattle.lock_command.specs.Reading.{decoded}
use Rattle.world.specs.World.{ReadsBack}
use Rattle.world.specs.Headline.{IsPrefix}

-- the value is the spelling of a command that reads back
pub record IsSpelling (value : List ℕ) : Type 0 where
  pub command : Command
  pub reads : ReadsBack command
  pub is : value ≡ spelling command

-- the commands of some values
pub record AreSpelled (values : List (List ℕ)) : Type 0 where
  pub commands : List Command
  pub spelled : map spelling commands ≡ values
  pub reads : (k : ℕ) (command : Command) → slice_get commands k ≡ Some command → ReadsBack command

reads_each : (first : Command) (rest : List Command) → ReadsBack first → ((k : ℕ) (command : Command) → slice_get rest k ≡ Some command → ReadsBack command) → (k : ℕ) (command : Command) → slice_get (first ∷ rest) k ≡ Some command → ReadsBack command
reads_each first rest reads others zero command is = let same : first ≡ command = cc in subst ReadsBack same reads
reads_each first rest reads others (suc k) command is = others k command is

pub commands_of : (values : List (List ℕ)) → ((k : ℕ) (v : List ℕ) → slice_get values k ≡ Some v → IsSpelling v) → AreSpelled values
commands_of [] each = record { commands = []; spelled = refl; reads = λ k command is. absurd (cc) }
commands_of (v ∷ values) each =
    let first = each zero v refl in
    let rest = commands_of values (λ k u is. each (suc k) u is) in
    record {
      commands = first.command ∷ rest.commands;
      spelled = ap₂ (λ (u : List ℕ) (us : List (List ℕ)). u ∷ us) (sym first.is) rest.spelled;
      reads = reads_each first.command rest.commands first.reads rest.reads;
    }

-- a spelling is of one command
pub one_command : (a b : Command) → ReadsBack a → ReadsBack b → spelling a ≡ spelling b → a ≡ b
one_command a b reads_a reads_b same = let both : Some a ≡ Some b = sym reads_a ∙ ap decoded same ∙ reads_b in cc

-- an item of a mapped list
pub map_item : (commands : List Command) (k : ℕ) (v : List ℕ) → slice_get (map spelling commands) k ≡ Some v → (command : Command) × (slice_get commands k ≡ Some command) × (spelling command ≡ v)
map_item [] k v is = absurd (cc)
map_item (command ∷ commands) zero v is = (command, refl, (let same : spelling command ≡ v = cc in same))
map_item (command ∷ commands) (suc k) v is = map_item commands k v is

pub map_there : (commands : List Command) (k : ℕ) (command : Command) → slice_get commands k ≡ Some command → slice_get (map spelling commands) k ≡ Some (spelling command)
map_there [] k command is = absurd (cc)
map_there (first ∷ commands) zero command is = let same : first ≡ command = cc in ap (λ (c : Command). Some (spelling c)) same
map_there (first ∷ commands) (suc k) command is = map_there commands k command is

-- so a command stands where its spelling does
pub stands_where : (commands : List Command) → ((k : ℕ) (command : Command) → slice_get commands k ≡ Some command → ReadsBack command) → (k : ℕ) (command : Command) → ReadsBack command
    → slice_get (map spelling commands) k ≡ Some (spelling command) → slice_get commands k ≡ Some command
stands_where commands reads k command reads_it is =
    let item = map_item commands k (spelling command) is in
    item.1 ∙ ap Some (one_command item.0 command (reads k item.0 item.1) reads_it item.2)

-- a list whose items stand in another begins it
pub begins_by : {A : Type 0} (short long : List A) → ((k : ℕ) (x : A) → slice_get short k ≡ Some x → slice_get long k ≡ Some x) → IsPrefix short long
begins_by [] long stands = refl
begins_by (x ∷ short) [] stands = absurd (let first = stands zero x refl in cc)
begins_by (x ∷ short) (y ∷ long) stands =
    let first = stands zero x refl in
    let same : y ≡ x = cc in
    ap₂ (λ z zs. z ∷ zs) (sym same) (begins_by short long (λ k z is. stands (suc k) z is))
