-- Why a check is refused: what was found first, or why the folder was not opened.
use Rattle.std.proofs.Common.{◌≡◌, ◌⊎◌, Option, Some, subst, inr}
use Rattle.folders.specs.declared.check.Finding.{Finding}
use Rattle.dlm_tasks.specs.Checking.{IsFound, IsFoundFault, IsNotOpened}
use Rattle.dlm_tasks.specs.Faults.{IfRefused, of_finding}
use Rattle.dlm_tasks.specs.declared.command_failure.CommandFailure.{CommandFailure}
use Rattle.dlm_tasks.specs.declared.command_failure.CommandFailure.TheVariants.{Output, Refused}
use Rattle.dlm_tasks.specs.declared.fault.Fault.{Fault}

-- what is so of each refusal is so of this one
pub weaker : (P Q : Fault → Type 0) → ((fault : Fault) → P fault → Q fault) → (failure : CommandFailure) → IfRefused failure P → IfRefused failure Q
weaker P Q each (Refused fault) so = each fault so
weaker P Q each (Output error) so = tt

-- this is the refusal, for what was found first
pub found_fault : (found : Option Finding) → IsFound found → (fault : Fault) → (first : Finding) × (found ≡ Some first) × (fault ≡ of_finding first) → IsFoundFault fault
found_fault found is fault (first, some, told) = (first, subst IsFound some is, told)

-- the refusal is what was found first
pub found_first : (found : Option Finding) → IsFound found → (fault : Fault) → (first : Finding) × (found ≡ Some first) × (fault ≡ of_finding first) → IsNotOpened fault ⊎ IsFoundFault fault
found_first found is fault (first, some, told) = inr (first, subst IsFound some is, told)
