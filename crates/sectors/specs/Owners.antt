-- Whose a host number is, by the names of machines that the disks of a set say.
use Rattle.std.specs.Prelude.{◌≡◌, ◌≢◌, ◌⊎◌, ◌*◌, ◌<◌, ◌≤◌, ℕ, Bool, false, List, length, slice_get, Option, Some, None, is_some, bytes_eq}
use Rattle.std.specs.List.{count_by}
use Rattle.sectors.specs.declared.name.MachineName.{MachineName}
use Rattle.sectors.specs.declared.owner.Owner.{Owner}
use Rattle.sectors.specs.declared.owner.Owner.TheVariants.{Ours, Others, Unheard}
use Rattle.sectors.specs.Names.{nobody}

-- what each disk says: a name, or nothing where it was not heard
abbrev pub Said : Type 0
Said = List (Option MachineName)

-- it says this name
abbrev pub says : MachineName → Option MachineName → Bool
says name None = false
says name (Some other) = bytes_eq other.bytes name.bytes

-- so many are more than half of the disks
abbrev pub IsMost : ℕ → Said → Type 0
IsMost n said = length said < 2 * n

abbrev pub MostAreHeard : Said → Type 0
MostAreHeard said = IsMost (count_by is_some said) said

abbrev pub MostSay : MachineName → Said → Type 0
MostSay name said = IsMost (count_by (says name) said) said

-- It is the name of another machine.
pub record IsAnother (machine name : MachineName) : Type 0 where
  pub somebody : name ≢ nobody
  pub other : name ≢ machine

-- A disk says it, and no other machine's name is said by more disks.
pub record IsMostSaid (machine : MachineName) (said : Said) (name : MachineName) : Type 0 where
  pub another : IsAnother machine name
  pub disk : ℕ
  pub here : slice_get said disk ≡ Some (Some name)
  pub most : (k : ℕ) (rival : MachineName) → slice_get said k ≡ Some (Some rival) → IsAnother machine rival →
      count_by (says rival) said ≤ count_by (says name) said

-- no disk says the name of another machine
abbrev pub NobodyElse : MachineName → Said → Type 0
NobodyElse machine said = (k : ℕ) (name : MachineName) → slice_get said k ≡ Some (Some name) → ¬ IsAnother machine name

-- A number is this machine's if most disks are heard, and they say no other machine, or most say this one. Where another is said, and most
-- do not say this one, it is the other's.
abbrev pub IsOwner : MachineName → Said → Owner → Type 0
IsOwner machine said Ours = MostAreHeard said × (NobodyElse machine said ⊎ MostSay machine said)
IsOwner machine said (Others name) = MostAreHeard said × IsMostSaid machine said name × (¬ MostSay machine said)
IsOwner machine said Unheard = ¬ MostAreHeard said
