-- A folder that is not found is refused as one in which no image can be read.
use Rattle.std.proofs.Common.{ℕ, zero, suc, [], ◌∷◌, Result, Err, refl, inl}
use Rattle.disk.specs.declared.fault.ImageFault.{ImageFault}
use Rattle.disk.specs.declared.fault.ImageFault.TheVariants.{Unreadable}
use Rattle.paxos_block.specs.declared.header.Header.{Header}
use Rattle.folders.specs.declared.fault.FolderFault.TheVariants.{Image}
use Rattle.folders.specs.SetFaults.{MayRefuse}
use Rattle.folders.specs.Sets.{Found, Says}

-- an image that cannot be read
abbrev unread : Result Header ImageFault
unread = Err Unreadable

-- seven of them
abbrev all_unread : Found
all_unread = unread ∷ unread ∷ unread ∷ unread ∷ unread ∷ unread ∷ unread ∷ []

-- none of them says a header
none_says : (k : ℕ) (header : Header) → Says all_unread k header → ⊥
none_says zero header says = absurd (cc)
none_says (suc zero) header says = absurd (cc)
none_says (suc (suc zero)) header says = absurd (cc)
none_says (suc (suc (suc zero))) header says = absurd (cc)
none_says (suc (suc (suc (suc zero)))) header says = absurd (cc)
none_says (suc (suc (suc (suc (suc zero))))) header says = absurd (cc)
none_says (suc (suc (suc (suc (suc (suc zero)))))) header says = absurd (cc)
none_says (suc (suc (suc (suc (suc (suc (suc k))))))) header says = absurd (cc)

pub unfound_refuses : MayRefuse (Image 0 Unreadable)
unfound_refuses = (
  all_unread,
  record { all = refl; right = λ k header says. absurd (none_says k header says); numbers = λ k header says. absurd (none_says k header says) },
  inl (refl, record { first = refl; none = none_says }),
)
