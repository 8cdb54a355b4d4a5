-- How large a new log may be, and what is made of it.
use Rattle.std.proofs.Common.{◌≡◌, ◌≤◌, ℕ, List, Option, Some, None, IfSome, lit≤, subst}
use Rattle.std.specs.Io.KnownBytes.{Appends}
use Rattle.endless_image.specs.Kinds.{IsSlotsBy, kind_by}
use Rattle.endless_image.specs.declared.kind.Kind.{Kind}
use Rattle.paxos_block.specs.Shape.{Shape}
use Rattle.dlm_tasks.specs.Folders.{MakesImages}

-- the slots that are asked for are in their range, or so many as are usual
pub slots_in_range : (slots : Option ℕ) → IfSome slots (λ count. (1 ≤ count) × (count ≤ 4096)) → (1 ≤ (kind_by slots).1) × ((kind_by slots).1 ≤ 4096)
slots_in_range None given = (lit≤ tt, lit≤ tt)
slots_in_range (Some count) given = given

-- and a log of that kind may have them
pub may_have : (slots : Option ℕ) → IfSome slots (λ count. (1 ≤ count) × (count ≤ 4096)) → IsSlotsBy (kind_by slots).0 (kind_by slots).1
may_have None given = (lit≤ tt, lit≤ tt)
may_have (Some count) given = given

-- images are made of the same kind and size
pub images_of : (cluster : ℕ) (k l : Kind) (s t : Shape) → k ≡ l → s ≡ t → MakesImages k s cluster → MakesImages l t cluster
images_of cluster k l s t same_kind same_size images = subst (λ (kind : Kind). MakesImages kind t cluster) same_kind (subst (λ (shape : Shape). MakesImages k shape cluster) same_size images)

-- and that is written
pub made : (text : Kind → Shape → List ℕ) (cluster : ℕ) (a b : Option (List ℕ)) (k l : Kind) (s t : Shape) → k ≡ l → s ≡ t → MakesImages k s cluster → Appends a b (text k s)
    → MakesImages l t cluster × Appends a b (text l t)
made text cluster a b k l s t same_kind same_size images written = (
  images_of cluster k l s t same_kind same_size images,
  subst (λ (kind : Kind). Appends a b (text kind t)) same_kind (subst (λ (shape : Shape). Appends a b (text k shape)) same_size written),
)
