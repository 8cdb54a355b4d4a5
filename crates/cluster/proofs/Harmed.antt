-- The book of a disk that crashed or was lost.
use Rattle.std.proofs.Common.{◌≡◌, ◌≤◌, ◌<◌, ℕ, IsTrue, Option, None, sym, ap, subst, ◌∙◌}
use Rattle.disk.specs.Disk.{DiskState}
use Rattle.torn_block.specs.Layout.{cluster_version}
use Rattle.paxos_block.specs.Places.{image_length}
use Rattle.paxos_block.specs.Shape.{Shape}
use Rattle.world.specs.Entry.{Filled, disk_step}
use Rattle.cluster_tie.specs.Parts.{Own, adds}
use Rattle.cluster.specs.Book.{BookState, disk_in, IsFollowedBy, IsBook}
use Rattle.cluster.specs.declared.touched.CallOutcome.{CallOutcome}
use Rattle.cluster.proofs.Adding.{disk_adds}

module _ {D : Type 0} (c : Shape) (old : BookState D) (is : IsBook c old) (closed : old.open_call ≡ None) where
  -- its disk was as its entries left it
  pub as_left : old.disk ≡ disk_in c old.own
  as_left = subst (λ (o : Option CallOutcome). IsFollowedBy o old.row (disk_in c old.own) old.disk) closed is.disk

  -- and is so with the entry of what befell it
  pub befell : (new : BookState D) (at : ℕ) (e : Filled) → new.own ≡ adds old.own at e → new.open_call ≡ None → IsTrue new.device.tells → image_length cluster_version c.slots ≤ new.device.size
      → new.disk ≡ disk_step old.disk e → IsBook c new
  befell new at e grown shut tells size left = record {
    number = subst (λ (o : Own). o.number < c.disks) (sym grown) is.number;
    tells = tells;
    size = size;
    disk = subst (λ (o : Option CallOutcome). IsFollowedBy o new.row (disk_in c new.own) new.disk) (sym shut)
        (left ∙ ap (λ (d : DiskState). disk_step d e) as_left ∙ sym (disk_adds c old.own at e) ∙ ap (disk_in c) (sym grown));
  }
