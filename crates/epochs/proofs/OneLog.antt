-- Of each epoch what is done is a run.
use Rattle.std.specs.Prelude.{◌%◌}
use Rattle.std.proofs.Common.{ℕ, ◌≡◌, ◌≤◌, sym, ◌∙◌, subst, arith}
use Rattle.disk.specs.Simulated.{fresh_disk}
use Rattle.torn_block.specs.Layout.{cluster_version}
use Rattle.paxos_block.specs.Places.{image_length}
use Rattle.world.specs.World.{opening_disk}
use Rattle.at_once.specs.AtOnce.{Serves}
use Rattle.at_once.specs.Power.{IsOverLosses, ServesOn, renumbered}
use Rattle.at_once.proofs.Losses.{losses_are_crashes}
use Rattle.at_once.proofs.Filling.{at_once_makes_a_run}
use Rattle.at_once.proofs.Headless.{zeros_hold_nothing}
use Rattle.epochs.specs.Acts.{epoch_of}
use Rattle.epochs.specs.OneLog.{EpochsAreAtOnce, EpochsAreRuns, EpochsAreOverLosses, PastsAreShared, PastsAreSharedOverLosses}
use Rattle.epochs.proofs.Deeds.{model_pasts_are_acts, file_pasts_are_acts}
use Rattle.epochs.proofs.Serving.{areas_serve, areas_serve_on}

pub epochs_are_at_once : EpochsAreAtOnce
epochs_are_at_once c size acts logs is e =
    record {
      hosts = is.hosts e;
      deeds = is.deeds e;
      held = λ k. zeros_hold_nothing c.slots;
      disks =
          λ k.
          subst (Serves c k (fresh_disk (image_length cluster_version c.slots))) (sym (is.parts e k))
          (areas_serve c k (image_length cluster_version c.slots) size e (acts k) is.room (is.disks k) (is.later k));
    }

pub epochs_are_runs : EpochsAreRuns
epochs_are_runs c size acts logs is e = at_once_makes_a_run c (λ k. opening_disk c) (logs e) (epochs_are_at_once c size acts logs is e)

pub epochs_are_over_losses : EpochsAreOverLosses
epochs_are_over_losses c size acts logs is e =
    let over : IsOverLosses c (λ k. opening_disk c) (logs e) =
    (record {
      hosts = is.hosts e;
      deeds = is.deeds e;
      held = λ k. zeros_hold_nothing c.slots;
      disks =
          λ k.
          subst (ServesOn c k (fresh_disk (image_length cluster_version c.slots))) (sym (is.parts e k))
          (areas_serve_on c k (image_length cluster_version c.slots) size e (acts k) is.room (is.disks k) (is.later k));
      dark = is.dark e;
      few = is.few e;
    }) in
    (over, at_once_makes_a_run c (λ k. opening_disk c) (renumbered (logs e)) (losses_are_crashes c (λ k. opening_disk c) (logs e) over))

-- BY PASTS

long_image : (slots : ℕ) → 4096 ≤ image_length cluster_version slots
long_image slots = omega arith

whole_rows : (slots : ℕ) → image_length cluster_version slots % 4096 ≡ 0
whole_rows slots = omega arith

pub pasts_are_shared : PastsAreShared
pasts_are_shared c size deeds logs is =
    let by = (λ (k : ℕ).
    model_pasts_are_acts c k (image_length cluster_version c.slots) size (deeds k) (long_image c.slots) (whole_rows c.slots) is.room (is.disks k)) in
    (λ k. (by k).0, record { room = is.room; disks = λ k. (by k).1; later = λ k. (by k).3 (is.later k); hosts = is.hosts; deeds = is.entries; parts = λ e k. is.parts e k ∙ sym ((by k).2 (epoch_of e)) })

pub pasts_are_shared_over_losses : PastsAreSharedOverLosses
pasts_are_shared_over_losses c size deeds logs is =
    let by = (λ (k : ℕ).
    file_pasts_are_acts c k (image_length cluster_version c.slots) size (deeds k) (long_image c.slots) (whole_rows c.slots) is.room (is.disks k)) in (
      λ k. (by k).0,
      record { room = is.room; disks = λ k. (by k).1; later = λ k. (by k).3 (is.later k); hosts = is.hosts; deeds = is.entries; parts = λ e k. is.parts e k ∙ sym ((by k).2 (epoch_of e)); dark = is.dark; few = is.few },
    )
