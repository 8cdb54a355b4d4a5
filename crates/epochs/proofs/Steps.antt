-- Each thing that is done to a disk, as a step of the image that an area of it shows.
use Rattle.std.specs.Prelude.{◌⊎◌, replicate}
use Rattle.std.proofs.Common.{ℕ, ◌≡◌, ◌+◌, ◌≤◌, ◌<◌, Bool, false, List, length, get_or, refl, sym, ◌∙◌, ap, subst, inl, inr, arith}
use Rattle.std.proofs.lemmas.List.{get_or-replicate, length-replicate}
use Rattle.disk.specs.declared.fault.DiskFault.TheVariants.{Reset, Failed, Gone}
use Rattle.disk.specs.Disk.{DiskState, Call, Attach, Read, Write, Sync, Answer, Booted, Told, Done, Fault, IsUnder, Step, Succeeds, FailureLeaves, Crashes, Torn, written, synced}
use Rattle.disk.specs.Simulated.{fresh_disk}
use Rattle.epochs.specs.Showing.{host_at, Standing, Before, Inside, After, ShowsEpoch, moved, masked_in, IsOf, IsElsewhere, Restands}
use Rattle.epochs.specs.Laws.{ShowsNext, OwnCallsAreSteps, OwnTearsAreTears, OthersLeaveIt, CrashesAreCrashes, LossesAreLosses, StandingsChangeNothing, FreshDisksShowNothing, NobodyShowsNothing}
use Rattle.epochs.proofs.Showing.{own_written, others_written, all_synced, synced_beside, image_left, image_crashes, shows_left, masked_is}

module _ (n base : ℕ) (of : ℕ → Standing) (whole new image : DiskState) (shows : ShowsEpoch n base of whole image) where
  -- the whole disk is as it was
  as_it_was : new ≡ whole → ShowsEpoch n base of new image
  as_it_was is = subst (λ (d : DiskState). ShowsEpoch n base of d image) (sym is) shows

  there : whole.gone ≡ false → image.gone ≡ false
  there is = shows.gone ∙ is

  under : (call : Call) → IsUnder (moved base call) whole.boot → IsUnder call image.boot
  under Attach is = tt
  under (Read boot at len) is = is ∙ sym shows.boot
  under (Write boot at from) is = is ∙ sym shows.boot
  under (Sync boot) is = is ∙ sym shows.boot

  was_under : (call : Call) → IsUnder call image.boot → IsUnder (moved base call) whole.boot
  was_under Attach is = tt
  was_under (Read boot at len) is = is ∙ shows.boot
  was_under (Write boot at from) is = is ∙ shows.boot
  was_under (Sync boot) is = is ∙ shows.boot

  -- OWN CALLS

  module _ (shown : ℕ → Bool) where
    -- one that succeeds
    record Done_by (call : Call) (answer : Answer) : Type 0 where
      left : DiskState
      is : Succeeds call image (masked_in shown answer) left
      shows_it : ShowsEpoch n base of new left

    succeeds : (call : Call) (answer : Answer) → IsOf n base of shown whole image call → Succeeds (moved base call) whole answer new → Done_by call answer
    succeeds Attach answer own step =
        record { left = image; is = (ap (masked_in shown) step.0 ∙ ap Booted (sym shows.boot), refl); shows_it = as_it_was step.1 }
    succeeds (Read boot at len) answer own step =
        record {
          left = image;
          is = (ap (masked_in shown) step.0 ∙ ap Told (masked_is n base of whole image shows shown at len own.0 own.1 own.2), refl);
          shows_it = as_it_was step.1;
        }
    succeeds (Write boot at from) answer own step =
        record {
          left = written image at from;
          is = (ap (masked_in shown) step.0, refl);
          shows_it =
              subst (λ (d : DiskState). ShowsEpoch n base of d (written image at from)) (sym step.1) (own_written n base of whole image shows at from own.0 own.1 own.2);
        }
    succeeds (Sync boot) answer own step =
        record {
          left = synced image;
          is = (ap (masked_in shown) step.0, refl);
          shows_it = subst (λ (d : DiskState). ShowsEpoch n base of d (synced image)) (sym step.1) (all_synced n base of whole image shows);
        }

    torn : (at : ℕ) (from : List ℕ) (boot : ℕ) → IsOf n base of shown whole image (Write boot at from) → Torn (base + at) (length from) whole new → ShowsNext n base of new (λ left. Torn at (length from) image left)
    torn at from boot own t =
        let many = t.as_many in (
          written image at t.left,
          record { left = t.left; as_many = t.as_many; leaves = refl },
          subst (λ (d : DiskState). ShowsEpoch n base of d (written image at t.left)) (sym t.leaves)
              (own_written n base of whole image shows at t.left own.0 (omega (arith, many, own.1)) (λ p from_there inside. own.2 p from_there (omega (arith, many, inside)))),
        )

    fails : (call : Call) → IsOf n base of shown whole image call → FailureLeaves (moved base call) whole new → ShowsNext n base of new (λ left. FailureLeaves call image left)
    fails Attach own is = (image, refl, as_it_was is)
    fails (Read boot at len) own is = (image, refl, as_it_was is)
    fails (Write boot at from) own is = torn at from boot own is
    fails (Sync boot) own is = (image, refl, as_it_was is)

    well : (call : Call) (answer : Answer) → IsOf n base of shown whole image call → (whole.gone ≡ false) × IsUnder (moved base call) whole.boot × Succeeds (moved base call) whole answer new →
        ShowsNext n base of new (λ left. (image.gone ≡ false) × IsUnder call image.boot × Succeeds call image (masked_in shown answer) left)
    well call answer own step =
        let done = succeeds call answer own step.2 in (done.left, (there step.0, under call step.1, done.is), done.shows_it)

    own_call : (call : Call) (answer : Answer) → IsOf n base of shown whole image call → Step whole (moved base call) answer new → ShowsNext n base of new (λ left. Step image call (masked_in shown answer) left)
    own_call call (Booted boot) own step = well call (Booted boot) own step
    own_call call (Told bytes) own step = well call (Told bytes) own step
    own_call call Done own step = well call Done own step
    own_call call (Fault Gone) own step = (image, (shows.gone ∙ step.0, refl), as_it_was step.1)
    own_call call (Fault Reset) own step = (image, (there step.0, λ is. step.1 (was_under call is), refl), as_it_was step.2)
    own_call call (Fault Failed) own step =
        let failed = fails call own step.2 in (failed.0, (there step.0, under call step.1, failed.1), failed.2)

  -- OTHER CALLS

  done_elsewhere : (call : Call) (answer : Answer) → IsElsewhere n base of whole call → Succeeds call whole answer new → ShowsEpoch n base of new image
  done_elsewhere Attach answer off step = as_it_was step.1
  done_elsewhere (Read boot at len) answer off step = as_it_was step.1
  done_elsewhere (Write boot at from) answer off step =
      subst (λ (d : DiskState). ShowsEpoch n base of d image) (sym step.1) (others_written n base of whole image shows at from off.0 off.1)
  done_elsewhere (Sync boot) answer off step = subst (λ (d : DiskState). ShowsEpoch n base of d image) (sym step.1) (synced_beside n base of whole image shows)

  failed_elsewhere : (call : Call) → IsElsewhere n base of whole call → FailureLeaves call whole new → ShowsEpoch n base of new image
  failed_elsewhere Attach off is = as_it_was is
  failed_elsewhere (Read boot at len) off is = as_it_was is
  failed_elsewhere (Write boot at from) off t =
      let many = t.as_many in
      subst (λ (d : DiskState). ShowsEpoch n base of d image) (sym t.leaves)
      (others_written n base of whole image shows at t.left (omega (arith, many, off.0)) (λ p high below is.
      elim (off.1 p high below is) [ inl before ↦ inl before | inr behind ↦ inr (omega (arith, many, behind)) ]))
  failed_elsewhere (Sync boot) off is = as_it_was is

  other_call : (call : Call) (answer : Answer) → IsElsewhere n base of whole call → Step whole call answer new → ShowsEpoch n base of new image
  other_call call (Booted boot) off step = done_elsewhere call (Booted boot) off step.2
  other_call call (Told bytes) off step = done_elsewhere call (Told bytes) off step.2
  other_call call Done off step = done_elsewhere call Done off step.2
  other_call call (Fault Gone) off step = as_it_was step.1
  other_call call (Fault Reset) off step = as_it_was step.2
  other_call call (Fault Failed) off step = failed_elsewhere call off step.2

  -- CRASHES

  crash_shows : Crashes whole new → ShowsNext n base of new (λ left. Crashes image left)
  crash_shows crash = (image_left n base of whole image shows new crash, image_crashes n base of whole image shows new crash, shows_left n base of whole image shows new crash)

pub own_calls_are_steps : OwnCallsAreSteps
own_calls_are_steps n base of shown whole new image call answer shows own step = own_call n base of whole new image shows shown call answer own step

pub own_tears_are_tears : OwnTearsAreTears
own_tears_are_tears n base of shown whole new image boot at from shows own t = torn n base of whole new image shows shown at from boot own t

pub others_leave_it : OthersLeaveIt
others_leave_it n base of whole new image call answer shows off step = other_call n base of whole new image shows call answer off step

pub crashes_are_crashes : CrashesAreCrashes
crashes_are_crashes n base of whole new image shows crash = crash_shows n base of whole new image shows crash

pub losses_are_losses : LossesAreLosses
losses_are_losses n base of whole image shows =
    record {
      room = shows.room;
      marked = shows.marked;
      shape = shows.shape;
      boot = shows.boot;
      gone = refl;
      bytes = shows.bytes;
      flags = shows.flags;
      blank = shows.blank;
      still = shows.still;
    }

-- COMING AND LEAVING

module _ (n base : ℕ) (old new : ℕ → Standing) (whole image : DiskState) (shows : ShowsEpoch n base old whole image) (restands : (host : ℕ) → Restands n base host (old host) (new host) whole) where
  now_bytes : (p : ℕ) → 4096 ≤ p → p < n → new (host_at p) ≡ Inside → get_or image.bytes p 0 ≡ get_or whole.bytes (base + p) 0
  now_bytes p high below is =
      elim (restands (host_at p)) [
        | inl same ↦ shows.bytes p high below (sym same ∙ is)
        | inr (inl left) ↦ absurd (let clash : After ≡ Inside = sym left ∙ is in cc)
        | inr (inr came) ↦ shows.blank p below (inr came.0) ∙ sym (came.2.bytes p high below refl)
      ]

  now_flags : (p : ℕ) → 4096 ≤ p → p < n → new (host_at p) ≡ Inside → get_or image.unsynced p false ≡ false → get_or whole.unsynced (base + p) false ≡ false
  now_flags p high below is flag =
      elim (restands (host_at p)) [
        | inl same ↦ shows.flags p high below (sym same ∙ is) flag
        | inr (inl left) ↦ absurd (let clash : After ≡ Inside = sym left ∙ is in cc)
        | inr (inr came) ↦ came.2.flags p high below refl
      ]

  none_now : (p : ℕ) → (p < 4096) ⊎ (new (host_at p) ≡ Before) → (p < 4096) ⊎ (old (host_at p) ≡ Before)
  none_now p (inl low) = inl low
  none_now p (inr is) =
      elim (restands (host_at p)) [
        | inl same ↦ inr (sym same ∙ is)
        | inr (inl left) ↦ absurd (let clash : After ≡ Before = sym left ∙ is in cc)
        | inr (inr came) ↦ absurd (let clash : Inside ≡ Before = sym came.1 ∙ is in cc)
      ]

  restood : ShowsEpoch n base new whole image
  restood =
      record {
        room = shows.room;
        marked = shows.marked;
        shape = shows.shape;
        boot = shows.boot;
        gone = shows.gone;
        bytes = now_bytes;
        flags = now_flags;
        blank = λ p below none. shows.blank p below (none_now p none);
        still = λ p below none. shows.still p below (none_now p none);
      }

pub standings_change_nothing : StandingsChangeNothing
standings_change_nothing n base old new whole image shows restands = restood n base old new whole image shows restands

-- ZEROS

zero_at : (size p : ℕ) → p < size → get_or {A = ℕ} (replicate size 0) p 0 ≡ 0
zero_at size p below = get_or-replicate size p 0 0 below

still_at : (size p : ℕ) → p < size → get_or (replicate size false) p false ≡ false
still_at size p below = get_or-replicate size p false false below

pub fresh_disks_show_nothing : FreshDisksShowNothing
unfolding fresh_disk
fresh_disks_show_nothing n base size of fits =
    let long = length-replicate {A = ℕ} size 0 in
    record {
      room = omega (arith, fits, long);
      marked = length-replicate size false ∙ sym long;
      shape = (length-replicate n false ∙ sym (length-replicate {A = ℕ} n 0), length-replicate {A = ℕ} n 0);
      boot = refl;
      gone = refl;
      bytes = λ p high below is. zero_at n p below ∙ sym (zero_at size (base + p) (omega (arith, below, fits)));
      flags = λ p high below is flag. still_at size (base + p) (omega (arith, below, fits));
      blank = λ p below none. zero_at n p below;
      still = λ p below none. still_at n p below;
    }

pub nobody_shows_nothing : NobodyShowsNothing
nobody_shows_nothing n base whole fits marked =
    record {
      room = fits;
      marked = marked;
      shape = (length-replicate n false ∙ sym (length-replicate {A = ℕ} n 0), length-replicate {A = ℕ} n 0);
      boot = refl;
      gone = refl;
      bytes = λ p high below is. (let clash : Before ≡ Inside = is in absurd (cc));
      flags = λ p high below is. (let clash : Before ≡ Inside = is in absurd (cc));
      blank = λ p below none. zero_at n p below;
      still = λ p below none. still_at n p below;
    }
