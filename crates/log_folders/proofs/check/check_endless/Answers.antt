use Rattle.std.specs.Prelude.{IfOk}
use Rattle.std.proofs.Common.{◌≡◌, ◌++◌, ℕ, List, length, map, take, drop, slice_get, Some, sym, ◌∙◌, ap, subst}
use Rattle.std.proofs.lemmas.List.{length-map, take_at}
use Rattle.disk.specs.FileStates.{FileState, FileGives}
use Rattle.endless_image.specs.Sizes.{size_of}
use Rattle.log_folders.specs.EndlessChecks.{FailsIfUnread, IsToldOfFolder}
use Rattle.log_folders.specs.EndlessReading.{AreReadIfSound}
use Rattle.folders.proofs.Checking.{sized}
use Rattle.log_folders.proofs.check.check_endless.Goals as goal

-- a list that is written back over one as long is there as it is
whole : {X : Type 0} (new old : List X) (n : ℕ) → n ≡ length old → length new ≡ length old → take n (new ++ drop (length new) old) ≡ new
whole new old n long same = take_at new (drop (length new) old) n (same ∙ sym long)

as_many : {X Y : Type 0} (f : X → Y) (new old : List X) → map f new ≡ map f old → length new ≡ length old
as_many f new old same = sym (length-map new f) ∙ ap length same ∙ length-map old f

pub invariant_of-folder : goal.invariant_of-folder
invariant_of-folder g c =
    let new = c.check_disks.new.disks in
    let old = c.args.folder.now.disks.items in
    let slots = c.args.folder.now.config.slots in
    let value : c.deref_mut.result.now ≡ old = c.deref_mut.ensures.value in
    let many : length new ≡ length old = as_many _ new c.deref_mut.result.now c.check_disks.ensures.devices ∙ ap length value in
    let same = whole new old c.args.folder.now.disks.len (sym c.deref_mut.ensures.len ∙ ap length value) many in
    record {
      slots = c.args.folder.now.slots;
      few = c.args.folder.now.few;
      as_many = ap length same ∙ many ∙ c.args.folder.now.as_many;
      long =
          subst (λ (l : List FileState). (k : ℕ) (d : FileState) → slice_get l k ≡ Some d → d.size ≡ size_of slots) (sym same)
          (sized _ c.deref_mut.result.now new (size_of slots) c.check_disks.ensures.devices
          (subst (λ (l : List FileState). (k : ℕ) (d : FileState) → slice_get l k ≡ Some d → d.size ≡ size_of slots) (sym value) c.args.folder.now.long));
    }

pub returns-clause-told : goal.returns-clause-told
returns-clause-told g c =
    let all : length c.deref_mut.result.now ≡ c.args.folder.now.config.disks = ap length c.deref_mut.ensures.value ∙ c.args.folder.now.as_many in
    subst (λ (n : ℕ). IfOk c.check_disks.result (IsToldOfFolder c.args.folder.now.found n)) all c.check_disks.ensures.refusals

pub returns-clause-unread : goal.returns-clause-unread
returns-clause-unread g c =
    let new = c.check_disks.new.disks in
    let old = c.args.folder.now.disks.items in
    let found = c.args.folder.now.found in
    let value : c.deref_mut.result.now ≡ old = c.deref_mut.ensures.value in
    let many : length new ≡ length old = as_many _ new c.deref_mut.result.now c.check_disks.ensures.devices ∙ ap length value in
    let same = whole new old c.args.folder.now.disks.len (sym c.deref_mut.ensures.len ∙ ap length value) many in
    let slots : c.slots-slots.result ≡ c.args.folder.now.config.slots = c.slots-slots.ensures.value in
    subst (λ (l : List FileState). IfOk c.check_disks.result (FailsIfUnread FileGives c.args.folder.now.config.slots found old l)) (sym same)
    (subst (λ (n : ℕ). IfOk c.check_disks.result (FailsIfUnread FileGives n found old new)) slots
    (subst (λ (l : List FileState). IfOk c.check_disks.result (FailsIfUnread FileGives c.slots-slots.result found l new)) value c.check_disks.ensures.unread))

pub returns-clause-whole : goal.returns-clause-whole
returns-clause-whole g c =
    let new = c.check_disks.new.disks in
    let old = c.args.folder.now.disks.items in
    let value : c.deref_mut.result.now ≡ old = c.deref_mut.ensures.value in
    let many : length new ≡ length old = as_many _ new c.deref_mut.result.now c.check_disks.ensures.devices ∙ ap length value in
    let same = whole new old c.args.folder.now.disks.len (sym c.deref_mut.ensures.len ∙ ap length value) many in
    let slots : c.slots-slots.result ≡ c.args.folder.now.config.slots = c.slots-slots.ensures.value in
    let all : length old ≡ c.args.folder.now.config.disks = c.args.folder.now.as_many in
    subst (λ (l : List FileState). IfOk c.check_disks.result (AreReadIfSound FileGives c.args.folder.now.config.slots old l c.args.folder.now.config.disks)) (sym same)
    (subst (λ (n : ℕ). IfOk c.check_disks.result (AreReadIfSound FileGives c.args.folder.now.config.slots old new n)) all
    (subst (λ (n : ℕ). IfOk c.check_disks.result (AreReadIfSound FileGives n old new (length old))) slots
    (subst (λ (l : List FileState). IfOk c.check_disks.result (AreReadIfSound FileGives c.slots-slots.result l new (length l))) value c.check_disks.ensures.whole)))
