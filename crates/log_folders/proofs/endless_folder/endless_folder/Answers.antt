use Rattle.std.proofs.Common.{◌≡◌, map, ◌∙◌, ap, subst}
use Rattle.endless_image.specs.Sizes.{size_of}
use Rattle.endless_image.specs.declared.kind.Kind.{Kind}
use Rattle.folders.specs.Folders.{resized}
use Rattle.log_folders.specs.AnySets.{HasAnyNumbers}
use Rattle.log_folders.proofs.Opened.{epoch_slots, few_disks, opened}
use Rattle.log_folders.proofs.endless_folder.endless_folder.Goals as goal

pub invariant_of-result-clause-slots : goal.invariant_of-result-clause-slots
invariant_of-result-clause-slots g c = epoch_slots c.args.looked.found c.requires.images c.args.set.config c.args.set.cluster c.args.set.kind c.requires.endless c.requires.set

pub invariant_of-result-clause-few : goal.invariant_of-result-clause-few
invariant_of-result-clause-few g c = few_disks c.args.looked.found c.requires.images c.args.set.config c.args.set.cluster c.args.set.kind c.requires.set

pub invariant_of-result-clause-long : goal.invariant_of-result-clause-long
invariant_of-result-clause-long g c = λ k d is. c.resize.ensures.long k d is ∙ c.image_size.ensures.size ∙ ap size_of (c.from-2.ensures ∙ c.slots.ensures.value)

pub returns : goal.returns
returns g c =
    let long : c.image_size.result ≡ size_of c.args.set.config.slots = c.image_size.ensures.size ∙ ap size_of (c.from-2.ensures ∙ c.slots.ensures.value) in
    opened c.args.looked.found c.requires.images c.args.set.config c.args.set.cluster
    (subst (λ (kind : Kind). HasAnyNumbers c.args.looked.found kind c.args.set.config c.args.set.cluster) c.requires.endless c.requires.set)
    c.image_size.result long c.args.looked.disks.items c.requires.disks
    c.from.result c.resize.new.disks.items (c.resize.ensures.images ∙ ap (map (resized c.image_size.result)) c.truncate.ensures.items)
