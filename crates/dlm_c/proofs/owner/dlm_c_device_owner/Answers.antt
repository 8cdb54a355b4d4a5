use Rattle.std.proofs.Common.{◌≤◌, refl, inl, inr, subst, take, arith}
use Rattle.torn_block.specs.declared.layout.TheConstants.{DISKS}
use Rattle.sectors.specs.declared.name.MachineName.{MachineName}
use Rattle.sectors.specs.declared.owner.Owner.TheVariants.{Ours, Others}
use Rattle.sectors.specs.Owners.{Said, IsOwner}
use Rattle.dlm_c.specs.Owners.{said_to}
use Rattle.dlm_c.proofs.owner.dlm_c_device_owner.Goals as goal

pub returns-in-Ours : goal.returns-in-Ours
returns-in-Ours c =
    let n = c.args.heard.now.disks in
    let of_all = subst (λ (said : Said). IsOwner c.machine.result (take n said) Ours) c.said-said.ensures c.in-Ours.ensures in
    let within : n ≤ DISKS = omega arith in
    inl (within, inl (refl, subst (λ (name : MachineName). IsOwner name (said_to c.args.heard.now) Ours) c.machine.ensures of_all, refl))

pub returns-in-Others : goal.returns-in-Others
returns-in-Others c =
    let n = c.args.heard.now.disks in
    let of_all = subst (λ (said : Said). IsOwner c.machine.result (take n said) (Others c.in-Others.name)) c.said-said.ensures c.in-Others.ensures in
    let within : n ≤ DISKS = omega arith in
    inl (within, inr (inl (refl, subst (λ (name : MachineName). IsOwner name (said_to c.args.heard.now) (Others c.in-Others.name)) c.machine.ensures of_all)))
