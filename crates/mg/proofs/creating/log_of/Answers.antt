use Rattle.std.proofs.Common.{◌≤◌, ◌∙◌, ℕ, ap, sym, subst}
use Rattle.endless_image.specs.Kinds.{IsSlotsBy}
use Rattle.endless_image.specs.declared.kind.Kind.{Kind}
use Rattle.paxos_block.specs.Shape.{Shape}
use Rattle.mg.proofs.Sizes.{may_have, slots_in_range}
use Rattle.mg.proofs.creating.log_of.Goals as goal

pub config_of-config-requires : goal.config_of-config-requires
config_of-config-requires c = record {
  disks = c.requires.disks;
  slots = subst (λ (log : Kind × ℕ). (1 ≤ log.1) × (log.1 ≤ 4096)) (sym c.asked_by-log.ensures) (slots_in_range c.args.slots c.requires.slots);
}

pub returns : goal.returns
returns c =
    let shape : ℕ → Shape = λ n. record { disks = c.args.disks; slots = n } in
    record {
      kind = ap (λ (log : Kind × ℕ). log.0) c.asked_by-log.ensures;
      config = c.config_of-config.ensures ∙ ap (λ (log : Kind × ℕ). shape log.1) c.asked_by-log.ensures;
      may =
          subst (λ (n : ℕ). IsSlotsBy c.asked_by-log.result.0 n) (sym (ap (λ (s : Shape). s.slots) c.config_of-config.ensures))
          (subst (λ (log : Kind × ℕ). IsSlotsBy log.0 log.1) (sym c.asked_by-log.ensures) (may_have c.args.slots c.requires.slots));
    }
