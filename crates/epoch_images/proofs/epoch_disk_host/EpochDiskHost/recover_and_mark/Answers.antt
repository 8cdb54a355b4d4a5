use Rattle.std.proofs.Common.{◌≡◌, ◌-◌, ◌∙◌, ℕ, max, ap, subst, sym}
use Rattle.paxos_block.specs.Shape.{Shape}
use Rattle.epoch_images.specs.Marking.{MarksFrom, first_of, marked_from}
use Rattle.epoch_images.proofs.Marking.{had_learned}
use Rattle.epoch_images.proofs.epoch_disk_host.EpochDiskHost.recover_and_mark.Goals as goal

pub returns-clause-marked : goal.returns-clause-marked
returns-clause-marked g c =
    let before = c.unwrap_or-before.result in
    let length = c.in_ok-length.length in
    let place : c.first_of.result ≡ first_of c.args.self.now.host.config length = c.first_of.ensures ∙ ap (λ (k : Shape). first_of k length) c.recover.ensures.same.config in
    let first : c.max-first.result ≡ marked_from c.args.self.now.host.config before length = c.max-first.ensures ∙ ap (λ (n : ℕ). max before n) place in (
      before,
      record {
        known = had_learned c.args.self.now.host c.length.result before c.unwrap_or-before.ensures c.length.ensures.known;
        recovered = c.recover.new.self;
        recovers = c.in_ok-length.ensures.learned;
        marks = subst (λ (n : ℕ). MarksFrom g.D.Disk.gives n (length - n) c.mark_places-marked.result c.recover.new.self c.mark_places-marked.new.self) first c.mark_places-marked.ensures;
      },
    )
