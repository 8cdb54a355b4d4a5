use Rattle.std.proofs.Common.{◌≡◌, ◌<◌, ◌+◌, ℕ, Some, get_or, length, slice_get, slice_set, arith, rules, sym, subst}
use Rattle.std.proofs.lemmas.Option.{slice_get-get_or}
use Rattle.paxos_block.specs.declared.header.Header.{Header}
use Rattle.folder_migration.specs.Gates.{Finds, FindsOf, HaveNoGate}
use Rattle.folder_migration.specs.declared.gate.Gate.{Gate}
use Rattle.folder_migration.proofs.Opened.{one_more_became}
use Rattle.folder_migration.proofs.finishing.has_gate.Goals as goal

pub loop-disk-preserved : goal.loop-disk-preserved
loop-disk-preserved g c =
    let images = c.loop-disk.images in
    let disk = c.loop-disk.disk in
    let before = get_or images c.from.result c.index-images-from.result in
    let after = c.find_gate.new.device in
    let within : c.from.result < length images = omega (arith, c.from.ensures, c.requires.as_many, c.loop-disk.invariant.as_many) in
    let at : slice_get images disk ≡ Some before = subst (λ (k : ℕ). slice_get images k ≡ Some before) c.from.ensures (slice_get-get_or images c.from.result c.index-images-from.result within) in
    let other : ¬ (c.find_gate.result ≡ c.args.gate) = search rules in
    let finds = subst (λ (h : Header). Finds g.D.Disk.gives h (g.D.Disk.device before).size before after c.find_gate.result) c.new_header-header.ensures c.find_gate.ensures.found in
    let one : (gate : Gate) × ¬ (gate ≡ c.args.gate) × FindsOf g.D.Disk.gives g.D.Disk.device c.args.config c.args.cluster gate disk before after = (c.find_gate.result, other, finds) in
    subst (λ (k : ℕ). HaveNoGate g.D.Disk.gives g.D.Disk.device c.args.config c.args.cluster c.args.gate (disk + 1) c.args.images.now (slice_set images k after)) (sym c.from.ensures)
    (one_more_became _ disk c.args.images.now images before after at one c.loop-disk.invariant)
