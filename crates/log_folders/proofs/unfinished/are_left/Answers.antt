use Rattle.std.proofs.Common.{rules, ◌≡◌, ◌<◌, ◌∙◌, ◌+◌, ℕ, true, false, Some, arith, get_or, inl, inr, length, slice_get, slice_set, subst, sym}
use Rattle.disk.specs.Disk.{Device}
use Rattle.attempt.specs.Looking.{OnlyReads}
use Rattle.folders.specs.Finishing.{HaveSize}
use Rattle.folders.specs.Formatting.{EachBecame, FirstBecame, MakesOnly}
use Rattle.folders.specs.declared.unfinished.Left.TheVariants.{Open, Closed, Neither}
use Rattle.folders.proofs.Laying.{called, devices_stay, none_became, one_more, same_yet}
use Rattle.log_folders.specs.Finishing.{FindsLeft, FindsOne, FirstAreOpen}
use Rattle.log_folders.specs.NewSets.{header_for, size_for}
use Rattle.log_folders.proofs.Finishing.{IsLeftAt, all_left, one_found, one_found_before, one_found_here}
use Rattle.log_folders.proofs.Laying.{at_number}
use Rattle.log_folders.proofs.unfinished.are_left.Goals as goal
use Rattle.log_folders.proofs.unfinished.are_left.Goals.{in-Open, in-Closed}

pub loop-disk-init : goal.loop-disk-init
loop-disk-init g c = record { left = none_became _ c.args.devices.now; read = same_yet g.D.Disk.gives (λ (k : ℕ). OnlyReads) c.args.devices.now; all_open = λ is. none_became _ c.args.devices.now; closed = λ (is : false ≡ true). absurd (cc); sizes = c.requires.sizes }

pub find_left-requires-clause-size : goal.find_left-requires-clause-size
find_left-requires-clause-size g c =
    let devices = c.loop-disk.devices in
    let within : c.from.result < length devices = omega (arith, c.from.ensures, c.loop-disk-test.true, c.disks-disk-end.ensures, c.requires.as_many, c.loop-disk.invariant.left.as_many) in
    c.loop-disk.invariant.sizes c.loop-disk.disk (get_or devices c.from.result c.index-devices-from.result) (at_number devices c.from.result c.loop-disk.disk c.index-devices-from.result c.from.ensures within)

pub returns-in-Neither-clause-read : goal.returns-in-Neither-clause-read
returns-in-Neither-clause-read g c =
    let devices = c.loop-disk.devices in
    let disk = c.loop-disk.disk in
    let before = get_or devices c.from.result c.index-devices-from.result in
    let within : c.from.result < length devices = omega (arith, c.from.ensures, c.loop-disk-test.true, c.disks-disk-end.ensures, c.requires.as_many, c.loop-disk.invariant.left.as_many) in
    let at : slice_get devices disk ≡ Some before = at_number devices c.from.result disk c.index-devices-from.result c.from.ensures within in
    let after = c.find_left.new.device in
    let read = called g.D.Disk.gives (λ (k : ℕ). OnlyReads) disk c.args.devices.now devices before after at c.find_left.ensures.read c.loop-disk.invariant.read in
    subst (λ (n : ℕ). EachBecame (λ disk old new. MakesOnly g.D.Disk.gives OnlyReads old new) c.args.devices.now (slice_set devices n after)) (sym c.from.ensures) read

pub returns-in-Neither-clause-sizes : goal.returns-in-Neither-clause-sizes
returns-in-Neither-clause-sizes g c =
    let devices = c.loop-disk.devices in
    let disk = c.loop-disk.disk in
    let before = get_or devices c.from.result c.index-devices-from.result in
    let within : c.from.result < length devices = omega (arith, c.from.ensures, c.loop-disk-test.true, c.disks-disk-end.ensures, c.requires.as_many, c.loop-disk.invariant.left.as_many) in
    let at : slice_get devices disk ≡ Some before = at_number devices c.from.result disk c.index-devices-from.result c.from.ensures within in
    let after = c.find_left.new.device in
    let sizes = devices_stay g.D.Disk.device (λ (d : Device). d.size ≡ size_for c.args.set.now) disk devices before after at c.find_left.ensures.device c.loop-disk.invariant.sizes in
    subst (λ (n : ℕ). HaveSize g.D.Disk.device (size_for c.args.set.now) (slice_set devices n after)) (sym c.from.ensures) sizes

pub loop-disk-preserved : goal.loop-disk-preserved
loop-disk-preserved g c =
    let devices = c.loop-disk.devices in
    let disk = c.loop-disk.disk in
    let before = get_or devices c.from.result c.index-devices-from.result in
    let within : c.from.result < length devices = omega (arith, c.from.ensures, c.loop-disk-test.true, c.disks-disk-end.ensures, c.requires.as_many, c.loop-disk.invariant.left.as_many) in
    let at : slice_get devices disk ≡ Some before = at_number devices c.from.result disk c.index-devices-from.result c.from.ensures within in
    let after = c.find_left.new.device in
    let read = called g.D.Disk.gives (λ (k : ℕ). OnlyReads) disk c.args.devices.now devices before after at c.find_left.ensures.read c.loop-disk.invariant.read in
    let sizes = devices_stay g.D.Disk.device (λ (d : Device). d.size ≡ size_for c.args.set.now) disk devices before after at c.find_left.ensures.device c.loop-disk.invariant.sizes in
    let is : IsLeftAt g.D.Disk.gives c.args.set.now disk before after = elim c.match-find_left.branch [ in-Open w ↦ inl w.in-Open.ensures.found | in-Closed w ↦ inr w.in-Closed.ensures.found ] in
    let left = one_more (IsLeftAt g.D.Disk.gives c.args.set.now) disk c.args.devices.now devices before after at is c.loop-disk.invariant.left in
    let all_open : c.match-find_left.any ≡ false → FirstAreOpen g.D.Disk.gives c.args.set.now (disk + 1) c.args.devices.now (slice_set devices disk after) = elim c.match-find_left.branch [
      | in-Open w ↦ λ is. one_more (λ (k : ℕ) old new. FindsLeft g.D.Disk.gives (size_for c.args.set.now) (header_for c.args.set.now k) old new Open) disk c.args.devices.now devices before after at w.in-Open.ensures.found (c.loop-disk.invariant.all_open (sym w.any-is ∙ is))
      | in-Closed w ↦ λ is. let both : true ≡ false = sym w.any-is ∙ is in absurd (cc)
    ] in
    let closed : c.match-find_left.any ≡ true → FindsOne g.D.Disk.gives c.args.set.now Closed (disk + 1) c.args.devices.now (slice_set devices disk after) = elim c.match-find_left.branch [
      | in-Open w ↦ λ is. one_found_before g.D.Disk.gives c.args.set.now Closed disk c.args.devices.now devices after (c.loop-disk.invariant.closed (sym w.any-is ∙ is))
      | in-Closed w ↦ λ is. one_found_here g.D.Disk.gives c.args.set.now Closed disk c.args.devices.now devices before after at w.in-Closed.ensures.found c.loop-disk.invariant.left
    ] in
    record {
      all_open = λ is. subst (λ (n : ℕ). FirstAreOpen g.D.Disk.gives c.args.set.now (disk + 1) c.args.devices.now (slice_set devices n after)) (sym c.from.ensures) (all_open is);
      closed = λ is. subst (λ (n : ℕ). FindsOne g.D.Disk.gives c.args.set.now Closed (disk + 1) c.args.devices.now (slice_set devices n after)) (sym c.from.ensures) (closed is);
      left = subst (λ (n : ℕ). FirstBecame (IsLeftAt g.D.Disk.gives c.args.set.now) (disk + 1) c.args.devices.now (slice_set devices n after)) (sym c.from.ensures) left;
      read = subst (λ (n : ℕ). EachBecame (λ disk old new. MakesOnly g.D.Disk.gives OnlyReads old new) c.args.devices.now (slice_set devices n after)) (sym c.from.ensures) read;
      sizes = subst (λ (n : ℕ). HaveSize g.D.Disk.device (size_for c.args.set.now) (slice_set devices n after)) (sym c.from.ensures) sizes;
    }

pub returns-clause-left : goal.returns-clause-left
returns-clause-left g c = λ any.
    let ended : c.loop-disk.disk ≡ c.args.set.now.config.disks = search rules in
    record {
      left =
          all_left g.D.Disk.gives c.args.set.now c.args.devices.now c.loop-disk.devices c.requires.as_many
          (subst (λ (n : ℕ). FirstBecame (IsLeftAt g.D.Disk.gives c.args.set.now) n c.args.devices.now c.loop-disk.devices) ended c.loop-disk.invariant.left);
      closed = subst (λ (n : ℕ). FindsOne g.D.Disk.gives c.args.set.now Closed n c.args.devices.now c.loop-disk.devices) ended (c.loop-disk.invariant.closed any);
    }

pub returns-clause-none : goal.returns-clause-none
returns-clause-none g c = λ any.
    let ended : c.loop-disk.disk ≡ c.args.set.now.config.disks = search rules in
    inl (subst (λ (n : ℕ). FirstAreOpen g.D.Disk.gives c.args.set.now n c.args.devices.now c.loop-disk.devices) ended (c.loop-disk.invariant.all_open any))

pub returns-in-Neither-clause-none : goal.returns-in-Neither-clause-none
returns-in-Neither-clause-none g c = λ is.
    let devices = c.loop-disk.devices in
    let disk = c.loop-disk.disk in
    let before = get_or devices c.from.result c.index-devices-from.result in
    let within : c.from.result < length devices = omega (arith, c.from.ensures, c.loop-disk-test.true, c.disks-disk-end.ensures, c.requires.as_many, c.loop-disk.invariant.left.as_many) in
    let at : slice_get devices disk ≡ Some before = at_number devices c.from.result disk c.index-devices-from.result c.from.ensures within in
    let after = c.find_left.new.device in
    let below : disk < c.args.set.now.config.disks = omega (arith, c.loop-disk-test.true, c.disks-disk-end.ensures) in
    let one = one_found g.D.Disk.gives c.args.set.now Neither disk c.args.set.now.config.disks c.args.devices.now devices before after at below c.in-Neither.ensures.found c.loop-disk.invariant.left in
    inr (subst (λ (n : ℕ). FindsOne g.D.Disk.gives c.args.set.now Neither c.args.set.now.config.disks c.args.devices.now (slice_set devices n after)) (sym c.from.ensures) one)
