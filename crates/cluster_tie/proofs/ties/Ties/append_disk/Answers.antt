use Rattle.cluster_tie.proofs.Steps.{covers_disk}
use Rattle.cluster_tie.proofs.Seats.{gives, given, takes, taken, appends, grows}
use Rattle.cluster_tie.proofs.ties.Ties.append_disk.Goals as goal

pub split_seat-disks-requires : goal.split_seat-disks-requires
split_seat-disks-requires g c = let t = c.args.self.now in gives c.disk.invariant t.table_is t.has_word tt

pub join_seat-requires : goal.join_seat-requires
join_seat-requires g c =
    let t = c.args.self.now in
    takes c.journal.invariant (given c.disk.invariant c.split_seat-disks.ensures) t.table_is t.has_word

pub load-requires : goal.load-requires
load-requires g c =
    let t = c.args.self.now in
    appends (taken c.journal.invariant (given c.disk.invariant c.split_seat-disks.ensures) c.join_seat.ensures) g.E.TiedEntry.entry t.table_is t.has_word (covers_disk _ c.disk.view_is c.requires)

pub split_seat-requires : goal.split_seat-requires
split_seat-requires g c =
    let t = c.args.self.now in
    gives (grows (taken c.journal.invariant (given c.disk.invariant c.split_seat-disks.ensures) c.join_seat.ensures) g.E.TiedEntry.entry c.load.ensures).0 t.table_is t.has_word tt
