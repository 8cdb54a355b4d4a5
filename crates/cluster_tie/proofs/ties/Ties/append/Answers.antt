use Rattle.std.proofs.Common.{refl}
use Rattle.cluster_tie.proofs.Steps.{covers_two}
use Rattle.cluster_tie.proofs.Seats.{gives, left, given, takes, taken, appends, grows}
use Rattle.cluster_tie.proofs.ties.Ties.append.Goals as goal

pub split_seat-disks-requires : goal.split_seat-disks-requires
split_seat-disks-requires g c = let t = c.args.self.now in gives c.disk.invariant t.table_is t.has_word tt

pub join_seat-requires : goal.join_seat-requires
join_seat-requires g c =
    let t = c.args.self.now in
    takes c.journal.invariant (given c.disk.invariant c.split_seat-disks.ensures) t.table_is t.has_word

pub split_seat-hosts-requires : goal.split_seat-hosts-requires
split_seat-hosts-requires g c = let t = c.args.self.now in gives c.host.invariant t.table_is t.has_word tt

pub join_seat-requires-2 : goal.join_seat-requires-2
join_seat-requires-2 g c =
    let t = c.args.self.now in
    takes (taken c.journal.invariant (given c.disk.invariant c.split_seat-disks.ensures) c.join_seat.ensures) (given c.host.invariant c.split_seat-hosts.ensures) t.table_is t.has_word

pub load-requires : goal.load-requires
load-requires g c =
    let t = c.args.self.now in
    let two = taken (taken c.journal.invariant (given c.disk.invariant c.split_seat-disks.ensures) c.join_seat.ensures) (given c.host.invariant c.split_seat-hosts.ensures) c.join_seat-2.ensures in
    appends two g.E.TiedEntry.entry t.table_is t.has_word (covers_two _ c.disk.view_is c.host.view_is c.requires)

pub split_seat-requires : goal.split_seat-requires
split_seat-requires g c =
    let t = c.args.self.now in
    let two = taken (taken c.journal.invariant (given c.disk.invariant c.split_seat-disks.ensures) c.join_seat.ensures) (given c.host.invariant c.split_seat-hosts.ensures) c.join_seat-2.ensures in
    gives (grows two g.E.TiedEntry.entry c.load.ensures).0 t.table_is t.has_word (refl, tt)

pub split_seat-requires-2 : goal.split_seat-requires-2
split_seat-requires-2 g c =
    let t = c.args.self.now in
    let two = taken (taken c.journal.invariant (given c.disk.invariant c.split_seat-disks.ensures) c.join_seat.ensures) (given c.host.invariant c.split_seat-hosts.ensures) c.join_seat-2.ensures in
    gives (left (grows two g.E.TiedEntry.entry c.load.ensures).0 c.split_seat.ensures) t.table_is t.has_word tt

pub returns-clause-parts : goal.returns-clause-parts
returns-clause-parts g c =
    let two = taken (taken c.journal.invariant (given c.disk.invariant c.split_seat-disks.ensures) c.join_seat.ensures) (given c.host.invariant c.split_seat-hosts.ensures) c.join_seat-2.ensures in
    let were = (grows two g.E.TiedEntry.entry c.load.ensures).1 in (
      rw (← c.disk.view_is, ← c.journal.view_is) were.0,
      rw (← c.host.view_is, ← c.journal.view_is) were.1.0,
    )
