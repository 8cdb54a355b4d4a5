use Rattle.cluster_tie.proofs.Steps.{covers_host}
use Rattle.cluster_tie.proofs.Seats.{gives, given, takes, taken, appends, grows}
use Rattle.cluster_tie.proofs.ties.Ties.append_host.Goals as goal

pub split_seat-hosts-requires : goal.split_seat-hosts-requires
split_seat-hosts-requires g c = let t = c.args.self.now in gives c.host.invariant t.table_is t.has_word tt

pub join_seat-requires : goal.join_seat-requires
join_seat-requires g c =
    let t = c.args.self.now in
    takes c.journal.invariant (given c.host.invariant c.split_seat-hosts.ensures) t.table_is t.has_word

pub load-requires : goal.load-requires
load-requires g c =
    let t = c.args.self.now in
    appends (taken c.journal.invariant (given c.host.invariant c.split_seat-hosts.ensures) c.join_seat.ensures) g.E.TiedEntry.entry t.table_is t.has_word (covers_host _ c.host.view_is c.requires)

pub split_seat-requires : goal.split_seat-requires
split_seat-requires g c =
    let t = c.args.self.now in
    gives (grows (taken c.journal.invariant (given c.host.invariant c.split_seat-hosts.ensures) c.join_seat.ensures) g.E.TiedEntry.entry c.load.ensures).0 t.table_is t.has_word tt
