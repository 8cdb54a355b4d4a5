-- What is left of a short cluster: one host over one disk, which submits one command.
use Rattle.lock_table.specs.Apply.{granted}
use Rattle.world.specs.Examples.{takes_db, submission}
use Rattle.cluster_tie.specs.Parts.{Own, own_of, of_host}
use Rattle.cluster.specs.declared.receipt.Receipt.{Receipt}

-- its host's seat
abbrev pub first_seat : Own
first_seat = own_of 0 (of_host 0 submission)

-- and the receipt there
abbrev pub first_receipt : Receipt
first_receipt = record { host = 0; command = takes_db; slot = 0; reply = granted; place = 18 }
