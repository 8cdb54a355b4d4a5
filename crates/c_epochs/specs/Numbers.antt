-- The numbers that C is told beside those of `c_host`.
use Rattle.std.specs.Prelude.{ℤ, negsuc}
use Rattle.c_host.specs.Numbers.{no_memory, no_such_lock}
use Rattle.c_epochs.specs.declared.fault.ShowFault.{ShowFault}
use Rattle.c_epochs.specs.declared.fault.ShowFault.TheVariants.{NoTable, NoSuchLock, NoMemory}

-- the lock table is not known
abbrev pub no_table : ℤ
no_table = negsuc 9

-- why nothing of the lock table is shown
abbrev pub show_number : ShowFault → ℤ
show_number NoTable = no_table
show_number NoSuchLock = no_such_lock
show_number NoMemory = no_memory
