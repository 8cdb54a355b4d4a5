-- The number and the name of each fault of an image, as they are printed.
use Rattle.std.specs.Prelude.{ℕ, List, codes}
use Rattle.disk.specs.declared.fault.ImageFault.{ImageFault}
use Rattle.disk.specs.declared.fault.ImageFault.TheVariants.{NotFormatted, WrongHeader, Unreadable, OldLayout}

-- Each has a number of its own, which no other refusal gets later.
abbrev pub image_fault_number : ImageFault → ℕ
image_fault_number NotFormatted = 24
image_fault_number WrongHeader = 25
image_fault_number Unreadable = 26
image_fault_number OldLayout = 32

abbrev pub image_fault_name : ImageFault → List ℕ
image_fault_name NotFormatted = codes "NotFormatted"
image_fault_name WrongHeader = codes "WrongHeader"
image_fault_name Unreadable = codes "Unreadable"
image_fault_name OldLayout = codes "OldLayout"
