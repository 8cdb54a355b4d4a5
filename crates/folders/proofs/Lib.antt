pub mod Checking
pub mod Damage
pub mod Finishing
pub mod Found
pub mod Headers
pub mod Images
pub mod Laying
pub mod OnlyReading
pub mod Opening
pub mod Sets
pub mod Unfound
mod Printed
mod Reading
