mod Anew
mod Deeds
pub mod Doing
mod Marking
