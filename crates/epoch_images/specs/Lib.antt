pub mod Marking
pub mod Tries
pub mod Working
