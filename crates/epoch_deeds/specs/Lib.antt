pub mod Deeds
pub mod Knowing
