pub mod Lists
pub mod Racing
pub mod Races
pub mod Following
