pub mod Happening
pub mod Playing
pub mod Text
