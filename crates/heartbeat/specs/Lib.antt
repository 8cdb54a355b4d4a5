pub mod Beat
pub mod Damage
pub mod Suggesting
