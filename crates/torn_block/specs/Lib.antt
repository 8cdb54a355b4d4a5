pub mod Block
pub mod Damage
pub mod Layout
pub mod Numbers
pub mod Place
pub mod Plan
pub mod Register
pub mod Stage
