pub mod Epochs
pub mod Laws
pub mod Past
pub mod Reading
