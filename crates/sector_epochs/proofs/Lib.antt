pub mod Over
pub mod Owning
