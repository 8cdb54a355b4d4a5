pub mod Bound
pub mod Coming
pub mod Finding
