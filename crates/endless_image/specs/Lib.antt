pub mod Headers
pub mod Holding
pub mod InPlace
pub mod Kinds
pub mod Sets
pub mod Sizes
