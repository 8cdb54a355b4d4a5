pub mod Laws
pub mod Living
pub mod Replacing
pub mod Submitting
pub mod World
