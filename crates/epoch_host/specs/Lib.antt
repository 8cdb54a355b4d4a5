pub mod Answering
pub mod Ending
pub mod Knowing
pub mod Leading
pub mod Staying
pub mod Submitting
pub mod Walking
pub mod Working
