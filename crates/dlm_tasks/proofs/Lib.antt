pub mod Answering
pub mod Checking
pub mod Refusing
pub mod Shown
