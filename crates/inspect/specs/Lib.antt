pub mod Blocked
pub mod Marks
pub mod Peeled
pub mod Text
pub mod Trails
pub mod Verdicts
