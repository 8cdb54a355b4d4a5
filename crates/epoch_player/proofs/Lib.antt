pub mod Leading
pub mod Parts
