pub mod Adding
pub mod Cutting
pub mod EachForm
pub mod FirstLine
pub mod Lines
