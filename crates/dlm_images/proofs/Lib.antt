pub mod Counting
pub mod Driving
pub mod Ending
pub mod ShortRuns
