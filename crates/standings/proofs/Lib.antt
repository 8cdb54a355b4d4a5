pub mod EpochLaws
pub mod Masks
pub mod Numbers
pub mod TwoReadings
