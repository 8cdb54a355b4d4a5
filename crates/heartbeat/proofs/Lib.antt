pub mod AreaLemmas
pub mod BeatLaws
pub mod Hosts
