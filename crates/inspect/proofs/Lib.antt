pub mod LineLemmas
pub mod MarkLemmas
pub mod PeelLemmas
pub mod TrailLemmas
