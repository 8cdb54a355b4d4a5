pub mod HeaderLemmas
pub mod Outcomes
pub mod PlaceLemmas
pub mod RowLemmas
pub mod SayingLemmas
pub mod VoteLemmas
pub mod WriteLemmas
