pub mod Before
pub mod Extended
pub mod Faults
pub mod HeaderLaws
pub mod HoldingLaws
pub mod KindLaws
pub mod Making
pub mod ProgressLaws
