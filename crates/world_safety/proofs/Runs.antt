-- What stands at each place of a run.
pub mod Worlds
pub mod Places
pub mod Showing
pub mod Migrated
pub mod Tracks
pub mod Knowing
pub mod Deciding
pub mod Commands
pub mod OneLog
pub mod Saying
