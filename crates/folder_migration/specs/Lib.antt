pub mod Filling
pub mod Gates
pub mod Migrating
pub mod Moving
pub mod Recovery
pub mod Renewing
pub mod RenewingFolders
pub mod Writing
