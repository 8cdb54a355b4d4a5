pub mod Calling
pub mod Filling
pub mod Opened
pub mod Recovering
pub mod Renewing
pub mod RenewingFolders
pub mod Writing
