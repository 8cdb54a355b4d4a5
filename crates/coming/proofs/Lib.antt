pub mod Pasts
pub mod Going
pub mod Asking
pub mod Rising
