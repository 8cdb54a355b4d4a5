pub mod Bits
pub mod Indexed
pub mod Keys
pub mod Narrowed
pub mod Placed
pub mod Printed
pub mod Shelved
