pub mod Cluster
pub mod Follows
pub mod Leads
pub mod Machine
pub mod Registers
pub mod Slots
