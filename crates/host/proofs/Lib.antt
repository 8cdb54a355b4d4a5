pub mod Hosts
pub mod UnderWay
