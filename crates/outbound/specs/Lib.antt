pub mod Outbound
pub mod Faithful
