pub mod Inbound
pub mod Faithful
