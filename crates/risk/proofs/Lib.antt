pub mod Opened
pub mod Unique
