pub mod Opened
pub mod Room
pub mod Unique
