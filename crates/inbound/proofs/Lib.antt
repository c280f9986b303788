pub mod Opened
pub mod Codec
pub mod Unique
