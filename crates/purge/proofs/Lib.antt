pub mod Opened
pub mod Codec
pub mod Faithful
pub mod Unique
