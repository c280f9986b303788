pub mod Order
pub mod Good
pub mod Halving
pub mod Told
pub mod Keeps
pub mod Opened
pub mod Unique
