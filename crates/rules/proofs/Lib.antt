pub mod Opened
pub mod Refused
pub mod Heard
pub mod Allowed
pub mod Cut
pub mod Unique
