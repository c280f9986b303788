pub mod Types
pub mod Listed
pub mod Purge
pub mod Blocking
