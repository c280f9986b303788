pub mod Types
pub mod Notices
