pub mod Blocked
pub mod Ready
pub mod Places
pub mod Messages
pub mod Records
pub mod Halts
pub mod Cancels
pub mod Purges
