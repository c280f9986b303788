pub mod Limits
pub mod Outbox
pub mod Runs
pub mod Place
pub mod Drain
