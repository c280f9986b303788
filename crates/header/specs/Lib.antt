pub mod Limits
pub mod Header
pub mod Firms
pub mod Sound
pub mod Settings
pub mod Whole
pub mod Runs
