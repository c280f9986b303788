pub mod Limits
pub mod Counts
pub mod Flags
pub mod Order
pub mod Wanted
pub mod Sound
pub mod Whole
pub mod Runs
