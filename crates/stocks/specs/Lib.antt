pub mod Limits
pub mod Standing
pub mod Stocks
pub mod Ranks
pub mod Kept
