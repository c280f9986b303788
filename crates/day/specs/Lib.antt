pub mod Day
pub mod Demand
pub mod Chain
pub mod Limit
pub mod Purged
