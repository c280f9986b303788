pub mod Limits
pub mod Table
pub mod Backwards
pub mod Fresh
pub mod Walk
pub mod Status
