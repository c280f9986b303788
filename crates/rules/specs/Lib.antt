pub mod Types
pub mod Limits
pub mod Plan
pub mod Enter
pub mod Replace
pub mod Cancel
pub mod Modify
