pub mod Types
pub mod Step
