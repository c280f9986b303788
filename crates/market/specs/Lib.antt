pub mod Types
pub mod Guards
pub mod Taken
pub mod Priority
pub mod Cross
pub mod Day
pub mod Halt
