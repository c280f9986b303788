pub mod Opened
pub mod Formed
pub mod Judged
pub mod Unique
