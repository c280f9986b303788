pub mod Opened
pub mod Which
pub mod Puts
pub mod Answers
pub mod Told
pub mod Unique
