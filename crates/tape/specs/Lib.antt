pub mod Kinds
pub mod Entries
pub mod Cutting
pub mod Behind
pub mod Judged
