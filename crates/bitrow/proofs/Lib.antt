pub mod Opened
pub mod Halves
pub mod Width
pub mod Packed
pub mod Rows
pub mod Clear
pub mod Unique
