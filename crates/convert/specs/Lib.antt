pub mod Old
pub mod Convert
pub mod Converted
pub mod Example
