pub mod Stamping
pub mod Told
