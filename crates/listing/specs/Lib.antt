pub mod Clock
pub mod Lines
pub mod Drawing
